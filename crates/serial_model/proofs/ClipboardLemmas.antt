-- Of which copy the clipboard is after a command.
use Rattle.std.proofs.Common.{◌≡◌, Bool, true, false, Option, Some, None, refl, sym, subst}
use Rattle.std.specs.Prelude.{IfSome, option_map}
use Rattle.std.specs.Option.{option_map_or}
use Rattle.edit_terms.specs.declared.pos.Pos.{Pos}
use Rattle.edit_terms.specs.declared.region.Selection.{Selection}
use Rattle.edit_terms.specs.declared.transform.Transform.{Transform}
use Rattle.edit_terms.specs.declared.clip.Clip.{Clip}
use Rattle.edit_terms.specs.declared.script.Command.{Command}
use Rattle.edit_terms.specs.declared.script.Command.TheVariants.{Set, Walls, Faces, Replace, Sphere, Cyl, Stack, Move, Copy, Cut, Paste, Rotate, Flip}
use Rattle.edit_terms.specs.declared.step.Refusal.{Refusal}
use Rattle.edit_terms.specs.declared.step.Work.{Work}
use Rattle.edit_terms.specs.declared.step.Work.TheVariants as work
use Rattle.edit_terms.specs.declared.step.Step.{Step}
use Rattle.edit_terms.specs.declared.step.Step.TheVariants.{Settled, Refused}
use Rattle.edit_terms.specs.Transform.{then_turn, then_flip}
use Rattle.run_terms.specs.Session.{Session, selection_of, refusal_of, work_of, job_of, resolved_command, clip_from, with_command, counted, after_command}
use Rattle.serial_model.specs.Copying.{is_copying, is_copying_work, IsOfSameCopy, IsOfCopy}

same_copy : (s : Session) (clip : Option Clip) → s.clip ≡ clip → IfSome clip (IsOfSameCopy s)
same_copy s None is = tt
same_copy s (Some c) is = record { old = c; is = is; source = refl }

turned_copy : (s : Session) (change : Transform → Transform) (clip : Option Clip) → s.clip ≡ clip → IfSome (option_map (λ (c : Clip). record c { transform = change c.transform }) clip) (IsOfSameCopy s)
turned_copy s change None is = tt
turned_copy s change (Some c) is = record { old = c; is = is; source = refl }

new_copy : (s : Session) (f : Selection → Work) → ((from : Selection) → is_copying_work (f from) ≡ true) → (from : Option Selection) (place : Option Pos)
    → IfSome (clip_from s from place) (IsOfCopy s (is_copying (option_map_or (job_of s) (option_map f from) Settled)))
new_copy s f copies (Some from) (Some origin) = subst (λ (b : Bool). IsOfCopy s b (record { source = record { player = s.player; step = s.number }; from = from; origin = origin; transform = record { flip_x = false; flip_y = false; turns = 0 } })) (sym (copies from)) refl
new_copy s f copies (Some from) None = tt
new_copy s f copies None place = tt

no_copy : {A : Type 0} (s : Session) (f : A → Work) (o : Option A) → ((a : A) → is_copying_work (f a) ≡ false) → is_copying (option_map_or (job_of s) (option_map f o) Settled) ≡ false
no_copy s f None none = refl
no_copy s f (Some a) none = none a

stays : (s : Session) (copying : Bool) → copying ≡ false → IfSome s.clip (IsOfCopy s copying)
stays s copying none = subst (λ (b : Bool). IfSome s.clip (IsOfCopy s b)) (sym none) (same_copy s s.clip refl)

-- behind a command that isn't refused
clip_with_command : (s : Session) (command : Command) → IfSome (with_command s command).clip (IsOfCopy s (is_copying (option_map_or (job_of s) (work_of s command) Settled)))
clip_with_command s (Set pattern) = stays s _ (no_copy s _ (selection_of s) (λ a. refl))
clip_with_command s (Walls pattern) = stays s _ (no_copy s _ (selection_of s) (λ a. refl))
clip_with_command s (Faces pattern) = stays s _ (no_copy s _ (selection_of s) (λ a. refl))
clip_with_command s (Replace mask pattern) = stays s _ (no_copy s _ (selection_of s) (λ a. refl))
clip_with_command s (Sphere pattern radius hollow) = stays s _ (no_copy s _ s.place (λ a. refl))
clip_with_command s (Cyl pattern radius height hollow) = stays s _ (no_copy s _ s.place (λ a. refl))
clip_with_command s (Stack count to) = stays s _ (no_copy s _ (selection_of s) (λ a. refl))
clip_with_command s (Move count to) = stays s _ (no_copy s _ (selection_of s) (λ a. refl))
clip_with_command s (Paste skip_air) = stays s _ (no_copy s _ s.place (λ a. refl))
clip_with_command s Copy = new_copy s work.Copy (λ from. refl) (selection_of s) s.place
clip_with_command s Cut = new_copy s work.Cut (λ from. refl) (selection_of s) s.place
clip_with_command s (Rotate quarters) = turned_copy s (λ t. then_turn t quarters) s.clip refl
clip_with_command s (Flip to) = turned_copy s (λ t. then_flip t to) s.clip refl
clip_with_command s command = same_copy s s.clip refl

clip_by_refusal : (s t : Session) (refusal : Option Refusal) (step : Step) → IfSome t.clip (IsOfCopy s (is_copying step))
    → IfSome (counted (option_map_or (λ r. s) refusal t)).clip (IsOfCopy s (is_copying (option_map_or Refused refusal step)))
clip_by_refusal s t None step h = h
clip_by_refusal s t (Some r) step h = same_copy s s.clip refl

-- The clipboard after a command is of that command, where it copies, and else of the same copy as before.
pub clip_after : (s : Session) (command : Command) → IfSome (after_command s command).clip (IsOfCopy s (is_copying (resolved_command s command)))
clip_after s command = clip_by_refusal s (with_command s command) (refusal_of s command) (option_map_or (job_of s) (work_of s command) Settled) (clip_with_command s command)
