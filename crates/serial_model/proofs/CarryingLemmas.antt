-- What carrying out a command comes to, by what kind of command it is.
use Rattle.std.proofs.Common.{◌≡◌, ℕ, zero, suc, ◌+◌, ◌<◌, Bool, true, false, cond, List, [], map, Option, Some, None, refl, sym, ap, ◌∙◌, subst, arith}
use Rattle.std.specs.Prelude.{All, filter_map}
use Rattle.std.specs.List.{range_with_len, cons_option}
use Rattle.std.specs.Option.{option_or}
use Rattle.std.proofs.lemmas.List.{get_or-map, length-map}
use Rattle.std.proofs.lemmas.List.Elements.{All-nil}
use Rattle.edit_terms.specs.declared.step.Refusal.{Refusal}
use Rattle.edit_terms.specs.declared.step.Spec.{Spec}
use Rattle.edit_terms.specs.declared.step.Step.{Step}
use Rattle.edit_terms.specs.declared.step.Step.TheVariants.{Settled, Job, Refused}
use Rattle.edit_terms.specs.declared.step.Work.{Work}
use Rattle.edit_terms.specs.declared.step.Work.TheVariants.{Undo, Redo}
use Rattle.edit_terms.specs.Area.{volume}
use Rattle.edit_terms.specs.Same.{content_decides}
use Rattle.edit_terms.specs.World.{BlockContent, World}
use Rattle.run_terms.specs.Change.{content_of, change_at, changes_between}
use Rattle.run_terms.specs.Effect.{Task, effect_of, effect_at, world_after_step}
use Rattle.run_terms.specs.Fold.{edits_taken}
use Rattle.world_canvas.specs.declared.cell_change.CellChange.{CellChange}
use Rattle.world_canvas.specs.Canvas.{Painting, shown}
use Rattle.world_canvas.specs.Changes.{IsRewritten, IsChangeNamed}
use Rattle.world_canvas.specs.Restoring.{changes_taken, restored, before_of, after_of}
use Rattle.world_canvas.proofs.GrowthLemmas.{grown_itself}
use Rattle.serial_model.specs.Recorded.{Record, IsCarriedOut, task_recorded}

-- what is true of each item's image
pub All-from-map : {X Y : Type 0} (P : X → Type 0) (f : Y → X) (ys : List Y) → All P (map f ys) → All (λ y. P (f y)) ys
All-from-map P f ys all = λ k d inside. subst P (get_or-map f ys k d (f d) inside) (all k (f d) (omega (arith, inside, length-map ys f)))

-- a world has no changes from itself
changes_from : (w : World) (a n : ℕ) → filter_map (change_at w w) (range_with_len a n) ≡ []
changes_from w a zero = refl
changes_from w a (suc n) =
    ap (λ (same : Bool). cons_option (cond same None (Some (record { index = a; before = content_of w a; after = content_of w a }))) (filter_map (change_at w w) (range_with_len (a + 1) n))) ((content_decides (content_of w a) (content_of w a)).1 refl)
    ∙ changes_from w (a + 1) n

no_changes : (w : World) → changes_between w w ≡ []
no_changes w = changes_from w 0 (volume w.area)

module _ (task_of : Spec → Task) (step : Step) (p : Painting) where
  nothing : (cs : List CellChange) → cs ≡ [] → world_after_step task_of step (shown p) ≡ shown p → IsCarriedOut task_of step p p cs
  nothing cs none same = subst (λ (xs : List CellChange). IsCarriedOut task_of step p p xs) (sym none) (record {
    area = refl;
    grown = grown_itself p.kinds;
    world = sym same;
    changes = sym (no_changes (shown p));
    named = All-nil (λ (c : CellChange). IsChangeNamed p.kinds c);
    within = All-nil (λ (c : CellChange). c.index < volume p.area);
  })

  pub settled_is_nothing : (cs : List CellChange) → cs ≡ [] → step ≡ Settled → IsCarriedOut task_of step p p cs
  settled_is_nothing cs none is = nothing cs none (ap (λ (s : Step). world_after_step task_of s (shown p)) is)

  pub refused_is_nothing : (cs : List CellChange) (refusal : Refusal) → cs ≡ [] → step ≡ Refused refusal → IsCarriedOut task_of step p p cs
  refused_is_nothing cs refusal none is = nothing cs none (ap (λ (s : Step). world_after_step task_of s (shown p)) is)

-- a job that is done is carried out
pub job_is_done : (task_of : Spec → Task) (step : Step) (spec : Spec) (old new : Painting) (cs : List CellChange) → step ≡ Job spec → IsRewritten (effect_at (task_of spec) (shown old)) old new cs → IsCarriedOut task_of step old new cs
job_is_done task_of step spec old new cs is h = record {
  area = h.area;
  grown = h.grown;
  world = h.world ∙ sym (ap (λ (s : Step). world_after_step task_of s (shown old)) is);
  changes = h.changes;
  named = h.named;
  within = h.within;
}

module _ (old new : Painting) (r : Record) (seed ticket : ℕ) (spec : Spec) (edits : List ℕ) (cs : List CellChange) where
  -- the effect of a work with what is recorded
  effect_recorded : Work → ℕ → BlockContent
  effect_recorded work index =
      effect_of work (record { spec = spec; seed = seed; ticket = ticket; copied = (task_recorded old r seed ticket spec).copied; taken = changes_taken old.kinds r.changes (edits_taken work) }) (shown old) index

  pub undo_is_effect : spec.work ≡ Undo edits → IsRewritten (restored before_of (changes_taken old.kinds r.changes edits) (shown old)) old new cs
      → IsRewritten (effect_at (task_recorded old r seed ticket spec) (shown old)) old new cs
  unfolding effect_recorded
  undo_is_effect is h = subst (λ (to : ℕ → BlockContent). IsRewritten to old new cs) (sym (ap effect_recorded is)) h

  pub redo_is_effect : spec.work ≡ Redo edits → IsRewritten (restored after_of (changes_taken old.kinds r.changes edits) (shown old)) old new cs
      → IsRewritten (effect_at (task_recorded old r seed ticket spec) (shown old)) old new cs
  unfolding effect_recorded
  redo_is_effect is h = subst (λ (to : ℕ → BlockContent). IsRewritten to old new cs) (sym (ap effect_recorded is)) h

-- what is recorded as copied behind a command
pub copied_or_before : (copying : Bool) (cells : List ℕ) (copied before : Option (List ℕ)) → copied ≡ cond copying (Some cells) None → option_or copied before ≡ cond copying (Some cells) before
copied_or_before true cells copied before is = ap (λ (o : Option (List ℕ)). option_or o before) is
copied_or_before false cells copied before is = ap (λ (o : Option (List ℕ)). option_or o before) is
