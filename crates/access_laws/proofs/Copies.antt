-- A command's clipboard was copied by an earlier command of its player, which read the clipboard's selection.
use Rattle.std.proofs.Common.{◌≡◌, ℕ, Option, Some, None, subst, sym}
use Rattle.std.specs.Prelude.{IfSome}
use Rattle.edit_terms.specs.declared.clip.Clip.{Clip}
use Rattle.edit_terms.specs.declared.clip.Source.{Source}
use Rattle.edit_terms.specs.declared.step.Step.{Step}
use Rattle.run_terms.specs.Workload.{Workload}
use Rattle.run_terms.specs.Order.{lines_of, step_of_command}
use Rattle.run_terms.specs.Limits.{IsWithinLimits}
use Rattle.run_terms.specs.Needs.{selection_read_by}
use Rattle.run_terms.proofs.Earlier.{clip_of, IsEarlier, step_is_of_earlier}
use Rattle.access_laws.specs.Needs.{IsOfEarlierCopy, ClipsAreOfEarlierCopies}
use Rattle.access_laws.proofs.Sessions.{IsSoundClip}
use Rattle.access_laws.proofs.Stays.{command_is_sound}

module _ (case : Workload) (limits : IsWithinLimits case) (id : Source) where
  of_copy : (clip : Option Clip) → IfSome clip (IsSoundClip id.player case.depth (lines_of case.scripts id.player)) → IfSome clip (λ c. IsEarlier id.player id.step c.source) → IfSome clip (IsOfEarlierCopy case id)
  of_copy None sound earlier = tt
  of_copy (Some c) sound earlier = record {
    own = earlier.own;
    earlier = earlier.step;
    selection = subst (λ (p : ℕ). selection_read_by (step_of_command case (record { player = p; step = c.source.step })) ≡ Some c.from) (sym earlier.own) sound.selection;
  }

  -- whatever the command is
  pub clip_of_copy : IfSome (clip_of (step_of_command case id)) (IsOfEarlierCopy case id)
  clip_of_copy = of_copy (clip_of (step_of_command case id)) (command_is_sound case limits id).clip (step_is_of_earlier id.player case.depth (lines_of case.scripts id.player) id.step).clip

  pub clips_of_copies : ClipsAreOfEarlierCopies case id
  clips_of_copies spec is = subst (λ (step : Step). IfSome (clip_of step) (IsOfEarlierCopy case id)) is clip_of_copy
