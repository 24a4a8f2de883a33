-- What is planned for the commands of a player, from what they are and what they access by themselves.
use Rattle.std.specs.Prelude.{ℕ, Bool, List, ◌∷◌}
use Rattle.edit_terms.specs.declared.step.Step.{Step}
use Rattle.run_terms.specs.Fold.{edits_taken_by}
use Rattle.command_plan.specs.declared.footprint.Footprint.{Footprint}
use Rattle.command_plan.specs.declared.planned.Planned.{Planned}
use Rattle.command_plan.specs.declared.rectangle.ChunkGrid.{ChunkGrid}
use Rattle.command_plan.specs.ResolvedScripts.{reads_at, is_written, keeps_at, step_at}
use Rattle.command_plan.specs.Rectangles.{chunks_with}

-- a command of this place, which is this step
abbrev pub planned_with : ChunkGrid → List Footprint → ℕ → Step → Bool → Planned
planned_with grid footprints n step keeps = record {
  step = step;
  reads = reads_at grid footprints n;
  writes = chunks_with grid (is_written grid.columns footprints (n ∷ edits_taken_by step));
  keeps = keeps;
}

-- the command of this place
abbrev pub planned_at : ChunkGrid → List Step → List Footprint → ℕ → Planned
planned_at grid steps footprints n = planned_with grid footprints n (step_at steps n) (keeps_at steps n)
