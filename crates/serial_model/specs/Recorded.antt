-- What is recorded of a player's commands, by the numbers that contents have on a canvas.
use Rattle.std.specs.Prelude.{◌≡◌, ℕ, List, All, Option, IfSome}
use Rattle.std.specs.Option.{option_map_or, unwrap_or}
use Rattle.edit_terms.specs.declared.step.Spec.{Spec}
use Rattle.edit_terms.specs.declared.step.Step.{Step}
use Rattle.edit_terms.specs.Clipboard.{clipboard_of, no_blocks}
use Rattle.run_terms.specs.Change.{changes_between}
use Rattle.run_terms.specs.Effect.{Task, world_after_step}
use Rattle.run_terms.specs.Fold.{edits_taken}
use Rattle.plain_terms.specs.Shown.{IsNumbered, world_shown}
use Rattle.world_canvas.specs.declared.cell_change.CellChange.{CellChange}
use Rattle.world_canvas.specs.Canvas.{Painting, IsGrown, shown}
use Rattle.world_canvas.specs.Changes.{AreChangesNamed, AreChangesIn, changes_shown}
use Rattle.world_canvas.specs.Restoring.{changes_taken}

-- The number of each place's content as it stood when the clipboard was copied, if it was, and the changes of each of
-- the player's commands.
pub record Record : Type 0 where
  pub copied : Option (List ℕ)
  pub changes : List (List CellChange)

-- all numbers name contents of the canvas, and all changes are of its places
pub record IsRecord (p : Painting) (r : Record) : Type 0 where
  pub copied : IfSome r.copied (λ cells. IsNumbered p.area p.kinds cells)
  pub named : All (λ cs. AreChangesNamed p.kinds cs) r.changes
  pub within : All (λ cs. AreChangesIn p.area cs) r.changes

-- what a job of the player reads beside the world, as it is recorded
abbrev pub task_recorded : Painting → Record → ℕ → ℕ → Spec → Task
task_recorded p r seed ticket spec = record {
  spec = spec;
  seed = seed;
  ticket = ticket;
  copied = option_map_or (λ c. clipboard_of c (world_shown p.area p.kinds (unwrap_or r.copied p.cells))) spec.clip no_blocks;
  taken = changes_taken p.kinds r.changes (edits_taken spec.work);
}

-- a command is carried out on a canvas, and these are its changes
pub record IsCarriedOut (task_of : Spec → Task) (step : Step) (old new : Painting) (cs : List CellChange) : Type 0 where
  pub area : new.area ≡ old.area
  pub grown : IsGrown old.kinds new.kinds
  pub world : shown new ≡ world_after_step task_of step (shown old)
  pub changes : changes_shown new.kinds cs ≡ changes_between (shown old) (shown new)
  pub named : AreChangesNamed new.kinds cs
  pub within : AreChangesIn old.area cs
