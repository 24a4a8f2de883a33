use Rattle.std.proofs.Common.{◌≡◌, ℕ, ◌<◌, ◌-◌, drop, length}
use Rattle.edit_terms.specs.Area.{volume, position_of}
use Rattle.edit_terms.specs.Grid.{state_of_cell, entity_of}
use Rattle.plain_terms.specs.Shown.{content_shown}
use Rattle.world_canvas.proofs.canvas.Canvas.of.Given as goal

-- the entities from the last one on are placed, as far as the loop has come
abbrev pub invariant-loop-passed : goal.invariant-loop-passed
invariant-loop-passed l = record {
  area : l.canvas.area ≡ l.grid.area;
  contents : (i : ℕ) → i < volume l.grid.area → content_shown l.canvas.kinds l.canvas.cells i ≡ record { state = state_of_cell l.grid i; entity = entity_of (drop (length l.grid.entities - l.passed) l.grid.entities) (position_of l.grid.area i) };
}
