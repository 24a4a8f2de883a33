use Rattle.std.proofs.Common.{◌≡◌, ◌≤◌, true, [], ◌∷◌, ◌++◌}
use Rattle.edit_terms.specs.declared.pos.Pos.{Pos}
use Rattle.edit_terms.specs.Area.{holds, index_of}
use Rattle.change_set.specs.Changes.{rises}
use Rattle.change_set.specs.Cells.{cell_positions}
use Rattle.change_cases.proofs.parts.built.Given as goal

abbrev pub invariant-loop-index : goal.invariant-loop-index
invariant-loop-index l = record {
  area : l.builder.area ≡ l.area;
  next : (q : Pos) → holds l.area q ≡ true → l.index ≤ index_of l.area q → rises l.area (cell_positions l.builder.part.cells ++ q ∷ []) ≡ true;
}
