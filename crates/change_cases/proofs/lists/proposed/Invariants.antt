use Rattle.std.proofs.Common.{◌≡◌, ◌≤◌, true, [], ◌∷◌, ◌++◌}
use Rattle.edit_terms.specs.declared.pos.Pos.{Pos}
use Rattle.edit_terms.specs.Area.{holds, index_of}
use Rattle.change_set.specs.Changes.{positions, rises}
use Rattle.change_cases.proofs.lists.proposed.Given as goal

abbrev pub invariant-loop-index : goal.invariant-loop-index
invariant-loop-index l = record {
  rising : rises l.area (positions l.cells.items) ≡ true;
  next : (q : Pos) → holds l.area q ≡ true → l.index ≤ index_of l.area q → rises l.area (positions l.cells.items ++ q ∷ []) ≡ true;
}
