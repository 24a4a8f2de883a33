use Rattle.std.proofs.Common.{rules, arith}
use Rattle.std.proofs.lemmas.List.Sorted.{answers_always, length_permutation}
use Rattle.edit_terms.specs.declared.pos.Pos.{Pos}
use Rattle.edit_terms.specs.World.{BlockContent}
use Rattle.change_set.proofs.SortedLemmas.{key_of}
use Rattle.change_set.proofs.sorted_cells.SortedCells.new.Goals as goal

pub invariant_of-result : goal.invariant_of-result
invariant_of-result c =
    let sorted = c.sort_unstable_by_key.ensures.sorted (λ (cell : Pos × BlockContent). key_of cell.0) (answers_always _ _ _ (λ f a r g called. search rules)) in
    let long = length_permutation _ _ c.sort_unstable_by_key.ensures.permutation in
    record { few = omega (arith, long, c.requires); in_order = sorted }

pub returns-clause-in_order : goal.returns-clause-in_order
returns-clause-in_order c =
    c.sort_unstable_by_key.ensures.sorted (λ (cell : Pos × BlockContent). key_of cell.0) (answers_always _ _ _ (λ f a r g called. search rules))
