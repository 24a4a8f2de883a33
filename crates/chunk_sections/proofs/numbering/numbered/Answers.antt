-- Each turn numbers one more block.
use Rattle.std.proofs.Common.{◌≡◌, ◌<◌, ◌≤◌, ◌+◌, ◌++◌, [], ◌∷◌, refl, length, get_or, take, ◌∙◌, sym, ap, arith}
use Rattle.std.proofs.lemmas.List.{get_or-map, length-map, length-take, take_all}
use Rattle.edit_terms.specs.StateText.{air}
use Rattle.edit_terms.specs.Same.{same_state, state_equivalence}
use Rattle.block_palette.specs.Numbering.{number_in, with_entry}
use Rattle.block_palette.proofs.Numbering.{distinct-nil, numbers-nil, length-distinct, distinct_next, numbers_next}
use Rattle.chunk_sections.specs.Section.{kind_of, states_of, section_kinds, section_numbers}
use Rattle.chunk_sections.proofs.KindTable.{table_empty}
use Rattle.chunk_sections.proofs.numbering.numbered.Goals as goal

pub loop-kind-init : goal.loop-kind-init
loop-kind-init c = record {
  palette_is = c.new-palette.ensures.empty ∙ sym (distinct-nil same_state);
  numbers_are = c.in_ok-numbers.ensures.items ∙ sym (numbers-nil same_state);
  known = rw c.in_ok-table.ensures (table_empty c.args.kinds.now c.new-palette.result _ c.new-palette.ensures.empty);
  few = rw c.new-palette.ensures.empty (omega arith);
}

pub loop-kind-preserved : goal.loop-kind-preserved
loop-kind-preserved c =
    let old = c.loop-kind.invariant in
    let kinds = c.args.kinds.now in
    let cells = c.args.cells.now in
    let i = c.loop-kind.kind-index in
    let xs = states_of kinds cells in
    let inside : i < length cells = c.loop-kind-test.true in
    let within : i < length xs = omega (arith, length-map cells (kind_of kinds)) in
    let item : kind_of kinds (get_or cells i 0) ≡ get_or xs i air = sym (get_or-map (kind_of kinds) cells i 0 air inside) in
    let palette_is = distinct_next state_equivalence xs i air c.loop-kind.palette within old.palette_is c.number_of.new.palette (c.in_ok-number.ensures.entries ∙ ap (with_entry same_state c.loop-kind.palette) item) in
    let numbers_are = numbers_next state_equivalence xs i air c.loop-kind.palette within old.palette_is (section_numbers (take i xs)) c.in_ok-number.number refl (c.in_ok-number.ensures.number ∙ ap (number_in same_state c.loop-kind.palette) item) in
    let count : length c.number_of.new.palette ≤ length (take (i + 1) xs) = rw palette_is (length-distinct same_state (take (i + 1) xs)) in
    record {
      palette_is = palette_is;
      numbers_are = c.in_ok-push.ensures.items ∙ ap (λ ns. ns ++ c.in_ok-number.number ∷ []) old.numbers_are ∙ numbers_are;
      known = c.in_ok-number.ensures.known;
      few = omega (arith, length-take (i + 1) xs);
    }

pub returns-clause-palette : goal.returns-clause-palette
returns-clause-palette c = c.loop-kind.invariant.palette_is ∙ ap section_kinds (take_all c.loop-kind.kind-index (states_of c.args.kinds.now c.args.cells.now) (omega (arith, length-map c.args.cells.now (kind_of c.args.kinds.now))))

pub returns-clause-numbers : goal.returns-clause-numbers
returns-clause-numbers c = c.loop-kind.invariant.numbers_are ∙ ap section_numbers (take_all c.loop-kind.kind-index (states_of c.args.kinds.now c.args.cells.now) (omega (arith, length-map c.args.cells.now (kind_of c.args.kinds.now))))
