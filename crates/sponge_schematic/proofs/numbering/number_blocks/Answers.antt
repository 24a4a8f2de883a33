-- Each turn numbers one more block.
use Rattle.std.proofs.Common.{◌≡◌, ◌<◌, ◌≤◌, ◌+◌, ◌++◌, [], List, ℕ, refl, length, map, get_or, take, ◌∙◌, sym, ap, arith}
use Rattle.std.specs.List.{flat_map}
use Rattle.std.proofs.lemmas.List.{get_or-map, length-map, length-take, flat_map_more}
use Rattle.edit_terms.specs.Area.{volume}
use Rattle.edit_terms.specs.StateText.{State, air}
use Rattle.edit_terms.specs.Same.{same_state, state_equivalence}
use Rattle.block_palette.specs.Numbering.{number_in, with_entry, distinct, numbers}
use Rattle.block_palette.proofs.Numbering.{distinct-nil, numbers-nil, length-distinct, distinct_next, numbers_next}
use Rattle.sponge_schematic.specs.Varint.{varint}
use Rattle.sponge_schematic.specs.Numbers.{kind_of}
use Rattle.sponge_schematic.proofs.KindTable.{table_empty}
use Rattle.sponge_schematic.proofs.Worlds.{all_states, numbering_of}
use Rattle.sponge_schematic.proofs.numbering.number_blocks.Goals as goal

pub loop-kind-init : goal.loop-kind-init
loop-kind-init c = record {
  palette_is = c.new-palette.ensures.empty ∙ sym (distinct-nil same_state);
  data_is = c.in_ok-data.ensures.items ∙ sym (ap (flat_map varint) (numbers-nil same_state));
  known = rw c.in_ok-table.ensures (table_empty c.kinds-kinds.result.now c.new-palette.result (length c.kinds-kinds.result.now) c.new-palette.ensures.empty refl);
  few = rw c.new-palette.ensures.empty (omega arith);
}

pub loop-kind-preserved : goal.loop-kind-preserved
loop-kind-preserved c =
    let old = c.loop-kind.invariant in
    let kinds = c.kinds-kinds.result.now in
    let i = c.loop-kind.kind-index in
    let xs = map (kind_of kinds) c.cells-kind-items.result.now in
    let inside : i < length c.cells-kind-items.result.now = c.loop-kind-test.true in
    let within : i < length xs = omega (arith, length-map c.cells-kind-items.result.now (kind_of kinds)) in
    let item : kind_of kinds (get_or c.cells-kind-items.result.now i 0) ≡ get_or xs i air = sym (get_or-map (kind_of kinds) c.cells-kind-items.result.now i 0 air inside) in
    let palette_is = distinct_next state_equivalence xs i air c.loop-kind.palette within old.palette_is c.number_of.new.palette (c.in_ok-number.ensures.entries ∙ ap (with_entry same_state c.loop-kind.palette) item) in
    let numbers_are = numbers_next state_equivalence xs i air c.loop-kind.palette within old.palette_is (numbers same_state (take i xs)) c.in_ok-number.number refl (c.in_ok-number.ensures.number ∙ ap (number_in same_state c.loop-kind.palette) item) in
    let count : length c.number_of.new.palette ≤ length (take (i + 1) xs) = rw palette_is (length-distinct same_state (take (i + 1) xs)) in
    record {
      palette_is = palette_is;
      data_is = c.in_ok-put_varint.ensures ∙ ap (λ (bs : List ℕ). bs ++ varint c.in_ok-number.number) old.data_is ∙ flat_map_more varint [] (numbers same_state (take i xs)) c.in_ok-number.number ∙ ap (flat_map varint) numbers_are;
      known = c.in_ok-number.ensures.known;
      few = omega (arith, length-take (i + 1) xs);
    }

pub returns-clause-palette : goal.returns-clause-palette
returns-clause-palette c =
    c.loop-kind.invariant.palette_is
    ∙ ap (distinct same_state) (all_states c.args.grid.now c.kinds-kinds.result.now c.cells-kind-items.result.now c.loop-kind.kind-index c.cells-kind-items.ensures.numbered c.kinds-kinds.ensures c.cells-kind-items.ensures.cells c.loop-kind-test.false)

pub returns-clause-data : goal.returns-clause-data
returns-clause-data c =
    c.loop-kind.invariant.data_is
    ∙ ap (λ (xs : List State). flat_map varint (numbers same_state xs))
    (all_states c.args.grid.now c.kinds-kinds.result.now c.cells-kind-items.result.now c.loop-kind.kind-index c.cells-kind-items.ensures.numbered c.kinds-kinds.ensures c.cells-kind-items.ensures.cells c.loop-kind-test.false)

pub returns-clause-few : goal.returns-clause-few
returns-clause-few c =
    let cells = c.cells-kind-items.result.now in
    let xs = take c.loop-kind.kind-index (map (kind_of c.kinds-kinds.result.now) cells) in
    let count : length c.loop-kind.palette ≤ length xs = rw c.loop-kind.invariant.palette_is (length-distinct same_state xs) in
    let long = (numbering_of c.args.grid.now c.cells-kind-items.ensures.numbered).long in
    omega (arith, count, length-take c.loop-kind.kind-index (map (kind_of c.kinds-kinds.result.now) cells), length-map cells (kind_of c.kinds-kinds.result.now), long, ap length c.cells-kind-items.ensures.cells, c.volume.ensures.within, c.volume.ensures.value, ap volume c.area.ensures)
