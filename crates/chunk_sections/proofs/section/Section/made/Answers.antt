use Rattle.std.proofs.Common.{◌<◌, ◌≤◌, ◌^◌, ℕ, List, All, length, ap, sym, subst, ◌∙◌, arith}
use Rattle.std.proofs.lemmas.List.{length-map}
use Rattle.edit_terms.specs.Same.{same_state}
use Rattle.block_palette.proofs.Numbering.{length-distinct}
use Rattle.chunk_sections.specs.Packed.{PackedNumbers, bits_of, least_width}
use Rattle.chunk_sections.specs.Section.{kind_of, states_of}
use Rattle.chunk_sections.proofs.SectionLemmas.{length-section_numbers, numbers_fit, states_of-made, IsSection-made}
use Rattle.chunk_sections.proofs.section.Section.made.Goals as goal

pub width_for-requires : goal.width_for-requires
width_for-requires c =
    omega (arith, c.len.ensures.len, ap length c.in_ok-palette.ensures.palette, length-distinct same_state (states_of c.args.kinds.now c.args.cells.now), length-map c.args.cells.now (kind_of c.args.kinds.now), c.requires.few)

pub pack-requires-clause-fit : goal.pack-requires-clause-fit
pack-requires-clause-fit c =
    let xs = states_of c.args.kinds.now c.args.cells.now in
    let few : length (states_of c.args.kinds.now c.args.cells.now) ≤ 4096 = omega (arith, length-map c.args.cells.now (kind_of c.args.kinds.now), c.requires.few) in
    subst (λ (ns : List ℕ). All (λ n. n < 2 ^ bits_of c.width_for.result) ns) (sym (c.deref.ensures.value ∙ c.in_ok-palette.ensures.numbers))
    (numbers_fit xs (bits_of c.width_for.result) few (c.width_for.ensures ∙ ap least_width (c.len.ensures.len ∙ ap length c.in_ok-palette.ensures.palette)))

pub pack-requires-clause-few : goal.pack-requires-clause-few
pack-requires-clause-few c =
    omega (arith, ap length (c.deref.ensures.value ∙ c.in_ok-palette.ensures.numbers), length-section_numbers (states_of c.args.kinds.now c.args.cells.now), length-map c.args.cells.now (kind_of c.args.kinds.now), c.requires.few)

pub invariant_of-result : goal.invariant_of-result
invariant_of-result c =
    IsSection-made (states_of c.args.kinds.now c.args.cells.now) c.in_ok-palette.palette c.in_ok-cells.cells c.in_ok-palette.ensures.palette
    (ap (λ (p : PackedNumbers). p.numbers) c.in_ok-cells.ensures ∙ c.deref.ensures.value ∙ c.in_ok-palette.ensures.numbers)
    (ap (λ (p : PackedNumbers). p.bits) c.in_ok-cells.ensures ∙ c.width_for.ensures ∙ ap least_width c.len.ensures.len)
    (omega (arith, ap (λ (p : PackedNumbers). length p.numbers) c.in_ok-cells.ensures, ap length (c.deref.ensures.value ∙ c.in_ok-palette.ensures.numbers), length-section_numbers (states_of c.args.kinds.now c.args.cells.now), length-map c.args.cells.now (kind_of c.args.kinds.now), c.requires.few))

pub returns : goal.returns
returns c =
    states_of-made (states_of c.args.kinds.now c.args.cells.now) c.in_ok-palette.palette c.in_ok-cells.cells c.in_ok-palette.ensures.palette
    (ap (λ (p : PackedNumbers). p.numbers) c.in_ok-cells.ensures ∙ c.deref.ensures.value ∙ c.in_ok-palette.ensures.numbers)
