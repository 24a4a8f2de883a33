use Rattle.std.proofs.Common.{◌≡◌, ◌<◌, List, Some, slice_get, get_or, length, sym, ap, subst, ◌∙◌, arith}
use Rattle.std.specs.Option.{option_copied}
use Rattle.std.proofs.lemmas.List.{get_or-map, length-map}
use Rattle.edit_terms.specs.StateText.{State, air}
use Rattle.chunk_sections.specs.Section.{kind_of}
use Rattle.chunk_sections.proofs.SectionLemmas.{get_or-slice_get, number_below}
use Rattle.chunk_sections.proofs.section.Section.get.Goals as goal

pub unwrap-requires : goal.unwrap-requires
unwrap-requires c =
    let long = sym (ap length c.self.view_is) ∙ length-map c.self.inside.cells.numbers (kind_of c.self.inside.palette) in
    let below = number_below c.self.inside.palette c.self.inside.cells c.self.invariant c.args.i (omega (arith, long, c.requires)) in
    c.entry.ensures.there.1 (omega (arith, below, c.get.ensures))

pub returns : goal.returns
returns c =
    let numbers = c.self.inside.cells.numbers in
    let long = sym (ap length c.self.view_is) ∙ length-map c.self.inside.cells.numbers (kind_of c.self.inside.palette) in
    let within : c.args.i < length c.self.inside.cells.numbers = omega (arith, long, c.requires) in
    let at : slice_get c.self.inside.palette c.get.result ≡ Some c.unwrap.result.now = sym c.entry.ensures.entry ∙ ap option_copied c.unwrap.ensures in
    subst (λ (states : List State). c.unwrap.result.now ≡ get_or states c.args.i air) c.self.view_is
    (sym (get_or-slice_get c.self.inside.palette c.get.result c.unwrap.result.now air at) ∙ ap (kind_of c.self.inside.palette) c.get.ensures
    ∙ sym (get_or-map (kind_of c.self.inside.palette) c.self.inside.cells.numbers c.args.i 0 air within))
