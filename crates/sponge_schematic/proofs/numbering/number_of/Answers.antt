-- A known kind has the number that the table says; a new one the number that the palette gave.
use Rattle.std.proofs.Common.{◌≡◌, get_or, length, ◌<◌, Some, None, sym, ap, ◌∙◌, arith}
use Rattle.std.proofs.lemmas.List.{get_or_default}
use Rattle.edit_terms.specs.StateText.{State, air}
use Rattle.edit_terms.specs.Same.{same_state, state_decides}
use Rattle.block_palette.specs.Numbering.{number_in}
use Rattle.block_palette.proofs.Numbering.{slice_get-number}
use Rattle.sponge_schematic.proofs.KindTable.{known_number, known_entries, table_set}
use Rattle.sponge_schematic.proofs.numbering.number_of.Goals as goal

pub returns-in-Some-clause-number : goal.returns-in-Some-clause-number
returns-in-Some-clause-number c =
    let table = c.args.table.now.items in
    let inside : c.args.kind < length table = omega (arith, c.requires.known.long, c.requires.within) in
    let is : get_or table c.args.kind None ≡ Some c.in-Some.number = get_or_default table c.args.kind None _ inside ∙ sym c.index.ensures ∙ c.in-Some.is in
    known_number c.args.kinds.now c.args.palette.now table c.args.kind c.in-Some.number c.requires.known is

pub returns-in-Some-clause-entries : goal.returns-in-Some-clause-entries
returns-in-Some-clause-entries c =
    let table = c.args.table.now.items in
    let inside : c.args.kind < length table = omega (arith, c.requires.known.long, c.requires.within) in
    let is : get_or table c.args.kind None ≡ Some c.in-Some.number = get_or_default table c.args.kind None _ inside ∙ sym c.index.ensures ∙ c.in-Some.is in
    known_entries c.args.kinds.now c.args.palette.now table c.args.kind c.in-Some.number c.requires.known is

pub returns-clause-number : goal.returns-clause-number
returns-clause-number c =
    let kind_is = c.index-kinds-kind.is ∙ get_or_default c.args.kinds.now c.args.kind _ air c.requires.within in
    c.in_ok-number.ensures.number ∙ ap (number_in same_state c.args.palette.now) (c.in_ok-copy.ensures ∙ kind_is)

pub returns-clause-known : goal.returns-clause-known
returns-clause-known c =
    let kind_is = c.index-kinds-kind.is ∙ get_or_default c.args.kinds.now c.args.kind _ air c.requires.within in
    let there = slice_get-number same_state (λ s t. (state_decides s t).0) c.number.new.self _ c.in_ok-number.number c.in_ok-number.ensures.named ∙ ap (λ (s : State). Some s) (c.in_ok-copy.ensures ∙ kind_is) in
    table_set c.args.kinds.now c.args.palette.now c.number.new.self c.args.table.now.items c.args.kind c.in_ok-number.number c.requires.known c.in_ok-number.ensures.distinct c.in_ok-number.ensures.kept c.requires.within there
