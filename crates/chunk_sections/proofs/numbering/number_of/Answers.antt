-- A known kind has the number that the table says; a new one the number that the palette gave.
use Rattle.std.proofs.Common.{Some, sym, ap, ◌∙◌}
use Rattle.std.proofs.lemmas.List.{get_or_default}
use Rattle.edit_terms.specs.StateText.{State, air}
use Rattle.edit_terms.specs.Same.{same_state, state_decides}
use Rattle.block_palette.specs.Numbering.{number_in}
use Rattle.block_palette.proofs.Numbering.{slice_get-number}
use Rattle.chunk_sections.proofs.KindTable.{known_number, known_entries, table_set}
use Rattle.chunk_sections.proofs.numbering.number_of.Goals as goal

pub returns-in-Some-clause-number : goal.returns-in-Some-clause-number
returns-in-Some-clause-number c =
    known_number c.args.kinds.now c.args.palette.now c.args.table.now.items c.args.kind c.in-Some.number c.requires.known (sym c.known.ensures ∙ c.in-Some.is)

pub returns-in-Some-clause-entries : goal.returns-in-Some-clause-entries
returns-in-Some-clause-entries c =
    known_entries c.args.kinds.now c.args.palette.now c.args.table.now.items c.args.kind c.in-Some.number c.requires.known (sym c.known.ensures ∙ c.in-Some.is)

pub returns-clause-number : goal.returns-clause-number
returns-clause-number c =
    let kind_is = c.index-kinds-kind.is ∙ get_or_default c.args.kinds.now c.args.kind _ air c.requires.within in
    c.in_ok-number.ensures.number ∙ ap (number_in same_state c.args.palette.now) (c.in_ok-copy.ensures ∙ kind_is)

pub returns-clause-known : goal.returns-clause-known
returns-clause-known c =
    let kind_is = c.index-kinds-kind.is ∙ get_or_default c.args.kinds.now c.args.kind _ air c.requires.within in
    let there = slice_get-number same_state (λ s t. (state_decides s t).0) c.number.new.self _ c.in_ok-number.number c.in_ok-number.ensures.named ∙ ap (λ (s : State). Some s) (c.in_ok-copy.ensures ∙ kind_is) in
    rw c.note.ensures (table_set c.args.kinds.now c.args.palette.now c.number.new.self c.args.table.now.items c.args.kind c.in_ok-number.number c.requires.known c.in_ok-number.ensures.distinct c.in_ok-number.ensures.kept there)
