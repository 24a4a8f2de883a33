use Rattle.std.proofs.Common.{◌≡◌, ◌<◌, ℕ, List, length, map, subst, sym, ap, ◌∙◌}
use Rattle.std.specs.Prelude.{All}
use Rattle.edit_terms.specs.World.{BlockContent}
use Rattle.world_canvas.specs.declared.cell_change.CellChange.{CellChange}
use Rattle.world_canvas.specs.Numbering.{AreNumbersOf}
use Rattle.world_canvas.specs.Proposals.{Proposal}
use Rattle.world_canvas.specs.Writing.{AreProposed, cell_change}
use Rattle.world_canvas.proofs.WritingLemmas.{kept_within, changes_made}
use Rattle.world_canvas.proofs.writing.changes_of.Goals as goal

pub cell_changes-requires-clause-within : goal.cell_changes-requires-clause-within
cell_changes-requires-clause-within c =
    let parts = c.parts-parts.result in
    kept_within (length c.args.cells.now) parts.kinds.now parts.items.now (subst (λ (ps : List Proposal). All (λ (p : Proposal). p.index < length c.args.cells.now) ps) (sym c.parts-parts.ensures.shown) c.requires.within)

pub returns-clause-changes : goal.returns-clause-changes
returns-clause-changes c =
    let parts = c.parts-parts.result in
    let cells = c.args.cells.now in
    let numbers = c.in_ok-numbers.numbers.items in
    let kinds = c.number_all.new.kinds in
    let within = kept_within (length cells) parts.kinds.now parts.items.now (subst (λ (ps : List Proposal). All (λ (p : Proposal). p.index < length cells) ps) (sym c.parts-parts.ensures.shown) c.requires.within) in
    let names : AreNumbersOf kinds parts.kinds.now numbers = subst (λ (ks : List BlockContent). AreNumbersOf kinds ks numbers) (c.deref.ensures.value ∙ c.in_ok-contents.ensures) c.in_ok-numbers.ensures.numbers in
    let made = changes_made c.args.kinds.now kinds cells numbers parts.kinds.now c.number_all.ensures.grown c.requires.numbered names parts.items.now within c.parts-parts.ensures.named in
    let recorded : c.in_ok-changes.changes.items ≡ map (cell_change cells numbers) parts.items.now = c.in_ok-changes.ensures ∙ ap (λ (ns : List ℕ). map (cell_change cells ns) parts.items.now) c.deref-2.ensures.value in
    subst (λ (cs : List CellChange). AreProposed c.args.kinds.now kinds cells c.args.proposals.now cs) (sym recorded)
    (subst (λ (ps : List Proposal). AreProposed c.args.kinds.now kinds cells ps (map (cell_change cells numbers) parts.items.now)) c.parts-parts.ensures.shown made)
