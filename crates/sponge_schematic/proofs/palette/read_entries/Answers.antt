-- Each turn reads one more entry.
use Rattle.std.proofs.Common.{◌+◌, ◌∙◌, sym, ap, subst}
use Rattle.std.proofs.lemmas.Result.{err_from_is_err_and}
use Rattle.std.proofs.lemmas.List.{length_push}
use Rattle.nbt_tags.specs.declared.tag.Named.{Named}
use Rattle.sponge_schematic.specs.Palette.{entry_at, entries_from}
use Rattle.sponge_schematic.specs.Answers.{Fails}
use Rattle.sponge_schematic.proofs.EntryLoop.{goes_on, ends, is_done}
use Rattle.sponge_schematic.proofs.palette.read_entries.Goals as goal

pub returns-in_err-entry-clause-gives : goal.returns-in_err-entry-clause-gives
returns-in_err-entry-clause-gives c =
    let p = err_from_is_err_and c.from_residual-in_err-entry.result c.from_residual-in_err-entry.ensures.1 in
    rw (p.1, p.2)
    (ends c.args.row.now c.loop-index.index c.index-row-index.result c.loop-index.entries.numbers.items c.loop-index.entries.states.items (entries_from 0 c.args.row.now) c.loop-index.invariant.reads
    c.in_err-entry.field-0.0 c.loop-index-test.true (subst (λ (x : Named). Fails c.in_err-entry.field-0.0 (entry_at c.loop-index.index x)) c.index-row-index.is c.in_err-entry.ensures))

pub loop-index-preserved : goal.loop-index-preserved
loop-index-preserved c = record {
  reads = rw (c.in_ok-push.ensures.numbers, c.in_ok-push.ensures.states)
      (goes_on c.args.row.now c.loop-index.index c.index-row-index.result c.loop-index.entries.numbers.items c.loop-index.entries.states.items (entries_from 0 c.args.row.now) c.loop-index.invariant.reads
      c.in_ok-entry.entry.number c.in_ok-entry.entry.state c.loop-index-test.true (ap (entry_at c.loop-index.index) (sym c.index-row-index.is) ∙ c.in_ok-entry.ensures));
  numbers = rw (c.in_ok-push.ensures.numbers, length_push) (ap (λ n. n + 1) c.loop-index.invariant.numbers);
  states = rw (c.in_ok-push.ensures.states, length_push) (ap (λ n. n + 1) c.loop-index.invariant.states);
}

pub returns-clause-gives : goal.returns-clause-gives
returns-clause-gives c = is_done c.args.row.now c.loop-index.index c.loop-index.entries.numbers.items c.loop-index.entries.states.items (entries_from 0 c.args.row.now) c.loop-index.invariant.reads c.loop-index-test.false
