use Rattle.std.proofs.Common.{◌<◌, ℕ, List, length, subst, sym, ◌∙◌}
use Rattle.std.specs.Prelude.{All}
use Rattle.command_plan.proofs.WriteLemmas.{edits_read, taken_known}
use Rattle.command_plan.proofs.writes.command_accesses.Goals as goal

pub written_size-writes-requires-clause-taken : goal.written_size-writes-requires-clause-taken
written_size-writes-requires-clause-taken c =
    let steps = c.args.steps.now in
    let number = c.args.number in
    let own = c.edits_of-taken.ensures ∙ edits_read steps number c.index-steps-number.result c.requires.number c.index-steps-number.is in
    subst (λ (es : List ℕ). All (λ n. n < length c.args.footprints.now) es) (sym own) (taken_known c.args.grid.now steps c.args.footprints.now number c.requires.sound c.requires.number)
