use Rattle.nbt_tags.specs.Taken.{is_taken}
use Rattle.nbt_tags.proofs.TakenNames.{fresh_at-taken, fresh_at-fresh, is_taken-also}
use Rattle.nbt_tags.proofs.names.fresh_at.Goals as goal

pub returns-then-not-branch-clause-gives : goal.returns-then-not-branch-clause-gives
returns-then-not-branch-clause-gives c =
    rw c.flaw_at.ensures (fresh_at-taken (is_taken c.args.names.now) c.args.bytes.now c.args.rest.now c.in_ok-name.name.now c.in_ok-name.rest.now c.in_ok-insert.field-0 c.in_ok-name.ensures c.in_ok-insert.ensures.added c.if-not-branch.true)

pub returns-clause-gives : goal.returns-clause-gives
returns-clause-gives c =
    fresh_at-fresh (is_taken c.args.names.now) c.args.bytes.now c.args.rest.now c.in_ok-name.name.now c.in_ok-name.rest.now c.in_ok-insert.field-0 c.in_ok-name.ensures c.in_ok-insert.ensures.added c.if-not-branch.false

pub returns-clause-taken : goal.returns-clause-taken
returns-clause-taken c = is_taken-also c.args.names.now c.insert.new.self c.in_ok-name.name.now c.in_ok-insert.ensures.updates.0
