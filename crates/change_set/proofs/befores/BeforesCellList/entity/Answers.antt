use Rattle.std.proofs.Common.{sym, ◌∙◌, arith}
use Rattle.change_set.specs.Changes.{befores}
use Rattle.change_set.specs.Runs.{lent_run}
use Rattle.change_set.proofs.ReadLemmas.{before_read, length-befores, entity_there, no_entity_past}
use Rattle.change_set.proofs.befores.BeforesCellList.entity.Goals as goal

pub returns-then-i-len : goal.returns-then-i-len
returns-then-i-len c = sym (no_entity_past (befores c.args.self.now.changes.now.list) c.args.i (omega (arith, length-befores c.args.self.now.changes.now.list)))

pub returns : goal.returns
returns c =
    let there = before_read c.args.self.now.changes.now.area c.args.self.now.changes.now.list c.args.i (lent_run c.run_of-run.result) c.run_of-run.ensures c.args.i (omega arith) c.run_of-run.ensures.to in
    c.entity_of.ensures ∙ sym (entity_there (befores c.args.self.now.changes.now.list) c.args.i _ (lent_run c.run_of-run.result).before there)
