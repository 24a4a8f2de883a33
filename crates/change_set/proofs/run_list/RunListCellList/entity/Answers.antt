use Rattle.std.proofs.Common.{sym, ◌∙◌, arith}
use Rattle.change_set.specs.Changes.{afters}
use Rattle.change_set.specs.Runs.{lent_run}
use Rattle.change_set.proofs.ReadLemmas.{after_read, length-afters, entity_there, no_entity_past}
use Rattle.change_set.proofs.run_list.RunListCellList.entity.Goals as goal

pub returns-then-i-len : goal.returns-then-i-len
returns-then-i-len c = sym (no_entity_past (afters c.args.self.now.list) c.args.i (omega (arith, length-afters c.args.self.now.list)))

pub returns : goal.returns
returns c =
    let there = after_read c.args.self.now.area c.args.self.now.list c.args.i (lent_run c.run_of-run.result) c.run_of-run.ensures c.args.i (omega arith) c.run_of-run.ensures.to in
    c.entity_of.ensures ∙ sym (entity_there (afters c.args.self.now.list) c.args.i _ (lent_run c.run_of-run.result).after there)
