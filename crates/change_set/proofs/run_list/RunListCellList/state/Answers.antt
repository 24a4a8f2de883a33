use Rattle.std.proofs.Common.{Some, sym, ap, ◌∙◌, arith}
use Rattle.change_set.specs.Changes.{afters}
use Rattle.change_set.specs.Runs.{lent_run}
use Rattle.change_set.proofs.ReadLemmas.{after_read, state_there}
use Rattle.change_set.proofs.run_list.RunListCellList.state.Goals as goal

pub returns : goal.returns
returns c =
    let there = after_read c.args.self.now.area c.args.self.now.list c.args.i (lent_run c.run_of-run.result) c.run_of-run.ensures c.args.i (omega arith) c.run_of-run.ensures.to in
    state_there (afters c.args.self.now.list) c.args.i _ (lent_run c.run_of-run.result).after there ∙ ap Some (sym c.state_of.ensures)
