use Rattle.change_set.specs.Runs.{lent_run}
use Rattle.change_set.proofs.ReadLemmas.{afters_stay}
use Rattle.change_set.proofs.run_list.RunListCellList.reach.Goals as goal

pub returns-clause-same : goal.returns-clause-same
returns-clause-same c = afters_stay c.args.self.now.area c.args.self.now.list c.args.i (lent_run c.run_of-run.result) c.run_of-run.ensures
