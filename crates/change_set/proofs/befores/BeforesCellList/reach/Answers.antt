use Rattle.change_set.specs.Runs.{lent_run}
use Rattle.change_set.proofs.ReadLemmas.{befores_stay}
use Rattle.change_set.proofs.befores.BeforesCellList.reach.Goals as goal

pub returns-clause-same : goal.returns-clause-same
returns-clause-same c = befores_stay c.args.self.now.changes.now.area c.args.self.now.changes.now.list c.args.i (lent_run c.run_of-run.result) c.run_of-run.ensures
