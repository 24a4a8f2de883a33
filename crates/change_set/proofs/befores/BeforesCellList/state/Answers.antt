use Rattle.std.proofs.Common.{Some, sym, ap, ◌∙◌, arith}
use Rattle.change_set.specs.Changes.{befores}
use Rattle.change_set.specs.Runs.{lent_run}
use Rattle.change_set.proofs.ReadLemmas.{before_read, state_there}
use Rattle.change_set.proofs.befores.BeforesCellList.state.Goals as goal

pub returns : goal.returns
returns c =
    let there = before_read c.args.self.now.changes.now.area c.args.self.now.changes.now.list c.args.i (lent_run c.run_of-run.result) c.run_of-run.ensures c.args.i (omega arith) c.run_of-run.ensures.to in
    state_there (befores c.args.self.now.changes.now.list) c.args.i _ (lent_run c.run_of-run.result).before there ∙ ap Some (sym c.state_of.ensures)
