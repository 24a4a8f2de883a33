use Rattle.std.proofs.Common.{◌-◌, sym, ap, ◌∙◌, subst}
use Rattle.edit_terms.specs.declared.stretch.Stretch.{Stretch}
use Rattle.edit_terms.specs.Area.{Area}
use Rattle.edit_terms.specs.CellList.{IsStretch}
use Rattle.change_set.specs.Changes.{afters}
use Rattle.change_set.specs.Runs.{lent_run, rest_of}
use Rattle.change_set.proofs.ReadLemmas.{afters_stretch}
use Rattle.change_set.proofs.run_list.RunListCellList.stretch.Goals as goal

pub returns : goal.returns
returns c =
    let run = lent_run c.run_of-run.result in
    let list = c.args.self.now.list in
    let is = c.rest_of.ensures ∙ ap (λ (a : Area). rest_of a run.first run.length (c.args.i - run.start)) c.area.ensures in
    subst (λ (s : Stretch). IsStretch (afters list) c.args.i s) (sym is) (afters_stretch c.args.self.now.area list c.args.i run c.run_of-run.ensures)
