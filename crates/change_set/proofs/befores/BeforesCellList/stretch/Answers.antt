use Rattle.std.proofs.Common.{◌-◌, sym, ap, ◌∙◌, subst}
use Rattle.edit_terms.specs.declared.stretch.Stretch.{Stretch}
use Rattle.edit_terms.specs.Area.{Area}
use Rattle.edit_terms.specs.CellList.{IsStretch}
use Rattle.change_set.specs.Changes.{befores}
use Rattle.change_set.specs.Runs.{lent_run, rest_of}
use Rattle.change_set.proofs.ReadLemmas.{befores_stretch}
use Rattle.change_set.proofs.befores.BeforesCellList.stretch.Goals as goal

pub returns : goal.returns
returns c =
    let run = lent_run c.run_of-run.result in
    let list = c.args.self.now.changes.now.list in
    let is = c.rest_of.ensures ∙ ap (λ (a : Area). rest_of a run.first run.length (c.args.i - run.start)) c.area-area.ensures in
    subst (λ (s : Stretch). IsStretch (befores list) c.args.i s) (sym is) (befores_stretch c.args.self.now.changes.now.area list c.args.i run c.run_of-run.ensures)
