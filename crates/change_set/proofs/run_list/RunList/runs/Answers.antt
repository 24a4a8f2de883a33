use Rattle.std.proofs.Common.{refl, sym, List, ◌∙◌, subst}
use Rattle.change_set.specs.declared.run.Run.{Run}
use Rattle.change_set.specs.ContentRun.{all_looked_up}
use Rattle.change_set.specs.Changes.{ChangeList, changes_of, AreRunsOf}
use Rattle.change_set.proofs.ReadLemmas.{each_is_run_of}
use Rattle.change_set.proofs.ContentLemmas.{starts_looked_up}
use Rattle.change_set.proofs.run_list.RunList.runs.Goals as goal

pub returns : goal.returns
returns c =
    let a = c.self.inside.area in
    let contents = c.self.inside.contents in
    let runs = c.self.inside.runs.items in
    let kept = c.self.invariant.kept in
    let seen : ChangeList = record { area = a; list = changes_of a (all_looked_up contents runs) } in
    let is : AreRunsOf seen contents runs = record {
      whole = refl;
      starts = starts_looked_up contents runs ∙ kept.starts;
      each = each_is_run_of a (all_looked_up contents runs) kept.each;
      numbered = c.self.invariant.numbered;
      distinct = c.len-distinct.ensures.distinct;
    } in
    subst (λ (s : ChangeList). AreRunsOf s contents c.deref.result.now) c.self.view_is
    (subst (λ (rs : List Run). AreRunsOf seen contents rs) (sym c.deref.ensures.value) is)
