use Rattle.std.proofs.Common.{◌≡◌, true, List, ◌++◌, ap, sym, ◌∙◌, subst}
use Rattle.std.specs.List.{list_all}
use Rattle.change_set.specs.declared.proposed.Proposed.{Proposed}
use Rattle.change_set.specs.Changes.{ChangeList, is_change, stretch}
use Rattle.change_set.proofs.RunLemmas.{changing_more, kept_by_difference}
use Rattle.change_set.proofs.changes.Changes.extend.Goals as goal

pub invariant_of-self : goal.invariant_of-self
invariant_of-self c =
    let e = c.in_err-extend.ensures in
    subst (λ (s : ChangeList). list_all is_change s.list ≡ true) (sym e.unchanged) c.self.invariant

pub invariant_of-self-2 : goal.invariant_of-self-2
invariant_of-self-2 c =
    let e = c.in_ok-extend.ensures in
    subst (λ (list : List Proposed). list_all is_change list ≡ true) (sym e.added)
    (changing_more c.self.inside.runs.area c.self.inside.runs.list c.args.first.now c.args.count c.args.before.now c.args.after.now c.self.invariant (sym c.eq.ensures ∙ c.if-eq.false))

pub returns-clause-added : goal.returns-clause-added
returns-clause-added c =
    let e = c.in_ok-extend.ensures in
    let differs = sym c.eq.ensures ∙ c.if-eq.false in
    e.added
    ∙ ap (λ (s : ChangeList). s.list ++ stretch s.area c.args.first.now c.args.count c.args.before.now c.args.after.now) c.self.view_is
    ∙ ap (λ (xs : List Proposed). c.args.self.now.list ++ xs) (sym (kept_by_difference c.args.self.now.area c.args.first.now c.args.count c.args.before.now c.args.after.now differs))
