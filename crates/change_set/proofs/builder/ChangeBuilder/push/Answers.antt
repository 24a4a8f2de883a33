use Rattle.std.proofs.Common.{◌≡◌, true, List, [], ◌∷◌, ◌++◌, OnOk, subst, ap, sym, ◌∙◌}
use Rattle.edit_terms.specs.declared.pos.Pos.{Pos}
use Rattle.edit_terms.specs.Area.{holds}
use Rattle.change_set.specs.declared.proposed.Proposed.{Proposed}
use Rattle.change_set.specs.Changes.{ChangeList, positions, rises, kept_change}
use Rattle.change_set.proofs.RunLemmas.{one_cell, one_cell_fits, rising_held}
use Rattle.change_set.proofs.builder.ChangeBuilder.push.Goals as goal

-- the position behind the changes is of their box
held : (inside seen : ChangeList) (p : Pos) → inside ≡ seen → rises seen.area (positions seen.list ++ p ∷ []) ≡ true → holds inside.area p ≡ true
held inside seen p is rising =
    rising_held inside.area (positions inside.list) p (subst (λ (s : ChangeList). rises s.area (positions s.list ++ p ∷ []) ≡ true) (sym is) rising)

pub extend-requires-clause-fits : goal.extend-requires-clause-fits
extend-requires-clause-fits c = one_cell_fits c.self.inside.changes.area c.args.at.now (held c.self.inside.changes c.args.self.now c.args.at.now c.self.view_is c.requires.rising)

pub returns-clause-added : goal.returns-clause-added
returns-clause-added c =
    let in_box = held c.self.inside.changes c.args.self.now c.args.at.now c.self.view_is c.requires.rising in
    let one = one_cell c.self.inside.changes.area c.args.at.now c.args.before.now c.args.after.now in_box in
    let d : Proposed = record { at = c.args.at.now; before = c.args.before.now; after = c.args.after.now } in
    let e = ap (λ (xs : List Proposed). c.self.inside.changes.list ++ xs) one ∙ ap (λ (s : ChangeList). s.list ++ kept_change d) c.self.view_is in
    subst (λ (xs : List Proposed). OnOk c.extend.result (c.extend.new.self.list ≡ xs)) e c.extend.ensures.added
