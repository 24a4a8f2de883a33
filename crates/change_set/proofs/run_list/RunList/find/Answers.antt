use Rattle.std.proofs.Common.{◌≡◌, ℕ, true, List, map, Some, slice_get, MatchOption, ap, sym, ◌∙◌, subst}
use Rattle.edit_terms.specs.declared.pos.Pos.{Pos}
use Rattle.change_set.specs.declared.run.Run.{Run}
use Rattle.change_set.specs.ContentRun.{as_run}
use Rattle.change_set.specs.Changes.{ChangeList, positions, rises, changes_of}
use Rattle.change_set.specs.Runs.{AreRunsFrom}
use Rattle.change_set.proofs.SearchLemmas.{bare_positions, bare_runs}
use Rattle.change_set.proofs.run_list.RunList.find.Goals as goal

pub find_in_runs-requires-clause-each : goal.find_in_runs-requires-clause-each
find_in_runs-requires-clause-each c =
    subst (λ (rs : List Run). AreRunsFrom c.self.inside.area 0 (map as_run rs)) (sym c.deref.ensures.value)
    (bare_runs c.self.inside.area c.self.inside.contents 0 c.self.inside.runs.items c.self.invariant.kept.each)

pub find_in_runs-requires-clause-rising : goal.find_in_runs-requires-clause-rising
find_in_runs-requires-clause-rising c =
    subst (λ (rs : List Run). rises c.self.inside.area (positions (changes_of c.self.inside.area (map as_run rs))) ≡ true) (sym c.deref.ensures.value)
    (subst (λ (ps : List Pos). rises c.self.inside.area ps ≡ true) (bare_positions c.self.inside.area c.self.inside.contents c.self.inside.runs.items) c.self.invariant.kept.rising)

pub returns : goal.returns
returns c =
    let seen = ap (λ (rs : List Run). positions (changes_of c.self.inside.area (map as_run rs))) c.deref.ensures.value
    ∙ sym (bare_positions c.self.inside.area c.self.inside.contents c.self.inside.runs.items)
    ∙ ap (λ (s : ChangeList). positions s.list) c.self.view_is in
    subst (λ (ps : List Pos). MatchOption c.find_in_runs.result ((i : ℕ) → slice_get ps i ≡ Some c.args.p.now → ⊥) (λ i. slice_get ps i ≡ Some c.args.p.now)) seen c.find_in_runs.ensures
