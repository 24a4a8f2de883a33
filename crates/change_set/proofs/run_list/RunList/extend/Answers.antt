use Rattle.std.proofs.Common.{◌+◌, ◌-◌, List, length, subst, ap, sym, ◌∙◌, arith}
use Rattle.std.proofs.lemmas.Option.{slice_get-map}
use Rattle.change_set.specs.declared.run.Run.{Run}
use Rattle.change_set.specs.ContentRun.{looked_up, all_looked_up}
use Rattle.change_set.specs.Changes.{ChangeList, changes_of}
use Rattle.change_set.specs.Runs.{AreRunsKept}
use Rattle.change_set.proofs.RunLemmas.{grown, started, last_fits, seen_longer}
use Rattle.change_set.proofs.ContentLemmas.{longer_looked_up}
use Rattle.change_set.proofs.KeptRunLemmas.{kept_grown, seen_grown, kept_longer, kept_behind, behind_looked_up, room_of_run, holds_on_err}
use Rattle.change_set.proofs.run_list.RunList.extend.Goals as goal

pub lengthen_last-requires-clause-fits : goal.lengthen_last-requires-clause-fits
lengthen_last-requires-clause-fits c =
    let more = grown c.self.inside.area (all_looked_up c.self.inside.contents c.self.inside.runs.items) (all_looked_up c.self.inside.contents c.deref.result.now) c.self.inside.count c.args.self.now c.args.first.now c.args.count c.args.before.now c.args.after.now
    c.well_formed-2.ensures c.self.invariant.kept c.self.view_is c.requires.rising c.requires.fits c.if-count-eq0.false (ap (all_looked_up c.self.inside.contents) c.deref.ensures.value) (sym c.goes_on.ensures ∙ c.if-goes_on.true) in
    let small = more.small in
    let contents = c.self.inside.contents in
    let runs = c.self.inside.runs.items in
    let k = length runs - 1 in
    let fits = last_fits c.self.inside.area 0 (all_looked_up contents runs) k c.args.count c.self.invariant.kept.each (omega (arith, small, c.self.invariant.kept.count_is)) in
    room_of_run contents _ c.args.count (rw (← slice_get-map (looked_up contents) runs k) fits)

pub overflow_add-self : goal.overflow_add-self
overflow_add-self c =
    let more = grown c.self.inside.area (all_looked_up c.self.inside.contents c.self.inside.runs.items) (all_looked_up c.self.inside.contents c.deref.result.now) c.self.inside.count c.args.self.now c.args.first.now c.args.count c.args.before.now c.args.after.now
    c.well_formed-2.ensures c.self.invariant.kept c.self.view_is c.requires.rising c.requires.fits c.if-count-eq0.false (ap (all_looked_up c.self.inside.contents) c.deref.ensures.value) (sym c.goes_on.ensures ∙ c.if-goes_on.true) in
    let small = more.small in
    omega (arith, small)

pub invariant_of-self : goal.invariant_of-self
invariant_of-self c =
    let more = grown c.self.inside.area (all_looked_up c.self.inside.contents c.self.inside.runs.items) (all_looked_up c.self.inside.contents c.deref.result.now) c.self.inside.count c.args.self.now c.args.first.now c.args.count c.args.before.now c.args.after.now
    c.well_formed-2.ensures c.self.invariant.kept c.self.view_is c.requires.rising c.requires.fits c.if-count-eq0.false (ap (all_looked_up c.self.inside.contents) c.deref.ensures.value) (sym c.goes_on.ensures ∙ c.if-goes_on.true) in
    subst (λ (rs : List Run). AreRunsKept c.self.inside.area c.self.inside.contents rs (c.self.inside.count + c.args.count)) (sym c.lengthen_last.ensures)
    (kept_longer c.self.inside.area c.self.inside.contents c.self.inside.runs.items c.self.inside.count c.args.first.now c.args.count c.args.before.now c.args.after.now c.self.invariant more)

pub returns-then-goes_on-clause-added : goal.returns-then-goes_on-clause-added
returns-then-goes_on-clause-added c =
    let more = grown c.self.inside.area (all_looked_up c.self.inside.contents c.self.inside.runs.items) (all_looked_up c.self.inside.contents c.deref.result.now) c.self.inside.count c.args.self.now c.args.first.now c.args.count c.args.before.now c.args.after.now
    c.well_formed-2.ensures c.self.invariant.kept c.self.view_is c.requires.rising c.requires.fits c.if-count-eq0.false (ap (all_looked_up c.self.inside.contents) c.deref.ensures.value) (sym c.goes_on.ensures ∙ c.if-goes_on.true) in
    ap (λ (rs : List Run). changes_of c.self.inside.area (all_looked_up c.self.inside.contents rs)) c.lengthen_last.ensures
    ∙ ap (changes_of c.self.inside.area) (longer_looked_up c.self.inside.contents c.self.inside.runs.items c.args.count)
    ∙ seen_longer c.self.inside.area (all_looked_up c.self.inside.contents c.self.inside.runs.items) c.self.inside.count c.args.self.now c.args.first.now c.args.count c.args.before.now c.args.after.now _ c.self.view_is more

pub overflow_add-self-2 : goal.overflow_add-self-2
overflow_add-self-2 c =
    let more = started c.self.inside.area (all_looked_up c.self.inside.contents c.self.inside.runs.items) (all_looked_up c.self.inside.contents c.deref.result.now) c.self.inside.count c.args.self.now c.args.first.now c.args.count c.args.before.now c.args.after.now
    c.well_formed-2.ensures c.self.invariant.kept c.self.view_is c.requires.rising c.requires.fits c.if-count-eq0.false (ap (all_looked_up c.self.inside.contents) c.deref.ensures.value) (sym c.goes_on.ensures ∙ c.if-goes_on.false) in
    let small = more.small in
    omega (arith, small)

pub invariant_of-self-2 : goal.invariant_of-self-2
invariant_of-self-2 c =
    let more = started c.self.inside.area (all_looked_up c.self.inside.contents c.self.inside.runs.items) (all_looked_up c.self.inside.contents c.deref.result.now) c.self.inside.count c.args.self.now c.args.first.now c.args.count c.args.before.now c.args.after.now
    c.well_formed-2.ensures c.self.invariant.kept c.self.view_is c.requires.rising c.requires.fits c.if-count-eq0.false (ap (all_looked_up c.self.inside.contents) c.deref.ensures.value) (sym c.goes_on.ensures ∙ c.if-goes_on.false) in
    let e = c.in_ok-push.ensures in
    subst (λ (rs : List Run). AreRunsKept c.self.inside.area c.number_pair.new.contents rs (c.self.inside.count + c.args.count)) (sym e.items)
    (kept_behind c.self.inside.area c.self.inside.contents c.number_pair.new.contents c.self.inside.runs.items c.self.inside.count c.args.first.now c.args.count c.in_ok-pair.pair.before c.in_ok-pair.pair.after c.args.before.now c.args.after.now c.self.invariant
    c.number_pair.ensures.grown c.in_ok-pair.ensures.before c.in_ok-pair.ensures.after more)

pub invariant_of-self-in_err-pair : goal.invariant_of-self-in_err-pair
invariant_of-self-in_err-pair c = kept_grown c.self.inside.area c.self.inside.contents c.number_pair.new.contents c.self.inside.runs.items c.self.inside.count c.number_pair.ensures.grown c.self.invariant

pub returns-in_err-pair-clause-unchanged : goal.returns-in_err-pair-clause-unchanged
returns-in_err-pair-clause-unchanged c = holds_on_err c.from_residual.result (seen_grown c.self.inside.area c.self.inside.contents c.number_pair.new.contents c.self.inside.runs.items c.self.inside.count c.args.self.now c.number_pair.ensures.grown c.self.invariant c.self.view_is)

pub invariant_of-self-in_err-push : goal.invariant_of-self-in_err-push
invariant_of-self-in_err-push c =
    let e = c.in_err-push.ensures in
    subst (λ (rs : List Run). AreRunsKept c.self.inside.area c.number_pair.new.contents rs c.self.inside.count) (sym e.items)
    (kept_grown c.self.inside.area c.self.inside.contents c.number_pair.new.contents c.self.inside.runs.items c.self.inside.count c.number_pair.ensures.grown c.self.invariant)

pub returns-in_err-push-clause-unchanged : goal.returns-in_err-push-clause-unchanged
returns-in_err-push-clause-unchanged c =
    let e = c.in_err-push.ensures in
    holds_on_err c.from_residual-in_err-push.result
    (ap (λ (rs : List Run). let s : ChangeList = record { area = c.self.inside.area; list = changes_of c.self.inside.area (all_looked_up c.number_pair.new.contents rs) } in s) e.items
    ∙ seen_grown c.self.inside.area c.self.inside.contents c.number_pair.new.contents c.self.inside.runs.items c.self.inside.count c.args.self.now c.number_pair.ensures.grown c.self.invariant c.self.view_is)

pub returns-clause-added : goal.returns-clause-added
returns-clause-added c =
    let more = started c.self.inside.area (all_looked_up c.self.inside.contents c.self.inside.runs.items) (all_looked_up c.self.inside.contents c.deref.result.now) c.self.inside.count c.args.self.now c.args.first.now c.args.count c.args.before.now c.args.after.now
    c.well_formed-2.ensures c.self.invariant.kept c.self.view_is c.requires.rising c.requires.fits c.if-count-eq0.false (ap (all_looked_up c.self.inside.contents) c.deref.ensures.value) (sym c.goes_on.ensures ∙ c.if-goes_on.false) in
    let e = c.in_ok-push.ensures in
    ap (λ (rs : List Run). changes_of c.self.inside.area (all_looked_up c.number_pair.new.contents rs)) e.items
    ∙ ap (changes_of c.self.inside.area) (behind_looked_up c.self.inside.contents c.number_pair.new.contents c.self.inside.runs.items c.args.first.now c.self.inside.count c.args.count c.in_ok-pair.pair.before c.in_ok-pair.pair.after c.args.before.now c.args.after.now
    c.self.invariant.numbered c.number_pair.ensures.grown c.in_ok-pair.ensures.before c.in_ok-pair.ensures.after)
    ∙ seen_longer c.self.inside.area (all_looked_up c.self.inside.contents c.self.inside.runs.items) c.self.inside.count c.args.self.now c.args.first.now c.args.count c.args.before.now c.args.after.now _ c.self.view_is more
