use Rattle.std.proofs.Common.{◌≡◌, false, map, sym, subst, arith, ℕ}
use Rattle.edit_terms.specs.Area.{holds}
use Rattle.change_set.specs.Changes.{positions, changes_of}
use Rattle.change_set.specs.ContentRun.{as_run}
use Rattle.change_set.specs.Cells.{StartsBehind, IsLastFrom}
use Rattle.change_set.proofs.ReadLemmas.{placed}
use Rattle.change_set.proofs.SeenLemmas.{read_by}
use Rattle.change_set.proofs.SearchLemmas.{held_there, none_before, found_there, place_is_small, none_there}
use Rattle.change_set.proofs.search.find_in_runs.Goals as goal

pub returns-in_default : goal.returns-in_default
returns-in_default c = λ i there.
    let list = changes_of c.args.area.now (map as_run c.args.runs.now) in
    let out = c.in_default.ensures in
    let outside : holds c.args.area.now c.args.p.now ≡ false = out.index in
    let held = held_there c.args.area.now 0 (positions list) i c.args.p.now c.requires.rising there in
    cc (outside, held)

pub returns-in_default-last_from : goal.returns-in_default-last_from
returns-in_default-last_from c = λ i there.
    let list = changes_of c.args.area.now (map as_run c.args.runs.now) in
    let e = c.in-Some.ensures in
    let place = e.index.place in
    let behind = subst (λ (n : ℕ). StartsBehind c.args.area.now c.args.runs.now 0 n) (sym place) c.in_default-last_from.ensures in
    none_before c.args.area.now c.args.runs.now c.args.p.now i c.requires.each c.requires.rising behind there

pub further_in-requires-clause-held : goal.further_in-requires-clause-held
further_in-requires-clause-held c =
    let last = c.in-Some-last_from.ensures in
    (placed c.args.area.now 0 (map as_run c.args.runs.now) last.number (as_run c.in-Some-last_from.run'.now) c.requires.each (read_by as_run c.args.runs.now last.number c.in-Some-last_from.run'.now last.is)).is.held

pub further_in-requires-clause-fits : goal.further_in-requires-clause-fits
further_in-requires-clause-fits c =
    let last = c.in-Some-last_from.ensures in
    (placed c.args.area.now 0 (map as_run c.args.runs.now) last.number (as_run c.in-Some-last_from.run'.now) c.requires.each (read_by as_run c.args.runs.now last.number c.in-Some-last_from.run'.now last.is)).is.fits

pub overflow_add-result : goal.overflow_add-result
overflow_add-result c =
    let last = c.in-Some-last_from.ensures in
    let e = c.in-Some-further_in.ensures in
    let small = place_is_small c.args.area.now c.args.runs.now last.number c.in-Some-last_from.run'.now c.in-Some-further_in.further c.well_formed-2.ensures c.requires.each c.requires.rising last.is e.below in
    omega (arith, small)

pub returns-in-Some-further_in : goal.returns-in-Some-further_in
returns-in-Some-further_in c =
    let list = changes_of c.args.area.now (map as_run c.args.runs.now) in
    let last = c.in-Some-last_from.ensures in
    let e = c.in-Some-further_in.ensures in
    found_there c.args.area.now c.args.runs.now last.number c.in-Some-last_from.run'.now c.in-Some-further_in.further c.args.p.now c.requires.each last.is e.below e.value

pub returns-in-None : goal.returns-in-None
returns-in-None c = λ i there.
    let list = changes_of c.args.area.now (map as_run c.args.runs.now) in
    let e = c.in-Some.ensures in
    let place = e.index.place in
    let last = subst (λ (n : ℕ). IsLastFrom c.args.area.now c.args.runs.now n c.in-Some-last_from.run'.now) (sym place) c.in-Some-last_from.ensures in
    let none = c.in-None.ensures in
    none_there c.args.area.now c.args.runs.now c.args.p.now c.in-Some-last_from.run'.now i c.requires.each c.requires.rising last none.value there
