use Rattle.std.proofs.Common.{◌≡◌, ◌-◌, Bool, true, false, ◌&&◌, length, get_or, sym, ◌∙◌}
use Rattle.edit_terms.specs.Same.{same_content}
use Rattle.edit_terms.specs.World.{air_content}
use Rattle.change_set.specs.ContentRun.{looked_up}
use Rattle.change_set.specs.Runs.{follows}
use Rattle.change_set.proofs.RunLemmas.{first_fails}
use Rattle.change_set.proofs.SeenLemmas.{last_by}
use Rattle.change_set.proofs.ContentLemmas.{numbered_at}
use Rattle.change_set.proofs.grow.goes_on.Goals as goal

-- the three tests of the code give the answer
all_three : (x y z t : Bool) → t ≡ (x && (y && z)) → x ≡ true → y ≡ true → z ≡ t
all_three true true z t e p q = sym e
all_three false y z t e p q = absurd cc
all_three true false z t e p q = absurd cc

second_fails : (x y z t : Bool) → t ≡ (x && (y && z)) → y ≡ false → false ≡ t
second_fails true true z t e p = absurd cc
second_fails true false z t e p = sym e
second_fails false y z t e p = sym e

pub follows-requires-clause-held : goal.follows-requires-clause-held
follows-requires-clause-held c = let e = c.in-Some.ensures in (last_by (looked_up c.args.contents.now) c.args.area.now c.args.runs.now c.in-Some.run'.now c.well_formed-2.ensures c.requires.each e.value).is.held

pub follows-requires-clause-fits : goal.follows-requires-clause-fits
follows-requires-clause-fits c = let e = c.in-Some.ensures in (last_by (looked_up c.args.contents.now) c.args.area.now c.args.runs.now c.in-Some.run'.now c.well_formed-2.ensures c.requires.each e.value).is.fits

pub is_content-requires : goal.is_content-requires
is_content-requires c = let e = c.in-Some.ensures in (numbered_at c.args.contents.now c.args.runs.now (length c.args.runs.now - 1) c.in-Some.run'.now c.requires.numbered (sym e.value)).before

pub is_content-requires-2 : goal.is_content-requires-2
is_content-requires-2 c = let e = c.in-Some.ensures in (numbered_at c.args.contents.now c.args.runs.now (length c.args.runs.now - 1) c.in-Some.run'.now c.requires.numbered (sym e.value)).after

pub returns-then-not-follows : goal.returns-then-not-follows
returns-then-not-follows c =
    let e = c.in-Some.ensures in
    let run = c.in-Some.run'.now in
    let last = last_by (looked_up c.args.contents.now) c.args.area.now c.args.runs.now run c.well_formed-2.ensures c.requires.each e.value in
    first_fails (follows c.args.area.now run.first run.length c.args.at.now) _ _ (last.behind (record { at = c.args.at.now; before = c.args.before.now; after = c.args.after.now })) (sym c.follows.ensures ∙ c.if-not-follows.true)

pub returns-then-not-is_content : goal.returns-then-not-is_content
returns-then-not-is_content c =
    let e = c.in-Some.ensures in
    let run = c.in-Some.run'.now in
    let last = last_by (looked_up c.args.contents.now) c.args.area.now c.args.runs.now run c.well_formed-2.ensures c.requires.each e.value in
    second_fails (follows c.args.area.now run.first run.length c.args.at.now) (same_content (get_or c.args.contents.now run.before air_content) c.args.before.now) _ _
    (last.behind (record { at = c.args.at.now; before = c.args.before.now; after = c.args.after.now })) (sym c.is_content.ensures ∙ c.if-not-is_content.true)

pub returns : goal.returns
returns c =
    let e = c.in-Some.ensures in
    let run = c.in-Some.run'.now in
    let last = last_by (looked_up c.args.contents.now) c.args.area.now c.args.runs.now run c.well_formed-2.ensures c.requires.each e.value in
    c.is_content-2.ensures ∙ all_three (follows c.args.area.now run.first run.length c.args.at.now) (same_content (get_or c.args.contents.now run.before air_content) c.args.before.now) _ _
    (last.behind (record { at = c.args.at.now; before = c.args.before.now; after = c.args.after.now })) (sym c.follows.ensures ∙ c.if-not-follows.false) (sym c.is_content.ensures ∙ c.if-not-is_content.false)
