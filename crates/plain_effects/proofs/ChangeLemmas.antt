-- A work changes nothing outside its extent.
use Rattle.std.proofs.Common.{◌≡◌, ℕ, ◌*◌, ◌<◌, Bool, true, false, ◌&&◌, cond, pos, ◌+ℤ◌, ◌-ℤ◌, Some, None, refl, sym, ap, ◌∙◌, arith}
use Rattle.std.specs.Prelude.{Option, not, neg_ℤ, is_some}
use Rattle.std.specs.Option.{option_map_or}
use Rattle.std.proofs.lemmas.Int.{ints}
use Rattle.edit_terms.specs.declared.direction.Direction.{Direction}
use Rattle.edit_terms.specs.declared.direction.Direction.TheVariants.{North, South, East, West, Up, Down}
use Rattle.edit_terms.specs.declared.mask.Mask.{Mask}
use Rattle.edit_terms.specs.declared.pattern.Pattern.{Pattern}
use Rattle.edit_terms.specs.declared.pos.Pos.{Pos}
use Rattle.edit_terms.specs.declared.region.Region.{Region}
use Rattle.edit_terms.specs.declared.region.Region.TheVariants.{Selected}
use Rattle.edit_terms.specs.declared.region.Selection.{Selection}
use Rattle.edit_terms.specs.declared.step.Work.{Work}
use Rattle.edit_terms.specs.Area.{holds, position_of, volume, is_world_box}
use Rattle.edit_terms.specs.Clipboard.{relative_to}
use Rattle.edit_terms.specs.Draw.{mask_use}
use Rattle.edit_terms.specs.Frame.{frame_of_selection, size_along}
use Rattle.edit_terms.specs.Grid.{is_same_pos}
use Rattle.edit_terms.specs.Mask.{is_allowed}
use Rattle.edit_terms.specs.Neighbour.{away}
use Rattle.edit_terms.specs.Pattern.{pattern_value}
use Rattle.edit_terms.specs.Region.{is_inside, is_selected}
use Rattle.edit_terms.specs.StateText.{State, is_air}
use Rattle.edit_terms.specs.World.{BlockContent, World, air_content, content_at, without_entity}
use Rattle.edit_terms.proofs.AreaLemmas.{block_at_place}
use Rattle.run_terms.specs.Change.{content_of}
use Rattle.run_terms.specs.Effect.{Task, scene_of, passes_global, filled, is_source, copy_source, stacked, moved, cut, pasted, put, effect_of, effect_at}
use Rattle.region_shapes.specs.declared.extent.Extent.{Extent}
use Rattle.region_shapes.specs.Extents.{is_in_extent}
use Rattle.plain_terms.proofs.MapLemmas.{held_on_map}
use Rattle.plain_effects.specs.Sections.{is_in_some, HasAll, HasBrought, StaysOutside}
use Rattle.plain_effects.proofs.Ranges.{find_none}

-- what an extent doesn't have fails the test of all that it has
fails : (extent : Option Extent) (test : Pos → Bool) (p : Pos) → HasAll extent test → is_in_some extent p ≡ false → test p ≡ false
fails extent test p all out = by_test (test p) refl
  where
    by_test : (b : Bool) → test p ≡ b → b ≡ false
    by_test false h = refl
    by_test true h = sym (all p h) ∙ out

pub fill_stays : (extent : Option Extent) (region : Region) (mask : Option Mask) (pattern : Pattern) (task : Task) (w : World) → HasAll extent (is_inside region)
    → StaysOutside extent (filled region mask pattern task w) w
fill_stays extent region mask pattern task w all index below out =
    let p = position_of w.area index in
    ap (λ (b : Bool). cond (b && is_allowed mask mask_use (scene_of task w) p && passes_global task w p) (pattern_value pattern task.copied task.seed task.ticket p (content_of w index)) (content_of w index))
    (fails extent (is_inside region) p all out)

pub cut_stays : (extent : Option Extent) (from : Selection) (task : Task) (w : World) → HasAll extent (is_inside (Selected from)) → StaysOutside extent (cut from task w) w
cut_stays extent from task w all index below out =
    ap (λ (b : Bool). cond (b && passes_global task w (position_of w.area index)) air_content (content_of w index)) (fails extent (is_selected from) (position_of w.area index) all out)

either_stays : (b : Bool) (c : BlockContent) → cond b c c ≡ c
either_stays true c = refl
either_stays false c = refl

-- a block of the box outside an extent of all that is brought: no selected one is brought there
none_brought : (e : Extent) (from : Selection) (to : Direction) (w : World) (index n : ℕ) → is_world_box w.area ≡ true → HasBrought e from to → index < volume w.area
    → is_in_extent e (position_of w.area index) ≡ false → is_selected from (away to (neg_ℤ (pos n)) (position_of w.area index)) ≡ false
none_brought e from to w index n fits brought below out = by_test (is_selected from (away to (neg_ℤ (pos n)) p)) refl
  where
    p : Pos
    p = position_of w.area index

    by_test : (b : Bool) → is_selected from (away to (neg_ℤ (pos n)) p) ≡ b → b ≡ false
    by_test false h = refl
    by_test true h = sym (brought n p (held_on_map w.area p fits (block_at_place w.area index fits below).held) h) ∙ out

no_source : (a b : Bool) → a ≡ false → (a && b) ≡ false
no_source a b h = rw h refl

pub stack_stays : (e : Extent) (from : Selection) (count : ℕ) (to : Direction) (task : Task) (w : World) → is_world_box w.area ≡ true → HasBrought e from to
    → StaysOutside (Some e) (stacked from count to task w) w
stack_stays e from count to task w fits brought index below out =
    let p = position_of w.area index in
    let step = size_along to (frame_of_selection from) in
    let none = find_none (is_source from w) (copy_source from to p) 1 count (λ k low high.
    no_source (is_selected from (copy_source from to p k)) (holds w.area (copy_source from to p k)) (none_brought e from to w index (k * step) fits brought below out)) in
    ap (λ (o : Option Pos). cond (passes_global task w p) (option_map_or (content_at w) o (content_of w index)) (content_of w index)) none
    ∙ either_stays (passes_global task w p) (content_of w index)

-- no block on is a position itself
none_on : (to : Direction) (p : Pos) → away to (neg_ℤ (pos 0)) p ≡ p
none_on North p = let e : p.z -ℤ neg_ℤ (pos 0) ≡ p.z = omega (arith, ints) in λ i. record p { z = e i }
none_on South p = let e : p.z +ℤ neg_ℤ (pos 0) ≡ p.z = omega (arith, ints) in λ i. record p { z = e i }
none_on East p = let e : p.x +ℤ neg_ℤ (pos 0) ≡ p.x = omega (arith, ints) in λ i. record p { x = e i }
none_on West p = let e : p.x -ℤ neg_ℤ (pos 0) ≡ p.x = omega (arith, ints) in λ i. record p { x = e i }
none_on Up p = let e : p.y +ℤ neg_ℤ (pos 0) ≡ p.y = omega (arith, ints) in λ i. record p { y = e i }
none_on Down p = let e : p.y -ℤ neg_ℤ (pos 0) ≡ p.y = omega (arith, ints) in λ i. record p { y = e i }

pub move_stays : (e : Extent) (from : Selection) (count : ℕ) (to : Direction) (task : Task) (w : World) → is_world_box w.area ≡ true → HasBrought e from to
    → StaysOutside (Some e) (moved from count to task w) w
move_stays e from count to task w fits brought index below out =
    let p = position_of w.area index in
    let q = away to (neg_ℤ (pos count)) p in
    let old = content_of w index in
    let comes : is_source from w q ≡ false = no_source (is_selected from q) (holds w.area q) (none_brought e from to w index count fits brought below out) in
    let leaves : is_selected from p ≡ false = ap (is_selected from) (sym (none_on to p)) ∙ none_brought e from to w index 0 fits brought below out in
    ap (λ (b : Bool). cond (not (passes_global task w p)) old (cond b (content_at w q) (cond (is_selected from p) air_content old))) comes
    ∙ ap (λ (b : Bool). cond (not (passes_global task w p)) old (cond b air_content old)) leaves
    ∙ either_stays (not (passes_global task w p)) old

pub paste_stays : (extent : Option Extent) (place : Pos) (skip_air : Bool) (task : Task) (w : World)
    → HasAll extent (λ p. is_some (task.copied.at (relative_to place p))) → StaysOutside extent (pasted place skip_air task w) w
paste_stays extent place skip_air task w all index below out =
    let p = position_of w.area index in
    nothing (task.copied.at (relative_to place p)) (fails extent (λ q. is_some (task.copied.at (relative_to place q))) p all out)
  where
    nothing : (o : Option BlockContent) → is_some o ≡ false
        → option_map_or (λ (c : BlockContent). cond (passes_global task w (position_of w.area index) && not (skip_air && is_air c.state)) c (content_of w index)) o (content_of w index) ≡ content_of w index
    nothing None h = refl
    nothing (Some c) h = absurd cc

pub put_stays : (extent : Option Extent) (at : Pos) (state : State) (w : World) → HasAll extent (is_same_pos at) → StaysOutside extent (put at state w) w
put_stays extent at state w all index below out = ap (λ (b : Bool). cond b (without_entity state) (content_of w index)) (fails extent (is_same_pos at) (position_of w.area index) all out)

-- ---- the work of a task

pub of_work : (extent : Option Extent) (work : Work) (task : Task) (w : World) → task.spec.work ≡ work → StaysOutside extent (effect_of work task w) w → StaysOutside extent (effect_at task w) w
of_work extent work task w is stays index below out = ap (λ (other : Work). effect_of other task w index) is ∙ stays index below out
