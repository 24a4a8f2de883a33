-- The extents have all that a work may change. A box holds exactly the positions of its extent.
use Rattle.std.proofs.Common.{◌≡◌, ℕ, true, false, ◌&&◌, ℤ, pos, ◌+ℤ◌, ◌-ℤ◌, ◌≤ℤ◌, ◌<ℤ◌, Some, None, sym, subst, arith}
use Rattle.std.specs.Prelude.{Option, neg_ℤ, is_some, option_map}
use Rattle.std.specs.Option.{option_map_or}
use Rattle.std.specs.Ordering.{int_eq}
use Rattle.std.specs.Cmp.Derive.{both_true}
use Rattle.std.proofs.lemmas.Int.{ints}
use Rattle.edit_terms.specs.declared.clip.Clip.{Clip}
use Rattle.edit_terms.specs.declared.direction.Direction.{Direction}
use Rattle.edit_terms.specs.declared.direction.Direction.TheVariants.{North, South, East, West, Up, Down}
use Rattle.edit_terms.specs.declared.pos.Pos.{Pos}
use Rattle.edit_terms.specs.declared.region.Region.{Region}
use Rattle.edit_terms.specs.declared.region.Region.TheVariants.{Selected}
use Rattle.edit_terms.specs.declared.region.Selection.{Selection}
use Rattle.edit_terms.specs.Area.{Area, is_from, holds}
use Rattle.edit_terms.specs.Clipboard.{clip_box_of, clipboard_of, relative_to, placed_at}
use Rattle.edit_terms.specs.Frame.{IsRegion, IsSelection, frame_of, frame_of_selection}
use Rattle.edit_terms.specs.Grid.{is_same_pos}
use Rattle.edit_terms.specs.Neighbour.{away}
use Rattle.edit_terms.specs.Region.{is_inside}
use Rattle.edit_terms.specs.World.{World}
use Rattle.edit_terms.proofs.AreaLemmas.{and_both}
use Rattle.edit_terms.proofs.ClipboardLemmas.{cells_in_bounds}
use Rattle.edit_terms.proofs.RegionLemmas.{framed}
use Rattle.run_terms.specs.Access.{single_box}
use Rattle.clipboard_transform.specs.declared.relative_box.RelativeBox.{RelativeBox}
use Rattle.clipboard_transform.specs.Bounds.{corners, IsOnMap}
use Rattle.region_shapes.specs.declared.extent.Extent.{Extent}
use Rattle.region_shapes.specs.declared.interval.Interval.{Interval}
use Rattle.region_shapes.specs.Extents.{extent_of, is_in_extent}
use Rattle.region_shapes.specs.Interval.{is_among, numbers_from}
use Rattle.plain_effects.specs.Sections.{HasAll, HasBrought, strip_of}
use Rattle.plain_effects.proofs.Boxes.{held}

-- ---- regions

pub all_framed : (region : Region) (e : Extent) → IsRegion region → e ≡ extent_of (frame_of region) → HasAll (Some e) (is_inside region)
all_framed region e is same p h = subst (λ (f : Extent). is_in_extent f p ≡ true) (sym same) (framed region is p h)

-- ---- what is brought in a direction

-- what lies in an extent, one axis at a time
record IsIn (e : Extent) (p : Pos) : Type 0 where
  x : is_among e.x p.x ≡ true
  y : is_among e.y p.y ≡ true
  z : is_among e.z p.z ≡ true

within : (e : Extent) (p : Pos) → is_in_extent e p ≡ true → IsIn e p
within e p h =
    let first = and_both (is_among e.x p.x && is_among e.y p.y) (is_among e.z p.z) h in
    let two = and_both (is_among e.x p.x) (is_among e.y p.y) first.0 in
    record { x = two.0; y = two.1; z = first.1 }

-- on an axis along which coordinates fall, and along which they rise
fallen : (i : Interval) (low : ℤ) (n : ℕ) (v : ℤ) → low ≤ℤ v → is_among i (v -ℤ neg_ℤ (pos n)) ≡ true → is_among (record { from = low; to = i.to }) v ≡ true
fallen i low n v reach h = grind (arith, ints)

risen : (i : Interval) (end : ℤ) (n : ℕ) (v : ℤ) → v <ℤ end → is_among i (v +ℤ neg_ℤ (pos n)) ≡ true → is_among (record { from = i.from; to = end }) v ≡ true
risen i end n v reach h = grind (arith, ints)

in_strip : (to : Direction) (e : Extent) (n : ℕ) (p : Pos) → IsOnMap p → is_in_extent e (away to (neg_ℤ (pos n)) p) ≡ true → is_in_extent (strip_of to e) p ≡ true
in_strip North e n p map h = let is = within e (away North (neg_ℤ (pos n)) p) h in both_true (both_true is.x is.y) (fallen e.z (strip_of North e).z.from n p.z map.least_z is.z)
in_strip South e n p map h = let is = within e (away South (neg_ℤ (pos n)) p) h in both_true (both_true is.x is.y) (risen e.z (strip_of South e).z.to n p.z map.most_z is.z)
in_strip East e n p map h = let is = within e (away East (neg_ℤ (pos n)) p) h in both_true (both_true (risen e.x (strip_of East e).x.to n p.x map.most_x is.x) is.y) is.z
in_strip West e n p map h = let is = within e (away West (neg_ℤ (pos n)) p) h in both_true (both_true (fallen e.x (strip_of West e).x.from n p.x map.least_x is.x) is.y) is.z
in_strip Up e n p map h = let is = within e (away Up (neg_ℤ (pos n)) p) h in both_true (both_true is.x (risen e.y (strip_of Up e).y.to n p.y map.most_y is.y)) is.z
in_strip Down e n p map h = let is = within e (away Down (neg_ℤ (pos n)) p) h in both_true (both_true is.x (fallen e.y (strip_of Down e).y.from n p.y map.least_y is.y)) is.z

pub all_brought : (from : Selection) (to : Direction) (own strip : Extent) → IsSelection from → own ≡ extent_of (frame_of_selection from) → strip ≡ strip_of to own → HasBrought strip from to
all_brought from to own strip is same goes n p map h =
    subst (λ (e : Extent). is_in_extent e p ≡ true) (sym goes)
    (in_strip to own n p map (all_framed (Selected from) own is same (away to (neg_ℤ (pos n)) p) h))

-- ---- clipboards

pub nothing_copied : (clip : Clip) (w : World) (place : Pos) → IsSelection clip.from → None ≡ option_map corners (clip_box_of clip w.area) → HasAll None (λ p. is_some ((clipboard_of clip w).at (relative_to place p)))
nothing_copied clip w place is none p h = by_bounds (clip_box_of clip w.area) none (cells_in_bounds clip w is (relative_to place p) h)
  where
    by_bounds : (o : Option Area) → None ≡ option_map corners o → option_map_or (λ (bounds : Area). holds bounds (relative_to place p)) o false ≡ true → false ≡ true
    by_bounds None e inside = inside
    by_bounds (Some bounds) e inside = absurd cc

from_place : (place low : ℤ) (size : ℕ) (v : ℤ) → is_from low size (v -ℤ place) ≡ true → is_from (place +ℤ low) size v ≡ true
from_place place low size v h = grind (arith, ints)

-- a position of a box, counted from a place, lies in the box at that place
held_placed : (place : Pos) (a : Area) (p : Pos) → holds a (relative_to place p) ≡ true → holds (record a { least = placed_at place a.least }) p ≡ true
held_placed place a p h =
    let s = held a (relative_to place p) h in
    both_true (both_true (from_place place.x a.least.x a.width p.x s.x) (from_place place.y a.least.y a.height p.y s.y)) (from_place place.z a.least.z a.length p.z s.z)

pub all_copied : (clip : Clip) (w : World) (place : Pos) (b : RelativeBox) (e : Extent) → IsSelection clip.from → Some b ≡ option_map corners (clip_box_of clip w.area)
    → ((box : Area) → b ≡ corners box → e ≡ extent_of (record box { least = placed_at place box.least })) → HasAll (Some e) (λ p. is_some ((clipboard_of clip w).at (relative_to place p)))
all_copied clip w place b e is some placed p h = by_bounds (clip_box_of clip w.area) some (cells_in_bounds clip w is (relative_to place p) h)
  where
    by_bounds : (o : Option Area) → Some b ≡ option_map corners o → option_map_or (λ (bounds : Area). holds bounds (relative_to place p)) o false ≡ true → is_in_extent e p ≡ true
    by_bounds None f inside = absurd cc
    by_bounds (Some bounds) f inside =
        let same : b ≡ corners bounds = cc in
        let at : e ≡ extent_of (record bounds { least = placed_at place bounds.least }) = placed bounds same in
        subst (λ (f : Extent). is_in_extent f p ≡ true) (sym at) (held_placed place bounds p inside)

-- ---- single positions

same_among : (u v : ℤ) → int_eq u v ≡ true → is_among (numbers_from u 1) v ≡ true
same_among u v h = let e : u ≡ v = grind (arith, ints) in subst (λ (c : ℤ). is_among (numbers_from u 1) c ≡ true) e (own u)
  where
    own : (u : ℤ) → is_among (numbers_from u 1) u ≡ true
    own u = grind (arith, ints)

pub has_single : (at : Pos) (e : Extent) → e ≡ extent_of (single_box at) → HasAll (Some e) (is_same_pos at)
has_single at e is p h =
    let first = and_both (int_eq at.x p.x && int_eq at.y p.y) (int_eq at.z p.z) h in
    let two = and_both (int_eq at.x p.x) (int_eq at.y p.y) first.0 in
    subst (λ (f : Extent). is_in_extent f p ≡ true) (sym is)
    (both_true (both_true (same_among at.x p.x two.0) (same_among at.y p.y two.1)) (same_among at.z p.z first.1))
