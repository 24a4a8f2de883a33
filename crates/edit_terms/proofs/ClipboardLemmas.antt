-- The cells of a clipboard lie in its bounds: what lies in two boxes lies in the box they have in common, and turns and
-- flips of a box and of its positions go together.
use Rattle.std.proofs.Common.{◌≡◌, ℕ, zero, suc, ◌-◌, ◌*◌, ◌%◌, ◌<◌, Bool, true, false, ◌&&◌, cond, ℤ, pos, negsuc, ◌+ℤ◌, ◌-ℤ◌, ◌≤ℤ◌, ◌<ℤ◌, Some, None, refl, sym, ap, ◌∙◌, subst, arith}
use Rattle.std.specs.Prelude.{⊤, neg_ℤ, int_le, int_lt, ◌==◌, is_some}
use Rattle.std.specs.Option.{option_map_or}
use Rattle.std.proofs.lemmas.Bool.{and_parts, and_from, ne_eqb}
use Rattle.std.proofs.lemmas.Int.{ints}
use Rattle.std.proofs.lemmas.Nat.{mul-lt, mod_below}
use Rattle.edit_terms.specs.declared.pos.Pos.{Pos}
use Rattle.edit_terms.specs.declared.direction.Direction.{Direction}
use Rattle.edit_terms.specs.declared.direction.Direction.TheVariants.{North, South, East, West, Up, Down}
use Rattle.edit_terms.specs.declared.transform.Transform.{Transform}
use Rattle.edit_terms.specs.declared.clip.Clip.{Clip}
use Rattle.edit_terms.specs.Area.{Area, is_from, holds, volume}
use Rattle.edit_terms.specs.declared.region.Region.TheVariants.{Selected}
use Rattle.edit_terms.specs.Region.{is_selected}
use Rattle.edit_terms.specs.Frame.{frame_of_selection, common_box, IsSelection}
use Rattle.edit_terms.specs.World.{World, content_at}
use Rattle.edit_terms.specs.Transform.{times, undone, quarter_turned_position, flipped_position, turned_position, source_position, turned_content}
use Rattle.edit_terms.specs.Clipboard.{relative_to, placed_at, mirrored, quarter_turned_area, flipped_area, turned_area, clip_box_of, copied_from, copied_content, clipboard_of, is_in_bounds, tile_coordinate, tile_of}
use Rattle.edit_terms.proofs.RegionLemmas.{framed, in_common_box}
use Rattle.edit_terms.proofs.TurnLemmas.{IsTurning, transformed-undone, undone-transformed}
use Rattle.edit_terms.proofs.PositionTurns.{position_turning}

-- ---- one coordinate

-- a coordinate that is one of the size from low on
record IsFrom (low : ℤ) (size : ℕ) (v : ℤ) : Type 0 where
  from : low ≤ℤ v
  below : v <ℤ (low +ℤ pos size)

from_test : (low : ℤ) (size : ℕ) (v : ℤ) → is_from low size v ≡ true → IsFrom low size v
from_test low size v h =
    let parts = and_parts (int_le low v) (int_lt v (low +ℤ pos size)) h in
    let p0 = parts.0 in let p1 = parts.1 in
    record { from = grind (arith, ints); below = grind (arith, ints) }

test_from : (low : ℤ) (size : ℕ) (v : ℤ) → low ≤ℤ v → v <ℤ (low +ℤ pos size) → is_from low size v ≡ true
test_from low size v g h =
    let from : int_le low v ≡ true = grind (arith, ints) in
    let below : int_lt v (low +ℤ pos size) ≡ true = grind (arith, ints) in
    and_from (int_le low v) (int_lt v (low +ℤ pos size)) from below

some_from : (low : ℤ) (size : ℕ) (v : ℤ) → is_from low size v ≡ true → 0 < size
some_from low size v h = let a = from_test low size v h in let a0 = a.from in let a1 = a.below in omega (arith, ints, a0, a1)

from_relative : (low : ℤ) (size : ℕ) (v o : ℤ) → is_from low size v ≡ true → is_from (low -ℤ o) size (v -ℤ o) ≡ true
from_relative low size v o h =
    let a = from_test low size v h in let a0 = a.from in let a1 = a.below in
    test_from (low -ℤ o) size (v -ℤ o) (omega (arith, ints, a0)) (omega (arith, ints, a1))

from_mirrored : (low : ℤ) (size : ℕ) (v : ℤ) → is_from low size v ≡ true → is_from (mirrored low size) size (neg_ℤ v) ≡ true
from_mirrored low size v h =
    let a = from_test low size v h in let a0 = a.from in let a1 = a.below in
    test_from (mirrored low size) size (neg_ℤ v) (omega (arith, ints, a1)) (omega (arith, ints, a0))

-- ---- boxes

-- what a box's test says, one axis at a time
record IsHeld (a : Area) (p : Pos) : Type 0 where
  x : is_from a.least.x a.width p.x ≡ true
  y : is_from a.least.y a.height p.y ≡ true
  z : is_from a.least.z a.length p.z ≡ true

held : (a : Area) (p : Pos) → holds a p ≡ true → IsHeld a p
held a p h =
    let first = and_parts (is_from a.least.x a.width p.x && is_from a.least.y a.height p.y) (is_from a.least.z a.length p.z) h in
    let two = and_parts (is_from a.least.x a.width p.x) (is_from a.least.y a.height p.y) first.0 in
    record { x = two.0; y = two.1; z = first.1 }

in_common : (a b : Area) (p : Pos) → holds a p ≡ true → holds b p ≡ true → holds (common_box a b) p ≡ true
in_common a b p g h = in_common_box a b p ∙ and_from (holds a p) (holds b p) g h

some_volume : (a : Area) (p : Pos) → holds a p ≡ true → (volume a == 0) ≡ false
some_volume a p h =
    let is = held a p h in
    let w = some_from a.least.x a.width p.x is.x in
    let u = some_from a.least.y a.height p.y is.y in
    let l = some_from a.least.z a.length p.z is.z in
    let flat : 0 < a.width * a.height = omega (arith, mul-lt 0 0 a.width a.height w u) in
    let all : 0 < volume a = omega (arith, mul-lt 0 0 (a.width * a.height) a.length flat l) in
    ne_eqb (volume a) 0 (λ e. omega (arith, all, e))

held_relative : (o : Pos) (a : Area) (p : Pos) → holds a p ≡ true → holds (record a { least = relative_to o a.least }) (relative_to o p) ≡ true
held_relative o a p h =
    let is = held a p h in
    and_from _ _ (and_from _ _ (from_relative a.least.x a.width p.x o.x is.x) (from_relative a.least.y a.height p.y o.y is.y)) (from_relative a.least.z a.length p.z o.z is.z)

held_turned : (a : Area) (r : Pos) → holds a r ≡ true → holds (quarter_turned_area a) (quarter_turned_position r) ≡ true
held_turned a r h =
    let is = held a r h in
    and_from _ _ (and_from _ _ (from_mirrored a.least.z a.length r.z is.z) is.y) is.x

held_flipped : (to : Direction) (a : Area) (r : Pos) → holds a r ≡ true → holds (flipped_area to a) (flipped_position to r) ≡ true
held_flipped North a r h = let is = held a r h in and_from _ _ (and_from _ _ is.x is.y) (from_mirrored a.least.z a.length r.z is.z)
held_flipped South a r h = let is = held a r h in and_from _ _ (and_from _ _ is.x is.y) (from_mirrored a.least.z a.length r.z is.z)
held_flipped East a r h = let is = held a r h in and_from _ _ (and_from _ _ (from_mirrored a.least.x a.width r.x is.x) is.y) is.z
held_flipped West a r h = let is = held a r h in and_from _ _ (and_from _ _ (from_mirrored a.least.x a.width r.x is.x) is.y) is.z
held_flipped Up a r h = let is = held a r h in and_from _ _ (and_from _ _ is.x (from_mirrored a.least.y a.height r.y is.y)) is.z
held_flipped Down a r h = let is = held a r h in and_from _ _ (and_from _ _ is.x (from_mirrored a.least.y a.height r.y is.y)) is.z

held_times : (n : ℕ) (a : Area) (r : Pos) → holds a r ≡ true → holds (times n quarter_turned_area a) (times n quarter_turned_position r) ≡ true
held_times zero a r h = h
held_times (suc n) a r h = held_turned (times n quarter_turned_area a) (times n quarter_turned_position r) (held_times n a r h)

held_if : (b : Bool) (to : Direction) (a : Area) (r : Pos) → holds a r ≡ true → holds (cond b (flipped_area to a) a) (cond b (flipped_position to r) r) ≡ true
held_if true to a r h = held_flipped to a r h
held_if false to a r h = h

pub held_transformed : (t : Transform) (a : Area) (r : Pos) → holds a r ≡ true → holds (turned_area t a) (turned_position t r) ≡ true
held_transformed t a r h =
    let box = cond t.flip_x (flipped_area East a) a in
    let q = cond t.flip_x (flipped_position East r) r in
    held_times (t.turns % 4) (cond t.flip_y (flipped_area Up box) box) (cond t.flip_y (flipped_position Up q) q) (held_if t.flip_y Up box q (held_if t.flip_x East a r h))

-- ---- boxes are turned and flipped as their positions

mirrored_twice : (low : ℤ) (size : ℕ) → mirrored (mirrored low size) size ≡ low
mirrored_twice low size = omega (arith, ints)

-- every box may be turned
abbrev pub AnyArea : Area → Type 0
AnyArea a = ⊤

area_twice : (to : Direction) (a : Area) → flipped_area to (flipped_area to a) ≡ a
area_twice North a = λ i. record a { least = record a.least { z = mirrored_twice a.least.z a.length i } }
area_twice South a = λ i. record a { least = record a.least { z = mirrored_twice a.least.z a.length i } }
area_twice East a = λ i. record a { least = record a.least { x = mirrored_twice a.least.x a.width i } }
area_twice West a = λ i. record a { least = record a.least { x = mirrored_twice a.least.x a.width i } }
area_twice Up a = λ i. record a { least = record a.least { y = mirrored_twice a.least.y a.height i } }
area_twice Down a = λ i. record a { least = record a.least { y = mirrored_twice a.least.y a.height i } }

pub area_turning : IsTurning AnyArea quarter_turned_area flipped_area
area_turning = record {
  turned = λ a h. tt;
  flipped = λ to a h. tt;
  four = λ a h i. record a { least = record { x = mirrored_twice a.least.x a.width i; y = a.least.y; z = mirrored_twice a.least.z a.length i } };
  twice = λ to a h. area_twice to a;
  along_z = λ a h. let e = sym (mirrored_twice a.least.x a.width) in λ i. record a { least = record { x = e i; y = a.least.y; z = mirrored a.least.z a.length } };
  south = λ a. refl;
  west = λ a. refl;
  down = λ a. refl;
  mirrored = λ a h. let e = sym (mirrored_twice a.least.x a.width) in λ i. record {
    least = record { x = mirrored (mirrored a.least.z a.length) a.length; y = a.least.y; z = e i };
    width = a.length;
    height = a.height;
    length = a.width;
  };
  upright = λ a h. refl;
  apart = λ a h. refl;
}

held_undone : (t : Transform) (a : Area) (r : Pos) → holds a r ≡ true → holds (undone quarter_turned_area flipped_area t a) (source_position t r) ≡ true
held_undone t a r h =
    let box = times ((4 - t.turns % 4) % 4) quarter_turned_area a in
    let q = times ((4 - t.turns % 4) % 4) quarter_turned_position r in
    held_if t.flip_x East (cond t.flip_y (flipped_area Up box) box) (cond t.flip_y (flipped_position Up q) q) (held_if t.flip_y Up box q (held_times ((4 - t.turns % 4) % 4) a r h))

answers_alike : (s t : Bool) → (s ≡ true → t ≡ true) → (t ≡ true → s ≡ true) → s ≡ t
answers_alike true t f g = sym (f refl)
answers_alike false true f g = g refl
answers_alike false false f g = refl

-- a box after a transform has the positions of the box after it, and no other
pub holds-turned : (t : Transform) (a : Area) (r : Pos) → holds (turned_area t a) (turned_position t r) ≡ holds a r
holds-turned t a r = answers_alike (holds (turned_area t a) (turned_position t r)) (holds a r)
    (λ h. subst (λ (b : Area). holds b r ≡ true) (undone-transformed area_turning t a tt)
    (subst (λ (q : Pos). holds (undone quarter_turned_area flipped_area t (turned_area t a)) q ≡ true) (undone-transformed position_turning t r tt) (held_undone t (turned_area t a) (turned_position t r) h)))
    (held_transformed t a r)

rem_from : (low : ℤ) (size : ℕ) (v : ℤ) → 0 < size → is_from low size (tile_coordinate low size v) ≡ true
rem_from low size (pos a) some =
    let below : a % size < size = mod_below a size some in
    test_from low size (tile_coordinate low size (pos a)) (omega (arith, ints)) (omega (arith, ints, below))
rem_from low size (negsuc a) some =
    let below : size - 1 - a % size < size = omega (arith, some) in
    test_from low size (tile_coordinate low size (negsuc a)) (omega (arith, ints)) (omega (arith, ints, below))

factors : (a b : ℕ) → 0 < a * b → (0 < a) × (0 < b)
factors zero b h = absurd (omega (arith, h))
factors (suc a) zero h = absurd (omega (arith, h))
factors (suc a) (suc b) h = (omega arith, omega arith)

-- a tile's position lies in the bounds
pub tile_held : (bounds : Area) (p : Pos) → 0 < volume bounds → holds bounds (tile_of bounds p) ≡ true
tile_held bounds p some =
    let flat = factors (bounds.width * bounds.height) bounds.length some in
    let sides = factors bounds.width bounds.height flat.0 in
    and_from _ _ (and_from _ _ (rem_from bounds.least.x bounds.width p.x sides.0) (rem_from bounds.least.y bounds.height p.y sides.1)) (rem_from bounds.least.z bounds.length p.z flat.1)

-- ---- clipboards

relative_placed : (o r : Pos) → relative_to o (placed_at o r) ≡ r
relative_placed o r =
    let x : o.x +ℤ r.x -ℤ o.x ≡ r.x = omega (arith, ints) in
    let y : o.y +ℤ r.y -ℤ o.y ≡ r.y = omega (arith, ints) in
    let z : o.z +ℤ r.z -ℤ o.z ≡ r.z = omega (arith, ints) in
    λ i. record { x = x i; y = y i; z = z i }

-- a relative position whose block is one of the frame's and of the world's lies in the bounds
in_box : (clip : Clip) (area : Area) (r : Pos) → holds (frame_of_selection clip.from) (copied_from clip r) ≡ true → holds area (copied_from clip r) ≡ true → option_map_or (λ bounds. holds bounds r) (clip_box_of clip area) false ≡ true
in_box clip area r g h =
    let p = copied_from clip r in
    let frame = frame_of_selection clip.from in
    let both : holds (common_box frame area) p ≡ true = in_common frame area p g h in
    let box : Area = record (common_box frame area) { least = relative_to clip.origin (common_box frame area).least } in
    let near : holds box (relative_to clip.origin p) ≡ true = held_relative clip.origin (common_box frame area) p both in
    let source : holds box (source_position clip.transform r) ≡ true = subst (λ (q : Pos). holds box q ≡ true) (relative_placed clip.origin (source_position clip.transform r)) near in
    let turned : holds (turned_area clip.transform box) r ≡ true =
    subst (λ (q : Pos). holds (turned_area clip.transform box) q ≡ true) (transformed-undone position_turning clip.transform r tt) (held_transformed clip.transform box (source_position clip.transform r) source) in
    ap (λ b. option_map_or (λ bounds. holds bounds r) (cond b None (Some (turned_area clip.transform box))) false) (some_volume (common_box frame area) p both) ∙ turned

from_some : {A : Type 0} (b : Bool) (a : A) → is_some (cond b (Some a) None) ≡ true → b ≡ true
from_some true a h = refl
from_some false a h = h

-- the cells of a clipboard lie in its bounds
pub cells_in_bounds : (clip : Clip) (w : World) → IsSelection clip.from → (r : Pos) → is_some (copied_content clip w r) ≡ true → is_in_bounds (clipboard_of clip w) r ≡ true
cells_in_bounds clip w is r some =
    let p = copied_from clip r in
    let both = from_some (is_selected clip.from p && holds w.area p) (turned_content clip.transform (content_at w p)) some in
    let parts = and_parts (is_selected clip.from p) (holds w.area p) both in
    in_box clip w.area r (framed (Selected clip.from) is p parts.0) parts.1
