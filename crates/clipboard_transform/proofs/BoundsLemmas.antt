-- The corners of a box that is turned, and of one that is counted from another position.
use Rattle.std.proofs.Common.{◌≡◌, ℕ, zero, suc, refl, true, false, Bool, ℤ, pos, negsuc, ◌<◌, ◌≤◌, ◌+ℤ◌, ◌-ℤ◌, ◌≤ℤ◌, ◌<ℤ◌, sym, ◌∙◌, ap, arith}
use Rattle.std.specs.Prelude.{neg_ℤ, ◌*◌, ◌==◌, ◌%◌, if◌then◌else◌, None, Some, option_map}
use Rattle.std.proofs.lemmas.Int.{ints}
use Rattle.std.proofs.lemmas.Bool.Decides.{nat_tests}
use Rattle.std.proofs.Math.Nat.{mul-le-mul}
use Rattle.edit_terms.specs.declared.pos.Pos.{Pos}
use Rattle.edit_terms.specs.declared.direction.Direction.{Direction}
use Rattle.edit_terms.specs.declared.direction.Direction.TheVariants.{North, South, East, West, Up, Down}
use Rattle.edit_terms.specs.declared.transform.Transform.{Transform}
use Rattle.edit_terms.specs.declared.clip.Clip.{Clip}
use Rattle.edit_terms.specs.Area.{Area, volume, is_world_box}
use Rattle.edit_terms.specs.Frame.{frame_of_selection, common_box}
use Rattle.edit_terms.proofs.AreaLemmas.{limits, on_map}
use Rattle.edit_terms.specs.Transform.{times}
use Rattle.edit_terms.specs.Clipboard.{relative_to, clip_box_of, mirrored, quarter_turned_area, flipped_area, turned_area}
use Rattle.clipboard_transform.specs.declared.relative_box.RelativeBox.{RelativeBox}
use Rattle.clipboard_transform.specs.Bounds.{IsBoxOnMap, last_from, greatest_of, corners, quarter_turned_box, flipped_box, turned_box}

mirrored_last : (low : ℤ) (n : ℕ) → last_from (mirrored low n) n ≡ neg_ℤ low
mirrored_last low n = omega (arith, ints)

quarter_corners : (a : Area) → corners (quarter_turned_area a) ≡ quarter_turned_box (corners a)
quarter_corners a = ap (λ x. record { least = (quarter_turned_area a).least; greatest = record { x = x; y = last_from a.least.y a.height; z = last_from a.least.x a.width } }) (mirrored_last a.least.z a.length)

x_corners : (a : Area) → corners (flipped_area East a) ≡ flipped_box East (corners a)
x_corners a = ap (λ x. record { least = (flipped_area East a).least; greatest = record (greatest_of a) { x = x } }) (mirrored_last a.least.x a.width)

y_corners : (a : Area) → corners (flipped_area Up a) ≡ flipped_box Up (corners a)
y_corners a = ap (λ y. record { least = (flipped_area Up a).least; greatest = record (greatest_of a) { y = y } }) (mirrored_last a.least.y a.height)

z_corners : (a : Area) → corners (flipped_area South a) ≡ flipped_box South (corners a)
z_corners a = ap (λ z. record { least = (flipped_area South a).least; greatest = record (greatest_of a) { z = z } }) (mirrored_last a.least.z a.length)

flipped_corners : (to : Direction) (a : Area) → corners (flipped_area to a) ≡ flipped_box to (corners a)
flipped_corners North a = z_corners a
flipped_corners South a = z_corners a
flipped_corners East a = x_corners a
flipped_corners West a = x_corners a
flipped_corners Up a = y_corners a
flipped_corners Down a = y_corners a

maybe_flipped : (flips : Bool) (to : Direction) (a : Area) → corners (if flips then flipped_area to a else a) ≡ (if flips then flipped_box to (corners a) else corners a)
maybe_flipped true to a = flipped_corners to a
maybe_flipped false to a = refl

times_corners : (n : ℕ) (a : Area) → corners (times n quarter_turned_area a) ≡ times n quarter_turned_box (corners a)
times_corners zero a = refl
times_corners (suc n) a = quarter_corners (times n quarter_turned_area a) ∙ ap quarter_turned_box (times_corners n a)

pub turned_corners : (t : Transform) (a : Area) → corners (turned_area t a) ≡ turned_box t (corners a)
turned_corners t a =
    let east = if t.flip_x then flipped_area East a else a in
    let up = if t.flip_y then flipped_area Up east else east in
    times_corners (t.turns % 4) up
    ∙ ap (λ b. times (t.turns % 4) quarter_turned_box b) (maybe_flipped t.flip_y Up east)
    ∙ ap (λ b. times (t.turns % 4) quarter_turned_box (if t.flip_y then flipped_box Up b else b)) (maybe_flipped t.flip_x East a)

relative_last : (low o : ℤ) (n : ℕ) → last_from low n -ℤ o ≡ last_from (low -ℤ o) n
relative_last low o n = omega (arith, ints)

pub relative_greatest : (o : Pos) (a : Area) → relative_to o (greatest_of a) ≡ greatest_of (record a { least = relative_to o a.least })
relative_greatest o a =
    ap (λ x. record { x = x; y = last_from a.least.y a.height -ℤ o.y; z = last_from a.least.z a.length -ℤ o.z }) (relative_last a.least.x o.x a.width)
    ∙ ap (λ y. record { x = last_from (a.least.x -ℤ o.x) a.width; y = y; z = last_from a.least.z a.length -ℤ o.z }) (relative_last a.least.y o.y a.height)
    ∙ ap (λ z. record { x = last_from (a.least.x -ℤ o.x) a.width; y = last_from (a.least.y -ℤ o.y) a.height; z = z }) (relative_last a.least.z o.z a.length)

pub clip_corners : (t : Transform) (o : Pos) (a : Area) (b : RelativeBox) → b.least ≡ relative_to o a.least → b.greatest ≡ relative_to o (greatest_of a)
    → turned_box t b ≡ corners (turned_area t (record a { least = relative_to o a.least }))
clip_corners t o a b least greatest =
    ap (λ p. turned_box t (record { least = p; greatest = b.greatest })) least
    ∙ ap (λ p. turned_box t (record { least = relative_to o a.least; greatest = p })) (greatest ∙ relative_greatest o a)
    ∙ sym (turned_corners t (record a { least = relative_to o a.least }))

-- ---- a world's box on the map

last_within : (first : ℤ) (count : ℕ) (low : ℤ) (size : ℕ) → 0 < size → first ≤ℤ low → (low +ℤ pos size) ≤ℤ (first +ℤ pos count)
    → (first ≤ℤ last_from low size) × (last_from low size <ℤ (first +ℤ pos count))
last_within first count low size some from to = (omega (arith, ints, some, from), omega (arith, ints, to))

first_within : (first : ℤ) (count : ℕ) (low : ℤ) (size : ℕ) → 0 < size → (low +ℤ pos size) ≤ℤ (first +ℤ pos count) → low <ℤ (first +ℤ pos count)
first_within first count low size some to = omega (arith, ints, some, to)

pub box_on_map : (a : Area) → is_world_box a ≡ true → IsBoxOnMap (corners a)
box_on_map a h =
    let fits = limits a h in
    let place = on_map a h in
    let x = last_within (negsuc 33554431) 67108864 a.least.x a.width fits.width place.x.from place.x.to in
    let y = last_within (negsuc 2047) 4096 a.least.y a.height fits.height place.y.from place.y.to in
    let z = last_within (negsuc 33554431) 67108864 a.least.z a.length fits.length place.z.from place.z.to in
    record {
      least = record {
        least_x = place.x.from;
        most_x = first_within (negsuc 33554431) 67108864 a.least.x a.width fits.width place.x.to;
        least_y = place.y.from;
        most_y = first_within (negsuc 2047) 4096 a.least.y a.height fits.height place.y.to;
        least_z = place.z.from;
        most_z = first_within (negsuc 33554431) 67108864 a.least.z a.length fits.length place.z.to;
      };
      greatest = record { least_x = x.0; most_x = x.1; least_y = y.0; most_y = y.1; least_z = z.0; most_z = z.1 };
    }

pub least_y : (a : Area) → is_world_box a ≡ true → negsuc 33554431 ≤ℤ a.least.y
least_y a h = let from = (on_map a h).y.from in omega (arith, ints, from)

pub least_z : (a : Area) → is_world_box a ≡ true → negsuc 33554431 ≤ℤ a.least.z
least_z a h = (on_map a h).z.from

-- ---- the bounds of a clipboard

not_zero : (n : ℕ) → 0 < n → (n == 0) ≡ false
not_zero n h = grind (arith, nat_tests)

some_volume : (w h l : ℕ) → 0 < w → 0 < h → 0 < l → (w * h * l == 0) ≡ false
some_volume w h l wide high long =
    let one : (n : ℕ) → 0 < n → 1 ≤ n = λ n h. omega (arith, h) in
    let flat : 1 * 1 ≤ w * h = mul-le-mul (one w wide) (one h high) in
    let all : 1 * 1 * 1 ≤ w * h * l = mul-le-mul flat (one l long) in
    not_zero (w * h * l) (omega (arith, all))

pub some_bounds : (clip : Clip) (area shared : Area) (b : RelativeBox) → is_world_box shared ≡ true → shared ≡ common_box (frame_of_selection clip.from) area
    → b ≡ corners (turned_area clip.transform (record shared { least = relative_to clip.origin shared.least })) → Some b ≡ option_map corners (clip_box_of clip area)
some_bounds clip area shared b h is turned =
    let fits = limits shared h in
    let some = some_volume shared.width shared.height shared.length fits.width fits.height fits.length in
    ap Some turned
    ∙ ap (λ test. option_map corners (if test then None else Some (turned_area clip.transform (record shared { least = relative_to clip.origin shared.least })))) (sym some)
    ∙ ap (λ a. option_map corners (if volume a == 0 then None else Some (turned_area clip.transform (record a { least = relative_to clip.origin a.least })))) is
