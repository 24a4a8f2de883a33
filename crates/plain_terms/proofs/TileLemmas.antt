-- A clipboard repeated in each direction.
use Rattle.std.proofs.Common.{◌≡◌, ℕ, zero, suc, ◌*◌, ◌%◌, ◌<◌, Bool, true, false, cond, ℤ, pos, ◌+ℤ◌, ◌-ℤ◌, ◌≤ℤ◌, refl, sym, ap, ◌∙◌, subst, arith}
use Rattle.std.specs.Prelude.{Option, Some, None, option_map, nat_eq}
use Rattle.std.specs.Option.{option_map_or, unwrap_or}
use Rattle.std.specs.Int.{int_rem_euclid}
use Rattle.std.proofs.lemmas.Int.{ints}
use Rattle.edit_terms.specs.declared.pos.Pos.{Pos}
use Rattle.edit_terms.specs.declared.direction.Direction.TheVariants.{East, Up}
use Rattle.edit_terms.specs.declared.transform.Transform.{Transform}
use Rattle.edit_terms.specs.declared.clip.Clip.{Clip}
use Rattle.edit_terms.specs.Area.{Area, volume}
use Rattle.edit_terms.specs.Frame.{frame_of_selection, common_box}
use Rattle.edit_terms.specs.World.{BlockContent}
use Rattle.edit_terms.specs.Transform.{times}
use Rattle.edit_terms.specs.Clipboard.{CopiedBlocks, clip_box_of, relative_to, turned_area, quarter_turned_area, flipped_area, tile_coordinate, tile_of, tiled}
use Rattle.clipboard_transform.specs.declared.relative_box.RelativeBox.{RelativeBox}
use Rattle.clipboard_transform.specs.Bounds.{corners, last_from}
use Rattle.plain_terms.specs.Copies.{IsBox, tile_between, tile_in}

-- ---- the tile

same_size : (low : ℤ) (size : ℕ) → last_from low size -ℤ low +ℤ pos 1 ≡ pos size
same_size low size = omega (arith, ints)

same_tile : (low : ℤ) (size : ℕ) (v : ℤ) → tile_between low (last_from low size) v ≡ tile_coordinate low size v
same_tile low size v = ap (λ (n : ℤ). low +ℤ int_rem_euclid v n) (same_size low size)

tile_corners : (a : Area) (p : Pos) → tile_in (corners a) p ≡ tile_of a p
tile_corners a p = λ i. record { x = same_tile a.least.x a.width p.x i; y = same_tile a.least.y a.height p.y i; z = same_tile a.least.z a.length p.z i }

pub no_tile : (o : Option Area) (p : Pos) → option_map corners o ≡ None → option_map (λ (bounds : Area). tile_of bounds p) o ≡ None
no_tile None p none = refl
no_tile (Some a) p none = absurd cc

pub some_tile : (o : Option Area) (p : Pos) (b : RelativeBox) → option_map corners o ≡ Some b → option_map (λ (bounds : Area). tile_of bounds p) o ≡ Some (tile_in b p)
some_tile None p b some = absurd cc
some_tile (Some a) p b some =
    let same : corners a ≡ b = cc in
    ap (λ (q : Pos). Some q) (sym (tile_corners a p)) ∙ ap (λ (c : RelativeBox). Some (tile_in c p)) same

-- ---- bounds have a block

record IsFilled (a : Area) : Type 0 where
  width : 0 < a.width
  height : 0 < a.height
  length : 0 < a.length

filled : (w h l : ℕ) → nat_eq (w * h * l) 0 ≡ false → (least : Pos) → IsFilled (record { least = least; width = w; height = h; length = l })
filled zero h l some least = absurd (grind arith)
filled (suc w) zero l some least = absurd (grind arith)
filled (suc w) (suc h) zero some least = absurd (grind arith)
filled (suc w) (suc h) (suc l) some least = record { width = omega arith; height = omega arith; length = omega arith }

filled_times : (n : ℕ) (a : Area) → IsFilled a → IsFilled (times n quarter_turned_area a)
filled_times zero a is = is
filled_times (suc n) a is =
    let before = filled_times n a is in
    record { width = before.length; height = before.height; length = before.width }

filled_east : (b : Bool) (a : Area) → IsFilled a → IsFilled (cond b (flipped_area East a) a)
filled_east true a is = record { width = is.width; height = is.height; length = is.length }
filled_east false a is = is

filled_up : (b : Bool) (a : Area) → IsFilled a → IsFilled (cond b (flipped_area Up a) a)
filled_up true a is = record { width = is.width; height = is.height; length = is.length }
filled_up false a is = is

filled_turned : (t : Transform) (a : Area) → IsFilled a → IsFilled (turned_area t a)
filled_turned t a is = filled_times (t.turns % 4) _ (filled_up t.flip_y _ (filled_east t.flip_x a is))

last_after : (low : ℤ) (size : ℕ) → 0 < size → low ≤ℤ last_from low size
last_after low size some = omega (arith, ints, some)

corners_box : (a : Area) → IsFilled a → IsBox (corners a)
corners_box a is = record { x = last_after a.least.x a.width is.width; y = last_after a.least.y a.height is.height; z = last_after a.least.z a.length is.length }

pub bounds_are_box : (clip : Clip) (area : Area) (b : RelativeBox) → option_map corners (clip_box_of clip area) ≡ Some b → IsBox b
bounds_are_box clip area b some = by_test (nat_eq (volume shared) 0) refl some
  where
    shared : Area
    shared = common_box (frame_of_selection clip.from) area

    moved : Area
    moved = record shared { least = relative_to clip.origin shared.least }

    by_test : (none : Bool) → nat_eq (volume shared) 0 ≡ none → option_map corners (cond none None (Some (turned_area clip.transform moved))) ≡ Some b → IsBox b
    by_test true empty is = absurd cc
    by_test false full is =
        let same : corners (turned_area clip.transform moved) ≡ b = cc in
        subst IsBox same (corners_box (turned_area clip.transform moved) (filled_turned clip.transform moved (filled shared.width shared.height shared.length full moved.least)))

-- ---- what is found there

pub tiled_nowhere : (copied : CopiedBlocks) (p : Pos) (old : BlockContent) → option_map (λ (bounds : Area). tile_of bounds p) copied.bounds ≡ None → tiled copied p old ≡ old
tiled_nowhere copied p old none = by_bounds copied.bounds none
  where
    by_bounds : (o : Option Area) → option_map (λ (bounds : Area). tile_of bounds p) o ≡ None → option_map_or (λ (bounds : Area). unwrap_or (copied.at (tile_of bounds p)) old) o old ≡ old
    by_bounds None is = refl
    by_bounds (Some a) is = absurd cc

at_tile : (copied : CopiedBlocks) (p : Pos) (old : BlockContent) (tile : Pos) → option_map (λ (bounds : Area). tile_of bounds p) copied.bounds ≡ Some tile → tiled copied p old ≡ unwrap_or (copied.at tile) old
at_tile copied p old tile some = by_bounds copied.bounds some
  where
    by_bounds : (o : Option Area) → option_map (λ (bounds : Area). tile_of bounds p) o ≡ Some tile → option_map_or (λ (bounds : Area). unwrap_or (copied.at (tile_of bounds p)) old) o old ≡ unwrap_or (copied.at tile) old
    by_bounds None is = absurd cc
    by_bounds (Some a) is =
        let same : tile_of a p ≡ tile = cc in
        ap (λ (q : Pos). unwrap_or (copied.at q) old) same

pub tiled_empty : (copied : CopiedBlocks) (p : Pos) (old : BlockContent) (tile : Pos) → option_map (λ (bounds : Area). tile_of bounds p) copied.bounds ≡ Some tile → copied.at tile ≡ None → tiled copied p old ≡ old
tiled_empty copied p old tile some none = at_tile copied p old tile some ∙ ap (λ (o : Option BlockContent). unwrap_or o old) none

pub tiled_found : (copied : CopiedBlocks) (p : Pos) (old : BlockContent) (tile : Pos) (found : BlockContent) → option_map (λ (bounds : Area). tile_of bounds p) copied.bounds ≡ Some tile → copied.at tile ≡ Some found → tiled copied p old ≡ found
tiled_found copied p old tile found some is = at_tile copied p old tile some ∙ ap (λ (o : Option BlockContent). unwrap_or o old) is
