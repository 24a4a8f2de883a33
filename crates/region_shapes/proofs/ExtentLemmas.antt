-- Equal ends make equal intervals, and equal intervals equal extents. A world's box lies on the map.
use Rattle.std.proofs.Common.{◌≡◌, ℕ, ◌<◌, ℤ, true, false, subst, arith}
use Rattle.std.proofs.lemmas.Int.{ints}
use Rattle.edit_terms.specs.Area.{Area, is_world_box}
use Rattle.edit_terms.proofs.AreaLemmas.{on_map}
use Rattle.region_shapes.specs.declared.interval.Interval.{Interval}
use Rattle.region_shapes.specs.declared.extent.Extent.{Extent}
use Rattle.region_shapes.specs.Interval.{numbers_from, is_empty, size, common}
use Rattle.region_shapes.specs.Extents.{extent_of, common_extent, IsPartOfMap, IsExtentOnMap}

pub same_interval : (i j : Interval) → i.from ≡ j.from → i.to ≡ j.to → i ≡ j
same_interval i j from to = λ k. record { from = from k; to = to k }

pub same_extent : (e f : Extent) → e.x ≡ f.x → e.y ≡ f.y → e.z ≡ f.z → e ≡ f
same_extent e f x y z = λ k. record { x = x k; y = y k; z = z k }

pub extent_on_map : (a : Area) → is_world_box a ≡ true → IsExtentOnMap (extent_of a)
extent_on_map a world =
    let place = on_map a world in
    let x = place.x.to in
    let y_from = place.y.from in let y_to = place.y.to in
    let z = place.z.to in
    record {
      x = record { from = place.x.from; to = grind (arith, ints) };
      y = record { from = grind (arith, ints); to = grind (arith, ints) };
      z = record { from = place.z.from; to = grind (arith, ints) };
    }

pub size_of_empty : (i : Interval) → is_empty i ≡ true → size i ≡ 0
size_of_empty i h = grind (arith, ints)

pub size_of_some : (i : Interval) → is_empty i ≡ false → 0 < size i
size_of_some i h = grind (arith, ints)

pub size_of_numbers : (low : ℤ) (n : ℕ) → size (numbers_from low n) ≡ n
size_of_numbers low n = grind (arith, ints)

-- what is so of two extents is so of the boxes that they are those of
pub as_boxes : (P : Extent → Extent → Type 0) (e f : Extent) (a b : Area) → e ≡ extent_of a → f ≡ extent_of b → P e f → P (extent_of a) (extent_of b)
as_boxes P e f a b first second h = subst (λ (g : Extent). P (extent_of a) g) second (subst (λ (g : Extent). P g f) first h)

common_part_of_map : (i j : Interval) → IsPartOfMap j → IsPartOfMap (common i j)
common_part_of_map i j is = let from = is.from in let to = is.to in record { from = grind (arith, ints); to = grind (arith, ints) }

pub common_on_map : (e f : Extent) → IsExtentOnMap f → IsExtentOnMap (common_extent e f)
common_on_map e f is = record { x = common_part_of_map e.x f.x is.x; y = common_part_of_map e.y f.y is.y; z = common_part_of_map e.z f.z is.z }
