-- The copies of a stack lie side by side: together they are one box.
use Rattle.std.proofs.Common.{◌≡◌, ℕ, zero, suc, ◌+◌, ◌-◌, ◌*◌, ◌/◌, ◌%◌, ◌<◌, ◌≤◌, Bool, true, ◌&&◌, List, ℤ, pos, ◌+ℤ◌, ◌-ℤ◌, ◌*ℤ◌, refl, sym, ◌∙◌, ap, arith}
use Rattle.std.specs.Prelude.{nat_abs}
use Rattle.std.specs.List.{list_any, range_with_len}
use Rattle.std.specs.Cmp.Derive.{both_true}
use Rattle.std.proofs.lemmas.Int.{ints}
use Rattle.std.proofs.lemmas.Nat.{div-add-mod', div_below, mod_below}
use Rattle.std.proofs.Math.Nat.{mul-le-mul}
use Rattle.edit_terms.specs.declared.direction.Direction.{Direction}
use Rattle.edit_terms.specs.declared.direction.Direction.TheVariants.{North, South, East, West, Up, Down}
use Rattle.edit_terms.specs.declared.pos.Pos.{Pos}
use Rattle.edit_terms.specs.Area.{Area, is_from, holds}
use Rattle.edit_terms.specs.Frame.{size_along}
use Rattle.run_terms.specs.Access.{is_chunk_of_box, moved_box, stacked_boxes}
use Rattle.region_shapes.specs.Interval.{numbers_from, shifted}
use Rattle.region_shapes.specs.Extents.{extent_of}
use Rattle.region_shapes.proofs.ExtentLemmas.{same_interval, same_extent, size_of_numbers}
use Rattle.command_plan.specs.Stacks.{stack_hull, moved_extent, copies_behind, copies_before, stacked_extent}
use Rattle.command_plan.proofs.ChunkLemmas.{same_tests, found_in, any_found, any_of_map, holds_parts, block_of_chunk, chunk_of_block}

-- ---- extents of boxes

onward_numbers : (low : ℤ) (size by : ℕ) → shifted (pos by) (numbers_from low size) ≡ numbers_from (low +ℤ pos by) size
onward_numbers low size by = same_interval _ _ refl (omega (arith, ints))

backward_numbers : (low : ℤ) (size by : ℕ) → shifted (pos 0 -ℤ pos by) (numbers_from low size) ≡ numbers_from (low -ℤ pos by) size
backward_numbers low size by = same_interval _ _ (omega (arith, ints)) (omega (arith, ints))

pub moved_is : (to : Direction) (count : ℕ) (box : Area) → moved_extent to count (extent_of box) ≡ extent_of (moved_box to count box)
moved_is North count box = same_extent _ _ refl refl (backward_numbers box.least.z box.length count)
moved_is South count box = same_extent _ _ refl refl (onward_numbers box.least.z box.length count)
moved_is East count box = same_extent _ _ (onward_numbers box.least.x box.width count) refl refl
moved_is West count box = same_extent _ _ (backward_numbers box.least.x box.width count) refl refl
moved_is Up count box = same_extent _ _ refl (onward_numbers box.least.y box.height count) refl
moved_is Down count box = same_extent _ _ refl (backward_numbers box.least.y box.height count) refl

behind_numbers : (low : ℤ) (n count : ℕ) → copies_behind count (numbers_from low n) ≡ numbers_from (low +ℤ pos n) (count * n)
behind_numbers low n count = ap (λ (m : ℕ). numbers_from (low +ℤ pos n) (count * m)) (size_of_numbers low n)

before_numbers : (low : ℤ) (n count : ℕ) → copies_before count (numbers_from low n) ≡ numbers_from (low -ℤ pos (count * n)) (count * n)
before_numbers low n count =
    ap (λ (m : ℕ). record { from = low -ℤ pos (count * m); to = low }) (size_of_numbers low n)
    ∙ same_interval _ _ refl (back_again low (count * n))
  where
    back_again : (low : ℤ) (far : ℕ) → low ≡ (low -ℤ pos far) +ℤ pos far
    back_again low far = omega (arith, ints)

pub stacked_is : (to : Direction) (count : ℕ) (box : Area) → stacked_extent to count (extent_of box) ≡ extent_of (stack_hull count to box)
stacked_is North count box = same_extent _ _ refl refl (before_numbers box.least.z box.length count)
stacked_is South count box = same_extent _ _ refl refl (behind_numbers box.least.z box.length count)
stacked_is East count box = same_extent _ _ (behind_numbers box.least.x box.width count) refl refl
stacked_is West count box = same_extent _ _ (before_numbers box.least.x box.width count) refl refl
stacked_is Up count box = same_extent _ _ refl (behind_numbers box.least.y box.height count) refl
stacked_is Down count box = same_extent _ _ refl (before_numbers box.least.y box.height count) refl

-- ---- along one axis

-- a copy of a stack
record IsCopy (count i : ℕ) : Type 0 where
  from : 1 ≤ i
  to : i ≤ count

onward_hull : (low v : ℤ) (size near far : ℕ) → size ≤ near → near ≤ far → is_from (low +ℤ pos near) size v ≡ true → is_from (low +ℤ pos size) far v ≡ true
onward_hull low v size near far a b h = grind (arith, ints)

backward_hull : (low v : ℤ) (size near far : ℕ) → size ≤ near → near ≤ far → is_from (low -ℤ pos near) size v ≡ true → is_from (low -ℤ pos far) far v ≡ true
backward_hull low v size near far a b h = grind (arith, ints)

onward_in : (low v : ℤ) (size count i : ℕ) → IsCopy count i → is_from (low +ℤ pos (i * size)) size v ≡ true → is_from (low +ℤ pos size) (count * size) v ≡ true
onward_in low v size count i is h =
    let near : 1 * size ≤ i * size = mul-le-mul is.from (omega arith) in
    let far : i * size ≤ count * size = mul-le-mul is.to (omega arith) in
    onward_hull low v size (i * size) (count * size) (omega (arith, near)) far h

backward_in : (low v : ℤ) (size count i : ℕ) → IsCopy count i → is_from (low -ℤ pos (i * size)) size v ≡ true → is_from (low -ℤ pos (count * size)) (count * size) v ≡ true
backward_in low v size count i is h =
    let near : 1 * size ≤ i * size = mul-le-mul is.from (omega arith) in
    let far : i * size ≤ count * size = mul-le-mul is.to (omega arith) in
    backward_hull low v size (i * size) (count * size) (omega (arith, near)) far h

-- which copy has a coordinate: one more than how many copies lie between
record IsCopyOf (held : ℕ → Bool) (count : ℕ) : Type 0 where
  number : ℕ
  is : IsCopy count number
  has : held number ≡ true

onward_held : (low v : ℤ) (size d below next : ℕ) → v ≡ low +ℤ pos size +ℤ pos d → below ≤ d → d < below + size → next ≡ below + size → is_from (low +ℤ pos next) size v ≡ true
onward_held low v size d below next at low_end high_end e = grind (arith, ints)

backward_held : (low v : ℤ) (size d below next : ℕ) → v +ℤ pos 1 +ℤ pos d ≡ low → below ≤ d → d < below + size → next ≡ below + size → is_from (low -ℤ pos next) size v ≡ true
backward_held low v size d below next at low_end high_end e = grind (arith, ints)

record IsShare (d size : ℕ) : Type 0 where
  low : d / size * size ≤ d
  high : d < d / size * size + size

some_size : (size count d : ℕ) → d < count * size → 0 < size
some_size zero count d h = absurd (omega (arith, h))
some_size (suc size) count d h = omega arith

share : (d size : ℕ) → 0 < size → IsShare d size
share d size some =
    let whole : d / size * size + d % size ≡ d = div-add-mod' d size in
    let rest : d % size < size = mod_below d size some in
    record { low = omega (arith, whole); high = omega (arith, whole, rest) }

onward_of : (low v : ℤ) (size count d : ℕ) → v ≡ low +ℤ pos size +ℤ pos d → d < count * size → IsCopyOf (λ i. is_from (low +ℤ pos (i * size)) size v) count
onward_of low v size count d at below =
    let some = some_size size count d below in
    let part = share d size some in
    let q = d / size in
    let few : q < count = div_below d size count some below in
    let next : (q + 1) * size ≡ q * size + size = omega arith in
    record { number = q + 1; is = record { from = omega arith; to = omega (arith, few) }; has = onward_held low v size d (q * size) ((q + 1) * size) at part.low part.high next }

backward_of : (low v : ℤ) (size count d : ℕ) → v +ℤ pos 1 +ℤ pos d ≡ low → d < count * size → IsCopyOf (λ i. is_from (low -ℤ pos (i * size)) size v) count
backward_of low v size count d at below =
    let some = some_size size count d below in
    let part = share d size some in
    let q = d / size in
    let few : q < count = div_below d size count some below in
    let next : (q + 1) * size ≡ q * size + size = omega arith in
    record { number = q + 1; is = record { from = omega arith; to = omega (arith, few) }; has = backward_held low v size d (q * size) ((q + 1) * size) at part.low part.high next }

-- how far a coordinate of the hull lies behind the selection
record IsBehind (at : ℕ → ℤ) (v : ℤ) (far : ℕ) : Type 0 where
  d : ℕ
  place : at d ≡ v
  below : d < far

onward_gap : (low v : ℤ) (size far : ℕ) → is_from (low +ℤ pos size) far v ≡ true → IsBehind (λ d. low +ℤ pos size +ℤ pos d) v far
onward_gap low v size far h = record { d = nat_abs (v -ℤ (low +ℤ pos size)); place = grind (arith, ints); below = grind (arith, ints) }

backward_gap : (low v : ℤ) (far : ℕ) → is_from (low -ℤ pos far) far v ≡ true → IsBehind (λ d. low -ℤ pos 1 -ℤ pos d) v far
backward_gap low v far h = record { d = nat_abs (low -ℤ pos 1 -ℤ v); place = grind (arith, ints); below = grind (arith, ints) }

gap_end : (low v : ℤ) (d : ℕ) → low -ℤ pos 1 -ℤ pos d ≡ v → v +ℤ pos 1 +ℤ pos d ≡ low
gap_end low v d e = omega (arith, ints, e)

onward_copy : (low v : ℤ) (size count : ℕ) → is_from (low +ℤ pos size) (count * size) v ≡ true → IsCopyOf (λ i. is_from (low +ℤ pos (i * size)) size v) count
onward_copy low v size count h = let gap = onward_gap low v size (count * size) h in onward_of low v size count gap.d (sym gap.place) gap.below

backward_copy : (low v : ℤ) (size count : ℕ) → is_from (low -ℤ pos (count * size)) (count * size) v ≡ true → IsCopyOf (λ i. is_from (low -ℤ pos (i * size)) size v) count
backward_copy low v size count h = let gap = backward_gap low v (count * size) h in backward_of low v size count gap.d (gap_end low v gap.d gap.place) gap.below

-- ---- boxes

copy_in_hull : (to : Direction) (box : Area) (count i : ℕ) (p : Pos) → IsCopy count i → holds (moved_box to (i * size_along to box) box) p ≡ true → holds (stack_hull count to box) p ≡ true
copy_in_hull North box count i p is h = let parts = holds_parts (moved_box North (i * size_along North box) box) p h in both_true (both_true parts.0 parts.1) (backward_in box.least.z p.z box.length count i is parts.2)
copy_in_hull South box count i p is h = let parts = holds_parts (moved_box South (i * size_along South box) box) p h in both_true (both_true parts.0 parts.1) (onward_in box.least.z p.z box.length count i is parts.2)
copy_in_hull East box count i p is h = let parts = holds_parts (moved_box East (i * size_along East box) box) p h in both_true (both_true (onward_in box.least.x p.x box.width count i is parts.0) parts.1) parts.2
copy_in_hull West box count i p is h = let parts = holds_parts (moved_box West (i * size_along West box) box) p h in both_true (both_true (backward_in box.least.x p.x box.width count i is parts.0) parts.1) parts.2
copy_in_hull Up box count i p is h = let parts = holds_parts (moved_box Up (i * size_along Up box) box) p h in both_true (both_true parts.0 (onward_in box.least.y p.y box.height count i is parts.1)) parts.2
copy_in_hull Down box count i p is h = let parts = holds_parts (moved_box Down (i * size_along Down box) box) p h in both_true (both_true parts.0 (backward_in box.least.y p.y box.height count i is parts.1)) parts.2

hull_in_copy : (to : Direction) (box : Area) (count : ℕ) (p : Pos) → holds (stack_hull count to box) p ≡ true → IsCopyOf (λ i. holds (moved_box to (i * size_along to box) box) p) count
hull_in_copy North box count p h = let parts = holds_parts (stack_hull count North box) p h in let copy = backward_copy box.least.z p.z box.length count parts.2 in record { number = copy.number; is = copy.is; has = both_true (both_true parts.0 parts.1) copy.has }
hull_in_copy South box count p h = let parts = holds_parts (stack_hull count South box) p h in let copy = onward_copy box.least.z p.z box.length count parts.2 in record { number = copy.number; is = copy.is; has = both_true (both_true parts.0 parts.1) copy.has }
hull_in_copy East box count p h = let parts = holds_parts (stack_hull count East box) p h in let copy = onward_copy box.least.x p.x box.width count parts.0 in record { number = copy.number; is = copy.is; has = both_true (both_true copy.has parts.1) parts.2 }
hull_in_copy West box count p h = let parts = holds_parts (stack_hull count West box) p h in let copy = backward_copy box.least.x p.x box.width count parts.0 in record { number = copy.number; is = copy.is; has = both_true (both_true copy.has parts.1) parts.2 }
hull_in_copy Up box count p h = let parts = holds_parts (stack_hull count Up box) p h in let copy = onward_copy box.least.y p.y box.height count parts.1 in record { number = copy.number; is = copy.is; has = both_true (both_true parts.0 copy.has) parts.2 }
hull_in_copy Down box count p h = let parts = holds_parts (stack_hull count Down box) p h in let copy = backward_copy box.least.y p.y box.height count parts.1 in record { number = copy.number; is = copy.is; has = both_true (both_true parts.0 copy.has) parts.2 }

-- a chunk has a block of one of the copies exactly where it has one of the hull
pub stack_is_hull : (area box : Area) (chunk count : ℕ) (to : Direction) → list_any (is_chunk_of_box area chunk) (stacked_boxes count to box) ≡ is_chunk_of_box area chunk (stack_hull count to box)
stack_is_hull area box chunk count to =
    any_of_map (is_chunk_of_box area chunk) (λ i. moved_box to (i * size_along to box) box) (range_with_len 1 count)
    ∙ same_tests _ _ there back
  where
    there : list_any (λ i. is_chunk_of_box area chunk (moved_box to (i * size_along to box) box)) (range_with_len 1 count) ≡ true → is_chunk_of_box area chunk (stack_hull count to box) ≡ true
    there h =
        let found = found_in (λ i. is_chunk_of_box area chunk (moved_box to (i * size_along to box) box)) 1 count h in
        let from = found.from in let end = found.to in
        let block = block_of_chunk area (moved_box to (found.place * size_along to box) box) chunk found.is in
        chunk_of_block area (stack_hull count to box) chunk (record {
          block = block.block;
          in_box = copy_in_hull to box count found.place block.block (record { from = from; to = omega arith }) block.in_box;
          in_area = block.in_area;
          place = block.place;
        })

    back : is_chunk_of_box area chunk (stack_hull count to box) ≡ true → list_any (λ i. is_chunk_of_box area chunk (moved_box to (i * size_along to box) box)) (range_with_len 1 count) ≡ true
    back h =
        let block = block_of_chunk area (stack_hull count to box) chunk h in
        let copy = hull_in_copy to box count block.block block.in_box in
        let from = copy.is.from in let end = copy.is.to in
        any_found (λ i. is_chunk_of_box area chunk (moved_box to (i * size_along to box) box)) 1 count copy.number from (omega arith)
        (chunk_of_block area (moved_box to (copy.number * size_along to box) box) chunk (record { block = block.block; in_box = copy.has; in_area = block.in_area; place = block.place }))
