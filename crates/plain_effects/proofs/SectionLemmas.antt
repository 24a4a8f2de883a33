-- The section of a box that has each of its blocks in an extent.
use Rattle.std.proofs.Common.{◌≡◌, ℕ, ◌+◌, ◌*◌, ◌/◌, ◌%◌, ◌<◌, Bool, true, ◌&&◌, ℤ, pos, ◌+ℤ◌, ◌-ℤ◌, sym, ap, ◌∙◌, subst, arith}
use Rattle.std.specs.Cmp.Derive.{both_true}
use Rattle.std.proofs.lemmas.Bool.Decides.{nat_tests}
use Rattle.std.proofs.lemmas.Int.{ints}
use Rattle.std.proofs.lemmas.Nat.{mul-lt, mod_below, div_below}
use Rattle.edit_terms.specs.Area.{Area, position_of, is_world_box}
use Rattle.edit_terms.proofs.AreaLemmas.{and_both, limits}
use Rattle.region_shapes.specs.declared.extent.Extent.{Extent}
use Rattle.region_shapes.specs.declared.interval.Interval.{Interval}
use Rattle.region_shapes.specs.Extents.{extent_of}
use Rattle.region_shapes.specs.Interval.{is_among, is_empty, size, common, numbers_from}
use Rattle.region_shapes.proofs.ExtentLemmas.{size_of_numbers}
use Rattle.plain_effects.specs.declared.section.Span.{Span}
use Rattle.plain_effects.specs.declared.section.Section.{Section}
use Rattle.plain_effects.specs.Sections.{is_in_span, HasExtent, IsSectionOf, IsSpanOf}

-- the span has the offsets, from the first of its own numbers on, of those that an interval has too
abbrev HasShared : Interval → Interval → Span → Type 0
HasShared own i s = (n : ℕ) → is_among own (own.from +ℤ pos n) ≡ true → is_among i (own.from +ℤ pos n) ≡ true → is_in_span s n ≡ true

shared_among : (i own : Interval) (v : ℤ) → is_among own v ≡ true → is_among i v ≡ true → is_among (common i own) v ≡ true
shared_among i own v h g = grind (arith, ints)

none_among : (i : Interval) (v : ℤ) (b : Bool) → is_empty i ≡ true → is_among i v ≡ true → b ≡ true
none_among i v b none h = absurd (grind (arith, ints))

offset_in : (shared : Interval) (low : ℤ) (s : Span) (n : ℕ) → pos s.from ≡ shared.from -ℤ low → pos s.to ≡ shared.to -ℤ low → is_among shared (low +ℤ pos n) ≡ true → is_in_span s n ≡ true
offset_in shared low s n from to h = grind (arith, ints, nat_tests)

pub nothing_shared : (i own shared : Interval) (s : Span) → shared ≡ common i own → is_empty shared ≡ true → HasShared own i s
nothing_shared i own shared s is none n h g =
    none_among shared (own.from +ℤ pos n) (is_in_span s n) none
    (subst (λ (j : Interval). is_among j (own.from +ℤ pos n) ≡ true) (sym is) (shared_among i own (own.from +ℤ pos n) h g))

-- the spans of the box's own coordinates make a section of the box
pub section_within : (a : Area) (own : Extent) (x y z : Span) → own ≡ extent_of a → IsSpanOf (size own.x) x → IsSpanOf (size own.y) y → IsSpanOf (size own.z) z
    → IsSectionOf a (record { x = x; y = y; z = z })
section_within a own x y z is in_x in_y in_z = record {
  x = subst (λ (n : ℕ). IsSpanOf n x) (ap (λ (e : Extent). size e.x) is ∙ size_of_numbers a.least.x a.width) in_x;
  y = subst (λ (n : ℕ). IsSpanOf n y) (ap (λ (e : Extent). size e.y) is ∙ size_of_numbers a.least.y a.height) in_y;
  z = subst (λ (n : ℕ). IsSpanOf n z) (ap (λ (e : Extent). size e.z) is ∙ size_of_numbers a.least.z a.length) in_z;
}

pub shared_in_span : (i own shared : Interval) (from to : ℕ) → shared ≡ common i own → pos from ≡ shared.from -ℤ own.from → pos to ≡ shared.to -ℤ own.from → HasShared own i (record { from = from; to = to })
shared_in_span i own shared from to is first end n h g =
    offset_in shared own.from (record { from = from; to = to }) n first end
    (subst (λ (j : Interval). is_among j (own.from +ℤ pos n) ≡ true) (sym is) (shared_among i own (own.from +ℤ pos n) h g))

-- the size numbers from low on begin with low, and the n-th of them is among them
nth_among : (low : ℤ) (size n : ℕ) → n < size → is_among (numbers_from low size) (low +ℤ pos n) ≡ true
nth_among low size n below = grind (arith, ints)

-- the offsets of a block in an extent lie in the spans
pub has_extent : (a : Area) (s : Section) (e own : Extent) → is_world_box a ≡ true → own ≡ extent_of a → HasShared own.x e.x s.x → HasShared own.y e.y s.y → HasShared own.z e.z s.z → HasExtent a s e
has_extent a s e own fits is shared_x shared_y shared_z index below h =
    let x : HasShared (numbers_from a.least.x a.width) e.x s.x = subst (λ (o : Extent). HasShared o.x e.x s.x) is shared_x in
    let y : HasShared (numbers_from a.least.y a.height) e.y s.y = subst (λ (o : Extent). HasShared o.y e.y s.y) is shared_y in
    let z : HasShared (numbers_from a.least.z a.length) e.z s.z = subst (λ (o : Extent). HasShared o.z e.z s.z) is shared_z in
    let limit = limits a fits in
    let w = a.width in
    let l = a.length in
    let p = position_of a index in
    let first = and_both (is_among e.x p.x && is_among e.y p.y) (is_among e.z p.z) h in
    let two = and_both (is_among e.x p.x) (is_among e.y p.y) first.0 in
    let layer : 0 < w * l = omega (arith, mul-lt 0 0 w l limit.width limit.length) in
    let order : index < a.height * (w * l) = omega (arith, below) in
    let in_x = nth_among a.least.x w (index % w) (mod_below index w limit.width) in
    let in_y = nth_among a.least.y a.height (index / (w * l)) (div_below index (w * l) a.height layer order) in
    let in_z = nth_among a.least.z l (index / w % l) (mod_below (index / w) l limit.length) in
    both_true (both_true (x (index % w) in_x two.0) (y (index / (w * l)) in_y two.1)) (z (index / w % l) in_z first.1)
