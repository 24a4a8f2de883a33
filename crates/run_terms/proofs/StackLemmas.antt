-- At most one copy of a stack comes to a position: the copies lie side by side, each as long as the selection's frame.
use Rattle.std.proofs.Common.{◌≡◌, ℕ, ◌+◌, ◌*◌, ◌<◌, ◌≤◌, true, ◌&&◌, ℤ, pos, ◌+ℤ◌, ◌-ℤ◌, inl, inr, arith}
use Rattle.std.specs.Prelude.{neg_ℤ}
use Rattle.std.proofs.lemmas.Bool.{cases_order, and_parts}
use Rattle.std.proofs.lemmas.Int.{ints}
use Rattle.std.proofs.lemmas.Nat.{mul-le}
use Rattle.edit_terms.specs.declared.pos.Pos.{Pos}
use Rattle.edit_terms.specs.declared.direction.Direction.{Direction}
use Rattle.edit_terms.specs.declared.direction.Direction.TheVariants.{North, South, East, West, Up, Down}
use Rattle.edit_terms.specs.declared.region.Region.TheVariants.{Selected}
use Rattle.edit_terms.specs.declared.region.Selection.{Selection}
use Rattle.edit_terms.specs.Area.{Area, is_from, holds}
use Rattle.edit_terms.specs.Neighbour.{away}
use Rattle.edit_terms.specs.Frame.{IsSelection, frame_of_selection, size_along}
use Rattle.edit_terms.proofs.RegionLemmas.{framed}
use Rattle.run_terms.specs.Effect.{copy_source, ComesFromOneCopy}

-- multiples of a number that differ by less than it are the same
next_multiple : (n i j : ℕ) → i < j → i * n + n ≤ j * n
next_multiple n i j below =
    let more : (i + 1) * n ≤ j * n = mul-le (i + 1) n j n (omega (arith, below)) (omega arith) in
    let sum : (i + 1) * n ≡ i * n + n = omega arith in
    omega (arith, more, sum)

same_multiple : (n i j : ℕ) → i * n < j * n + n → j * n < i * n + n → i ≡ j
same_multiple n i j a b = elim (cases_order i j) [
  | inl same ↦ same
  | inr other ↦ elim other [
    | inl below ↦ absurd (omega (arith, next_multiple n i j below, a, b))
    | inr above ↦ absurd (omega (arith, next_multiple n j i above, a, b))
  ]
]

-- two coordinates of one row, so far before and so far behind another
steps_back : (low c : ℤ) (n a b : ℕ) → is_from low n (c +ℤ neg_ℤ (pos a)) ≡ true → is_from low n (c +ℤ neg_ℤ (pos b)) ≡ true → a < b + n
steps_back low c n a b p q = grind (arith, ints)

steps_on : (low c : ℤ) (n a b : ℕ) → is_from low n (c -ℤ neg_ℤ (pos a)) ≡ true → is_from low n (c -ℤ neg_ℤ (pos b)) ≡ true → a < b + n
steps_on low c n a b p q = grind (arith, ints)

-- a position of a box is among the box's coordinates along each axis
held_x : (a : Area) (p : Pos) → holds a p ≡ true → is_from a.least.x a.width p.x ≡ true
held_x a p h = (and_parts (is_from a.least.x a.width p.x) (is_from a.least.y a.height p.y) (and_parts (is_from a.least.x a.width p.x && is_from a.least.y a.height p.y) (is_from a.least.z a.length p.z) h).0).0

held_y : (a : Area) (p : Pos) → holds a p ≡ true → is_from a.least.y a.height p.y ≡ true
held_y a p h = (and_parts (is_from a.least.x a.width p.x) (is_from a.least.y a.height p.y) (and_parts (is_from a.least.x a.width p.x && is_from a.least.y a.height p.y) (is_from a.least.z a.length p.z) h).0).1

held_z : (a : Area) (p : Pos) → holds a p ≡ true → is_from a.least.z a.length p.z ≡ true
held_z a p h = (and_parts (is_from a.least.x a.width p.x && is_from a.least.y a.height p.y) (is_from a.least.z a.length p.z) h).1

-- two positions of a box, so many blocks back from one in a direction, are less than the box's size apart
apart : (frame : Area) (to : Direction) (p : Pos) (a b : ℕ) → holds frame (away to (neg_ℤ (pos a)) p) ≡ true → holds frame (away to (neg_ℤ (pos b)) p) ≡ true → a < b + size_along to frame
apart frame North p a b h k = steps_on frame.least.z p.z frame.length a b (held_z frame (away North (neg_ℤ (pos a)) p) h) (held_z frame (away North (neg_ℤ (pos b)) p) k)
apart frame South p a b h k = steps_back frame.least.z p.z frame.length a b (held_z frame (away South (neg_ℤ (pos a)) p) h) (held_z frame (away South (neg_ℤ (pos b)) p) k)
apart frame East p a b h k = steps_back frame.least.x p.x frame.width a b (held_x frame (away East (neg_ℤ (pos a)) p) h) (held_x frame (away East (neg_ℤ (pos b)) p) k)
apart frame West p a b h k = steps_on frame.least.x p.x frame.width a b (held_x frame (away West (neg_ℤ (pos a)) p) h) (held_x frame (away West (neg_ℤ (pos b)) p) k)
apart frame Up p a b h k = steps_back frame.least.y p.y frame.height a b (held_y frame (away Up (neg_ℤ (pos a)) p) h) (held_y frame (away Up (neg_ℤ (pos b)) p) k)
apart frame Down p a b h k = steps_on frame.least.y p.y frame.height a b (held_y frame (away Down (neg_ℤ (pos a)) p) h) (held_y frame (away Down (neg_ℤ (pos b)) p) k)

pub comes_from_one_copy : (from : Selection) (to : Direction) (p : Pos) → IsSelection from → ComesFromOneCopy from to p
comes_from_one_copy from to p is = λ i j first second.
    let frame = frame_of_selection from in
    let n = size_along to frame in
    let h = framed (Selected from) is (copy_source from to p i) first in
    let k = framed (Selected from) is (copy_source from to p j) second in
    same_multiple n i j (apart frame to p (i * n) (j * n) h k) (apart frame to p (j * n) (i * n) k h)
