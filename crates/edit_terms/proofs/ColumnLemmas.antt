-- Columns of 16 blocks along one axis.
--
-- A column of 16 from a part's first to its last has a block of the part: the greater one of the part's first and the
-- column's.
use Rattle.std.proofs.Common.{◌≡◌, ℕ, ◌+◌, ◌-◌, ◌<◌, ◌≤◌, true, ℤ, pos, negsuc, ◌+ℤ◌, ◌-ℤ◌, ◌*ℤ◌, ◌≤ℤ◌, ◌<ℤ◌, ◌∙◌, ap, arith}
use Rattle.std.specs.Prelude.{nat_abs, int_le}
use Rattle.std.specs.Int.{int_max}
use Rattle.std.proofs.lemmas.Int.{ints}
use Rattle.edit_terms.specs.Area.{is_from, is_within, offset, sixteenth, columns}
use Rattle.edit_terms.proofs.AreaLemmas.{and_both}

pub sixteenth_low : (v : ℤ) → (sixteenth v *ℤ pos 16) ≤ℤ v
sixteenth_low (pos a) = grind (arith, ints)
sixteenth_low (negsuc a) = grind (arith, ints)

pub sixteenth_high : (v : ℤ) → v <ℤ (sixteenth v *ℤ pos 16 +ℤ pos 16)
sixteenth_high (pos a) = grind (arith, ints)
sixteenth_high (negsuc a) = grind (arith, ints)

sixteenth_is : (v q : ℤ) → (q *ℤ pos 16) ≤ℤ v → v <ℤ (q *ℤ pos 16 +ℤ pos 16) → sixteenth v ≡ q
sixteenth_is v q low high = let a = sixteenth_low v in let b = sixteenth_high v in grind (arith, ints)

pub sixteenth_rises : (u v : ℤ) → u ≤ℤ v → sixteenth u ≤ℤ sixteenth v
sixteenth_rises u v h = let a = sixteenth_low u in let b = sixteenth_high v in grind (arith, ints)

-- A block of the part in the column of 16 that comes so many behind the box's first.
pub record IsInColumn (base low : ℤ) (size x : ℕ) (v : ℤ) : Type 0 where
  pub held : is_from low size v ≡ true
  pub column : offset (sixteenth base) (sixteenth v) ≡ x

-- the same, with the columns as plain numbers: of the box's first, of the part's first and last, and this one
column_start : (cb cl : ℤ) (x : ℕ) → cb ≤ℤ cl → nat_abs (cl -ℤ cb) ≤ x → cl ≤ℤ (cb +ℤ pos x)
column_start cb cl x order h = grind (arith, ints)

column_end : (cb cl ce : ℤ) (x : ℕ) → cb ≤ℤ cl → cl ≤ℤ ce → x < nat_abs (cl -ℤ cb) + (nat_abs (ce -ℤ cl) + 1) → (cb +ℤ pos x) ≤ℤ ce
column_end cb cl ce x order further h = grind (arith, ints)

block_held : (low : ℤ) (size : ℕ) (c ce : ℤ) → 0 < size → c ≤ℤ ce → (ce *ℤ pos 16) ≤ℤ (low +ℤ pos (size - 1)) → is_from low size (int_max low (c *ℤ pos 16)) ≡ true
block_held low size c ce some order last = grind (arith, ints)

block_low : (low c : ℤ) → (c *ℤ pos 16) ≤ℤ int_max low (c *ℤ pos 16)
block_low low c = grind (arith, ints)

block_high : (low c cl : ℤ) → cl ≤ℤ c → low <ℤ (cl *ℤ pos 16 +ℤ pos 16) → int_max low (c *ℤ pos 16) <ℤ (c *ℤ pos 16 +ℤ pos 16)
block_high low c cl order h = grind (arith, ints)

behind_first : (cb : ℤ) (x : ℕ) → nat_abs (cb +ℤ pos x -ℤ cb) ≡ x
behind_first cb x = grind (arith, ints)

pub last_not_below : (low : ℤ) (size : ℕ) → low ≤ℤ (low +ℤ pos (size - 1))
last_not_below low size = grind (arith, ints)

pub block_in_column : (base low : ℤ) (size x : ℕ) → base ≤ℤ low → 0 < size → offset (sixteenth base) (sixteenth low) ≤ x → x < offset (sixteenth base) (sixteenth low) + columns low size
    → IsInColumn base low size x (int_max low ((sixteenth base +ℤ pos x) *ℤ pos 16))
block_in_column base low size x order some from to =
    let last = low +ℤ pos (size - 1) in
    let cb = sixteenth base in let cl = sixteenth low in let ce = sixteenth last in
    let c = cb +ℤ pos x in
    let first_two = sixteenth_rises base low order in
    let last_two = sixteenth_rises low last (last_not_below low size) in
    let start : cl ≤ℤ c = column_start cb cl x first_two from in
    let end_at : c ≤ℤ ce = column_end cb cl ce x first_two last_two to in
    let is : sixteenth (int_max low (c *ℤ pos 16)) ≡ c = sixteenth_is (int_max low (c *ℤ pos 16)) c (block_low low c) (block_high low c cl start (sixteenth_high low)) in
    record {
      held = block_held low size c ce some end_at (sixteenth_low last);
      column = ap (λ (q : ℤ). nat_abs (q -ℤ cb)) is ∙ behind_first cb x;
    }

-- and the column of a block of the part is one from the part's first to its last
pub record IsColumnOf (base low : ℤ) (size : ℕ) (v : ℤ) : Type 0 where
  pub from : offset (sixteenth base) (sixteenth low) ≤ offset (sixteenth base) (sixteenth v)
  pub to : offset (sixteenth base) (sixteenth v) < offset (sixteenth base) (sixteenth low) + columns low size

offset_order : (cb cl cv : ℤ) → cb ≤ℤ cl → cl ≤ℤ cv → nat_abs (cl -ℤ cb) ≤ nat_abs (cv -ℤ cb)
offset_order cb cl cv a b = grind (arith, ints)

offset_end : (cb cl cv ce : ℤ) → cb ≤ℤ cl → cl ≤ℤ cv → cv ≤ℤ ce → nat_abs (cv -ℤ cb) < nat_abs (cl -ℤ cb) + (nat_abs (ce -ℤ cl) + 1)
offset_end cb cl cv ce a b c = grind (arith, ints)

from_low : (low : ℤ) (size : ℕ) (v : ℤ) → is_from low size v ≡ true → low ≤ℤ v
from_low low size v h = grind (arith, ints)

to_last : (low : ℤ) (size : ℕ) (v : ℤ) → is_from low size v ≡ true → v ≤ℤ (low +ℤ pos (size - 1))
to_last low size v h = grind (arith, ints)

pub column_of_block : (base low : ℤ) (size : ℕ) (v : ℤ) → base ≤ℤ low → is_from low size v ≡ true → IsColumnOf base low size v
column_of_block base low size v order held =
    let last = low +ℤ pos (size - 1) in
    let first_two = sixteenth_rises base low order in
    let next = sixteenth_rises low v (from_low low size v held) in
    let last_two = sixteenth_rises v last (to_last low size v held) in
    record {
      from = offset_order (sixteenth base) (sixteenth low) (sixteenth v) first_two next;
      to = offset_end (sixteenth base) (sixteenth low) (sixteenth v) (sixteenth last) first_two next last_two;
    }

-- ---- a part's columns

-- what it says on one axis that a part lies in a box
pub record IsWithinAxis (base : ℤ) (whole : ℕ) (low : ℤ) (size : ℕ) : Type 0 where
  pub from : base ≤ℤ low
  pub to : (low +ℤ pos size) ≤ℤ (base +ℤ pos whole)

pub within_axis : (base : ℤ) (whole : ℕ) (low : ℤ) (size : ℕ) → is_within base whole low size ≡ true → IsWithinAxis base whole low size
within_axis base whole low size h =
    let parts = and_both (int_le base low) (int_le (low +ℤ pos size) (base +ℤ pos whole)) h in
    let p0 = parts.0 in let p1 = parts.1 in
    record { from = grind (arith, ints); to = grind (arith, ints) }

-- the part's columns are among the box's
pub columns_within : (base : ℤ) (whole : ℕ) (low : ℤ) (size : ℕ) → 0 < size → IsWithinAxis base whole low size → offset (sixteenth base) (sixteenth low) + columns low size ≤ columns base whole
columns_within base whole low size some h =
    let from = h.from in let to = h.to in
    let lasts : (low +ℤ pos (size - 1)) ≤ℤ (base +ℤ pos (whole - 1)) = grind (arith, ints) in
    fits (sixteenth base) (sixteenth low) (sixteenth (low +ℤ pos (size - 1))) (sixteenth (base +ℤ pos (whole - 1)))
    (sixteenth_rises base low from) (sixteenth_rises low (low +ℤ pos (size - 1)) (last_not_below low size)) (sixteenth_rises (low +ℤ pos (size - 1)) (base +ℤ pos (whole - 1)) lasts)
  where
    fits : (cb cl ce cw : ℤ) → cb ≤ℤ cl → cl ≤ℤ ce → ce ≤ℤ cw → nat_abs (cl -ℤ cb) + (nat_abs (ce -ℤ cl) + 1) ≤ nat_abs (cw -ℤ cb) + 1
    fits cb cl ce cw a b c = grind (arith, ints)

-- at most 65,535 blocks have at most 4,097 columns
pub few_columns : (low : ℤ) (size : ℕ) → size ≤ 65535 → columns low size ≤ 4097
few_columns low size h =
    few (sixteenth low) (sixteenth (low +ℤ pos (size - 1))) low size h (sixteenth_rises low (low +ℤ pos (size - 1)) (last_not_below low size)) (sixteenth_high low) (sixteenth_low (low +ℤ pos (size - 1)))
  where
    few : (cl ce low : ℤ) (size : ℕ) → size ≤ 65535 → cl ≤ℤ ce → low <ℤ (cl *ℤ pos 16 +ℤ pos 16) → (ce *ℤ pos 16) ≤ℤ (low +ℤ pos (size - 1)) → nat_abs (ce -ℤ cl) + 1 ≤ 4097
    few cl ce low size h order a b = grind (arith, ints)
