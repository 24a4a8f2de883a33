-- Transforms over anything that can be turned and flipped. What is asked of a quarter turn and of the flips is
-- `IsTurning`; from it follow the inverse transform and the transforms that do one after another.
use Rattle.std.proofs.Common.{◌≡◌, ℕ, zero, suc, ◌+◌, ◌-◌, ◌*◌, ◌/◌, ◌%◌, ◌<◌, Bool, true, false, not, cond, refl, sym, ap, ◌∙◌, arith}
use Rattle.std.proofs.lemmas.Nat.{mod_below, div-add-mod'}
use Rattle.edit_terms.specs.declared.direction.Direction.{Direction}
use Rattle.edit_terms.specs.declared.direction.Direction.TheVariants.{North, South, East, West, Up, Down}
use Rattle.edit_terms.specs.declared.transform.Transform.{Transform}
use Rattle.edit_terms.specs.Transform.{times, transformed, undone, then_turn, then_flip}

-- what is asked of a quarter turn and the flips, of what P holds of
pub record IsTurning {A : Type 0} (P : A → Type 0) (turn : A → A) (flip : Direction → A → A) : Type 0 where
  pub turned : (a : A) → P a → P (turn a)
  pub flipped : (to : Direction) (a : A) → P a → P (flip to a)
  pub four : (a : A) → P a → times 4 turn a ≡ a
  pub twice : (to : Direction) (a : A) → P a → flip to (flip to a) ≡ a
  pub along_z : (a : A) → P a → flip North a ≡ times 2 turn (flip East a)
  pub south : (a : A) → flip South a ≡ flip North a
  pub west : (a : A) → flip West a ≡ flip East a
  pub down : (a : A) → flip Down a ≡ flip Up a
  pub mirrored : (a : A) → P a → flip East (turn a) ≡ times 3 turn (flip East a)
  pub upright : (a : A) → P a → flip Up (turn a) ≡ turn (flip Up a)
  pub apart : (a : A) → P a → flip East (flip Up a) ≡ flip Up (flip East a)

pub times_add : {A : Type 0} (m n : ℕ) (f : A → A) (a : A) → times m f (times n f a) ≡ times (m + n) f a
times_add zero n f a = let e : n ≡ 0 + n = omega arith in ap (λ k. times k f a) e
times_add (suc m) n f a = let e : suc (m + n) ≡ suc m + n = omega arith in ap f (times_add m n f a) ∙ ap (λ k. times k f a) e

-- a quarter of whole turns
by_quarters : (Q : ℕ → Type 0) → Q 0 → Q 1 → Q 2 → Q 3 → (n : ℕ) → n < 4 → Q n
by_quarters Q a b c d zero h = a
by_quarters Q a b c d (suc zero) h = b
by_quarters Q a b c d (suc (suc zero)) h = c
by_quarters Q a b c d (suc (suc (suc zero))) h = d
by_quarters Q a b c d (suc (suc (suc (suc n)))) h = absurd (omega (arith, h))

module _ {A : Type 0} {P : A → Type 0} {turn : A → A} {flip : Direction → A → A} (is : IsTurning P turn flip) where
  pub turned_times : (n : ℕ) (a : A) → P a → P (times n turn a)
  turned_times zero a h = h
  turned_times (suc n) a h = is.turned (times n turn a) (turned_times n a h)

  whole_turns : (k r : ℕ) (a : A) → P a → times (k * 4 + r) turn a ≡ times r turn a
  whole_turns zero r a h = let e : 0 * 4 + r ≡ r = omega arith in ap (λ n. times n turn a) e
  whole_turns (suc k) r a h =
      let e : suc k * 4 + r ≡ 4 + (k * 4 + r) = omega arith in
      ap (λ n. times n turn a) e ∙ sym (times_add 4 (k * 4 + r) turn a) ∙ is.four _ (turned_times (k * 4 + r) a h) ∙ whole_turns k r a h

  -- turns count modulo 4
  pub times_mod : (n : ℕ) (a : A) → P a → times (n % 4) turn a ≡ times n turn a
  times_mod n a h = sym (whole_turns (n / 4) (n % 4) a h) ∙ ap (λ m. times m turn a) (div-add-mod' n 4)

  same_turns : (m n : ℕ) (a : A) → P a → m % 4 ≡ n % 4 → times m turn a ≡ times n turn a
  same_turns m n a h e = sym (times_mod m a h) ∙ ap (λ k. times k turn a) e ∙ times_mod n a h

  -- a flip along x behind turns is one before as many turns the other way round
  east_times : (n : ℕ) (a : A) → P a → flip East (times n turn a) ≡ times (n * 3) turn (flip East a)
  east_times zero a h = refl
  east_times (suc n) a h =
      let e : 3 + n * 3 ≡ suc n * 3 = omega arith in
      is.mirrored _ (turned_times n a h) ∙ ap (times 3 turn) (east_times n a h) ∙ times_add 3 (n * 3) turn (flip East a) ∙ ap (λ k. times k turn (flip East a)) e

  up_times : (n : ℕ) (a : A) → P a → flip Up (times n turn a) ≡ times n turn (flip Up a)
  up_times zero a h = refl
  up_times (suc n) a h = is.upright _ (turned_times n a h) ∙ ap turn (up_times n a h)

  -- the flip, where it is done
  flip_if : Bool → Direction → A → A
  flip_if b to a = cond b (flip to a) a

  flipped_if : (b : Bool) (to : Direction) (a : A) → P a → P (flip_if b to a)
  unfolding flip_if
  flipped_if true to a h = is.flipped to a h
  flipped_if false to a h = h

  if_twice : (b : Bool) (to : Direction) (a : A) → P a → flip_if b to (flip_if b to a) ≡ a
  unfolding flip_if
  if_twice true to a h = is.twice to a h
  if_twice false to a h = refl

  flip_not : (b : Bool) (to : Direction) (a : A) → P a → flip to (flip_if b to a) ≡ flip_if (not b) to a
  unfolding flip_if
  flip_not true to a h = is.twice to a h
  flip_not false to a h = refl

  east_up : (b : Bool) (a : A) → P a → flip East (flip_if b Up a) ≡ flip_if b Up (flip East a)
  unfolding flip_if
  east_up true a h = is.apart a h
  east_up false a h = refl

  -- what the flips make
  both_flips : Transform → A → A
  both_flips t a = flip_if t.flip_y Up (flip_if t.flip_x East a)

  flips_kept : (t : Transform) (a : A) → P a → P (both_flips t a)
  unfolding both_flips
  flips_kept t a h = flipped_if t.flip_y Up _ (flipped_if t.flip_x East a h)

  pub transformed_kept : (t : Transform) (a : A) → P a → P (transformed turn flip t a)
  unfolding flip_if both_flips
  transformed_kept t a h = turned_times (t.turns % 4) _ (flips_kept t a h)

  transformed_is : (t : Transform) (a : A) → transformed turn flip t a ≡ times (t.turns % 4) turn (both_flips t a)
  unfolding flip_if both_flips
  transformed_is t a = refl

  -- the turns that are left to a whole one
  left_over : (n : ℕ) (a : A) → P a → n < 4 → times ((4 - n) % 4) turn (times n turn a) ≡ a
  left_over n a h below = times_add ((4 - n) % 4) n turn a ∙ same_turns ((4 - n) % 4 + n) 0 a h (by_quarters (λ k. ((4 - k) % 4 + k) % 4 ≡ 0) refl refl refl refl n below)

  left_before : (n : ℕ) (a : A) → P a → n < 4 → times n turn (times ((4 - n) % 4) turn a) ≡ a
  left_before n a h below = times_add n ((4 - n) % 4) turn a ∙ same_turns (n + (4 - n) % 4) 0 a h (by_quarters (λ k. (k + (4 - k) % 4) % 4 ≡ 0) refl refl refl refl n below)

  quarters : (t : Transform) → t.turns % 4 < 4
  quarters t = mod_below t.turns 4 (omega arith)

  -- the inverse transform behind the transform
  pub undone-transformed : (t : Transform) (a : A) → P a → undone turn flip t (transformed turn flip t a) ≡ a
  unfolding flip_if both_flips
  undone-transformed t a h =
      ap (λ b. flip_if t.flip_x East (flip_if t.flip_y Up b)) (left_over (t.turns % 4) (both_flips t a) (flips_kept t a h) (quarters t))
      ∙ ap (flip_if t.flip_x East) (if_twice t.flip_y Up (flip_if t.flip_x East a) (flipped_if t.flip_x East a h))
      ∙ if_twice t.flip_x East a h

  -- the transform behind its inverse
  pub transformed-undone : (t : Transform) (a : A) → P a → transformed turn flip t (undone turn flip t a) ≡ a
  unfolding flip_if both_flips
  transformed-undone t a h =
      let back = times ((4 - t.turns % 4) % 4) turn a in
      let kept : P back = turned_times ((4 - t.turns % 4) % 4) a h in
      ap (λ b. times (t.turns % 4) turn (flip_if t.flip_y Up b)) (if_twice t.flip_x East (flip_if t.flip_y Up back) (flipped_if t.flip_y Up back kept))
      ∙ ap (times (t.turns % 4) turn) (if_twice t.flip_y Up back kept)
      ∙ left_before (t.turns % 4) a h (quarters t)

  mod_again : (n : ℕ) → n % 4 % 4 ≡ n % 4
  mod_again n = by_quarters (λ k. k % 4 ≡ k) refl refl refl refl (n % 4) (mod_below n 4 (omega arith))

  -- turns behind a transform
  pub turned_after : (t : Transform) (q : ℕ) (a : A) → P a → transformed turn flip (then_turn t q) a ≡ times q turn (transformed turn flip t a)
  unfolding flip_if both_flips
  turned_after t q a h =
      let inside = both_flips t a in
      let kept : P inside = flips_kept t a h in
      let order : q + t.turns ≡ t.turns + q = omega arith in
      ap (λ k. times k turn inside) (mod_again (t.turns + q)) ∙ times_mod (t.turns + q) inside kept ∙ ap (λ k. times k turn inside) (sym order) ∙ sym (times_add q t.turns turn inside)
      ∙ ap (times q turn) (sym (times_mod t.turns inside kept))

  east_after : (t : Transform) (a : A) → P a → flip East (transformed turn flip t a) ≡ times (t.turns % 4 * 3) turn (flip_if t.flip_y Up (flip_if (not t.flip_x) East a))
  unfolding flip_if both_flips
  east_after t a h =
      let n = t.turns % 4 in
      let kept : P (flip_if t.flip_x East a) = flipped_if t.flip_x East a h in
      east_times n (both_flips t a) (flips_kept t a h)
      ∙ ap (times (n * 3) turn) (east_up t.flip_y (flip_if t.flip_x East a) kept ∙ ap (flip_if t.flip_y Up) (flip_not t.flip_x East a h))

  east_flipped : (t : Transform) (a : A) → P a → transformed turn flip (then_flip t East) a ≡ flip East (transformed turn flip t a)
  unfolding flip_if both_flips
  east_flipped t a h =
      let inside = flip_if t.flip_y Up (flip_if (not t.flip_x) East a) in
      let kept : P inside = flipped_if t.flip_y Up _ (flipped_if (not t.flip_x) East a h) in
      ap (λ k. times k turn inside) (mod_again (4 - t.turns % 4))
      ∙ same_turns ((4 - t.turns % 4) % 4) (t.turns % 4 * 3) inside kept (by_quarters (λ k. (4 - k) % 4 % 4 ≡ k * 3 % 4) refl refl refl refl (t.turns % 4) (quarters t))
      ∙ sym (east_after t a h)

  north_flipped : (t : Transform) (a : A) → P a → transformed turn flip (then_flip t North) a ≡ flip North (transformed turn flip t a)
  unfolding flip_if both_flips
  north_flipped t a h =
      let inside = flip_if t.flip_y Up (flip_if (not t.flip_x) East a) in
      let kept : P inside = flipped_if t.flip_y Up _ (flipped_if (not t.flip_x) East a h) in
      ap (λ k. times k turn inside) (mod_again (6 - t.turns % 4))
      ∙ same_turns ((6 - t.turns % 4) % 4) (2 + t.turns % 4 * 3) inside kept (by_quarters (λ k. (6 - k) % 4 % 4 ≡ (2 + k * 3) % 4) refl refl refl refl (t.turns % 4) (quarters t))
      ∙ sym (times_add 2 (t.turns % 4 * 3) turn inside)
      ∙ ap (times 2 turn) (sym (east_after t a h))
      ∙ sym (is.along_z _ (transformed_kept t a h))

  up_flipped : (t : Transform) (a : A) → P a → transformed turn flip (then_flip t Up) a ≡ flip Up (transformed turn flip t a)
  unfolding flip_if both_flips
  up_flipped t a h =
      let east = flip_if t.flip_x East a in
      let kept : P east = flipped_if t.flip_x East a h in
      ap (times (t.turns % 4) turn) (sym (flip_not t.flip_y Up east kept)) ∙ sym (up_times (t.turns % 4) (both_flips t a) (flips_kept t a h))

  -- a flip behind a transform
  pub flipped_after : (t : Transform) (to : Direction) (a : A) → P a → transformed turn flip (then_flip t to) a ≡ flip to (transformed turn flip t a)
  flipped_after t North a h = north_flipped t a h
  flipped_after t South a h = north_flipped t a h ∙ sym (is.south (transformed turn flip t a))
  flipped_after t East a h = east_flipped t a h
  flipped_after t West a h = east_flipped t a h ∙ sym (is.west (transformed turn flip t a))
  flipped_after t Up a h = up_flipped t a h
  flipped_after t Down a h = up_flipped t a h ∙ sym (is.down (transformed turn flip t a))
