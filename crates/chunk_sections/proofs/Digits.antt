-- Numbers made of digits, the lowest first.
use Rattle.std.proofs.Common.{◌≡◌, ℕ, suc, ◌+◌, ◌-◌, ◌*◌, ◌^◌, ◌<◌, ◌≤◌, List, [], ◌∷◌, All, length, drop, get_or, sym, ap, subst, ◌∙◌, arith}
use Rattle.std.proofs.lemmas.Nat.{mul-add-lt}
use Rattle.std.proofs.lemmas.List.{drop_more, length-drop}
use Rattle.std.proofs.lemmas.List.Elements.{All-drop}
use Rattle.std.proofs.Math.Nat.{pow-zero, pow-succ', pow-le-pow_right}
use Rattle.chunk_sections.specs.Packed.{number_of}

pub number_of-below : (base : ℕ) (ds : List ℕ) → All (λ d. d < base) ds → number_of base ds < base ^ length ds
number_of-below base [] h = subst (λ n. 0 < n) (sym (pow-zero base)) (omega arith)
number_of-below base (d ∷ ds) h =
    let low : d < base = h 0 d (omega arith) in
    let rest = number_of-below base ds (λ k e lt. h (suc k) e (omega arith)) in
    subst (λ m. number_of base ds * base + d < m) (sym (pow-succ' base (length ds))) (mul-add-lt (number_of base ds) base d (base ^ length ds) rest low)

-- digits that are at most so many make a number of at most so many
pub digits_room : (base per : ℕ) → 0 < base → base ^ per ≤ 2 ^ 64 → (n : ℕ) → n ≤ per → base ^ n ≤ 2 ^ 64
digits_room base per some room n le = let p : base ^ n ≤ base ^ per = pow-le-pow_right {n = base} some {i = n} {j = per} le in omega arith

-- The digits from a place on, of digits that make a number below 2 ^ 64.
pub record IsNext (base : ℕ) (ds : List ℕ) (i number : ℕ) : Type 0 where
  pub is : number ≡ number_of base (drop i ds)
  pub below : number < 2 ^ 64

-- one more digit in front
pub next_digit : (base : ℕ) (ds : List ℕ) (left number : ℕ) → All (λ e. e < base) ds → base ^ length ds ≤ 2 ^ 64 → 0 < left → left ≤ length ds
    → number ≡ number_of base (drop left ds) → IsNext base ds (left - 1) (number * base + get_or ds (left - 1) 0)
next_digit base ds left number fit room some within e =
    let i : ℕ = left - 1 in
    let l : i < length ds = omega arith in
    let next : left ≡ i + 1 = omega arith in
    let cut : drop i ds ≡ get_or ds i 0 ∷ drop (i + 1) ds = drop_more ds i 0 l in
    let is : number * base + get_or ds i 0 ≡ number_of base (drop i ds) =
    ap (λ n. n * base + get_or ds i 0) (e ∙ ap (λ n. number_of base (drop n ds)) next) ∙ sym (ap (number_of base) cut) in
    let low : get_or ds i 0 < base = fit i 0 l in
    let far : length (drop i ds) ≤ length ds = omega (arith, length-drop i ds) in
    let under : number_of base (drop i ds) < base ^ length (drop i ds) = number_of-below base (drop i ds) (All-drop (λ e. e < base) i ds fit) in
    let top : base ^ length (drop i ds) ≤ 2 ^ 64 = digits_room base (length ds) (omega arith) room (length (drop i ds)) far in
    record { is = is; below = omega arith }
