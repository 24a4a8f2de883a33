-- Varints, put a byte at a time.
use Rattle.std.proofs.Common.{◌≡◌, ℕ, zero, suc, ◌+◌, ◌*◌, ◌/◌, ◌%◌, ◌^◌, ◌<◌, ◌≤◌, true, false, ltb, List, [], ◌∷◌, ◌++◌, refl, sym, ap, ◌∙◌, append_assoc, arith}
use Rattle.std.proofs.lemmas.Bool.{lt-ltb, le-ltb}
use Rattle.std.proofs.Math.Nat.{pow-suc}
use Rattle.sponge_schematic.specs.Varint.{varint, varint_within}

-- what is left of a number, and the bytes that were put before, make up the whole
pub record IsLeft (whole put : List ℕ) (left : ℕ) : Type 0 where
  pub further : ℕ
  pub small : left < 128 ^ suc further
  pub spelled : put ++ varint_within further left ≡ whole

pub left_first : (out : List ℕ) (n : ℕ) → n < 2 ^ 32 → IsLeft (out ++ varint n) out n
unfolding varint
left_first out n lt = record { further = 4; small = omega (arith, lt); spelled = refl }

last_byte : (further n : ℕ) → n < 128 → varint_within further n ≡ n ∷ []
last_byte zero n lt = refl
last_byte (suc k) n lt = let e : ltb n 128 ≡ true = lt-ltb n 128 lt in rw e refl

pub left_last : (whole put : List ℕ) (left : ℕ) → IsLeft whole put left → left < 128 → put ++ left ∷ [] ≡ whole
left_last whole put left h lt = ap (λ (bs : List ℕ). put ++ bs) (sym (last_byte h.further left lt)) ∙ h.spelled

next_byte : (whole put : List ℕ) (left k : ℕ) → left < 128 ^ suc k → put ++ varint_within k left ≡ whole → 128 ≤ left → IsLeft whole (put ++ (left % 128 + 128) ∷ []) (left / 128)
next_byte whole put left zero small h le = absurd (omega arith)
next_byte whole put left (suc k) small h le =
    let e : ltb left 128 ≡ false = le-ltb left 128 le in
    let step : varint_within (suc k) left ≡ (128 + left % 128) ∷ varint_within k (left / 128) = rw e refl in
    let swap : left % 128 + 128 ≡ 128 + left % 128 = omega arith in
    let power : 128 ^ suc (suc k) ≡ 128 ^ suc k * 128 = pow-suc 128 (suc k) in
    record {
      further = k;
      small = omega (arith, power);
      spelled = append_assoc put ((left % 128 + 128) ∷ []) (varint_within k (left / 128)) ∙ ap (λ (b : ℕ). put ++ b ∷ varint_within k (left / 128)) swap ∙ ap (λ (bs : List ℕ). put ++ bs) (sym step) ∙ h;
    }

pub left_next : (whole put : List ℕ) (left : ℕ) → IsLeft whole put left → 128 ≤ left → IsLeft whole (put ++ (left % 128 + 128) ∷ []) (left / 128)
left_next whole put left h le = next_byte whole put left h.further h.small h.spelled le
