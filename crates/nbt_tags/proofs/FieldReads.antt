-- The fields: what is read is spelled so, and what is spelled so is read.
use Rattle.std.proofs.Common.{◌≡◌, ℕ, ◌≤◌, ℤ, pos, negsuc, Bool, true, false, cond, eqb, ltb, List, [], ◌∷◌, ◌++◌, length, take, drop, Option, Some, None, Ok, Err, refl, sym, ap, subst, ◌∙◌, arith}
use Rattle.std.proofs.lemmas.Bool.{ltb-false, le-ltb, eqb-true}
use Rattle.std.proofs.lemmas.List.{take_at, drop_at, take-append-drop, length-append, length-take, append-nil}
use Rattle.std.specs.Int.{Width, w16, w32, byte_len, cast_signed}
use Rattle.byteorder.specs.Endian.{big_number}
use Rattle.nbt_tags.specs.declared.flaw.Cause.TheVariants.{Short, BadType}
use Rattle.nbt_tags.specs.declared.flaw.Flaw.{Flaw}
use Rattle.nbt_tags.specs.declared.kind.Kind.{Kind}
use Rattle.nbt_tags.specs.declared.kind.Kind.TheVariants as kinds
use Rattle.nbt_tags.specs.Kinds.{type_byte, kind_of}
use Rattle.nbt_tags.specs.Spelling.{IsNumber, IsSigned, IsCount, IsText, IsPlain}
use Rattle.nbt_tags.specs.Reading.{flaw_at, bytes_at, number_at, signed_at, text_at, known_kind, kind_at, element_at, natural_count, count_at}
use Rattle.nbt_tags.proofs.Both.{Found, Reads, Reads-same, Reads-map, Reads-then, ok_is}

-- a test that did not fail
pub guard_ok : {A : Type 0} (b : Bool) (d : Flaw) (x y : A) → cond b (Err d) (Ok x) ≡ Ok y → (b ≡ false) × (x ≡ y)
guard_ok true d x y e = absurd cc
guard_ok false d x y e = (refl, cc)

-- ---- bytes and numbers

abbrev pub IsField : ℕ → List ℕ → List ℕ → Type 0
IsField count text bytes = (length text ≡ count) × (bytes ≡ text)

pub bytes_at-reads : (count : ℕ) → Reads (IsField count) (bytes_at count)
unfolding bytes_at
bytes_at-reads count = record {
  sound = λ bytes text rest e.
      let g = guard_ok (ltb (length bytes) count) (flaw_at Short bytes) (take count bytes, drop count bytes) (text, rest) e in
      let long : count ≤ length bytes = ltb-false _ _ g.0 in
      let len : length (take count bytes) ≡ count = omega (arith, length-take count bytes) in
      subst (λ (p : List ℕ × List ℕ). Found (IsField count) p.0 bytes p.1) g.1 (record { front = take count bytes; whole = sym (take-append-drop count bytes); holds = (len, refl) });
  complete = λ text front rest h.
      let long : ltb (length (text ++ rest)) count ≡ false = le-ltb _ _ (omega (arith, h.0, length-append text rest)) in
      rw (h.1, long, take_at text rest count h.0, drop_at text rest count h.0) refl;
}

pub number_at-reads : (w : Width) → Reads (IsNumber w) (number_at w)
unfolding number_at
number_at-reads w =
    Reads-same
    (λ n bytes h. record { size = ap length h.2.1 ∙ h.2.0; worth = ap (big_number (byte_len w)) h.2.1 ∙ sym h.1 })
    (λ n bytes h. (bytes, sym h.worth, (h.size, refl)))
    (Reads-map (big_number (byte_len w)) (bytes_at-reads (byte_len w)))

pub signed_at-reads : (w : Width) → Reads (IsSigned w) (signed_at w)
unfolding signed_at
signed_at-reads w =
    Reads-same
    (λ z bytes h. record { size = ap length h.2.1 ∙ h.2.0; worth = ap (λ (cells : List ℕ). cast_signed w (big_number (byte_len w) cells)) h.2.1 ∙ sym h.1 })
    (λ z bytes h. (bytes, sym h.worth, (h.size, refl)))
    (Reads-map (λ (cells : List ℕ). cast_signed w (big_number (byte_len w) cells)) (bytes_at-reads (byte_len w)))

pub text_at-reads : Reads IsText text_at
unfolding text_at
text_at-reads =
    Reads-same
    (λ text bytes h. record { front = h.1.front; back = h.1.back; whole = h.1.whole; first = subst (λ (n : ℕ). IsNumber w16 n h.1.front) (sym h.1.second.0) h.1.first; second = h.1.second.1 })
    (λ text bytes h. (length text, record { front = h.front; back = h.back; whole = h.whole; first = h.first; second = (refl, h.second) }))
    (Reads-then (number_at-reads w16) (λ whole n. bytes_at-reads n))

-- ---- type bytes

some_is : (j k : Kind) → Some j ≡ Some k → j ≡ k
some_is j k e = cc

kind_step : (b n : ℕ) (j k : Kind) (rest : Option Kind) → type_byte j ≡ n → (rest ≡ Some k → type_byte k ≡ b) → cond (eqb b n) (Some j) rest ≡ Some k → type_byte k ≡ b
kind_step b n j k rest is more e =
    let at : (t : Bool) → eqb b n ≡ t → cond t (Some j) rest ≡ Some k → type_byte k ≡ b = λ t.
    elim t as (λ (u : Bool). eqb b n ≡ u → cond u (Some j) rest ≡ Some k → type_byte k ≡ b) [
      | true ↦ λ yes here. ap type_byte (sym (some_is j k here)) ∙ is ∙ sym (eqb-true b n yes)
      | false ↦ λ no there. more there
    ] in
    at (eqb b n) refl e

-- the byte of a kind that a byte stands for is that byte
pub type_byte-kind_of : (b : ℕ) (k : Kind) → kind_of b ≡ Some k → type_byte k ≡ b
unfolding kind_of
type_byte-kind_of b k =
    kind_step b 1 kinds.Byte k _ refl
    (kind_step b 2 kinds.Short k _ refl
    (kind_step b 3 kinds.Int k _ refl
    (kind_step b 4 kinds.Long k _ refl
    (kind_step b 5 kinds.Float k _ refl
    (kind_step b 6 kinds.Double k _ refl
    (kind_step b 7 kinds.ByteArray k _ refl
    (kind_step b 8 kinds.Str k _ refl
    (kind_step b 9 kinds.List k _ refl
    (kind_step b 10 kinds.Compound k _ refl
    (kind_step b 11 kinds.IntArray k _ refl
    (kind_step b 12 kinds.LongArray k _ refl (λ e. absurd cc))))))))))))

-- the byte of a kind stands for it
pub kind_of-type_byte : (k : Kind) → kind_of (type_byte k) ≡ Some k
unfolding kind_of
kind_of-type_byte kinds.Byte = refl
kind_of-type_byte kinds.Short = refl
kind_of-type_byte kinds.Int = refl
kind_of-type_byte kinds.Long = refl
kind_of-type_byte kinds.Float = refl
kind_of-type_byte kinds.Double = refl
kind_of-type_byte kinds.ByteArray = refl
kind_of-type_byte kinds.Str = refl
kind_of-type_byte kinds.List = refl
kind_of-type_byte kinds.Compound = refl
kind_of-type_byte kinds.IntArray = refl
kind_of-type_byte kinds.LongArray = refl

-- two kinds of one byte are one
pub type_byte-same : (j k : Kind) → type_byte j ≡ type_byte k → j ≡ k
type_byte-same j k e = some_is j k (sym (kind_of-type_byte j) ∙ ap kind_of e ∙ kind_of-type_byte k)

-- a type byte is at most 12
pub type_byte-low : (kind : Kind) → type_byte kind ≤ 12
type_byte-low kinds.Byte = omega arith
type_byte-low kinds.Short = omega arith
type_byte-low kinds.Int = omega arith
type_byte-low kinds.Long = omega arith
type_byte-low kinds.Float = omega arith
type_byte-low kinds.Double = omega arith
type_byte-low kinds.ByteArray = omega arith
type_byte-low kinds.Str = omega arith
type_byte-low kinds.List = omega arith
type_byte-low kinds.Compound = omega arith
type_byte-low kinds.IntArray = omega arith
type_byte-low kinds.LongArray = omega arith

kind_at-cons : (o : Option Kind) (byte : ℕ) (bytes : List ℕ) (k : Kind) (rest : List ℕ) → kind_of byte ≡ o → known_kind (byte ∷ bytes) o bytes ≡ Ok (k, rest) → Found (λ kind. IsPlain (type_byte kind)) k (byte ∷ bytes) rest
kind_at-cons None byte bytes k rest is e = absurd cc
kind_at-cons (Some j) byte bytes k rest is e =
    let same : (j, bytes) ≡ (k, rest) = ok_is (j, bytes) (k, rest) e in
    subst (λ (p : Kind × List ℕ). Found (λ kind. IsPlain (type_byte kind)) p.0 (byte ∷ bytes) p.1) same (record { front = byte ∷ []; whole = refl; holds = ap (λ (b : ℕ). b ∷ []) (sym (type_byte-kind_of byte j is)) })

kind_at-sound : (bytes : List ℕ) (k : Kind) (rest : List ℕ) → kind_at bytes ≡ Ok (k, rest) → Found (λ kind. IsPlain (type_byte kind)) k bytes rest
unfolding kind_at
kind_at-sound [] k rest e = absurd cc
kind_at-sound (byte ∷ bytes) k rest e = kind_at-cons (kind_of byte) byte bytes k rest refl e

pub kind_at-again : (k : Kind) (rest : List ℕ) → kind_at (type_byte k ∷ rest) ≡ Ok (k, rest)
unfolding kind_at
kind_at-again k rest = ap (λ (o : Option Kind). known_kind (type_byte k ∷ rest) o rest) (kind_of-type_byte k)

pub kind_at-reads : Reads (λ kind. IsPlain (type_byte kind)) kind_at
unfolding kind_at
kind_at-reads = record {
  sound = kind_at-sound;
  complete = λ k front rest h. ap (λ (bytes : List ℕ). kind_at (bytes ++ rest)) h ∙ kind_at-again k rest;
}

-- ---- element types

abbrev pub IsElement : ℕ → List ℕ → Type 0
IsElement element bytes = (element ≤ 12) × IsPlain element bytes

element_at-sound : (bytes : List ℕ) (n : ℕ) (rest : List ℕ) → element_at bytes ≡ Ok (n, rest) → Found IsElement n bytes rest
unfolding element_at
element_at-sound [] n rest e = absurd cc
element_at-sound (byte ∷ bytes) n rest e =
    let g = guard_ok (ltb 12 byte) (flaw_at BadType (byte ∷ bytes)) (byte, bytes) (n, rest) e in
    let low : byte ≤ 12 = ltb-false _ _ g.0 in
    subst (λ (p : ℕ × List ℕ). Found IsElement p.0 (byte ∷ bytes) p.1) g.1 (record { front = byte ∷ []; whole = refl; holds = (low, refl) })

pub element_at-reads : Reads IsElement element_at
unfolding element_at
element_at-reads = record {
  sound = element_at-sound;
  complete = λ n front rest h. let low : ltb 12 n ≡ false = le-ltb _ _ h.0 in rw (h.1, low) refl;
}

-- ---- counts

abbrev IsThat : ℤ → ℕ → List ℕ → Type 0
IsThat z count bytes = (z ≡ pos count) × (bytes ≡ [])

natural_count-reads : (whole : List ℕ) (z : ℤ) → Reads (IsThat z) (natural_count whole z)
natural_count-reads whole (pos n) = record {
  sound = λ bytes count rest e.
      let same : (n, bytes) ≡ (count, rest) = ok_is (n, bytes) (count, rest) e in
      subst (λ (p : ℕ × List ℕ). Found (IsThat (pos n)) p.0 bytes p.1) same (record { front = []; whole = refl; holds = (refl, refl) });
  complete = λ count front rest h. rw h.1 (ap (λ (m : ℕ). Ok (m, rest)) cc);
}
natural_count-reads whole (negsuc n) = record {
  sound = λ bytes count rest e. absurd cc;
  complete = λ count front rest h. absurd cc;
}

pub count_at-reads : Reads IsCount count_at
unfolding count_at
count_at-reads =
    Reads-same
    (λ count bytes h. subst (λ (part : List ℕ). IsSigned w32 (pos count) part) (sym (h.1.whole ∙ ap (λ (more : List ℕ). h.1.front ++ more) h.1.second.1 ∙ append-nil h.1.front)) (subst (λ (z : ℤ). IsSigned w32 z h.1.front) h.1.second.0 h.1.first))
    (λ count bytes h. (pos count, record { front = bytes; back = []; whole = sym (append-nil bytes); first = h; second = (refl, refl) }))
    (Reads-then (signed_at-reads w32) natural_count-reads)
