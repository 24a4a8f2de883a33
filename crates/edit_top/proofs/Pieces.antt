-- A text that is put together from pieces is cut into the same pieces.
use Rattle.std.proofs.Common.{◌≡◌, ℕ, zero, suc, ◌+◌, ◌-◌, ◌/◌, ◌%◌, ◌<◌, Bool, true, false, not, cond, eqb, List, [], ◌∷◌, ◌++◌, length, map, take, get_or, refl, sym, ap, ◌∙◌, subst, append_assoc, length-append, arith}
use Rattle.std.specs.Prelude.{All, decimal}
use Rattle.std.specs.Fmt.{digit_glyph, digits_onto, digits}
use Rattle.std.specs.List.{flat_map, list_all}
use Rattle.std.proofs.Math.Seq.{take-append_seam}
use Rattle.std.proofs.lemmas.Bool.{eq-eqb, ne_eqb}
use Rattle.std.proofs.lemmas.Bool.Decides.{nat_tests}
use Rattle.std.proofs.lemmas.List.Concat.{flat_map-cons}
use Rattle.std.proofs.lemmas.List.Elements.{All-append, All-cons, All-nil, All-weaker}
use Rattle.std.proofs.lemmas.List.Splits.{slice_split_at}
use Rattle.std.proofs.lemmas.List.Sums.{AllPass-from_list_all}
use Rattle.edit_terms.specs.StateText.{cut_at}
use Rattle.command_syntax.specs.Text.{feed}
use Rattle.edit_top.specs.ShownOrder.{space, but_last, lines_of_text, second_word}

-- the byte doesn't stand in the text
abbrev pub IsWithout : ℕ → List ℕ → Type 0
IsWithout byte text = All (λ b. eqb b byte ≡ false) text

not_true : (b : Bool) → not b ≡ true → b ≡ false
not_true true e = sym e
not_true false e = refl

-- computed of a literal
pub without_by_test : (byte : ℕ) (text : List ℕ) → list_all (λ b. not (eqb b byte)) text ≡ true → IsWithout byte text
without_by_test byte text h =
    All-weaker (λ b. not (eqb b byte) ≡ true) (λ b. eqb b byte ≡ false) (λ b. not_true (eqb b byte)) text (AllPass-from_list_all (λ b. not (eqb b byte)) text h)

pub without-append : (byte : ℕ) (xs ys : List ℕ) → IsWithout byte xs → IsWithout byte ys → IsWithout byte (xs ++ ys)
without-append byte xs ys x y = All-append (λ b. eqb b byte ≡ false) xs ys x y

-- the bytes of a number are digits
module _ (P : ℕ → Type 0) (each : (d : ℕ) → d < 10 → P (48 + d)) where
  glyph : (d : ℕ) → d < 10 → digit_glyph false d ≡ 48 + d
  glyph d below = grind (arith, nat_tests)

  either : (t : Bool) (xs ys : List ℕ) → All P xs → All P ys → All P (cond t xs ys)
  either true xs ys x y = x
  either false xs ys x y = y

  digits_onto_all : (k n : ℕ) (acc : List ℕ) → All P acc → All P (digits_onto k 10 false n acc)
  digits_onto_all zero n acc all = all
  digits_onto_all (suc k) n acc all =
      let digit = digit_glyph false (n % 10) in
      let last : n % 10 < 10 = omega arith in
      let more : All P (digit ∷ acc) = All-cons P digit acc (subst P (sym (glyph (n % 10) last)) (each (n % 10) last)) all in
      either (eqb (n / 10) 0) (digit ∷ acc) (digits_onto k 10 false (n / 10) (digit ∷ acc)) more (digits_onto_all k (n / 10) (digit ∷ acc) more)

  decimal_all : (n : ℕ) → All P (decimal n)
  unfolding digits
  decimal_all n = digits_onto_all 64 n [] (All-nil P)

-- so a byte below them doesn't stand in a number
pub without-decimal : (byte n : ℕ) → byte < 48 → IsWithout byte (decimal n)
without-decimal byte n below = decimal_all (λ b. eqb b byte ≡ false) (λ d small. ne_eqb (48 + d) byte (λ same. omega (arith, same, below))) n

-- pieces that a byte ends are the parts between that byte
module _ (f piece : ℕ → List ℕ) (end : ℕ) (ends : (t : ℕ) → f t ≡ piece t ++ end ∷ []) (clear : (t : ℕ) → IsWithout end (piece t)) where
  parts-flat_map : (ts rest : List ℕ) → cut_at end (flat_map f ts ++ rest) ≡ map piece ts ++ cut_at end rest
  parts-flat_map [] rest = refl
  parts-flat_map (t ∷ ts) rest =
      let more = flat_map f ts ++ rest in
      let front : flat_map f (t ∷ ts) ++ rest ≡ piece t ++ end ∷ more =
      ap (λ (xs : List ℕ). xs ++ rest) (flat_map-cons f t ts)
      ∙ append_assoc (f t) (flat_map f ts) rest
      ∙ ap (λ (xs : List ℕ). xs ++ more) (ends t)
      ∙ append_assoc (piece t) (end ∷ []) more in
      ap (cut_at end) front
      ∙ slice_split_at (λ b. eqb b end) (piece t) end more (clear t) (eq-eqb end end refl)
      ∙ ap (λ (later : List (List ℕ)). piece t ∷ later) (parts-flat_map ts rest)

-- all but the last, of a list with one more
but_last-more : {X : Type 0} (xs : List X) (x : X) → but_last (xs ++ x ∷ []) ≡ xs
but_last-more {X} xs x =
    let count : length (xs ++ x ∷ []) - 1 ≡ length xs = omega (arith, length-append xs (x ∷ [])) in
    ap (λ (n : ℕ). take n (xs ++ x ∷ [])) count ∙ take-append_seam xs (x ∷ [])

-- the lines before the last one, of lines and a last one
pub lines_before_last : (f line : ℕ → List ℕ) → ((t : ℕ) → f t ≡ line t ++ 10 ∷ []) → ((t : ℕ) → IsWithout feed (line t)) → (ts last : List ℕ) → IsWithout feed last
    → but_last (lines_of_text (flat_map f ts ++ (last ++ 10 ∷ []))) ≡ map line ts
lines_before_last f line ends clear ts last clear_last =
    let cut : cut_at feed (flat_map f ts ++ (last ++ 10 ∷ [])) ≡ (map line ts ++ last ∷ []) ++ [] ∷ [] =
    parts-flat_map f line 10 ends clear ts (last ++ 10 ∷ [])
    ∙ ap (λ (more : List (List ℕ)). map line ts ++ more) (slice_split_at (λ b. eqb b 10) last 10 [] clear_last refl)
    ∙ sym (append_assoc (map line ts) (last ∷ []) ([] ∷ [])) in
    ap (λ (lines : List (List ℕ)). but_last (but_last lines)) cut
    ∙ ap (λ (lines : List (List ℕ)). but_last lines) (but_last-more (map line ts ++ last ∷ []) [])
    ∙ but_last-more (map line ts) last

-- the second word is what stands between the first two spaces
pub second_word_is : (first word rest : List ℕ) → IsWithout space first → IsWithout space word → second_word (first ++ 32 ∷ (word ++ 32 ∷ rest)) ≡ word
second_word_is first word rest clear_first clear_word =
    ap (λ (words : List (List ℕ)). get_or words 1 [])
    (slice_split_at (λ b. eqb b 32) first 32 (word ++ 32 ∷ rest) clear_first refl ∙ ap (λ (words : List (List ℕ)). first ∷ words) (slice_split_at (λ b. eqb b 32) word 32 rest clear_word refl))
