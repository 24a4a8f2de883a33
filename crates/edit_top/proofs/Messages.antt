-- Pieces that are put one after the other: what is there is a prefix of them all.
use Rattle.std.proofs.Common.{◌≡◌, ℕ, suc, ◌+◌, ◌<◌, ◌≤◌, List, ◌++◌, length, take, drop, get_or, Option, Some, None, refl, sym, ap, ◌∙◌, subst, append_assoc, inl, inr, arith}
use Rattle.std.specs.Prelude.{flat_map}
use Rattle.std.specs.Option.{option_map}
use Rattle.std.proofs.lemmas.Bool.{cases_lt}
use Rattle.std.proofs.lemmas.Grind.{flat_map-append}
use Rattle.std.proofs.lemmas.List.{take-append-drop, take-append-le, take_all}
use Rattle.std.proofs.lemmas.List.Concat.{flat_map-cons}
use Rattle.std.proofs.Math.Seq.{take-append-add, take-length, drop-cons}
use Rattle.run_ports.specs.Count.{Rose}
use Rattle.run_ports.specs.Output.{OutputState, IsAppended, IsPartlyAppended, IsLaterOutput}
use Rattle.edit_top.specs.Ends.{IsPrinted}

-- one text appended after another
pub appended_then : (before mid after : Option (List ℕ)) (a b : List ℕ) → IsAppended before mid a → IsAppended mid after b → IsAppended before after (a ++ b)
appended_then None mid after a b first second = second ∙ ap (λ (m : Option (List ℕ)). option_map (λ w. w ++ b) m) first
appended_then (Some w) mid after a b first second =
    second ∙ ap (λ (m : Option (List ℕ)). option_map (λ v. v ++ b) m) first ∙ ap (λ (v : List ℕ). Some v) (append_assoc w a b)

-- a count that rose at last rose at all
pub rose_since : (before mid after : ℕ) → before ≤ mid → Rose mid after → Rose before after
rose_since before mid after later rose = omega (arith, rose)

-- the whole text
pub printed_whole : (before after : OutputState) (text : List ℕ) → IsAppended before.written after.written text → IsPrinted before after text
printed_whole before after text appended = record {
  kept = length text;
  part = subst (λ (t : List ℕ). IsAppended before.written after.written t) (sym (take-length text)) appended;
  whole = inl (omega arith);
}

-- a front, and a prefix of the next piece
pub printed_part : (before mid after : OutputState) (front piece rest : List ℕ) → IsAppended before.written mid.written front → IsLaterOutput before mid
    → IsPartlyAppended mid.written after.written piece → Rose mid.faults after.faults → IsPrinted before after (front ++ (piece ++ rest))
printed_part before mid after front piece rest first later part rose =
    elim (cases_lt (length piece) part.kept) [
      | inl past ↦ cut (length piece) (omega arith) (take-length piece ∙ sym (take_all part.kept piece (omega arith)))
      | inr within ↦ cut part.kept within refl
    ]
  where
    cut : (n : ℕ) → n ≤ length piece → take n piece ≡ take part.kept piece → IsPrinted before after (front ++ (piece ++ rest))
    cut n few same = record {
      kept = length front + n;
      part =
          let front_is : take (length front + n) (front ++ (piece ++ rest)) ≡ front ++ take part.kept piece =
          take-append-add front (piece ++ rest) n ∙ ap (λ (t : List ℕ). front ++ t) (take-append-le n piece rest few ∙ same) in
          subst (λ (t : List ℕ). IsAppended before.written after.written t) (sym front_is) (appended_then before.written mid.written after.written front (take part.kept piece) first part.appended);
      whole = inr (rose_since before.faults mid.faults after.faults later.faults rose);
    }

-- a list of pieces at one of them
pub flat_map-at : {X : Type 0} (f : X → List ℕ) (xs : List X) (i : ℕ) (d : X) → i < length xs → flat_map f xs ≡ flat_map f (take i xs) ++ (f (get_or xs i d) ++ flat_map f (drop (i + 1) xs))
flat_map-at {X} f xs i d within =
    ap (flat_map f) (sym (take-append-drop i xs)) ∙ flat_map-append f (take i xs) (drop i xs)
    ∙ ap (λ (t : List ℕ). flat_map f (take i xs) ++ t) (ap (flat_map f) (drop-cons xs i d within) ∙ flat_map-cons f (get_or xs i d) (drop (suc i) xs) ∙ ap (λ (n : ℕ). f (get_or xs i d) ++ flat_map f (drop n xs)) {x = suc i} {y = i + 1} (omega arith))
