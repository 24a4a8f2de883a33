-- The limits of a pattern, entry by entry.
use Rattle.std.proofs.Common.{◌≡◌, ℕ, ◌+◌, ◌<◌, ◌≤◌, true, false, cond, List, [], ◌∷◌, ◌++◌, length, map, Ok, Err, refl, subst, ◌∙◌, add-one, arith, length-append}
use Rattle.std.specs.Prelude.{Bool, Result, IfOk}
use Rattle.std.specs.List.{list_all, onto_first, enumerate_from}
use Rattle.std.proofs.lemmas.List.{length-map}
use Rattle.std.proofs.lemmas.List.FromFn.{length-enumerate_from}
use Rattle.block_state.specs.declared.term_fault.TermFault.{TermFault}
use Rattle.edit_terms.specs.StateText.{comma}
use Rattle.term_text.specs.Verdict.{verdict_map, all_or_first}
use Rattle.pattern_syntax.specs.Pattern.{judged, entries_reading}
use Rattle.std.proofs.lemmas.List.Folds.{list_all-append}
use Rattle.std.proofs.lemmas.Bool.Decides.{nat_tests}
use Rattle.edit_terms.specs.declared.pattern.Entry.{Entry}
use Rattle.run_terms.specs.Limits.{is_one_of, is_pattern_within}
use Rattle.term_text.specs.Pieces.{is_inside_after, ends_piece, pieces_from, placed, pieces_at}

-- so many entries within the limits
pub record AreWithin (entries : List Entry) (count : ℕ) : Type 0 where
  pub counted : length entries ≡ count
  pub few : count ≤ 32
  pub each : list_all (λ (e : Entry). is_one_of 1 1000000 e.weight) entries ≡ true

pub none_within : AreWithin [] 0
none_within = record { counted = refl; few = omega arith; each = refl }

-- one more entry
pub one_within : (entries : List Entry) (count : ℕ) (entry : Entry) → AreWithin entries count → count < 32 → is_one_of 1 1000000 entry.weight ≡ true → AreWithin (entries ++ entry ∷ []) (count + 1)
one_within entries count entry so_far below within = record {
  counted = omega (arith, length-append entries (entry ∷ []), so_far.counted);
  few = omega arith;
  each = list_all-append (λ (e : Entry). is_one_of 1 1000000 e.weight) entries (entry ∷ []) ∙ rw (so_far.each, within);
}

-- a text has a piece
onto_some : (b : ℕ) (pieces : List (List ℕ)) → 1 ≤ length pieces → 1 ≤ length (onto_first b pieces)
onto_some b [] some = omega arith
onto_some b (p ∷ pieces) some = some

pieces_some : (inside : Bool) (c : ℕ) (text : List ℕ) → 1 ≤ length (pieces_from inside c text)
pieces_some inside c [] = omega arith
pieces_some inside c (b ∷ bytes) =
    elim (ends_piece inside c b) as (λ t. 1 ≤ length (cond t ([] ∷ pieces_from false c bytes) (onto_first b (pieces_from (is_inside_after inside b) c bytes)))) [
      | true ↦ omega arith
      | false ↦ onto_some b (pieces_from (is_inside_after inside b) c bytes) (pieces_some (is_inside_after inside b) c bytes)
    ]

placed_some : (at : ℕ) (pieces : List (List ℕ)) → 1 ≤ length pieces → 1 ≤ length (placed at pieces)
placed_some at [] some = some
placed_some at (p ∷ pieces) some = omega arith

-- there is a value for each verdict
one_longer : {A B : Type 0} (x : A) (more : List B) (r : Result (List A) TermFault) → IfOk r (λ xs. length xs ≡ length more) → IfOk (verdict_map (λ xs. x ∷ xs) r) (λ xs. length xs ≡ length more + 1)
one_longer x more (Ok xs) h = omega arith
one_longer x more (Err fault) h = tt

all_length : {A : Type 0} (verdicts : List (Result A TermFault)) → IfOk (all_or_first verdicts) (λ xs. length xs ≡ length verdicts)
all_length [] = refl
all_length (Ok x ∷ more) = rw (← add-one) (one_longer x more (all_or_first more) (all_length more))
all_length (Err fault ∷ more) = tt

-- the entries of a text, which are within the limits, make a pattern
pub pattern_within : (text : List ℕ) (entries : List Entry) (count : ℕ) → entries_reading (pieces_at comma 0 text) ≡ Ok entries → AreWithin entries count → is_pattern_within (record { entries = entries }) ≡ true
pattern_within text entries count read within =
    let pieces = pieces_at comma 0 text in
    let verdicts = map judged (enumerate_from 0 pieces) in
    let long : length entries ≡ length verdicts = subst (λ r. IfOk r (λ xs. length xs ≡ length verdicts)) read (all_length verdicts) in
    let each : length verdicts ≡ length pieces = rw length-map (length-enumerate_from 0 pieces) in
    let some : 1 ≤ length pieces = placed_some 0 (pieces_from false comma text) (pieces_some false comma text) in
    let first : 1 ≤ length entries = omega arith in
    let last : length entries ≤ 32 = omega (arith, within.counted, within.few) in
    rw within.each (grind (arith, nat_tests, first, last))
