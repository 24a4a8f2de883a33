-- Numbers that are written over one another: at each place the last one stays.
use Rattle.std.proofs.Common.{◌≡◌, ℕ, suc, ◌+◌, ◌-◌, ◌<◌, eqb, Bool, true, false, cond, List, [], ◌∷◌, ◌++◌, length, map, take, drop, set, reverse, get_or, Some, refl, sym, ap, ◌∙◌, subst, arith}
use Rattle.std.specs.List.{find, flat_map}
use Rattle.std.specs.Option.{option_map_or}
use Rattle.std.proofs.lemmas.Bool.{eqb-true, eq-eqb}
use Rattle.std.proofs.lemmas.Grind.{get_or-set_at}
use Rattle.std.proofs.lemmas.List.{get_or-set_other, get_or_default, take_more, map-append, reverse-append}
use Rattle.std.proofs.Math.Seq.{drop-cons}
use Rattle.std.proofs.lemmas.List.Elements.{All-head, All-tail}
use Rattle.edit_terms.specs.Area.{Area}
use Rattle.edit_terms.specs.World.{BlockContent, air_content}
use Rattle.plain_terms.specs.Shown.{IsNumbered, content_shown}
use Rattle.world_canvas.specs.declared.cell_change.CellChange.{CellChange}
use Rattle.world_canvas.specs.declared.restoring.Side.{Side}
use Rattle.world_canvas.specs.declared.restoring.Side.TheVariants.{Before, After}
use Rattle.world_canvas.specs.Changes.{IsChangeNamed, AreChangesNamed, change_shown, changes_shown}
use Rattle.world_canvas.specs.Restoring.{content_on, number_on, number_written, last_first, AreWritten}

differ : true ≡ false → ⊥
differ e = cc

-- a number at a place once one was set
pub set_or : (cells : List ℕ) (at n i : ℕ) → at < length cells → get_or (set cells at n) i 0 ≡ cond (eqb at i) n (get_or cells i 0)
set_or cells at n i inside = by_test (eqb at i) refl
  where
    by_test : (b : Bool) → eqb at i ≡ b → get_or (set cells at n) i 0 ≡ cond b n (get_or cells i 0)
    by_test true e = get_or-set_at cells at i n 0 (sym (eqb-true at i e)) inside
    by_test false e = get_or-set_other cells at i n 0 (λ (same : i ≡ at). differ (sym (eq-eqb at i (sym same)) ∙ e))

-- one change more, before those that are written
pub written_more : (side : Side) (change : CellChange) (rest : List CellChange) (old cells : List ℕ) (i : ℕ) → change.index < length cells → get_or cells i 0 ≡ number_written side rest old i
    → get_or (set cells change.index (number_on side change)) i 0 ≡ number_written side (change ∷ rest) old i
written_more side change rest old cells i inside was =
    set_or cells change.index (number_on side change) i inside ∙ ap (λ (n : ℕ). cond (eqb change.index i) (number_on side change) n) was ∙ by_test (eqb change.index i)
  where
    by_test : (b : Bool) → cond b (number_on side change) (number_written side rest old i) ≡ option_map_or (number_on side) (cond b (Some change) (find (λ c. eqb c.index i) rest)) (get_or old i 0)
    by_test true = refl
    by_test false = refl

-- the changes from a place on, counted from the end
pub changes_from : (changes : List CellChange) (k : ℕ) (d : CellChange) → k < length changes → drop (length changes - (k + 1)) changes ≡ get_or changes (length changes - 1 - k) d ∷ drop (length changes - k) changes
changes_from changes k d within =
    let m : length changes - (k + 1) ≡ length changes - 1 - k = omega arith in
    let next : suc (length changes - 1 - k) ≡ length changes - k = omega arith in
    ap (λ (n : ℕ). drop n changes) m
    ∙ drop-cons changes (length changes - 1 - k) d (omega arith)
    ∙ ap (λ (n : ℕ). get_or changes (length changes - 1 - k) d ∷ drop n changes) next

-- ---- the contents that the numbers name

-- the content on a side of a change that a number names
side_shown : (side : Side) (kinds : List BlockContent) (change : CellChange) → get_or kinds (number_on side change) air_content ≡ content_on side (change_shown kinds change)
side_shown Before kinds change = refl
side_shown After kinds change = refl

-- the content that is written at a place is the changes' own
pub content_written : (side : Side) (kinds : List BlockContent) (changes : List CellChange) (cells : List ℕ) (i : ℕ)
    → get_or kinds (number_written side changes cells i) air_content ≡ option_map_or (content_on side) (find (λ change. eqb change.index i) (changes_shown kinds changes)) (content_shown kinds cells i)
content_written side kinds [] cells i = refl
content_written side kinds (change ∷ changes) cells i = by_test (eqb change.index i) (content_written side kinds changes cells i)
  where
    by_test : (b : Bool) → get_or kinds (number_written side changes cells i) air_content ≡ option_map_or (content_on side) (find (λ c. eqb c.index i) (changes_shown kinds changes)) (content_shown kinds cells i)
        → get_or kinds (option_map_or (number_on side) (cond b (Some change) (find (λ c. eqb c.index i) changes)) (get_or cells i 0)) air_content
        ≡ option_map_or (content_on side) (cond b (Some (change_shown kinds change)) (find (λ c. eqb c.index i) (changes_shown kinds changes))) (content_shown kinds cells i)
    by_test true rest = side_shown side kinds change
    by_test false rest = rest

number_on-named : (side : Side) (kinds : List BlockContent) (change : CellChange) → IsChangeNamed kinds change → number_on side change < length kinds
number_on-named Before kinds change named = named.before
number_on-named After kinds change named = named.after

-- it is the number of a content
pub written_named : (side : Side) (kinds : List BlockContent) (changes : List CellChange) (cells : List ℕ) (i : ℕ) → AreChangesNamed kinds changes → get_or cells i 0 < length kinds → number_written side changes cells i < length kinds
written_named side kinds [] cells i named own = own
written_named side kinds (change ∷ changes) cells i named own =
    by_test (eqb change.index i) (number_on-named side kinds change (All-head (λ c. IsChangeNamed kinds c) change changes named)) (written_named side kinds changes cells i (All-tail (λ c. IsChangeNamed kinds c) change changes named) own)
  where
    by_test : (b : Bool) → number_on side change < length kinds → number_written side changes cells i < length kinds
        → option_map_or (number_on side) (cond b (Some change) (find (λ c. eqb c.index i) changes)) (get_or cells i 0) < length kinds
    by_test true here rest = here
    by_test false here rest = rest

-- what is written over a numbered world is one
pub written_numbered : (side : Side) (area : Area) (kinds : List BlockContent) (changes : List CellChange) (old new : List ℕ) → AreWritten side changes old new → AreChangesNamed kinds changes → IsNumbered area kinds old → IsNumbered area kinds new
written_numbered side area kinds changes old new written named numbered = record {
  whole = written.long ∙ numbered.whole;
  within = λ k d inside.
      let old_inside : k < length old = omega (arith, inside, written.long) in
      subst (λ (n : ℕ). n < length kinds) (sym (written.each k old_inside) ∙ get_or_default new k 0 d inside) (written_named side kinds changes old k named (numbered.within k 0 old_inside));
}

-- ---- several edits

-- what is written behind other changes shows where those have none
pub written_behind : (side : Side) (changes rest : List CellChange) (old cells : List ℕ) (i : ℕ) → get_or cells i 0 ≡ number_written side rest old i → number_written side changes cells i ≡ number_written side (changes ++ rest) old i
written_behind side [] rest old cells i was = was
written_behind side (change ∷ changes) rest old cells i was = by_test (eqb change.index i) (written_behind side changes rest old cells i was)
  where
    by_test : (b : Bool) → number_written side changes cells i ≡ number_written side (changes ++ rest) old i
        → option_map_or (number_on side) (cond b (Some change) (find (λ c. eqb c.index i) changes)) (get_or cells i 0) ≡ option_map_or (number_on side) (cond b (Some change) (find (λ c. eqb c.index i) (changes ++ rest))) (get_or old i 0)
    by_test true same = refl
    by_test false same = same

-- the changes of one edit more come first
pub last_first-more : (kept : List (List CellChange)) (edits : List ℕ) (k : ℕ) (d : ℕ) → k < length edits → last_first kept (take (k + 1) edits) ≡ get_or kept (get_or edits k d) [] ++ last_first kept (take k edits)
last_first-more kept edits k d within =
    let of_edit : ℕ → List CellChange = λ (n : ℕ). get_or kept n [] in
    ap (λ (ns : List ℕ). last_first kept ns) (take_more edits k d within)
    ∙ ap (λ (css : List (List CellChange)). flat_map (λ cs. cs) (reverse css)) (map-append of_edit (take k edits) (get_or edits k d ∷ []))
    ∙ ap (flat_map (λ cs. cs)) (reverse-append (map of_edit (take k edits)) (of_edit (get_or edits k d) ∷ []))
