-- A set of names, as a test of which names are taken.
use Rattle.std.proofs.Common.{◌≡◌, ℕ, Bool, true, false, cond, not, ◌||◌, List, Ok, Err, refl, sym, ap, ◌∙◌, Bor}
use mathlib.Core.Path.{fun_ext}
use Rattle.std.proofs.lemmas.Map.Text.{is_eq-slice_cmp}
use Rattle.std.specs.BTreeMap.{is_at}
use Rattle.std.specs.BTreeSet.{BTreeSet, contains}
use Rattle.std.specs.Cmp.Lexicographic.{slice_cmp}
use Rattle.std.specs.Ordering.{nat_cmp, is_eq}
use Rattle.nbt_tags.specs.declared.flaw.Cause.TheVariants.{Duplicate}
use Rattle.nbt_tags.specs.Spelling.{also}
use Rattle.nbt_tags.specs.Reading.{flaw_at, text_at, fresh_at}
use Rattle.nbt_tags.specs.Taken.{is_taken}

not_false : (b : Bool) → not b ≡ false → b ≡ true
not_false true e = refl
not_false false e = absurd cc

not_true : (b : Bool) → not b ≡ true → b ≡ false
not_true true e = absurd cc
not_true false e = refl

-- a name that the set had already
pub fresh_at-taken : (taken : List ℕ → Bool) (bytes rest name after : List ℕ) (added : Bool) → text_at rest ≡ Ok (name, after) → added ≡ not (taken name) → added ≡ false
    → fresh_at taken bytes rest ≡ Err (flaw_at Duplicate bytes)
unfolding fresh_at
fresh_at-taken taken bytes rest name after added read is was =
    let t = not_false (taken name) (sym is ∙ was) in
    rw (read, t) refl

-- a name that the set had not
pub fresh_at-fresh : (taken : List ℕ → Bool) (bytes rest name after : List ℕ) (added : Bool) → text_at rest ≡ Ok (name, after) → added ≡ not (taken name) → added ≡ true
    → fresh_at taken bytes rest ≡ Ok (name, after)
unfolding fresh_at
fresh_at-fresh taken bytes rest name after added read is was =
    let t = not_true (taken name) (sym is ∙ was) in
    rw (read, t) refl

cond_or : (a b : Bool) → cond a true b ≡ (a || b)
cond_or true b = refl
cond_or false b = refl

-- the names that a set takes behind an insertion
pub is_taken-also : (old new : BTreeSet (Bor (List ℕ))) (name : List ℕ)
    → ((q : Bor (List ℕ)) → contains (λ x y. slice_cmp nat_cmp x.now y.now) new q ≡ cond (is_at (λ y. slice_cmp nat_cmp name y.now) q) true (contains (λ x y. slice_cmp nat_cmp x.now y.now) old q))
    → is_taken new ≡ also name (is_taken old)
is_taken-also old new name updates =
    fun_ext (λ q.
    let key : Bor (List ℕ) = record { ref_ptr = (0, 0); now = q } in
    updates key ∙ cond_or (is_eq (slice_cmp nat_cmp name q)) (is_taken old q) ∙ ap (λ (b : Bool). b || is_taken old q) (is_eq-slice_cmp name q))
