-- A command's key is found by the order of keys exactly where it is the same.
use Rattle.std.proofs.Common.{◌≡◌, ℕ, ◌&&◌, cond, Option, refl, sym, ap, ◌∙◌, arith}
use Rattle.std.specs.Prelude.{◌==◌}
use Rattle.std.specs.Map.{lookup}
use Rattle.std.specs.Ordering.{nat_cmp, ordering_then, is_eq}
use Rattle.std.specs.declared.cmp.Ordering.{Ordering}
use Rattle.std.specs.declared.cmp.Ordering.TheVariants.{Less, Equal, Greater}
use Rattle.std.proofs.lemmas.Bool.Decides.{nat_tests}
use Rattle.edit_terms.specs.declared.clip.Source.{Source}
use Rattle.change_set.specs.Changes.{ChangeList}
use Rattle.change_set.specs.Kept.{KeptChanges, kept_of, same_source}

-- the order of keys, as tuples have it
abbrev pub key_cmp : ℕ × ℕ → ℕ × ℕ → Ordering
key_cmp x y = ordering_then (nat_cmp x.0 y.0) (nat_cmp x.1 y.1)

equal_then : (o p : Ordering) → is_eq (ordering_then o p) ≡ (is_eq o && is_eq p)
equal_then Less p = refl
equal_then Equal p = refl
equal_then Greater p = refl

equal_number : (m n : ℕ) → is_eq (nat_cmp m n) ≡ (n == m)
equal_number m n = grind (arith, nat_tests)

pub same_key : (source : Source) (key : ℕ × ℕ) → is_eq (key_cmp (source.player, source.step) key) ≡ (key.0 == source.player && key.1 == source.step)
same_key source key =
    equal_then (nat_cmp source.player key.0) (nat_cmp source.step key.1)
    ∙ (λ i. equal_number source.player key.0 i && equal_number source.step key.1 i)

-- what is looked up by the order of keys is what is kept
pub kept_by_order : (kept : KeptChanges) (source : Source) → lookup (λ key. is_eq (key_cmp (source.player, source.step) key)) kept ≡ kept_of kept source
kept_by_order kept source = λ i. lookup (λ key. same_key source key i) kept

-- one key put or taken
pub kept_after : (before now seen : KeptChanges) (source s : Source) (w : Option ChangeList) → before ≡ seen
    → lookup (λ key. is_eq (key_cmp (s.player, s.step) key)) now
    ≡ cond (is_eq (key_cmp (source.player, source.step) (s.player, s.step))) w (lookup (λ key. is_eq (key_cmp (s.player, s.step) key)) before)
    → kept_of now s ≡ cond (same_source s source) w (kept_of seen s)
kept_after before now seen source s w is updated =
    sym (kept_by_order now s) ∙ updated
    ∙ (λ i. cond (same_key source (s.player, s.step) i) w (kept_by_order before s i))
    ∙ ap (λ (kept : KeptChanges). cond (same_source s source) w (kept_of kept s)) is
