-- A pattern that doesn't name the clipboard gives the same content with any clipboard.
use Rattle.std.proofs.Common.{◌≡◌, ℕ, ◌+◌, ◌*◌, ◌^◌, ltb, Bool, true, false, cond, List, [], ◌∷◌, Option, Some, None, refl, ap}
use Rattle.std.specs.Prelude.{IfSome, sum_by}
use Rattle.std.specs.List.{list_any}
use Rattle.std.specs.Option.{option_map_or}
use Rattle.edit_terms.specs.declared.pattern.Entry.{Entry}
use Rattle.edit_terms.specs.declared.pattern.Pattern.{Pattern}
use Rattle.edit_terms.specs.declared.pattern.Value.{Value}
use Rattle.edit_terms.specs.declared.pattern.Value.TheVariants.{Fixed, Rename, Put, RenamePut, Clipboard}
use Rattle.edit_terms.specs.declared.pos.Pos.{Pos}
use Rattle.edit_terms.specs.Clipboard.{CopiedBlocks}
use Rattle.edit_terms.specs.Draw.{draw_word, pattern_use}
use Rattle.edit_terms.specs.Pattern.{chosen_from, chosen_entry, placed, pattern_value}
use Rattle.edit_terms.specs.World.{BlockContent}
use Rattle.run_terms.specs.Commands.{is_clipboard, names_clipboard}
use Rattle.access_laws.proofs.Writes.{or_parts}

-- no entry that may be chosen is the clipboard where none is
chosen_free : (word total sum : ℕ) (entries : List Entry) → list_any (λ (e : Entry). is_clipboard e.value) entries ≡ false → IfSome (chosen_from word total sum entries) (λ e. is_clipboard e.value ≡ false)
chosen_free word total sum [] free = tt
chosen_free word total sum (e ∷ es) free =
    let parts = or_parts (is_clipboard e.value) (list_any (λ (f : Entry). is_clipboard f.value) es) free in
    by_test (ltb (word * total) ((sum + e.weight) * 2 ^ 32)) parts.0 (chosen_free word total (sum + e.weight) es parts.1)
  where
    by_test : (b : Bool) → is_clipboard e.value ≡ false → IfSome (chosen_from word total (sum + e.weight) es) (λ f. is_clipboard f.value ≡ false)
        → IfSome (cond b (Some e) (chosen_from word total (sum + e.weight) es)) (λ f. is_clipboard f.value ≡ false)
    by_test true here later = here
    by_test false here later = later

module _ (first second : CopiedBlocks) (p : Pos) (old : BlockContent) where
  placed_same : (value : Value) → is_clipboard value ≡ false → placed first p value old ≡ placed second p value old
  placed_same (Fixed state) is = refl
  placed_same (Rename name) is = refl
  placed_same (Put properties) is = refl
  placed_same (RenamePut state) is = refl
  placed_same Clipboard is = absurd cc

  entry_same : (o : Option Entry) → IfSome o (λ e. is_clipboard e.value ≡ false) → option_map_or (λ (e : Entry). placed first p e.value old) o old ≡ option_map_or (λ (e : Entry). placed second p e.value old) o old
  entry_same None is = refl
  entry_same (Some e) is = placed_same e.value is

-- with two clipboards that are the same where the pattern names one
pub pattern_value-same : (pattern : Pattern) (first second : CopiedBlocks) → (names_clipboard pattern ≡ true → first ≡ second) → (seed t : ℕ) (p : Pos) (old : BlockContent)
    → pattern_value pattern first seed t p old ≡ pattern_value pattern second seed t p old
pattern_value-same pattern first second same seed t p old = by_test (names_clipboard pattern) refl
  where
    by_test : (b : Bool) → names_clipboard pattern ≡ b → pattern_value pattern first seed t p old ≡ pattern_value pattern second seed t p old
    by_test true is = ap (λ (copied : CopiedBlocks). pattern_value pattern copied seed t p old) (same is)
    by_test false is = entry_same first second p old (chosen_entry (draw_word seed t pattern_use p) pattern.entries) (chosen_free (draw_word seed t pattern_use p) (sum_by (λ (e : Entry). e.weight) pattern.entries) 0 pattern.entries is)
