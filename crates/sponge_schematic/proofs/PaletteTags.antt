-- A palette's entries, one after another.
use Rattle.std.proofs.Common.{◌≡◌, ℕ, zero, suc, ◌+◌, List, [], ◌∷◌, ◌++◌, drop, Some, slice_get, sym, ap, ◌∙◌, append_assoc, arith}
use Rattle.edit_terms.specs.StateText.{State}
use Rattle.nbt_tags.specs.declared.tag.Named.{Named}
use Rattle.sponge_schematic.specs.File.{entry_tag, entry_tags}

drop_at_get : {A : Type 0} (xs : List A) (n : ℕ) (x : A) → slice_get xs n ≡ Some x → drop n xs ≡ x ∷ drop (suc n) xs
drop_at_get [] n x e = absurd cc
drop_at_get (y ∷ xs) zero x e = let p : y ≡ x = cc in ap (λ z. z ∷ xs) p
drop_at_get (y ∷ xs) (suc n) x e = drop_at_get xs n x e

-- one more entry is put
pub entry-next : (palette : List State) (n : ℕ) (s : State) (put next : List Named) → slice_get palette n ≡ Some s → next ≡ put ++ entry_tag n s ∷ []
    → next ++ entry_tags (n + 1) (drop (n + 1) palette) ≡ put ++ entry_tags n (drop n palette)
entry-next palette n s put next at grown =
    let more : n + 1 ≡ suc n = omega arith in
    ap (λ (front : List Named). front ++ entry_tags (n + 1) (drop (n + 1) palette)) grown
    ∙ append_assoc put (entry_tag n s ∷ []) (entry_tags (n + 1) (drop (n + 1) palette))
    ∙ ap (λ (k : ℕ). put ++ (entry_tag n s ∷ entry_tags (n + 1) (drop k palette))) more
    ∙ ap (λ (l : List State). put ++ entry_tags n l) (sym (drop_at_get palette n s at))
