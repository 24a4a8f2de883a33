-- Each content of a list gets a number, one after the other: the earlier numbers go on naming what they named.
use Rattle.std.proofs.Common.{◌≡◌, ℕ, zero, suc, ◌<◌, List, [], ◌∷◌, ◌++◌, length, get_or, sym, ◌∙◌, subst, inl, inr, arith}
use Rattle.std.specs.Prelude.{Some, slice_get}
use Rattle.std.proofs.lemmas.Bool.{cases_lt}
use Rattle.std.proofs.lemmas.List.{get_or_append_left, length-append}
use Rattle.std.proofs.Math.Seq.{get_or-append_seam}
use Rattle.std.proofs.lemmas.Option.{get_or_from_slice_get}
use Rattle.edit_terms.specs.Same.{same_content, content_decides}
use Rattle.edit_terms.specs.World.{BlockContent, air_content}
use Rattle.block_palette.specs.Numbering.{IsNumberOf}
use Rattle.world_canvas.specs.Canvas.{IsGrown}
use Rattle.world_canvas.specs.Numbering.{IsName, AreNames}
use Rattle.world_canvas.proofs.GrowthLemmas.{grown_length, grown_content}

slice_get-below : (kinds : List BlockContent) (n : ℕ) (c : BlockContent) → slice_get kinds n ≡ Some c → n < length kinds
slice_get-below [] n c is = absurd cc
slice_get-below (k ∷ kinds) zero c is = omega arith
slice_get-below (k ∷ kinds) (suc n) c is = omega (arith, slice_get-below kinds n c is)

-- the number that a palette gives is a name
pub named_by_palette : (kinds : List BlockContent) (c : BlockContent) (n : ℕ) → IsNumberOf same_content kinds c n → IsName kinds n c
named_by_palette kinds c n is = record {
  within = slice_get-below kinds n is.entry is.there;
  is = get_or_from_slice_get kinds n is.entry air_content is.there ∙ sym ((content_decides c is.entry).0 is.alike);
}

-- a name stays one
pub name_stays : (old new : List BlockContent) (n : ℕ) (c : BlockContent) → IsGrown old new → IsName old n c → IsName new n c
name_stays old new n c grown name =
    let more = grown_length old new grown in
    record { within = omega (arith, more, name.within); is = grown_content old new grown n name.within ∙ name.is }

-- one content more is named
pub names_more : (old new : List BlockContent) (numbers : List ℕ) (n : ℕ) (contents : List BlockContent) → IsGrown old new → AreNames old numbers contents → IsName new n (get_or contents (length numbers) air_content) → AreNames new (numbers ++ n ∷ []) contents
names_more old new numbers n contents grown names name = λ k within. elim (cases_lt k (length numbers)) [
  | inl below ↦
      subst (λ (m : ℕ). IsName new m (get_or contents k air_content)) (sym (get_or_append_left numbers (n ∷ []) 0 k below))
      (name_stays old new (get_or numbers k 0) (get_or contents k air_content) grown (names k below))
  | inr above ↦
      let last : length numbers ≡ k = omega (arith, above, within, length-append numbers (n ∷ [])) in
      subst (λ (j : ℕ). IsName new (get_or (numbers ++ n ∷ []) j 0) (get_or contents j air_content)) last
      (subst (λ (m : ℕ). IsName new m (get_or contents (length numbers) air_content)) (sym (get_or-append_seam numbers n [] 0)) name)
]
