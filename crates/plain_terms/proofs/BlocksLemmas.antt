-- What stands at a place of the world that a list of contents and numbers show.
use Rattle.std.proofs.Common.{◌≡◌, ℕ, ◌<◌, true, List, length, get_or, sym, ap, ◌∙◌, arith}
use Rattle.std.specs.Prelude.{Some, slice_get, nat_lt}
use Rattle.std.specs.List.{list_all}
use Rattle.std.proofs.lemmas.Bool.{ltb-true}
use Rattle.std.proofs.lemmas.List.Sums.{AllPass-from_list_all}
use Rattle.std.proofs.lemmas.List.FromFn.{get_or-map-range_with_len}
use Rattle.std.proofs.lemmas.Option.{get_or_from_slice_get}
use Rattle.edit_terms.specs.Area.{Area, volume}
use Rattle.edit_terms.specs.World.{BlockContent, air_content}
use Rattle.plain_terms.specs.Shown.{content_shown, world_shown, IsNumbered}

-- the entry of a place's number is the content at the place
pub shown_content : (area : Area) (kinds : List BlockContent) (cells : List ℕ) (index number : ℕ) (content : BlockContent)
    → index < volume area → number ≡ get_or cells index 0 → slice_get kinds number ≡ Some content
    → content ≡ get_or (world_shown area kinds cells).contents index air_content
shown_content area kinds cells index number content within is entry =
    sym (get_or-map-range_with_len (content_shown kinds cells) 0 (volume area) index index air_content within (omega arith)
    ∙ ap (λ (n : ℕ). get_or kinds n air_content) (sym is)
    ∙ get_or_from_slice_get kinds number content air_content entry)

-- numbers that are tested one by one name contents
pub numbered_by_tests : (area : Area) (kinds : List BlockContent) (cells : List ℕ) → length cells ≡ volume area → list_all (λ n. nat_lt n (length kinds)) cells ≡ true → IsNumbered area kinds cells
numbered_by_tests area kinds cells whole each = record {
  whole = whole;
  within = λ i d inside. ltb-true (get_or cells i d) (length kinds) (AllPass-from_list_all (λ n. nat_lt n (length kinds)) cells each i d inside);
}
