-- A world made of known cells is like another world at each place where the cells are true of it and know the place.
use Rattle.std.proofs.Common.{◌≡◌, ℕ, ◌<◌, eqb, Bool, true, false, cond, ◌&&◌, ◌||◌, List, [], ◌∷◌, map, Some, None, refl, sym, ap, ◌∙◌, subst, arith}
use Rattle.std.specs.Prelude.{All}
use Rattle.std.specs.List.{range_with_len, list_any, find, zip}
use Rattle.std.specs.Option.{option_map_or}
use Rattle.std.proofs.lemmas.Bool.{eq-eqb}
use Rattle.std.proofs.lemmas.List.Elements.{All-nil, All-cons, All-head, All-tail, All-filter}
use Rattle.std.proofs.lemmas.List.FromFn.{get_or-map-range_with_len}
use Rattle.std.proofs.lemmas.Map.Views.{any-filter_same}
use Rattle.edit_terms.specs.declared.clip.Clip.{Clip}
use Rattle.edit_terms.specs.declared.pos.Pos.{Pos}
use Rattle.edit_terms.specs.declared.region.Selection.{Selection}
use Rattle.edit_terms.specs.Area.{Area, volume, holds, index_of, position_of, chunk_of}
use Rattle.edit_terms.specs.Clipboard.{clip_box_of, clipboard_of, copied_from, copied_content}
use Rattle.edit_terms.specs.Region.{is_selected}
use Rattle.edit_terms.specs.Transform.{turned_content}
use Rattle.edit_terms.specs.World.{BlockContent, World, air_content, content_at}
use Rattle.edit_terms.proofs.AreaLemmas.{and_both, held_below}
use Rattle.run_terms.specs.Change.{content_of}
use Rattle.run_terms.specs.Access.{chunk_cells, chunk_part}
use Rattle.access_laws.specs.Locality.{is_among}
use Rattle.access_laws.specs.Needs.{HaveSameSources}
use Rattle.access_laws.proofs.Chunks.{any_of_filter, any_of_range}
use Rattle.access_laws.proofs.Agreement.{by_contents}
use Rattle.access_laws.proofs.Parts.{same_number}
use Rattle.core_laws.specs.ChunkState.{placed_cells, selected_cells}
use Rattle.core_laws.specs.WriteJob.{known_content, world_of_cells}

-- each cell has the world's content
abbrev pub AreTrueOf : World → List (ℕ × BlockContent) → Type 0
AreTrueOf w known = All (λ cell. cell.1 ≡ content_of w cell.0) known

-- a cell of the place is there
abbrev pub has_place : List (ℕ × BlockContent) → ℕ → Bool
has_place known index = list_any (λ cell. eqb cell.0 index) known

pub known_content-true : (w : World) (known : List (ℕ × BlockContent)) (index : ℕ) → AreTrueOf w known → has_place known index ≡ true → known_content known index ≡ content_of w index
known_content-true w [] index true_of there = absurd cc
known_content-true w (cell ∷ rest) index true_of there =
    by_head (known_content-true w rest index (All-tail (λ c. c.1 ≡ content_of w c.0) cell rest true_of)) (eqb cell.0 index) refl there
  where
    by_head : (has_place rest index ≡ true → known_content rest index ≡ content_of w index) → (b : Bool) → eqb cell.0 index ≡ b → (b || has_place rest index) ≡ true
        → option_map_or (λ (c : ℕ × BlockContent). c.1) (cond b (Some cell) (find (λ (c : ℕ × BlockContent). eqb c.0 index) rest)) air_content ≡ content_of w index
    by_head later true is h = All-head (λ c. c.1 ≡ content_of w c.0) cell rest true_of ∙ ap (content_of w) (same_number cell.0 index is)
    by_head later false is h = later h

-- ---- the cells of a part

module _ (f : ℕ → BlockContent) where
  true_zip : (w : World) → ((k : ℕ) → f k ≡ content_of w k) → (ks : List ℕ) → AreTrueOf w (zip ks (map f ks))
  true_zip w same [] = All-nil (λ cell. cell.1 ≡ content_of w cell.0)
  true_zip w same (k ∷ ks) = All-cons (λ cell. cell.1 ≡ content_of w cell.0) (k, f k) (zip ks (map f ks)) (same k) (true_zip w same ks)

  has_zip : (ks : List ℕ) (index : ℕ) → has_place (zip ks (map f ks)) index ≡ is_among ks index
  has_zip [] index = refl
  has_zip (k ∷ ks) index = ap (λ (b : Bool). eqb k index || b) (has_zip ks index)

-- a place of the box stands among the cells of its chunk
among_chunk_cells : (area : Area) (chunk index : ℕ) → index < volume area → chunk_of area (position_of area index) ≡ chunk → is_among (chunk_cells area chunk) index ≡ true
among_chunk_cells area chunk index below here =
    any_of_filter (λ k. eqb (chunk_of area (position_of area k)) chunk) (range_with_len 0 (volume area)) index (eq-eqb (chunk_of area (position_of area index)) chunk here)
    ∙ any_of_range (λ m. eqb m index) 0 (volume area) index (omega arith) (omega (arith, below)) (eq-eqb index index refl)

module _ (area : Area) (w : World) (same : w.area ≡ area) (chunk : ℕ) where
  part_is : chunk_part w chunk ≡ map (content_of w) (chunk_cells area chunk)
  part_is = ap (λ (a : Area). map (content_of w) (chunk_cells a chunk)) same

  -- a world's part, placed, is true of the world and knows the places of the chunk
  pub true_placed : AreTrueOf w (placed_cells area chunk (chunk_part w chunk))
  true_placed = subst (λ (cells : List BlockContent). AreTrueOf w (placed_cells area chunk cells)) (sym part_is) (true_zip (content_of w) w (λ k. refl) (chunk_cells area chunk))

  pub has_placed : (index : ℕ) → index < volume area → chunk_of area (position_of area index) ≡ chunk → has_place (placed_cells area chunk (chunk_part w chunk)) index ≡ true
  has_placed index below here =
      ap (λ (cells : List BlockContent). has_place (placed_cells area chunk cells) index) part_is ∙ has_zip (content_of w) (chunk_cells area chunk) index ∙ among_chunk_cells area chunk index below here

  -- so are its selected cells
  pub true_selected : (from : Selection) → AreTrueOf w (selected_cells area from chunk (chunk_part w chunk))
  true_selected from =
      All-filter (λ cell. is_selected from (position_of area cell.0)) (λ cell. cell.1 ≡ content_of w cell.0) (placed_cells area chunk (chunk_part w chunk)) true_placed

  pub has_selected : (from : Selection) (index : ℕ) → index < volume area → chunk_of area (position_of area index) ≡ chunk → is_selected from (position_of area index) ≡ true
      → has_place (selected_cells area from chunk (chunk_part w chunk)) index ≡ true
  has_selected from index below here selected =
      any-filter_same (λ cell. eqb cell.0 index) (λ cell. is_selected from (position_of area cell.0)) true
      (λ cell is. ap (λ (k : ℕ). is_selected from (position_of area k)) (same_number cell.0 index is) ∙ selected) (placed_cells area chunk (chunk_part w chunk))
      ∙ has_placed index below here

-- ---- worlds made of cells

pub content_of-cells : (area : Area) (known : List (ℕ × BlockContent)) (index : ℕ) → index < volume area → content_of (world_of_cells area known) index ≡ known_content known index
content_of-cells area known index below = get_or-map-range_with_len (known_content known) 0 (volume area) index index air_content below (omega arith)

-- the cells know each block of the selection
abbrev pub Cover : Area → Selection → List (ℕ × BlockContent) → Type 0
Cover area from known = (q : Pos) → is_selected from q ≡ true → holds area q ≡ true → has_place known (index_of area q) ≡ true

module _ (area : Area) (cs : List BlockContent) (known : List (ℕ × BlockContent)) (are_true : AreTrueOf (record { area = area; contents = cs }) known) where
  abbrev w : World
  w = record { area = area; contents = cs }

  pub known_at : (q : Pos) → holds area q ≡ true → has_place known (index_of area q) ≡ true → content_at (world_of_cells area known) q ≡ content_at w q
  known_at q held there =
      ap (λ (c : BlockContent). cond (holds area q) c air_content)
      (content_of-cells area known (index_of area q) (held_below area q held) ∙ known_content-true w known (index_of area q) are_true there)

  sources_known : (from : Selection) → Cover area from known → HaveSameSources from (world_of_cells area known) w
  sources_known from cover q source = let parts = and_both (is_selected from q) (holds area q) source in known_at q parts.1 (cover q parts.0 parts.1)

  clipboard_of_known : (c : Clip) → Cover area c.from known → clipboard_of c (world_of_cells area known) ≡ clipboard_of c w
  clipboard_of_known c cover = let same = cell in λ i. record { bounds = clip_box_of c area; at = λ r. same r i }
    where
      by_test : (r : Pos) (b : Bool) → (is_selected c.from (copied_from c r) && holds area (copied_from c r)) ≡ b → copied_content c (world_of_cells area known) r ≡ copied_content c w r
      by_test r true is =
          let p = copied_from c r in
          let parts = and_both (is_selected c.from p) (holds area p) is in
          let same = known_at p parts.1 (cover p parts.0 parts.1) in
          λ i. cond (is_selected c.from p && holds area p) (Some (turned_content c.transform (same i))) None
      by_test r false is =
          let p = copied_from c r in
          ap (λ (b : Bool). cond b (Some (turned_content c.transform (content_at (world_of_cells area known) p))) None) is
          ∙ sym (ap (λ (b : Bool). cond b (Some (turned_content c.transform (content_at w p))) None) is)

      cell : (r : Pos) → copied_content c (world_of_cells area known) r ≡ copied_content c w r
      cell r = by_test r (is_selected c.from (copied_from c r) && holds area (copied_from c r)) refl

-- the same of a world by its box
module _ (area : Area) (w : World) (same : w.area ≡ area) (known : List (ℕ × BlockContent)) (are_true : AreTrueOf w known) where
  pub sources-known : (from : Selection) → Cover area from known → HaveSameSources from (world_of_cells area known) w
  sources-known from cover =
      (subst (λ (v : World). AreTrueOf v known → HaveSameSources from (world_of_cells area known) v) (by_contents area w same) (λ of_w. sources_known area w.contents known of_w from cover)) are_true

  pub clipboard_of-known : (c : Clip) → Cover area c.from known → clipboard_of c (world_of_cells area known) ≡ clipboard_of c w
  clipboard_of-known c cover =
      (subst (λ (v : World). AreTrueOf v known → clipboard_of c (world_of_cells area known) ≡ clipboard_of c v) (by_contents area w same) (λ of_w. clipboard_of_known area w.contents known of_w c cover)) are_true
