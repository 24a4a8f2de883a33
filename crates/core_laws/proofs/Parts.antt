-- What a write job is handed: in a core whose chunks are serial, the cells that a ticket captured are true of the world before
-- it, and once all its reads are done they know each block of its selection.
use Rattle.std.proofs.Common.{◌≡◌, ℕ, ◌<◌, ◌≤◌, eqb, Bool, true, false, ◌||◌, List, [], ◌∷◌, length, Option, Some, None, refl, sym, ap, ◌∙◌, subst, arith}
use Rattle.std.specs.Prelude.{All, IfSome, is_some, flat_map}
use Rattle.std.specs.List.{list_any, list_all}
use Rattle.std.specs.Option.{option_map_or}
use Rattle.std.proofs.lemmas.List.Concat.{flat_map-cons}
use Rattle.std.proofs.lemmas.List.Elements.{All-nil, All-append}
use Rattle.edit_terms.specs.declared.clip.Source.{Source}
use Rattle.edit_terms.specs.declared.region.Region.TheVariants.{Selected}
use Rattle.edit_terms.specs.declared.region.Selection.{Selection}
use Rattle.edit_terms.specs.Area.{Area, index_of, position_of, chunk_of}
use Rattle.edit_terms.specs.Frame.{IsSelection, frame_of_selection}
use Rattle.edit_terms.specs.Region.{is_selected}
use Rattle.edit_terms.specs.World.{BlockContent, World}
use Rattle.edit_terms.proofs.AreaLemmas.{and_both, position_at_index, held_below}
use Rattle.edit_terms.proofs.RegionLemmas.{framed}
use Rattle.run_terms.specs.Workload.{Workload}
use Rattle.run_terms.specs.Order.{source_of, ticket_of, step_of_ticket, step_of_command}
use Rattle.run_terms.specs.Change.{content_of}
use Rattle.run_terms.specs.Fold.{world_after}
use Rattle.run_terms.specs.Access.{chunks_of_boxes, chunk_part, boxes_read_by, chunks_read, chunks_read_by}
use Rattle.run_terms.specs.Needs.{selection_read_by}
use Rattle.run_terms.proofs.FoldLemmas.{area-world_after}
use Rattle.run_terms.proofs.Tickets.{ticket_of-source_of}
use Rattle.access_laws.specs.Locality.{is_among}
use Rattle.access_laws.proofs.Chunks.{or_first, or_second, among_chunks_of_boxes}
use Rattle.access_laws.proofs.Parts.{same_number}
use Rattle.access_laws.proofs.Stays.{any_joined}
use Rattle.core_laws.specs.ChunkState.{Captured, ChunkState, part_of, selected_cells}
use Rattle.core_laws.specs.Core.{Core, reads_chunk, are_reads_done, cells_captured}
use Rattle.core_laws.specs.Serial.{captured_by, IsSerialChunk}
use Rattle.core_laws.proofs.KnownCells.{AreTrueOf, has_place, Cover, true_selected, has_selected}
use Rattle.core_laws.proofs.Tickets.{among_listed, IsMade, found_is, found_some}

-- ---- lists

All-joined : {X Y : Type 0} (P : Y → Type 0) (f : X → List Y) → ((x : X) → All P (f x)) → (xs : List X) → All P (flat_map f xs)
All-joined P f each [] = All-nil P
All-joined P f each (x ∷ xs) = subst (All P) (sym (flat_map-cons f x xs)) (All-append P (f x) (flat_map f xs) (each x) (All-joined P f each xs))

-- a test that holds of a number of the list finds one
any_among : (g : ℕ → Bool) (ks : List ℕ) (k : ℕ) → is_among ks k ≡ true → g k ≡ true → list_any g ks ≡ true
any_among g [] k among h = absurd cc
any_among g (x ∷ ks) k among h = by_head (λ later. any_among g ks k later h) (eqb x k) refl among
  where
    by_head : (is_among ks k ≡ true → list_any g ks ≡ true) → (b : Bool) → eqb x k ≡ b → (b || is_among ks k) ≡ true → (g x || list_any g ks) ≡ true
    by_head later true is all = or_first (g x) (list_any g ks) (ap g (same_number x k is) ∙ h)
    by_head later false is all = or_second (g x) (list_any g ks) (later all)

-- a test that all numbers of the list pass holds of each
pub all_among : (g : ℕ → Bool) (ks : List ℕ) (k : ℕ) → list_all g ks ≡ true → is_among ks k ≡ true → g k ≡ true
all_among g [] k all among = absurd cc
all_among g (x ∷ ks) k all among = let parts = and_both (g x) (list_all g ks) all in by_head parts.0 (all_among g ks k parts.1) (eqb x k) refl among
  where
    by_head : g x ≡ true → (is_among ks k ≡ true → g k ≡ true) → (b : Bool) → eqb x k ≡ b → (b || is_among ks k) ≡ true → g k ≡ true
    by_head here later true is h = ap g (sym (same_number x k is)) ∙ here
    by_head here later false is h = later h

-- ---- the parts of a serial core

module _ (case : Workload) (keeps : Source → Bool) (core : Core) (serial : (chunk : ℕ) → IsSerialChunk case keeps core.order chunk (core.chunks chunk)) where
  abbrev area : Area
  area = case.opening.area

  abbrev order : List ℕ
  order = core.order

  abbrev part_at : ℕ → Source → Option Captured
  part_at chunk id = part_of (core.chunks chunk).parts id

  -- the part of a ticket's command is that ticket's
  part_is : (t : ℕ) → t < length order → (chunk : ℕ) → IfSome (part_at chunk (source_of order t)) (λ part. part ≡ captured_by case order chunk t)
  part_is t below chunk =
      let h = serial chunk in
      by_part h.read h.drawn (part_at chunk (source_of order t))
      (subst (λ (state : ChunkState). IfSome (part_of state.parts (source_of order t)) (IsMade (λ part. part.source) (captured_by case order chunk) order (λ s. refl) (reads_chunk case order chunk) h.read (source_of order t))) (sym h.same)
      (found_is (λ part. part.source) (captured_by case order chunk) order (λ s. refl) (reads_chunk case order chunk) h.read (source_of order t)))
    where
      by_part : (n : ℕ) → n ≤ length order → (o : Option Captured) → IfSome o (IsMade (λ part. part.source) (captured_by case order chunk) order (λ s. refl) (reads_chunk case order chunk) n (source_of order t))
          → IfSome o (λ part. part ≡ captured_by case order chunk t)
      by_part n drawn None made = tt
      by_part n drawn (Some part) made =
          let low = made.listed.below in
          let same : made.ticket ≡ t =
          sym (ticket_of-source_of order made.ticket (omega (arith, low, drawn))) ∙ ap (ticket_of order) made.source ∙ ticket_of-source_of order t below in
          made.made ∙ ap (captured_by case order chunk) same

  -- it is there once the read job is done
  part_there : (t chunk : ℕ) → is_among (core.chunks chunk).reads t ≡ true → is_some (part_at chunk (source_of order t)) ≡ true
  part_there t chunk done =
      let h = serial chunk in
      let listed = among_listed (reads_chunk case order chunk) h.read t (ap (λ (state : ChunkState). is_among state.reads t) (sym h.same) ∙ done) in
      ap (λ (state : ChunkState). is_some (part_of state.parts (source_of order t))) h.same
      ∙ found_some (λ part. part.source) (captured_by case order chunk) order (λ s. refl) (reads_chunk case order chunk) h.read t listed.below listed.passes

  -- ---- the captured cells

  module _ (t : ℕ) (below : t < length order) where
    abbrev id : Source
    id = source_of order t

    abbrev w : World
    w = world_after case order t

    captured_true : (chunk : ℕ) → AreTrueOf w (captured_by case order chunk t).cells
    captured_true chunk = by_selection (selection_read_by (step_of_command case id))
      where
        by_selection : (o : Option Selection) → AreTrueOf w (option_map_or (λ from. selected_cells area from chunk (chunk_part w chunk)) o [])
        by_selection None = All-nil (λ cell. cell.1 ≡ content_of w cell.0)
        by_selection (Some from) = true_selected area w (area-world_after case order t) chunk from

    abbrev cells_at : ℕ → List (ℕ × BlockContent)
    cells_at chunk = option_map_or (λ part. part.cells) (part_at chunk id) []

    true_at : (chunk : ℕ) → AreTrueOf w (cells_at chunk)
    true_at chunk = by_part (part_at chunk id) (part_is t below chunk)
      where
        by_part : (o : Option Captured) → IfSome o (λ part. part ≡ captured_by case order chunk t) → AreTrueOf w (option_map_or (λ part. part.cells) o [])
        by_part None is = All-nil (λ cell. cell.1 ≡ content_of w cell.0)
        by_part (Some part) is = subst (λ (p : Captured). AreTrueOf w p.cells) (sym is) (captured_true chunk)

    -- what a ticket captured is true of the world before it
    pub cells_true : AreTrueOf w (cells_captured case core id)
    cells_true = All-joined (λ cell. cell.1 ≡ content_of w cell.0) cells_at true_at (chunks_read_by case id)

    module _ (done : are_reads_done case core t ≡ true) (from : Selection) (fits : IsSelection from) (selection : selection_read_by (step_of_ticket case order t) ≡ Some from)
        (boxes : boxes_read_by (step_of_ticket case order t) ≡ frame_of_selection from ∷ []) where
      -- and knows each block of the selection
      pub cells_cover : Cover area from (cells_captured case core id)
      cells_cover q selected held =
          let chunk = chunk_of area q in
          let index = index_of area q in
          let place : position_of area index ≡ q = position_at_index area q held in
          let among : is_among (chunks_read case order t) chunk ≡ true =
          ap (λ (bs : List Area). is_among (chunks_of_boxes area bs) chunk) boxes
          ∙ among_chunks_of_boxes area (frame_of_selection from ∷ []) q held (ap (λ (b : Bool). b || false) (framed (Selected from) fits q selected)) in
          let read = all_among (λ c. is_among (core.chunks c).reads t) (chunks_read case order t) chunk done among in
          let there = has_selected area w (area-world_after case order t) chunk from index (held_below area q held) (ap (chunk_of area) place) (ap (is_selected from) place ∙ selected) in
          let captured : has_place (captured_by case order chunk t).cells index ≡ true =
          ap (λ (o : Option Selection). has_place (option_map_or (λ f. selected_cells area f chunk (chunk_part w chunk)) o []) index) selection ∙ there in
          any_joined (λ cell. eqb cell.0 index) cells_at (chunks_read_by case id)
          ∙ any_among (λ c. has_place (cells_at c) index) (chunks_read_by case id) chunk among (by_part chunk index captured (part_at chunk id) (part_is t below chunk) (part_there t chunk read))
        where
          by_part : (chunk index : ℕ) → has_place (captured_by case order chunk t).cells index ≡ true → (o : Option Captured) → IfSome o (λ part. part ≡ captured_by case order chunk t) → is_some o ≡ true
              → has_place (option_map_or (λ part. part.cells) o []) index ≡ true
          by_part chunk index captured None is some = absurd cc
          by_part chunk index captured (Some part) is some = ap (λ (p : Captured). has_place p.cells index) is ∙ captured
