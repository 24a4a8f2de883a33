-- What a serial core holds: the parts of serial worlds, true captured cells and changes, and in the end the last world.
use Rattle.std.proofs.Common.{◌≡◌, ℕ, ◌<◌, ◌≤◌, eqb, Bool, true, false, not, ◌||◌, List, [], ◌∷◌, length, map, refl, sym, ap, ◌∙◌, subst, inl, inr, arith}
use Rattle.std.specs.Prelude.{All, filter}
use Rattle.std.specs.Option.{option_map_or}
use Rattle.std.specs.Cmp.Derive.{both_true}
use Rattle.std.proofs.lemmas.Bool.{cases_lt}
use Rattle.std.proofs.lemmas.List.{ext_get_or}
use Rattle.std.proofs.lemmas.List.Elements.{All-weaker}
use Rattle.edit_terms.specs.declared.clip.Source.{Source}
use Rattle.edit_terms.specs.Area.{Area, volume, position_of, chunk_of, is_world_box}
use Rattle.edit_terms.specs.World.{World, IsWorld, air_content}
use Rattle.edit_terms.proofs.AreaLemmas.{and_both, block_at_place}
use Rattle.run_terms.specs.Workload.{Workload}
use Rattle.run_terms.specs.Order.{source_of}
use Rattle.run_terms.specs.Limits.{IsWithinLimits}
use Rattle.run_terms.specs.Reply.{final_world}
use Rattle.run_terms.specs.Access.{chunk_part}
use Rattle.run_terms.specs.Change.{content_of}
use Rattle.run_terms.proofs.FoldLemmas.{area-world_after, whole-world_after}
use Rattle.access_laws.specs.Locality.{is_among}
use Rattle.access_laws.proofs.Chunks.{chunk_below}
use Rattle.access_laws.proofs.Parts.{same_number, agreement_by_parts}
use Rattle.core_laws.specs.ChunkState.{Recorded, ChunkState, part_of, changes_kept}
use Rattle.core_laws.specs.Core.{Core, reads_chunk, writes_chunk, is_settled}
use Rattle.core_laws.specs.Serial.{tickets_below, captured_by, recorded_by, is_kept, serial_chunk, IsSerialChunk}
use Rattle.core_laws.specs.Settled.{HasPartOfSettledTickets, IsTruePart, IsTrueRecord, HoldsTruth, IsFinished, IsOfCells, LeavesFinalWorld}
use Rattle.core_laws.proofs.OneChunk.{serial-settled}
use Rattle.core_laws.proofs.SerialSteps.{parts_same, asked}
use Rattle.core_laws.proofs.Tickets.{among_listed, among_below, IsItem, items, found_same}
use Rattle.core_laws.proofs.WriteStep.{one_in}

module _ (case : Workload) (limits : IsWithinLimits case) (fits : is_world_box case.opening.area ≡ true) (keeps : Source → Bool) (core : Core)
    (serial : (chunk : ℕ) → IsSerialChunk case keeps core.order chunk (core.chunks chunk)) where
  abbrev order : List ℕ
  order = core.order

  abbrev area : Area
  area = case.opening.area

  -- ---- the blocks

  -- a ticket below both numbers is settled
  behind_settled : (chunk t : ℕ) → t < (serial chunk).read → t < (serial chunk).written → is_settled case order chunk (core.chunks chunk) t ≡ true
  behind_settled chunk t in_read in_written =
      let h = serial chunk in
      ap (λ (state : ChunkState). is_settled case order chunk state t) h.same ∙ serial-settled case keeps order chunk h.read h.written t in_read in_written

  -- a settled ticket above the written ones writes nothing here
  settled_above : (chunk t : ℕ) → is_settled case order chunk (core.chunks chunk) t ≡ true → (serial chunk).written ≤ t → writes_chunk case order chunk t ≡ false
  settled_above chunk t settled above = by_write (writes_chunk case order chunk t) refl
    where
      by_write : (b : Bool) → writes_chunk case order chunk t ≡ b → writes_chunk case order chunk t ≡ false
      by_write false is = is
      by_write true is =
          let h = serial chunk in
          let parts = and_both (not (reads_chunk case order chunk t) || is_among (core.chunks chunk).reads t) (not (writes_chunk case order chunk t) || is_among (core.chunks chunk).writes t) settled in
          let done = asked (writes_chunk case order chunk t) (is_among (core.chunks chunk).writes t) is parts.1 in
          let listed = among_listed (writes_chunk case order chunk) h.written t (ap (λ (state : ChunkState). is_among state.writes t) (sym h.same) ∙ done) in
          absurd (omega (arith, above, listed.below))

  pub part_of_settled : HasPartOfSettledTickets case core
  part_of_settled chunk number h =
      let s = serial chunk in
      ap (λ (state : ChunkState). state.cells) s.same
      ∙ parts_same case limits fits keeps order chunk s.written number up (λ t low high. settled_above chunk t (h.settled t high) low)
    where
      up : (serial chunk).written ≤ number
      up = elim (cases_lt number (serial chunk).written) [
        | inl below ↦
            let s = serial chunk in
            let least = s.least in
            let drawn = s.drawn in
            let settled = behind_settled chunk number (omega (arith, below, least)) below in
            let open_one = h.next (omega (arith, below, least, drawn)) in
            absurd cc
        | inr above ↦ above
      ]

  -- ---- captured cells and kept changes

  pub holds_truth : (chunk : ℕ) → HoldsTruth case keeps core chunk
  holds_truth chunk =
      let h = serial chunk in
      let drawn = h.drawn in
      let least = h.least in
      let reads = reads_chunk case order chunk in
      let kept = is_kept case keeps order chunk in
      record {
        parts =
            subst (λ (state : ChunkState). All (IsTruePart case order chunk) state.parts) (sym h.same)
            (All-weaker (IsItem (λ part. part.source) (captured_by case order chunk) order (λ s. refl) reads h.read) (IsTruePart case order chunk)
            (λ part item. (let low = item.listed.below in record { ticket = item.ticket; drawn = omega (arith, low, drawn); captured = item.made }))
            (map (captured_by case order chunk) (filter reads (tickets_below h.read))) (items (λ part. part.source) (captured_by case order chunk) order (λ s. refl) reads h.read));
        kept =
            subst (λ (state : ChunkState). All (IsTrueRecord case order chunk) state.kept) (sym h.same)
            (All-weaker (IsItem (λ (r : Recorded). r.source) (recorded_by case order chunk) order (λ s. refl) kept h.written) (IsTrueRecord case order chunk)
            (λ r item. (let low = item.listed.below in record { ticket = item.ticket; drawn = omega (arith, low, drawn, least); changed = item.made }))
            (map (recorded_by case order chunk) (filter kept (tickets_below h.written))) (items (λ (r : Recorded). r.source) (recorded_by case order chunk) order (λ s. refl) kept h.written));
        captured = λ t done. (let listed = among_listed reads h.read t (ap (λ (state : ChunkState). is_among state.reads t) (sym h.same) ∙ done) in
            ap (λ (state : ChunkState). part_of state.parts (source_of order t)) h.same
            ∙ found_same (λ part. part.source) (captured_by case order chunk) order (λ s. refl) reads h.read drawn t listed.below listed.passes);
        changed = λ t done keep. (let listed = among_listed (writes_chunk case order chunk) h.written t (ap (λ (state : ChunkState). is_among state.writes t) (sym h.same) ∙ done) in
            ap (λ (state : ChunkState). changes_kept state.kept (source_of order t)) h.same
            ∙ ap (λ o. option_map_or (λ (r : Recorded). r.changes) o [])
            (found_same (λ (r : Recorded). r.source) (recorded_by case order chunk) order (λ s. refl) kept h.written (omega (arith, least, drawn)) t listed.below (both_true listed.passes keep)));
      }

  -- ---- the end

  module _ (whole : IsWorld case.opening) (done : IsFinished case core) (w : World) (of_cells : IsOfCells case core w) where
    abbrev last : World
    last = final_world case order

    last_area : last.area ≡ area
    last_area = area-world_after case order (length order)

    cells_last : (chunk : ℕ) → (core.chunks chunk).cells ≡ chunk_part last chunk
    cells_last chunk = part_of_settled chunk (length order) (record { drawn = omega arith; settled = λ t below. done.done t chunk below; next = λ less. absurd (omega (arith, less)) })

    content_last : (k : ℕ) → k < volume area → content_of w k ≡ content_of last k
    content_last k below =
        let chunk = chunk_of area (position_of area k) in
        let inside = chunk_below area (position_of area k) (block_at_place area k fits below).held in
        (agreement_by_parts area (chunk ∷ []) w last of_cells.area last_area).contents
        (λ c listed. subst (λ (d : ℕ). chunk_part w d ≡ chunk_part last d) (one_listed chunk c listed) (of_cells.parts chunk inside ∙ cells_last chunk)) k below (one_in area chunk k refl)
      where
        one_listed : (chunk c : ℕ) → is_among (chunk ∷ []) c ≡ true → chunk ≡ c
        one_listed chunk c listed = by_test (eqb chunk c) refl listed
          where
            by_test : (b : Bool) → eqb chunk c ≡ b → (b || false) ≡ true → chunk ≡ c
            by_test true is h = same_number chunk c is
            by_test false is h = absurd cc

    is_last : w ≡ last
    is_last =
        let long : length w.contents ≡ volume area = of_cells.whole ∙ ap volume of_cells.area in
        let long_last : length last.contents ≡ volume area = whole-world_after case order (length order) whole ∙ ap volume last_area in
        let box = of_cells.area ∙ sym last_area in
        let contents = ext_get_or air_content w.contents last.contents (long ∙ sym long_last) (λ k lt. content_last k (omega (arith, lt, long))) in
        λ i. record { area = box i; contents = contents i }

  pub leaves_final_world : IsWorld case.opening → LeavesFinalWorld case core
  leaves_final_world whole done w of_cells = is_last whole done w of_cells
