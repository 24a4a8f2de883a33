-- A job's effect depends on what it needs alone, at a place and in a chunk; and the parts of other chunks stay.
use Rattle.std.proofs.Common.{◌≡◌, ℕ, suc, eqb, true, List, [], ◌∷◌, map, ℤ, sym, ap, ◌∙◌, subst, refl, arith}
use Rattle.std.proofs.lemmas.List.FromFn.{get_or-map-range_with_len}
use Rattle.edit_terms.specs.Area.{Area, volume, position_of, chunk_of, is_world_box}
use Rattle.edit_terms.specs.Clipboard.{CopiedBlocks}
use Rattle.edit_terms.specs.World.{BlockContent, World, air_content}
use Rattle.run_terms.specs.Workload.{Workload}
use Rattle.run_terms.specs.Change.{Change, content_of}
use Rattle.run_terms.specs.Effect.{Task, effect_at}
use Rattle.run_terms.specs.Fold.{world_after}
use Rattle.run_terms.specs.Limits.{IsWithinLimits}
use Rattle.run_terms.specs.Access.{chunk_cells, chunks_written}
use Rattle.run_terms.proofs.FoldLemmas.{area-world_after}
use Rattle.access_laws.specs.Locality.{is_among}
use Rattle.access_laws.specs.Needs.{HasSameNeeds, EffectsDependOnNeeds, EffectsDependOnNeedsIn, OtherPartsStay}
use Rattle.access_laws.proofs.Agreement.{by_contents}
use Rattle.access_laws.proofs.Depends.{draws_alike, content_same, effect_same}
use Rattle.access_laws.proofs.Parts.{same_number, listed_same}
use Rattle.access_laws.proofs.Stays.{stays}

module _ (area : Area) (cs ds : List BlockContent) (task : Task) (copied : CopiedBlocks) (taken : List (List Change)) where
  abbrev w : World
  w = record { area = area; contents = cs }

  abbrev v : World
  v = record { area = area; contents = ds }

  abbrev other : Task
  other = record task { copied = copied; taken = taken }

  of_needs : (index : ℕ) → EffectsDependOnNeeds task copied taken w v index
  of_needs index h =
      effect_same area cs ds task.seed task.ticket task.ticket task.spec task.copied copied task.taken taken (draws_alike task.seed task.ticket task.spec) index h.changes h.content h.column
      task.spec.work (draws_alike task.seed task.ticket task.spec).work h.clipboard h.sources

  of_needs_in : (chunk : ℕ) → EffectsDependOnNeedsIn area chunk task copied taken w v
  of_needs_in chunk h index below listed =
      let column = λ (y : ℤ). ap (λ (c : BlockContent). c.state) (content_same area cs ds (chunk ∷ []) h.contents (record (position_of area index) { y = y }) listed) in
      get_or-map-range_with_len (effect_at task w) 0 (volume area) index index air_content below (omega arith)
      ∙ of_needs index (record { area = refl; content = h.contents index below listed; column = column; sources = h.sources; clipboard = h.clipboard; changes = h.changes index below listed })
      ∙ sym (get_or-map-range_with_len (effect_at other v) 0 (volume area) index index air_content below (omega arith))

-- a job's effect at a place is told by what it needs there
pub effects_by_needs : (task : Task) (copied : CopiedBlocks) (taken : List (List Change)) (w v : World) (index : ℕ) → EffectsDependOnNeeds task copied taken w v index
effects_by_needs task copied taken w v index h =
    (subst (λ (a : World). HasSameNeeds task copied taken a v index → effect_at task a index ≡ effect_at (record task { copied = copied; taken = taken }) v index) (by_contents v.area w h.area)
    (of_needs v.area w.contents v.contents task copied taken index)) h

-- and in a chunk
pub effects_in_chunk : (area : Area) (chunk : ℕ) (task : Task) (copied : CopiedBlocks) (taken : List (List Change)) (w v : World) → EffectsDependOnNeedsIn area chunk task copied taken w v
effects_in_chunk area chunk task copied taken w v h =
    (subst (λ (a : World). EffectsDependOnNeedsIn area chunk task copied taken a v) (by_contents area w h.first)
    (subst (λ (b : World). EffectsDependOnNeedsIn area chunk task copied taken (record { area = area; contents = w.contents }) b) (by_contents area v h.second)
    (of_needs_in area w.contents v.contents task copied taken chunk))) h

-- a ticket leaves the parts of chunks that it doesn't write
pub other_parts : (case : Workload) → IsWithinLimits case → is_world_box case.opening.area ≡ true → (order : List ℕ) (ticket : ℕ) → OtherPartsStay case order ticket
other_parts case limits fits order t chunk out =
    let area = case.opening.area in
    let old = world_after case order t in
    let new = world_after case order (suc t) in
    ap (λ (a : Area). map (content_of new) (chunk_cells a chunk)) (area-world_after case order (suc t))
    ∙ listed_same (content_of new) (content_of old) (λ k. eqb (chunk_of area (position_of area k)) chunk) 0 (volume area) (volume area) (omega arith) (λ k below is.
    (let here : chunk_of area (position_of area k) ≡ chunk = same_number (chunk_of area (position_of area k)) chunk is in
    stays case limits fits order t k below (ap (is_among (chunks_written case order t)) here ∙ out)))
    ∙ sym (ap (λ (a : Area). map (content_of old) (chunk_cells a chunk)) (area-world_after case order t))
