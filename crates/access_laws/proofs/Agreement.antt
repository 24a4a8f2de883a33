-- From worlds that agree on the chunks that a command reads and writes, its job makes worlds that agree on those that
-- it writes; and a clipboard is the same from worlds that agree on the chunks that its copy read.
use Rattle.std.proofs.Common.{◌≡◌, ℕ, Bool, true, false, cond, ◌&&◌, ◌||◌, List, [], ◌∷◌, ℤ, get_or, Option, Some, None, refl, sym, ap, ◌∙◌, subst, arith}
use Rattle.std.specs.Prelude.{IfSome}
use Rattle.std.specs.List.{list_any}
use Rattle.std.proofs.lemmas.List.FromFn.{get_or-map-range_with_len}
use Rattle.edit_terms.specs.declared.clip.Clip.{Clip}
use Rattle.edit_terms.specs.declared.clip.Source.{Source}
use Rattle.edit_terms.specs.declared.pos.Pos.{Pos}
use Rattle.edit_terms.specs.declared.region.Region.TheVariants.{Selected}
use Rattle.edit_terms.specs.declared.step.Spec.{Spec}
use Rattle.edit_terms.specs.declared.step.Step.{Step}
use Rattle.edit_terms.specs.declared.step.Step.TheVariants.{Job}
use Rattle.edit_terms.specs.Area.{Area, volume, holds, index_of, position_of}
use Rattle.edit_terms.specs.Clipboard.{CopiedBlocks, clip_box_of, clipboard_of, copied_from, copied_content}
use Rattle.edit_terms.specs.Frame.{IsSelection, frame_of_selection}
use Rattle.edit_terms.specs.Region.{is_selected}
use Rattle.edit_terms.specs.Transform.{turned_content}
use Rattle.edit_terms.specs.World.{BlockContent, World, air_content, content_at}
use Rattle.edit_terms.proofs.AreaLemmas.{and_both}
use Rattle.edit_terms.proofs.RegionLemmas.{framed}
use Rattle.run_terms.specs.Workload.{Workload}
use Rattle.run_terms.specs.Order.{lines_of, step_of_command}
use Rattle.run_terms.specs.Change.{Change}
use Rattle.run_terms.specs.Effect.{Task, latest_change, effect_at, world_with}
use Rattle.run_terms.specs.Limits.{IsWithinLimits}
use Rattle.run_terms.specs.Access.{chunks_of_boxes, boxes_read, boxes_read_by, chunks_read_by, chunks_written_by}
use Rattle.access_laws.specs.Locality.{AgreeIn, AreWorldsOf, EffectsDependOnChunksAccessed, ClipboardsDependOnChunksRead}
use Rattle.access_laws.proofs.Chunks.{among_chunks_of_boxes}
use Rattle.access_laws.proofs.Writes.{HasPositions}
use Rattle.access_laws.proofs.Depends.{JobDrawsAlike, draws_alike, content_same, effect_same, sources_same}
use Rattle.access_laws.proofs.Sessions.{IsSoundClip, IsSoundStep}
use Rattle.access_laws.proofs.Stays.{command_is_sound}

-- two worlds of one box, by their contents
module _ (area : Area) (cs ds : List BlockContent) where
  abbrev w : World
  w = record { area = area; contents = cs }

  abbrev v : World
  v = record { area = area; contents = ds }

  -- what is read of some boxes is the same in worlds that agree on their chunks
  read_same : (boxes : List Area) → AgreeIn area (chunks_of_boxes area boxes) w v → (q : Pos) → list_any (λ box. holds box q) boxes ≡ true → content_at w q ≡ content_at v q
  read_same boxes agree q inside = by_test (holds area q) refl
    where
      by_test : (b : Bool) → holds area q ≡ b → content_at w q ≡ content_at v q
      by_test true is = content_same area cs ds (chunks_of_boxes area boxes) agree q (among_chunks_of_boxes area boxes q is inside)
      by_test false is = ap (λ (b : Bool). cond b (get_or cs (index_of area q) air_content) air_content) is ∙ sym (ap (λ (b : Bool). cond b (get_or ds (index_of area q) air_content) air_content) is)

  -- what two tasks that differ at most in the ticket make of a place
  pub effects_same : (seed s t : ℕ) (spec : Spec) (first second : CopiedBlocks) → first ≡ second → (before after : List (List Change)) → before ≡ after → JobDrawsAlike seed s t spec → HasPositions spec.work
      → (read written : List ℕ) → read ≡ chunks_of_boxes area (boxes_read spec.work) → AgreeIn area read w v → AgreeIn area written w v
      → AgreeIn area written (world_with (record { spec = spec; seed = seed; ticket = s; copied = first; taken = before }) w) (world_with (record { spec = spec; seed = seed; ticket = t; copied = second; taken = after }) v)
  effects_same seed s t spec first second same_copied before after same_taken alike is read written reads agree_read agree index below listed =
      let left : Task = record { spec = spec; seed = seed; ticket = s; copied = first; taken = before } in
      let right : Task = record { spec = spec; seed = seed; ticket = t; copied = second; taken = after } in
      let column = λ (y : ℤ). ap (λ (c : BlockContent). c.state) (content_same area cs ds written agree (record (position_of area index) { y = y }) listed) in
      get_or-map-range_with_len (effect_at left w) 0 (volume area) index index air_content below (omega arith)
      ∙ effect_same area cs ds seed s t spec first second before after alike index (ap (λ (taken : List (List Change)). latest_change taken index) same_taken) (agree index below listed) column spec.work alike.work
      (λ needed. same_copied) (sources_same w v spec.work is (read_same (boxes_read spec.work) (subst (λ (chunks : List ℕ). AgreeIn area chunks w v) reads agree_read)))
      ∙ sym (get_or-map-range_with_len (effect_at right v) 0 (volume area) index index air_content below (omega arith))

  -- a clipboard of a selection is the same
  pub clipboard_same : (c : Clip) → IsSelection c.from → AgreeIn area (chunks_of_boxes area (frame_of_selection c.from ∷ [])) w v → clipboard_of c w ≡ clipboard_of c v
  clipboard_same c fits agree = let same = cell in λ i. record { bounds = clip_box_of c area; at = λ r. same r i }
    where
      by_test : (r : Pos) (b : Bool) → (is_selected c.from (copied_from c r) && holds area (copied_from c r)) ≡ b → copied_content c w r ≡ copied_content c v r
      by_test r true is =
          let p = copied_from c r in
          let inside = framed (Selected c.from) fits p (and_both (is_selected c.from p) (holds area p) is).0 in
          let same = read_same (frame_of_selection c.from ∷ []) agree p (ap (λ (b : Bool). b || false) inside) in
          λ i. cond (is_selected c.from p && holds area p) (Some (turned_content c.transform (same i))) None
      by_test r false is =
          let p = copied_from c r in
          ap (λ (b : Bool). cond b (Some (turned_content c.transform (content_at w p))) None) is ∙ sym (ap (λ (b : Bool). cond b (Some (turned_content c.transform (content_at v p))) None) is)

      cell : (r : Pos) → copied_content c w r ≡ copied_content c v r
      cell r = by_test r (is_selected c.from (copied_from c r) && holds area (copied_from c r)) refl

-- a world by its contents, in a box that is its own
pub by_contents : (area : Area) (w : World) → w.area ≡ area → record { area = area; contents = w.contents } ≡ w
by_contents area w same = let back = sym same in λ i. record { area = back i; contents = w.contents }

-- what a command's job draws, takes and reads beside the chunks accessed being the same, it makes worlds that agree
pub jobs_agree : (case : Workload) → IsWithinLimits case → (id : Source) (seed s t : ℕ) (spec : Spec) → step_of_command case id ≡ Job spec → (first second : CopiedBlocks) → first ≡ second
    → (before after : List (List Change)) → before ≡ after → JobDrawsAlike seed s t spec → (w v : World) → AreWorldsOf case w v → AgreeIn case.opening.area (chunks_read_by case id) w v → AgreeIn case.opening.area (chunks_written_by case id) w v
    → AgreeIn case.opening.area (chunks_written_by case id) (world_with (record { spec = spec; seed = seed; ticket = s; copied = first; taken = before }) w) (world_with (record { spec = spec; seed = seed; ticket = t; copied = second; taken = after }) v)
jobs_agree case limits id seed s t spec is first second same_copied before after same_taken alike w v of_case =
    let area = case.opening.area in
    let left : Task = record { spec = spec; seed = seed; ticket = s; copied = first; taken = before } in
    let right : Task = record { spec = spec; seed = seed; ticket = t; copied = second; taken = after } in
    let sound = subst (λ (step : Step). IsSoundStep id.player case.depth (lines_of case.scripts id.player) step) is (command_is_sound case limits id) in
    let reads : chunks_read_by case id ≡ chunks_of_boxes area (boxes_read spec.work) = ap (λ (step : Step). chunks_of_boxes area (boxes_read_by step)) is in
    let core = effects_same area w.contents v.contents seed s t spec first second same_copied before after same_taken alike sound.positions (chunks_read_by case id) (chunks_written_by case id) reads in
    subst (λ (a : World). AgreeIn area (chunks_read_by case id) a v → AgreeIn area (chunks_written_by case id) a v → AgreeIn area (chunks_written_by case id) (world_with left a) (world_with right v)) (by_contents area w of_case.first)
    (subst (λ (b : World). AgreeIn area (chunks_read_by case id) (record { area = area; contents = w.contents }) b → AgreeIn area (chunks_written_by case id) (record { area = area; contents = w.contents }) b
    → AgreeIn area (chunks_written_by case id) (world_with left (record { area = area; contents = w.contents })) (world_with right b)) (by_contents area v of_case.second) core)

pub effects_depend : (case : Workload) → IsWithinLimits case → (id : Source) (task : Task) (w v : World) → EffectsDependOnChunksAccessed case id task w v
effects_depend case limits id task w v = λ is of_case.
    jobs_agree case limits id task.seed task.ticket task.ticket task.spec is task.copied task.copied refl task.taken task.taken refl (draws_alike task.seed task.ticket task.spec) w v of_case

-- clipboards of a copy that read its selection's box
pub clipboards_agree : (case : Workload) (c : Clip) → IsSelection c.from → boxes_read_by (step_of_command case c.source) ≡ frame_of_selection c.from ∷ [] → (w v : World) → AreWorldsOf case w v
    → AgreeIn case.opening.area (chunks_read_by case c.source) w v → clipboard_of c w ≡ clipboard_of c v
clipboards_agree case c fits reads w v of_case agree =
    let area = case.opening.area in
    let read : AgreeIn area (chunks_of_boxes area (frame_of_selection c.from ∷ [])) w v = subst (λ (boxes : List Area). AgreeIn area (chunks_of_boxes area boxes) w v) reads agree in
    subst (λ (a : World). AgreeIn area (chunks_of_boxes area (frame_of_selection c.from ∷ [])) a v → clipboard_of c a ≡ clipboard_of c v) (by_contents area w of_case.first)
    (subst (λ (b : World). AgreeIn area (chunks_of_boxes area (frame_of_selection c.from ∷ [])) (record { area = area; contents = w.contents }) b → clipboard_of c (record { area = area; contents = w.contents }) ≡ clipboard_of c b) (by_contents area v of_case.second)
    (clipboard_same area w.contents v.contents c fits)) read

pub clipboards_depend : (case : Workload) → IsWithinLimits case → (id : Source) (w v : World) → ClipboardsDependOnChunksRead case id w v
clipboards_depend case limits id w v = λ spec is of_case. by_clip spec.clip (subst (λ (step : Step). IsSoundStep id.player case.depth (lines_of case.scripts id.player) step) is (command_is_sound case limits id)).clip of_case
  where
    by_clip : (o : Option Clip) → IfSome o (IsSoundClip id.player case.depth (lines_of case.scripts id.player)) → AreWorldsOf case w v
        → IfSome o (λ c. AgreeIn case.opening.area (chunks_read_by case c.source) w v → clipboard_of c w ≡ clipboard_of c v)
    by_clip None sound of_case = tt
    by_clip (Some c) sound of_case =
        clipboards_agree case c sound.fits
        (subst (λ (p : ℕ). boxes_read_by (step_of_command case (record { player = p; step = c.source.step })) ≡ frame_of_selection c.from ∷ []) (sym sound.own) sound.read) w v of_case
