-- Edits that are taken back or done again: the numbers that are written show the contents that the definition says.
use Rattle.std.proofs.Common.{◌≡◌, ℕ, ◌<◌, eqb, List, [], ◌∷◌, ◌++◌, length, map, reverse, get_or, refl, sym, ap, ◌∙◌, arith}
use Rattle.std.specs.Prelude.{All}
use Rattle.std.specs.List.{find, flat_map, range_with_len}
use Rattle.std.specs.Option.{option_map_or}
use Rattle.std.proofs.lemmas.List.{map-append, reverse-append, length-map}
use Rattle.std.proofs.lemmas.Grind.{flat_map-append}
use Rattle.std.proofs.lemmas.List.Elements.{All-map}
use Rattle.edit_terms.specs.Area.{Area, volume}
use Rattle.edit_terms.specs.World.{BlockContent, air_content}
use Rattle.run_terms.specs.Change.{Change}
use Rattle.run_terms.proofs.Lists.{All-flat_map, All-reverse, map-range_agrees}
use Rattle.run_terms.specs.Effect.{latest_change}
use Rattle.plain_terms.specs.Shown.{IsNumbered, content_shown, world_shown}
use Rattle.world_canvas.specs.declared.cell_change.CellChange.{CellChange}
use Rattle.world_canvas.specs.declared.restoring.Side.{Side}
use Rattle.world_canvas.specs.Changes.{AreChangesNamed, AreChangesBetween, IsChangeNamed, IsRewritten, change_shown, changes_shown}
use Rattle.world_canvas.specs.Restoring.{changes_taken, content_on, last_first, restored, AreWritten}
use Rattle.world_canvas.proofs.GrowthLemmas.{grown_itself}
use Rattle.world_canvas.proofs.Differences.{content_of-shown}
use Rattle.world_canvas.proofs.Finding.{content_written, written_numbered}

-- what is true of each change of each kept edit is true of those of some edits
pub All-last_first : (P : CellChange → Type 0) (kept : List (List CellChange)) (edits : List ℕ) → All (λ n. n < length kept) edits → All (λ cs. All P cs) kept → All P (last_first kept edits)
All-last_first P kept edits there all =
    All-flat_map P (reverse (map (λ n. get_or kept n []) edits))
    (All-reverse (λ cs. All P cs) (map (λ n. get_or kept n []) edits)
    (All-map (λ cs. All P cs) (λ n. get_or kept n []) edits (λ k d inside. all (get_or edits k d) [] (there k d inside))))

-- the edits' changes, as they are shown
pub changes_shown-last_first : (kinds : List BlockContent) (kept : List (List CellChange)) (edits : List ℕ)
    → changes_shown kinds (last_first kept edits) ≡ flat_map (λ changes. changes) (reverse (changes_taken kinds kept edits))
changes_shown-last_first kinds kept [] = refl
changes_shown-last_first kinds kept (n ∷ edits) =
    let one : List CellChange = get_or kept n [] in
    let raw : List (List CellChange) = map (λ m. get_or kept m []) edits in
    let shown : List (List Change) = changes_taken kinds kept edits in
    ap (λ (css : List (List CellChange)). changes_shown kinds (flat_map (λ cs. cs) css)) (reverse-append (one ∷ []) raw)
    ∙ ap (changes_shown kinds) (flat_map-append (λ cs. cs) (reverse raw) (one ∷ []))
    ∙ map-append (change_shown kinds) (flat_map (λ cs. cs) (reverse raw)) (one ++ [])
    ∙ ap (λ (cs : List Change). cs ++ changes_shown kinds (one ++ [])) (changes_shown-last_first kinds kept edits)
    ∙ ap (λ (cs : List Change). flat_map (λ changes. changes) (reverse shown) ++ cs) (map-append (change_shown kinds) one [])
    ∙ sym (flat_map-append (λ changes. changes) (reverse shown) (changes_shown kinds one ∷ []))
    ∙ sym (ap (flat_map (λ changes. changes)) (reverse-append (changes_shown kinds one ∷ []) shown))

-- the canvas on which the edits are taken back or done again
pub restored_world : (side : Side) (area : Area) (kinds : List BlockContent) (old new : List ℕ) (kept : List (List CellChange)) (edits : List ℕ) (recorded : List CellChange) → IsNumbered area kinds old
    → AreWritten side (last_first kept edits) old new → AreChangesBetween (world_shown area kinds old) (world_shown area kinds new) kinds recorded
    → IsRewritten (restored (content_on side) (changes_taken kinds kept edits) (world_shown area kinds old)) (record { area = area; kinds = kinds; cells = old }) (record { area = area; kinds = kinds; cells = new }) recorded
restored_world side area kinds old new kept edits recorded numbered written between =
    let taken = changes_taken kinds kept edits in
    let w = world_shown area kinds old in
    let content : (i : ℕ) → i < volume area → content_shown kinds new i ≡ restored (content_on side) taken w i = λ i inside.
    ap (λ (n : ℕ). get_or kinds n air_content) (written.each i (omega (arith, inside, numbered.whole)))
    ∙ content_written side kinds (last_first kept edits) old i
    ∙ ap (λ (cs : List Change). option_map_or (content_on side) (find (λ change. eqb change.index i) cs) (content_shown kinds old i)) (changes_shown-last_first kinds kept edits)
    ∙ ap (λ (c : BlockContent). option_map_or (content_on side) (latest_change taken i) c) (sym (content_of-shown area kinds old i inside)) in
    let contents : map (content_shown kinds new) (range_with_len 0 (volume area)) ≡ map (restored (content_on side) taken w) (range_with_len 0 (volume area)) =
    map-range_agrees (content_shown kinds new) (restored (content_on side) taken w) 0 (volume area) (volume area) (omega arith) content in
    record {
      area = refl;
      grown = grown_itself kinds;
      world = ap (λ (cs : List BlockContent). record { area = area; contents = cs }) contents;
      changes = between.changes;
      named = between.named;
      within = between.within;
    }

-- its numbers name contents
pub restored_numbered : {K : Type 0} (items : K → List CellChange) (side : Side) (area : Area) (kinds : List BlockContent) (old new : List ℕ) (kept : List K) (edits : List ℕ) → IsNumbered area kinds old
    → AreWritten side (last_first (map items kept) edits) old new → All (λ n. n < length kept) edits → All (λ k. AreChangesNamed kinds (items k)) kept → IsNumbered area kinds new
restored_numbered items side area kinds old new kept edits numbered written there named =
    written_numbered side area kinds (last_first (map items kept) edits) old new written
    (All-last_first (λ c. IsChangeNamed kinds c) (map items kept) edits (λ k d inside. omega (arith, there k d inside, length-map kept items)) (All-map (λ cs. AreChangesNamed kinds cs) items kept named))
    numbered
