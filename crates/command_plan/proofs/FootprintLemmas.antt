-- Footprints of works whose boxes are given in another way.
use Rattle.std.proofs.Common.{◌≡◌, ℕ, Bool, true, false, ◌||◌, refl, [], ◌∷◌, Option, Some, None, ◌≤◌, subst, sym, ◌∙◌}
use Rattle.std.specs.Prelude.{option_map}
use Rattle.std.specs.List.{list_any}
use Rattle.std.proofs.lemmas.Bool.{and_parts}
use Rattle.edit_terms.specs.declared.direction.Direction.{Direction}
use Rattle.edit_terms.specs.declared.pos.Pos.{Pos}
use Rattle.edit_terms.specs.declared.region.Selection.{Selection}
use Rattle.edit_terms.specs.declared.step.Work.{Work}
use Rattle.edit_terms.specs.declared.step.Work.TheVariants.{Stack}
use Rattle.edit_terms.specs.Area.{Area}
use Rattle.edit_terms.specs.Clipboard.{placed_at}
use Rattle.run_terms.specs.Access.{is_chunk_of_box, stacked_boxes, pasted_boxes}
use Rattle.run_terms.specs.Limits.{is_count}
use Rattle.run_terms.specs.SessionLimits.{is_selection_within, is_work_within}
use Rattle.run_terms.proofs.LimitLemmas.{not_above}
use Rattle.clipboard_transform.specs.declared.relative_box.RelativeBox.{RelativeBox}
use Rattle.clipboard_transform.specs.Bounds.{corners}
use Rattle.command_plan.specs.declared.rectangle.ChunkSet.{ChunkSet}
use Rattle.command_plan.specs.Cuts.{IsChunkSetOf}
use Rattle.command_plan.specs.Stacks.{stack_hull}
use Rattle.command_plan.proofs.StackLemmas.{stack_is_hull}

or_none : (area box : Area) (chunk : ℕ) → list_any (is_chunk_of_box area chunk) (box ∷ []) ≡ is_chunk_of_box area chunk box
or_none area box chunk = by_test (is_chunk_of_box area chunk box)
  where
    by_test : (b : Bool) → (b || false) ≡ b
    by_test true = refl
    by_test false = refl

pub stacked_set : (area box : Area) (count : ℕ) (to : Direction) (s : ChunkSet) → IsChunkSetOf area (stack_hull count to box ∷ []) s → IsChunkSetOf area (stacked_boxes count to box) s
stacked_set area box count to s is = record {
  inside = is.inside;
  exact = λ chunk. stack_is_hull area box chunk count to ∙ sym (or_none area (stack_hull count to box) chunk) ∙ is.exact chunk;
}

-- the bounds of a clipboard, by their corners
pub pasted_none : (area : Area) (place : Pos) (bounds : Option Area) (s : ChunkSet) → None ≡ option_map corners bounds → IsChunkSetOf area [] s → IsChunkSetOf area (pasted_boxes place bounds) s
pasted_none area place None s e is = is
pasted_none area place (Some b) s e is = absurd cc

pub pasted_some : (area : Area) (place : Pos) (bounds : Option Area) (found : RelativeBox) (s : ChunkSet) → Some found ≡ option_map corners bounds
    → ((box : Area) → found ≡ corners box → IsChunkSetOf area (record box { least = placed_at place box.least } ∷ []) s) → IsChunkSetOf area (pasted_boxes place bounds) s
pasted_some area place None found s e is = absurd cc
pasted_some area place (Some b) found s e is = is b cc

-- a stack within the limits has at most 1,000 copies
pub few_copies : (work : Work) (from : Selection) (count : ℕ) (to : Direction) → work ≡ Stack from count to → is_work_within work ≡ true → count ≤ 1000
few_copies work from count to is within =
    not_above 1 1000 count (and_parts (is_selection_within from) (is_count count) (subst (λ (w : Work). is_work_within w ≡ true) is within)).1
