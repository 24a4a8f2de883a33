-- What a move brings to a position.
use Rattle.std.proofs.Common.{◌≡◌, ℕ, Bool, true, false, cond, refl, sym, ap, ◌∙◌}
use Rattle.std.specs.Prelude.{not, pos, neg_ℤ}
use Rattle.edit_terms.specs.declared.pos.Pos.{Pos}
use Rattle.edit_terms.specs.declared.direction.Direction.{Direction}
use Rattle.edit_terms.specs.declared.region.Selection.{Selection}
use Rattle.edit_terms.specs.Area.{position_of}
use Rattle.edit_terms.specs.Neighbour.{away}
use Rattle.edit_terms.specs.Region.{is_selected}
use Rattle.edit_terms.specs.World.{BlockContent, World, content_at, air_content}
use Rattle.run_terms.specs.Change.{content_of}
use Rattle.run_terms.specs.Effect.{Task, passes_global, is_source, moved}
use Rattle.plain_effects.specs.Sources.{StandsAtSource}

-- what stands there where the global mask holds or not, this content comes or none, and the position is selected or not
abbrev left_there : Bool → Bool → BlockContent → Bool → BlockContent → BlockContent
left_there passes comes c leaves old = cond (not passes) old (cond comes c (cond leaves air_content old))

at_position : (from : Selection) (count : ℕ) (to : Direction) (task : Task) (w : World) (index : ℕ) (p : Pos) → p ≡ position_of w.area index
    → moved from count to task w index
    ≡ left_there (passes_global task w p) (is_source from w (away to (neg_ℤ (pos count)) p)) (content_at w (away to (neg_ℤ (pos count)) p)) (is_selected from p) (content_of w index)
at_position from count to task w index p is =
    ap (λ (q : Pos). left_there (passes_global task w q) (is_source from w (away to (neg_ℤ (pos count)) q)) (content_at w (away to (neg_ℤ (pos count)) q)) (is_selected from q) (content_of w index)) (sym is)

pub moved_nowhere : (from : Selection) (count : ℕ) (to : Direction) (task : Task) (w : World) (index : ℕ) (p : Pos) → p ≡ position_of w.area index → passes_global task w p ≡ false
    → moved from count to task w index ≡ content_of w index
moved_nowhere from count to task w index p is stops =
    let q = away to (neg_ℤ (pos count)) p in
    at_position from count to task w index p is ∙ ap (λ (b : Bool). left_there b (is_source from w q) (content_at w q) (is_selected from p) (content_of w index)) stops

-- where the global mask holds
passed : (from : Selection) (count : ℕ) (to : Direction) (task : Task) (w : World) (index : ℕ) (p : Pos) (comes leaves : Bool) → p ≡ position_of w.area index → passes_global task w p ≡ true
    → is_source from w (away to (neg_ℤ (pos count)) p) ≡ comes → is_selected from p ≡ leaves
    → moved from count to task w index ≡ left_there true comes (content_at w (away to (neg_ℤ (pos count)) p)) leaves (content_of w index)
passed from count to task w index p comes leaves is passes brings selected =
    let q = away to (neg_ℤ (pos count)) p in
    at_position from count to task w index p is
    ∙ ap (λ (b : Bool). left_there b (is_source from w q) (content_at w q) (is_selected from p) (content_of w index)) passes
    ∙ ap (λ (b : Bool). left_there true b (content_at w q) (is_selected from p) (content_of w index)) brings
    ∙ ap (λ (b : Bool). left_there true comes (content_at w q) b (content_of w index)) selected

pub moved_here : (from : Selection) (count : ℕ) (to : Direction) (task : Task) (w : World) (index : ℕ) (p q : Pos) (c : BlockContent) → p ≡ position_of w.area index → passes_global task w p ≡ true
    → q ≡ away to (neg_ℤ (pos count)) p → StandsAtSource from w q c → moved from count to task w index ≡ c
moved_here from count to task w index p q c is passes behind stands =
    passed from count to task w index p true (is_selected from p) is passes (ap (is_source from w) (sym behind) ∙ stands.selected) refl
    ∙ ap (content_at w) (sym behind)
    ∙ sym stands.is

pub moved_away : (from : Selection) (count : ℕ) (to : Direction) (task : Task) (w : World) (index : ℕ) (p q : Pos) → p ≡ position_of w.area index → passes_global task w p ≡ true
    → q ≡ away to (neg_ℤ (pos count)) p → is_source from w q ≡ false → is_selected from p ≡ true → moved from count to task w index ≡ air_content
moved_away from count to task w index p q is passes behind nothing selected =
    passed from count to task w index p false true is passes (ap (is_source from w) (sym behind) ∙ nothing) selected

pub moved_nothing : (from : Selection) (count : ℕ) (to : Direction) (task : Task) (w : World) (index : ℕ) (p q : Pos) → p ≡ position_of w.area index → passes_global task w p ≡ true
    → q ≡ away to (neg_ℤ (pos count)) p → is_source from w q ≡ false → is_selected from p ≡ false → moved from count to task w index ≡ content_of w index
moved_nothing from count to task w index p q is passes behind nothing other =
    passed from count to task w index p false false is passes (ap (is_source from w) (sym behind) ∙ nothing) other
