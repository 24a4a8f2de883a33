-- What a fill puts at a position.
use Rattle.std.proofs.Common.{◌≡◌, ℕ, Bool, true, cond, sym, ap, ◌∙◌}
use Rattle.std.specs.Prelude.{Option}
use Rattle.edit_terms.specs.declared.pos.Pos.{Pos}
use Rattle.edit_terms.specs.declared.mask.Mask.{Mask}
use Rattle.edit_terms.specs.declared.pattern.Pattern.{Pattern}
use Rattle.edit_terms.specs.declared.region.Region.{Region}
use Rattle.edit_terms.specs.Area.{position_of}
use Rattle.edit_terms.specs.Pattern.{pattern_value}
use Rattle.edit_terms.specs.World.{BlockContent, World}
use Rattle.run_terms.specs.Change.{content_of}
use Rattle.run_terms.specs.Effect.{Task, is_filled, filled}

pub filled_here : (region : Region) (mask : Option Mask) (pattern : Pattern) (task : Task) (w : World) (index : ℕ) (p : Pos) (old new : BlockContent)
    → p ≡ position_of w.area index → is_filled region mask task w p ≡ true → old ≡ content_of w index
    → new ≡ pattern_value pattern task.copied task.seed task.ticket p old → new ≡ filled region mask pattern task w index
filled_here region mask pattern task w index p old new is fills same value =
    value
    ∙ ap (λ (c : BlockContent). pattern_value pattern task.copied task.seed task.ticket p c) same
    ∙ sym (ap (λ (b : Bool). cond b (pattern_value pattern task.copied task.seed task.ticket p (content_of w index)) (content_of w index)) fills)
    ∙ ap (λ (q : Pos). cond (is_filled region mask task w q) (pattern_value pattern task.copied task.seed task.ticket q (content_of w index)) (content_of w index)) is
