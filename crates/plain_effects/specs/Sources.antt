-- From where the contents come that a stack or a move brings.
use Rattle.std.specs.Prelude.{◌≡◌, true}
use Rattle.edit_terms.specs.declared.pos.Pos.{Pos}
use Rattle.edit_terms.specs.declared.region.Selection.{Selection}
use Rattle.edit_terms.specs.World.{BlockContent, World, content_at}
use Rattle.run_terms.specs.Effect.{is_source}

-- the position is a selected one of the box, and this is its content
pub record StandsAtSource (from : Selection) (w : World) (q : Pos) (c : BlockContent) : Type 0 where
  pub selected : is_source from w q ≡ true
  pub is : c ≡ content_at w q
