use Rattle.std.proofs.Common.{◌≡◌, true, map, subst, sym, ◌∙◌, rules}
use Rattle.std.specs.Prelude.{option_copied}
use Rattle.std.specs.Arc.{arc_value}
use Rattle.edit_terms.specs.Area.{holds}
use Rattle.edit_terms.specs.World.{content_at}
use Rattle.edit_terms.specs.Grid.{GridParts, world_of}
use Rattle.edit_terms.proofs.WorldLemmas.{entity_at_block}
use Rattle.edit_terms.proofs.grid.Grid.entity.Goals as goal

pub returns : goal.returns
returns c =
    let g : GridParts = record { area = c.self.inside.area; kinds = c.self.inside.kinds.items; cells = c.self.inside.cells.items; entities = map (λ e. (e.0, arc_value e.1)) c.self.inside.entities } in
    let held : holds g.area c.args.p ≡ true = search rules in
    let inside : option_copied c.entity_of.result ≡ (content_at (world_of g) c.args.p).entity = (rw c.as_slice.ensures at c.entity_of.ensures) ∙ sym (entity_at_block g c.args.p held) in
    subst (λ (h : GridParts). option_copied c.entity_of.result ≡ (content_at (world_of h) c.args.p).entity) c.self.view_is inside
