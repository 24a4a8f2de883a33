use Rattle.std.proofs.Common.{ap, sym, ◌∙◌, Option, Some}
use Rattle.std.specs.Prelude.{option_map}
use Rattle.std.specs.Arc.{arc_value}
use Rattle.std.specs.declared.sync.Arc.{Arc}
use Rattle.std.specs.declared.alloc.Global.{Global}
use Rattle.edit_terms.specs.declared.pos.Pos.{Pos}
use Rattle.edit_terms.specs.World.{EntityTags}
use Rattle.edit_terms.proofs.WorldLemmas.{entity_listed}
use Rattle.chunk_sections.proofs.column.entity_of.Goals as goal

-- what the pair of a position and a shared entity shows
shown : Option (Pos × Arc EntityTags Global) → Option EntityTags
shown o = option_map (λ e. arc_value e.1) o

pub returns-in-None : goal.returns-in-None
unfolding shown
returns-in-None c = sym (entity_listed c.args.list.now c.args.p.now ∙ ap shown (sym c.in-None.ensures))

pub returns-in-Some : goal.returns-in-Some
unfolding shown
returns-in-Some c = ap (λ (t : EntityTags). Some t) c.deref.ensures ∙ sym (entity_listed c.args.list.now c.args.p.now ∙ ap shown (sym c.in-Some.ensures))
