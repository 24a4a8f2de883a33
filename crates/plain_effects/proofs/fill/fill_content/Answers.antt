use Rattle.std.proofs.Common.{sym, ap, ◌∙◌, option_copied}
use Rattle.edit_terms.specs.Area.{Area, position_of}
use Rattle.plain_effects.specs.Jobs.{own_task}
use Rattle.plain_effects.proofs.FillLemmas.{filled_here}
use Rattle.plain_effects.proofs.fill.fill_content.Goals as goal

pub returns : goal.returns
returns c =
    let place = c.position-p.ensures.value ∙ ap (λ (a : Area). position_of a c.args.index) c.area.ensures in
    filled_here c.args.region.now (option_copied c.args.mask) c.args.pattern.now (own_task c.args.job.now) c.args.blocks.now c.args.index c.position-p.result _ c.in_ok-chosen.field-0 place (sym c.if-not-is_filled.ensures) c.content.ensures c.in_ok-chosen.ensures
