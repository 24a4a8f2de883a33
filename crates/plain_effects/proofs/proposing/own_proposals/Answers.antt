use Rattle.std.proofs.Common.{refl, ◌∙◌}
use Rattle.run_terms.specs.Effect.{effect_at}
use Rattle.plain_effects.specs.Jobs.{own_task}
use Rattle.plain_effects.proofs.ProposalLemmas.{nothing_changes, places_within, all_visited}
use Rattle.plain_effects.proofs.proposing.own_proposals.Goals as goal

pub returns-in_default : goal.returns-in_default
returns-in_default c = c.none.ensures ∙ nothing_changes (effect_at (own_task c.args.job.now) c.args.blocks.now) c.args.blocks.now (λ index below. c.in_default.ensures index below refl)

pub listed-requires-clause-places : goal.listed-requires-clause-places
listed-requires-clause-places c =
    places_within c.area-area.result.now c.section_of-section.result c.args.blocks.now c.deref.result.now c.area-area.ensures (c.deref.ensures.value ∙ c.in_ok-places.ensures)

pub returns : goal.returns
returns c =
    c.in_ok-proposals.ensures
    ∙ all_visited c.area-area.result.now c.section_of-section.result c.in-Some.extent (effect_at (own_task c.args.job.now) c.args.blocks.now) c.args.blocks.now c.deref.result.now c.area-area.ensures
    c.section_of-section.ensures.whole c.in-Some.ensures (c.deref.ensures.value ∙ c.in_ok-places.ensures)
