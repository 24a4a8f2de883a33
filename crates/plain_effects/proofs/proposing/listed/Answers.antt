use Rattle.std.proofs.Common.{◌<◌, length, arith}
use Rattle.run_terms.specs.Effect.{effect_at}
use Rattle.world_canvas.specs.Proposals.{proposal_at}
use Rattle.plain_effects.specs.Jobs.{own_task}
use Rattle.plain_effects.proofs.ProposalLemmas.{listed_more}
use Rattle.plain_effects.proofs.proposing.listed.Goals as goal

pub loop-place-preserved : goal.loop-place-preserved
loop-place-preserved c =
    let w = c.args.blocks.now in
    let within : c.loop-place.place-index < length c.args.places.now = omega arith in
    listed_more (proposal_at (effect_at (own_task c.args.job.now) w) w) c.args.places.now c.loop-place.place-index _ c.loop-place.proposals c.propose.new.proposals within c.loop-place.invariant
    c.in_ok-propose.ensures
