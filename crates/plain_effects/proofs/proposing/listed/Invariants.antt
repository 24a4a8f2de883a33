use Rattle.std.proofs.Common.{◌≡◌, take}
use Rattle.std.specs.List.{filter_map}
use Rattle.run_terms.specs.Effect.{effect_at}
use Rattle.world_canvas.specs.Proposals.{proposal_at}
use Rattle.plain_effects.specs.Jobs.{own_task}
use Rattle.plain_effects.proofs.proposing.listed.Given as goal

-- the proposals at the places passed
abbrev pub invariant-loop-place : goal.invariant-loop-place
invariant-loop-place l = l.proposals ≡ filter_map (proposal_at (effect_at (own_task l.job) l.blocks) l.blocks) (take l.place-index l.places)
