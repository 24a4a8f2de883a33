use Rattle.std.proofs.Common.{◌≡◌, ◌∙◌, List, ap}
use Rattle.std.specs.Option.{unwrap_or}
use Rattle.edit_terms.specs.World.{World}
use Rattle.plain_effects.specs.Jobs.{task_with}
use Rattle.plain_terms.specs.Shown.{world_shown}
use Rattle.run_terms.specs.Change.{Change}
use Rattle.run_terms.specs.Effect.{effect_at}
use Rattle.run_terms.specs.Fold.{edits_taken}
use Rattle.world_canvas.specs.Canvas.{shown}
use Rattle.world_canvas.specs.Proposals.{proposals_for}
use Rattle.world_canvas.specs.Restoring.{changes_taken}
use Rattle.serial_model.proofs.JobLemmas.{few_noise_leaves}
use Rattle.serial_model.proofs.carrying.proposals.Goals as goal

pub proposed-requires-clause-masks : goal.proposed-requires-clause-masks
proposed-requires-clause-masks c = few_noise_leaves c.args.spec.now c.requires.within

pub returns-clause-proposals : goal.returns-clause-proposals
returns-clause-proposals c =
    let p = c.args.canvas.now in
    let r = c.args.recorded.now in
    let taken : List (List Change) = changes_taken p.kinds r.changes (edits_taken c.args.spec.now.work) in
    let earlier : c.earlier-earlier.result ≡ world_shown p.area p.kinds (unwrap_or r.copied p.cells) = c.earlier-earlier.ensures ∙ ap (world_shown p.area p.kinds) c.copied_or_now.ensures.value in
    c.in_ok-proposed.ensures.proposals taken
    ∙ ap (λ (w : World). proposals_for (effect_at (task_with (record { spec = c.args.spec.now; seed = c.args.seed; ticket = c.args.ticket; earlier = c.earlier-earlier.result }) taken) w) w) c.blocks-blocks.ensures
    ∙ ap (λ (w : World). proposals_for (effect_at (task_with (record { spec = c.args.spec.now; seed = c.args.seed; ticket = c.args.ticket; earlier = w }) taken) (shown p)) (shown p)) earlier
