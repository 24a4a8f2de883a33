use Rattle.std.proofs.Common.{◌≡◌, true, sym, ap, ◌∙◌, subst, Some}
use Rattle.edit_terms.specs.Area.{Area, is_world_box}
use Rattle.edit_terms.specs.declared.step.Work.TheVariants.{Fill, Stack, Move, Cut, Paste, Put}
use Rattle.plain_effects.specs.Jobs.{PlainJob, own_task}
use Rattle.plain_effects.proofs.ExtentLemmas.{has_single}
use Rattle.plain_effects.proofs.ChangeLemmas.{of_work, fill_stays, stack_stays, move_stays, cut_stays, paste_stays, put_stays}
use Rattle.plain_effects.proofs.changes.changed_extent.Goals as goal

pub returns-in-Fill : goal.returns-in-Fill
returns-in-Fill c =
    let is = sym (ap (λ (j : PlainJob). j.spec.work) c.job.view_is) ∙ c.in-Fill.is in
    of_work (Some c.filled_extent.result) (Fill c.in-Fill.region c.in-Fill.mask c.in-Fill.pattern) (own_task c.args.job.now) c.args.blocks.now is
    (fill_stays (Some c.filled_extent.result) c.in-Fill.region c.in-Fill.mask c.in-Fill.pattern (own_task c.args.job.now) c.args.blocks.now c.filled_extent.ensures)

pub returns-in-Stack : goal.returns-in-Stack
returns-in-Stack c =
    let fits = subst (λ (a : Area). is_world_box a ≡ true) c.area.ensures c.well_formed-2.ensures in
    let is = sym (ap (λ (j : PlainJob). j.spec.work) c.job.view_is) ∙ c.in-Stack.is in
    of_work (Some c.brought_extent.result) (Stack c.in-Stack.from c.in-Stack.count c.in-Stack.to) (own_task c.args.job.now) c.args.blocks.now is
    (stack_stays c.brought_extent.result c.in-Stack.from c.in-Stack.count c.in-Stack.to (own_task c.args.job.now) c.args.blocks.now fits c.brought_extent.ensures)

pub returns-in-Move : goal.returns-in-Move
returns-in-Move c =
    let fits = subst (λ (a : Area). is_world_box a ≡ true) c.area.ensures c.well_formed-2.ensures in
    let is = sym (ap (λ (j : PlainJob). j.spec.work) c.job.view_is) ∙ c.in-Move.is in
    of_work (Some c.brought_extent-in-Move.result) (Move c.in-Move.from c.in-Move.count c.in-Move.to) (own_task c.args.job.now) c.args.blocks.now is
    (move_stays c.brought_extent-in-Move.result c.in-Move.from c.in-Move.count c.in-Move.to (own_task c.args.job.now) c.args.blocks.now fits c.brought_extent-in-Move.ensures)

pub returns-in-Cut : goal.returns-in-Cut
returns-in-Cut c =
    let is = sym (ap (λ (j : PlainJob). j.spec.work) c.job.view_is) ∙ c.in-Cut.is in
    of_work (Some c.filled_extent-in-Cut.result) (Cut c.in-Cut.from) (own_task c.args.job.now) c.args.blocks.now is
    (cut_stays (Some c.filled_extent-in-Cut.result) c.in-Cut.from (own_task c.args.job.now) c.args.blocks.now c.filled_extent-in-Cut.ensures)

pub returns-in-Paste : goal.returns-in-Paste
returns-in-Paste c =
    let is = sym (ap (λ (j : PlainJob). j.spec.work) c.job.view_is) ∙ c.in-Paste.is in
    of_work c.pasted_extent.result (Paste c.in-Paste.place c.in-Paste.skip_air) (own_task c.args.job.now) c.args.blocks.now is
    (paste_stays c.pasted_extent.result c.in-Paste.place c.in-Paste.skip_air (own_task c.args.job.now) c.args.blocks.now c.pasted_extent.ensures)

pub returns-in-Put : goal.returns-in-Put
returns-in-Put c =
    let is = sym (ap (λ (j : PlainJob). j.spec.work) c.job.view_is) ∙ c.in-Put.is in
    of_work (Some c.single_extent.result) (Put c.in-Put.at c.in-Put.state) (own_task c.args.job.now) c.args.blocks.now is
    (put_stays (Some c.single_extent.result) c.in-Put.at c.in-Put.state c.args.blocks.now (has_single c.in-Put.at c.single_extent.result c.single_extent.ensures))
