use Rattle.std.proofs.Common.{◌≡◌, ℕ, cond, length, Some, None, ap, subst, ◌∙◌, rules}
use Rattle.std.specs.Prelude.{option_map}
use Rattle.edit_terms.specs.declared.step.Step.{Step}
use Rattle.run_terms.specs.Reply.{reply_to}
use Rattle.run_terms.specs.Session.{resolved_command}
use Rattle.serial_model.specs.Copying.{is_copying}
use Rattle.serial_model.specs.Recorded.{Record, IsCarriedOut, task_recorded}
use Rattle.serial_model.proofs.CarryingLemmas.{copied_or_before}
use Rattle.serial_model.proofs.acting.act.Goals as goal

pub returns : goal.returns
returns c =
    let p = c.args.canvas.now in
    let before = c.args.player.now in
    let cs = c.in_ok-changes.changes.items in
    let step : Step = resolved_command before.session c.args.command.now in
    let is : c.in_ok-step.step ≡ step = c.in_ok-step.ensures.step in
    let number : c.in-Ok.changed ≡ length cs = search rules in
    record {
      changes = cs;
      carried = subst (λ (s : Step). IsCarriedOut (task_recorded p before.recorded c.args.seed c.args.ticket) s p c.carry_out.new.canvas cs) is c.in_ok-changes.ensures;
      session = c.in_ok-step.ensures.after;
      copied = ap (λ (r : Record). r.copied) c.in_ok-add.ensures
          ∙ copied_or_before (is_copying step) p.cells (option_map (λ cells. cells.items) c.in_ok-copied.copied) before.recorded.copied (c.in_ok-copied.ensures ∙ ap (λ (s : Step). cond (is_copying s) (Some p.cells) None) is);
      recorded = ap (λ (r : Record). r.changes) c.in_ok-add.ensures;
      replied = c.reply_to-reply.ensures ∙ ap (λ (s : Step). reply_to s c.in-Ok.changed) is ∙ ap (λ (n : ℕ). reply_to step n) number;
    }
