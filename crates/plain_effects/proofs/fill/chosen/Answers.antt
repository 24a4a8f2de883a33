use Rattle.std.proofs.Common.{◌≡◌, ℕ, ap, ◌∙◌, option_copied}
use Rattle.edit_terms.specs.Clipboard.{CopiedBlocks}
use Rattle.edit_terms.specs.Pattern.{pattern_value}
use Rattle.plain_terms.specs.Clipboards.{some_clipboard}
use Rattle.plain_effects.specs.Jobs.{PlainJob, own_task}
use Rattle.plain_effects.proofs.fill.chosen.Goals as goal

pub returns : goal.returns
returns c =
    let same : some_clipboard (option_copied c.as_ref.result) ≡ (own_task c.args.job.now).copied = ap some_clipboard c.as_ref.ensures.value ∙ c.clipboard_of-clipboard.ensures in
    let seed : c.job.inside.seed ≡ c.args.job.now.seed = ap (λ (j : PlainJob). j.seed) c.job.view_is in
    let ticket : c.job.inside.ticket ≡ c.args.job.now.ticket = ap (λ (j : PlainJob). j.ticket) c.job.view_is in
    c.in_ok-new.ensures
    ∙ ap (λ (copied : CopiedBlocks). pattern_value c.args.pattern.now copied c.job.inside.seed c.job.inside.ticket c.args.p.now c.args.old.now) same
    ∙ ap (λ (n : ℕ). pattern_value c.args.pattern.now (own_task c.args.job.now).copied n c.job.inside.ticket c.args.p.now c.args.old.now) seed
    ∙ ap (λ (n : ℕ). pattern_value c.args.pattern.now (own_task c.args.job.now).copied c.args.job.now.seed n c.args.p.now c.args.old.now) ticket
