use Rattle.std.proofs.Common.{◌-◌, ◌*◌, ◌∙◌, sym, ap, ℕ}
use Rattle.command_plan.proofs.ListingLemmas.{rectangle_size}
use Rattle.command_plan.proofs.listing.rectangle_size.Goals as goal

pub returns-clause-value : goal.returns-clause-value
returns-clause-value c =
    let size = rectangle_size c.args.grid.now c.args.r.now c.requires.grid c.requires.inside in
    ap (λ (n : ℕ). n * c.run_size-2.result) c.run_size.ensures.value ∙ ap (λ (n : ℕ). (c.args.r.now.x.to - c.args.r.now.x.from) * n) c.run_size-2.ensures.value ∙ sym size
