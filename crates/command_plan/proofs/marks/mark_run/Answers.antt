use Rattle.std.proofs.Common.{◌≡◌, ℕ, ◌||◌, ◌&&◌, false, get_or, ap, ◌∙◌, arith}
use Rattle.std.specs.Prelude.{nat_le, nat_lt}
use Rattle.command_plan.proofs.marks.mark_run.Goals as goal

pub returns : goal.returns
returns c = λ k.
    let order = c.requires.order in
    let all : c.loop-chunk.chunk ≡ c.args.to = omega (arith, order) in
    c.loop-chunk.invariant k ∙ ap (λ (n : ℕ). get_or c.args.marks.now k false || (nat_le c.args.from k && nat_lt k n)) all
