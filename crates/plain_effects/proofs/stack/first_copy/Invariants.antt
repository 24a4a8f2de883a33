use Rattle.std.proofs.Common.{◌≡◌, ℕ, ◌<◌, ◌≤◌, false}
use Rattle.run_terms.specs.Effect.{is_source, copy_source}
use Rattle.plain_effects.proofs.stack.first_copy.Given as goal

-- the copies before bring nothing
abbrev pub invariant-loop-number : goal.invariant-loop-number
invariant-loop-number l = (k : ℕ) → 1 ≤ k → k < l.number → is_source l.from l.blocks (copy_source l.from l.to l.p k) ≡ false
