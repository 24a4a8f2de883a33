use Rattle.std.proofs.Common.{◌≡◌, ◌≤◌, ◌⊎◌, inl, inr, ℕ, arith}
use Rattle.command_plan.proofs.rectangle.hull_run.Goals as goal

hull_end : (at bt t whole : ℕ) → (t ≡ at) ⊎ (t ≡ bt) → at ≤ whole → bt ≤ whole → t ≤ whole
hull_end at bt t whole one a b = elim one as (λ _. t ≤ whole) [ inl e ↦ omega (arith, e, a) | inr e ↦ omega (arith, e, b) ]

pub returns-clause-within : goal.returns-clause-within
returns-clause-within c = λ whole first second.
    let low = c.lesser.ensures.first in let high = c.greater.ensures.first in let order = first.order in
    record {
      order = omega (arith, low, high, order);
      within = hull_end c.args.a.now.to c.args.b.now.to c.greater.result whole c.greater.ensures.one first.within second.within;
    }
