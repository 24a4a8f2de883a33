use Rattle.std.proofs.Common.{◌≡◌, ◌≤◌, take}
use Rattle.std.specs.Prelude.{sum_by}
use Rattle.edit_terms.specs.declared.mask.Term.{Term}
use Rattle.edit_terms.specs.Mask.{noise_leaves}
use Rattle.run_terms.proofs.command_limits.noise_leaves.Given as goal

-- the noise leaves of the terms so far, at most one each
abbrev pub invariant-loop-term : goal.invariant-loop-term
invariant-loop-term l = record {
  counted : l.count ≡ sum_by (λ (t : Term). noise_leaves t.leaf) (take l.term-index l.terms);
  few : l.count ≤ l.term-index;
}
