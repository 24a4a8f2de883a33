use Rattle.std.proofs.Common.{◌≡◌, ℕ, ◌||◌, ◌&&◌, false, get_or}
use Rattle.std.specs.Prelude.{nat_le, nat_lt}
use Rattle.command_plan.proofs.marks.mark_run.Given as goal

abbrev pub invariant-loop-chunk : goal.invariant-loop-chunk
invariant-loop-chunk l = (k : ℕ) → get_or l.marks k false ≡ (get_or l.initial.marks k false || (nat_le l.from k && nat_lt k l.chunk))
