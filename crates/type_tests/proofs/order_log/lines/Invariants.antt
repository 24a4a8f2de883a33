use Rattle.std.proofs.Common.{◌≡◌, length}
use Rattle.type_tests.proofs.order_log.lines.Given as goal

abbrev pub invariant-loop-number : goal.invariant-loop-number
invariant-loop-number l = length l.lines.items ≡ l.number
