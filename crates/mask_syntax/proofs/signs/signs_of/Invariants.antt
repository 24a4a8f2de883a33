use Rattle.std.proofs.Common.{◌≡◌, map, take}
use Rattle.mask_syntax.specs.Term.{sign_of}
use Rattle.mask_syntax.proofs.signs.signs_of.Given as goal

abbrev pub invariant-loop-b : goal.invariant-loop-b
invariant-loop-b l = l.signs.items ≡ map sign_of (take l.b-index (take l.count l.bytes))
