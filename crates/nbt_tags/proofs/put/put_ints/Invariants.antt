use Rattle.std.proofs.Common.{◌≡◌, ◌++◌, length, take}
use Rattle.std.specs.List.{flat_map}
use Rattle.nbt_tags.specs.Written.{count_bytes, int_bytes}
use Rattle.nbt_tags.proofs.put.put_ints.Given as goal

abbrev pub invariant-loop-number : goal.invariant-loop-number
invariant-loop-number l = l.out.items ≡ (l.fn.out.items ++ count_bytes (length l.numbers)) ++ flat_map int_bytes (take l.number-index l.numbers)
