use Rattle.std.proofs.Common.{◌≡◌, ◌≤◌, ◌*◌, ◌-◌, ◌++◌, length}
use Rattle.std.specs.Int.{w64}
use Rattle.nbt_tags.specs.Reading.{numbers_in}
use Rattle.nbt_tags.proofs.arrays.longs_in.Given as goal

abbrev pub invariant-loop : goal.invariant-loop
invariant-loop l = record {
  room : 8 * (l.count - l.counter) ≤ length l.left;
  so_far : l.numbers.items ++ numbers_in w64 (l.count - l.counter) l.left ≡ numbers_in w64 l.count l.cells;
}
