use Rattle.std.proofs.Common.{◌≡◌, ◌≤◌, ◌*◌, ◌-◌, ◌++◌, length}
use Rattle.std.specs.Int.{w32}
use Rattle.nbt_tags.specs.Reading.{numbers_in}
use Rattle.nbt_tags.proofs.arrays.ints_in.Given as goal

abbrev pub invariant-loop : goal.invariant-loop
invariant-loop l = record {
  room : 4 * (l.count - l.counter) ≤ length l.left;
  so_far : l.numbers.items ++ numbers_in w32 (l.count - l.counter) l.left ≡ numbers_in w32 l.count l.cells;
}
