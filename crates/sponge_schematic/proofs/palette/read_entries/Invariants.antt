use Rattle.std.proofs.Common.{◌≡◌, drop, length}
use Rattle.sponge_schematic.specs.Palette.{entries_from}
use Rattle.sponge_schematic.proofs.EntryLoop.{after}
use Rattle.sponge_schematic.proofs.palette.read_entries.Given as goal

abbrev pub invariant-loop-index : goal.invariant-loop-index
invariant-loop-index l = record {
  reads : after l.entries.numbers.items l.entries.states.items (entries_from l.index (drop l.index l.row)) ≡ entries_from 0 l.row;
  numbers : length l.entries.numbers.items ≡ l.index;
  states : length l.entries.states.items ≡ l.index;
}
