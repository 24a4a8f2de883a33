-- The cells so far, and those that the rest of the bytes give, are all.
use Rattle.std.proofs.Common.{◌≡◌, ◌≤◌, ◌-◌, length}
use Rattle.sponge_schematic.specs.BlockData.{cells_from, cells_in}
use Rattle.sponge_schematic.proofs.CellLoop.{after}
use Rattle.sponge_schematic.proofs.block_data.cells_in.Given as goal

abbrev pub invariant-loop-cell : goal.invariant-loop-cell
invariant-loop-cell l = record {
  reads : after l.cells.items (cells_from l.places.numbers.items (length l.bytes) l.cell (l.volume - l.cell) l.rest) ≡ cells_in l.places.numbers.items l.volume l.bytes;
  shorter : length l.rest ≤ length l.bytes;
}
