-- Palette and data are those of the blocks so far, and the table knows what it says.
use Rattle.std.proofs.Common.{◌≡◌, ◌≤◌, length, take, map}
use Rattle.std.specs.List.{flat_map}
use Rattle.edit_terms.specs.Same.{same_state}
use Rattle.block_palette.specs.Numbering.{distinct, numbers}
use Rattle.sponge_schematic.specs.Varint.{varint}
use Rattle.sponge_schematic.specs.Numbers.{IsTable, kind_of}
use Rattle.sponge_schematic.proofs.numbering.number_blocks.Given as goal

abbrev pub invariant-loop-kind : goal.invariant-loop-kind
invariant-loop-kind l = record {
  palette_is : l.palette ≡ distinct same_state (take l.kind-index (map (kind_of l.kinds) l.kind-items));
  data_is : l.data.items ≡ flat_map varint (numbers same_state (take l.kind-index (map (kind_of l.kinds) l.kind-items)));
  known : IsTable l.kinds l.palette l.table.items;
  few : length l.palette ≤ l.kind-index;
}
