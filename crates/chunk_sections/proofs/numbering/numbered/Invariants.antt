-- Palette and numbers are those of the blocks so far, and the table knows what it says.
use Rattle.std.proofs.Common.{◌≡◌, ◌≤◌, length, take}
use Rattle.chunk_sections.specs.Section.{states_of, section_kinds, section_numbers}
use Rattle.chunk_sections.specs.Table.{IsTable}
use Rattle.chunk_sections.proofs.numbering.numbered.Given as goal

abbrev pub invariant-loop-kind : goal.invariant-loop-kind
invariant-loop-kind l = record {
  palette_is : l.palette ≡ section_kinds (take l.kind-index (states_of l.kinds l.cells));
  numbers_are : l.numbers.items ≡ section_numbers (take l.kind-index (states_of l.kinds l.cells));
  known : IsTable l.kinds l.palette l.table.items;
  few : length l.palette ≤ l.kind-index;
}
