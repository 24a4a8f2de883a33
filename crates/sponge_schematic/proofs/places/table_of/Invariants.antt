use Rattle.std.proofs.Common.{take}
use Rattle.sponge_schematic.specs.Places.{IsTableOf}
use Rattle.sponge_schematic.proofs.places.table_of.Given as goal

abbrev pub invariant-loop-place : goal.invariant-loop-place
invariant-loop-place l = IsTableOf l.table (take l.place l.numbers)
