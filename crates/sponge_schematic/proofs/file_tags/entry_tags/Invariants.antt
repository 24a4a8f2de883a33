-- What was put, and the entries that are left.
use Rattle.std.proofs.Common.{◌≡◌, ◌++◌, drop}
use Rattle.sponge_schematic.specs.File.{entry_tags}
use Rattle.sponge_schematic.proofs.file_tags.entry_tags.Given as goal

abbrev pub invariant-loop-number : goal.invariant-loop-number
invariant-loop-number l = l.out.items ++ entry_tags l.number (drop l.number l.palette) ≡ entry_tags 0 l.palette
