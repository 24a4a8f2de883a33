use Rattle.std.proofs.Common.{◌≡◌, take}
use Rattle.nbt_tags.proofs.copying.+copied.Given as goal

abbrev pub invariant-copied_items-loop-item : goal.invariant-copied_items-loop-item
invariant-copied_items-loop-item l = l.copy.items ≡ take l.item-index l.items

abbrev pub invariant-copied_row-loop-named : goal.invariant-copied_row-loop-named
invariant-copied_row-loop-named l = l.copy.items ≡ take l.named-index l.row
