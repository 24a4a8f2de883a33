use Rattle.std.proofs.Common.{◌≡◌, ◌++◌, ◌∷◌, length, take}
use Rattle.std.specs.List.{flat_map}
use Rattle.nbt_tags.specs.Written.{written_payload, count_bytes, written_row}
use Rattle.nbt_tags.proofs.write.+put.Given as goal

abbrev pub invariant-put_list-loop-item : goal.invariant-put_list-loop-item
invariant-put_list-loop-item l = l.out.items ≡ (l.fn.out.items ++ l.element ∷ count_bytes (length l.items)) ++ flat_map written_payload (take l.item-index l.items)

abbrev pub invariant-put_row-loop-entry : goal.invariant-put_row-loop-entry
invariant-put_row-loop-entry l = l.out.items ≡ l.fn.out.items ++ written_row (take l.entry-index l.row)
