use Rattle.std.proofs.Common.{◌≡◌, ◌+◌, ◌-◌, ◌*◌, length}
use Rattle.nbt_tags.specs.Reading.{payload_at, items_at, row_at, whole_row_at}
use Rattle.nbt_tags.specs.Taken.{is_taken}
use Rattle.nbt_tags.proofs.Steps.{with_front}
use Rattle.nbt_tags.proofs.payload.+payload.Given as goal

abbrev pub decreases-payload : goal.decreases-payload
decreases-payload l = 8 * l.levels + 2

abbrev pub decreases-list : goal.decreases-list
decreases-list l = 8 * l.levels + 1

abbrev pub decreases-list_in : goal.decreases-list_in
decreases-list_in l = 8 * l.levels + 8

abbrev pub decreases-counted : goal.decreases-counted
decreases-counted l = 8 * l.levels + 7

abbrev pub decreases-items : goal.decreases-items
decreases-items l = 8 * l.levels + 6

abbrev pub decreases-compound : goal.decreases-compound
decreases-compound l = 8 * l.levels + 1

abbrev pub decreases-compound_in : goal.decreases-compound_in
decreases-compound_in l = 8 * l.levels + 8

abbrev pub decreases-row : goal.decreases-row
decreases-row l = 8 * l.levels + 7

abbrev pub decreases-entry : goal.decreases-entry
decreases-entry l = 8 * l.levels + 5

abbrev pub invariant-items-loop : goal.invariant-items-loop
invariant-items-loop l = with_front l.items.items (items_at (payload_at l.levels l.kind) (l.count - l.counter) l.rest) ≡ items_at (payload_at l.levels l.kind) l.count l.bytes

abbrev pub invariant-row-loop : goal.invariant-row-loop
invariant-row-loop l = with_front l.row.items (row_at (payload_at l.levels) l.ending (length l.bytes + 1 - l.counter) (is_taken l.names) l.rest) ≡ whole_row_at (payload_at l.levels) l.ending l.bytes
