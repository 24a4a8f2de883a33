use Rattle.std.proofs.Common.{◌≡◌, ◌≤◌, ◌+◌, ◌<◌, ℕ, take, All, length}
use Rattle.std.specs.Prelude.{option_map}
use Rattle.std.specs.Arc.{arc_value}
use Rattle.std.specs.Ordering.{nat_cmp}
use Rattle.std.specs.BTreeMap.{get, keys, values, btree_map_len, IsOrdered}
use Rattle.edit_terms.specs.Area.{volume}
use Rattle.block_entities.specs.FileEntities.{IsFileEntity}
use Rattle.block_entities.specs.Gathering.{entity_at, loose_of}
use Rattle.block_entities.proofs.gathering.entities_of.Given as goal

abbrev pub invariant-loop-entry : goal.invariant-loop-entry
invariant-loop-entry l = record {
  each : (index : ℕ) → option_map arc_value (get nat_cmp l.found index) ≡ entity_at l.area (take l.entry-index l.entries) index;
  below : All (λ index. index < volume l.area) (keys l.found);
  good : All (λ e. IsFileEntity (arc_value e)) (values l.found);
  ordered : IsOrdered nat_cmp l.found;
  few : btree_map_len l.found + length (loose_of l.area (take l.entry-index l.entries)) ≤ l.entry-index;
}
