-- The world that a run leaves can be written where the one that it read could: its entities are among those.
use Rattle.std.proofs.Common.{◌≡◌, ℕ, ◌<◌, ◌≤◌, List, length, get_or, Option, Some, None, Result, Err, refl, ap, ◌∙◌, subst, arith}
use Rattle.std.specs.Prelude.{IfSome, is_some}
use Rattle.std.proofs.lemmas.List.{get_or_default}
use Rattle.std.proofs.lemmas.List.FromFn.{length-map-range_with_len}
use Rattle.std.proofs.lemmas.List.Sums.{count_by-le-length}
use Rattle.edit_terms.specs.Area.{volume}
use Rattle.edit_terms.specs.World.{BlockContent, EntityTags, World, IsWorld, air_content}
use Rattle.edit_terms.specs.Grid.{GridParts, world_of, content_of_cell}
use Rattle.run_terms.specs.Workload.{Workload}
use Rattle.run_terms.specs.Change.{content_of}
use Rattle.run_terms.specs.Entities.{HasOnlyEntitiesOf}
use Rattle.run_terms.specs.Reply.{final_world}
use Rattle.run_terms.proofs.FoldLemmas.{area-world_after, whole-world_after}
use Rattle.run_terms.proofs.EntityLemmas.{entities_come_from_the_opening_world}
use Rattle.block_entities.specs.FileEntities.{IsFileEntity, AreFileEntities}
use Rattle.sponge_schematic.specs.Carried.{CarriedTags, Loaded}
use Rattle.sponge_schematic.specs.Answers.{Fails}
use Rattle.sponge_schematic.specs.declared.fault.WorldFault.{WorldFault}
use Rattle.sponge_schematic.specs.declared.fault.WorldFault.TheVariants as faults
use Rattle.sponge_schematic.specs.Read.{IsWritable}

-- a reader's fault that isn't want of memory is the first fault
pub fails_with : (fault : WorldFault) (read : Result Loaded WorldFault) → (fault ≡ faults.Memory → ⊥) → Fails fault read → read ≡ Err fault
fails_with faults.Compressed read other fails = fails
fails_with (faults.Nbt f) read other fails = fails
fails_with faults.NotSchematic read other fails = fails
fails_with (faults.Missing f) read other fails = fails
fails_with (faults.WrongType f) read other fails = fails
fails_with (faults.Version n) read other fails = fails
fails_with faults.Empty read other fails = fails
fails_with (faults.TooLarge n) read other fails = fails
fails_with faults.OutOfRange read other fails = fails
fails_with (faults.BadState i f) read other fails = fails
fails_with (faults.BadIndex i n) read other fails = fails
fails_with (faults.ShortData n) read other fails = fails
fails_with (faults.LongData n) read other fails = fails
fails_with (faults.BadVarint n) read other fails = fails
fails_with faults.Memory read other fails = absurd (other refl)

-- each entity of a world is good where it is one of a world whose entities are
entities_good : (opening w : World) → IsWorld opening → IsWorld w → HasOnlyEntitiesOf opening w → AreFileEntities opening → AreFileEntities w
entities_good opening w opening_whole whole only good k d within = by_entity (get_or w.contents k d).entity refl
  where
    by_entity : (o : Option EntityTags) → (get_or w.contents k d).entity ≡ o → IfSome o IsFileEntity
    by_entity None is = tt
    by_entity (Some e) is =
        let inside : k < volume w.area = omega (arith, whole) in
        let stands : (content_of w k).entity ≡ Some e = ap (λ (c : BlockContent). c.entity) (get_or_default w.contents k air_content d within) ∙ is in
        let from = only e (record { index = k; within = inside; stands = stands }) in
        let there : from.index < length opening.contents = omega (arith, opening_whole, from.within) in
        subst (λ (o : Option EntityTags). IfSome o IsFileEntity) from.stands (good from.index air_content there)

-- the world that an order leaves can be written beside the tags that the opening world could
pub writable_after : (carried : CarriedTags) (case : Workload) (order : List ℕ) → IsWorld case.opening → volume case.opening.area ≤ 33554432 → length carried.loose ≤ 268435456
    → IsWritable carried case.opening → IsWritable carried (final_world case order)
writable_after carried case order whole small few writable =
    let w = final_world case order in
    let w_whole : IsWorld w = whole-world_after case order (length order) whole in
    let area = area-world_after case order (length order) in
    record {
      entities = entities_good case.opening w whole w_whole (entities_come_from_the_opening_world case order (length order)) writable.entities;
      few =
          let size : length w.contents ≡ volume case.opening.area = w_whole ∙ ap volume area in
          omega (arith, size, count_by-le-length (λ (c : BlockContent). is_some c.entity) w.contents);
    }

-- a grid's world has a content for each block
pub grid_whole : (g : GridParts) → IsWorld (world_of g)
grid_whole g = length-map-range_with_len (content_of_cell g) 0 (volume g.area)
