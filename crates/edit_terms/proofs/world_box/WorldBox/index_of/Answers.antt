use Rattle.std.proofs.Common.{arith}
use Rattle.edit_terms.specs.Area.{Area}
use Rattle.edit_terms.proofs.AreaLemmas.{limits, place_below}
use Rattle.edit_terms.proofs.world_box.WorldBox.index_of.Goals as goal

pub overflow_add-result-2 : goal.overflow_add-result-2
overflow_add-result-2 c =
    let area : Area = record { least = c.self.inside.least; width = c.self.inside.width; height = c.self.inside.height; length = c.self.inside.length } in
    let small = (limits area c.self.invariant).small in
    let below = place_below area.width area.height area.length c.offset_x-x.result c.offset_y-y.result c.offset_z-z.result c.offset_x-x.ensures.below c.offset_y-y.ensures.below c.offset_z-z.ensures.below in
    omega (arith, below)
