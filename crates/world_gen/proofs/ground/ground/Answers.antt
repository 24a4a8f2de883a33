use Rattle.std.proofs.Common.{◌≡◌, ◌∙◌, true, ap, rules}
use Rattle.edit_terms.specs.Grid.{world_of, is_numbered}
use Rattle.world_gen.proofs.GroundLemmas.{ground_grid, ground_numbered, ground_shown}
use Rattle.world_gen.proofs.ground.ground.Goals as goal

pub unreachable-requires : goal.unreachable-requires
unreachable-requires c =
    let numbered : is_numbered c.args.area c.in_ok-kinds.kinds.items c.in_ok-cells.cells.items ≡ true = rw (c.in_ok-kinds.ensures, c.in_ok-cells.ensures) (ground_numbered c.args.area) in
    search rules

pub returns : goal.returns
returns c =
    let is : c.in-Some.grid ≡ ground_grid c.args.area = search rules in
    ap world_of is ∙ ground_shown c.args.area
