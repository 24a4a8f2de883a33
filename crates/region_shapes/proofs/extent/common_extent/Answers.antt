use Rattle.std.proofs.Common.{rules, ◌≡◌, sym, subst}
use Rattle.region_shapes.specs.declared.extent.Extent.{Extent}
use Rattle.region_shapes.specs.Extents.{common_extent, IsExtentOnMap}
use Rattle.region_shapes.proofs.ExtentLemmas.{common_on_map}
use Rattle.region_shapes.proofs.extent.common_extent.Goals as goal

pub returns-clause-map : goal.returns-clause-map
returns-clause-map c = λ map.
    let made : Extent = record { x = c.common.result; y = c.common-2.result; z = c.common-3.result } in
    let same : made ≡ common_extent c.args.first.now c.args.second.now = search rules in
    subst IsExtentOnMap (sym same) (common_on_map c.args.first.now c.args.second.now map)
