use Rattle.std.proofs.Common.{rules, ◌≡◌, sym, subst}
use Rattle.region_shapes.specs.declared.extent.Extent.{Extent}
use Rattle.region_shapes.specs.Extents.{extent_of, IsExtentOnMap}
use Rattle.region_shapes.proofs.ExtentLemmas.{extent_on_map}
use Rattle.region_shapes.proofs.extent.extent_of.Goals as goal

pub returns-clause-map : goal.returns-clause-map
returns-clause-map c =
    let made : Extent = record { x = c.numbers_from-x.result; y = c.numbers_from-y.result; z = c.numbers_from-z.result } in
    let same : made ≡ extent_of c.args.area.now = search rules in
    subst IsExtentOnMap (sym same) (extent_on_map c.args.area.now c.well_formed-2.ensures)
