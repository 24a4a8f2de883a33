use Rattle.std.proofs.Common.{◌≡◌, ◌<◌, sym, ◌∙◌, ap, subst}
use Rattle.edit_terms.specs.Area.{Area}
use Rattle.edit_terms.specs.Frame.{common_box, frame_of}
use Rattle.region_shapes.specs.declared.extent.Extent.{Extent}
use Rattle.region_shapes.specs.Extents.{extent_of, box_of, is_without, common_extent}
use Rattle.region_shapes.proofs.BoundsLemmas.{common_box-world, made_box, none_in_common}
use Rattle.region_shapes.proofs.bounding.cut_frame.Goals as goal

pub returns-then-is_without : goal.returns-then-is_without
returns-then-is_without c =
    let f = frame_of c.args.region.now in
    let a = c.args.area.now in
    let same : c.common_extent-cut.result ≡ common_extent (extent_of f) (extent_of a) =
    c.common_extent-cut.ensures.value ∙ ap (λ (e : Extent). common_extent e c.extent_of.result) c.frame_of.ensures.value ∙ ap (λ (e : Extent). common_extent (extent_of f) e) c.extent_of.ensures.value in
    none_in_common f a (ap is_without (sym same) ∙ sym c.is_without.ensures ∙ c.if-is_without.true)

pub corner-requires-clause-map : goal.corner-requires-clause-map
corner-requires-clause-map c = c.common_extent-cut.ensures.map c.extent_of.ensures.map

pub size-requires-clause-map : goal.size-requires-clause-map
size-requires-clause-map c = (c.common_extent-cut.ensures.map c.extent_of.ensures.map).x

pub size-requires-2-clause-map : goal.size-requires-2-clause-map
size-requires-2-clause-map c = (c.common_extent-cut.ensures.map c.extent_of.ensures.map).y

pub size-requires-3-clause-map : goal.size-requires-3-clause-map
size-requires-3-clause-map c = (c.common_extent-cut.ensures.map c.extent_of.ensures.map).z

pub returns : goal.returns
returns c =
    let f = frame_of c.args.region.now in
    let a = c.args.area.now in
    let whole = common_box f a in
    let same : c.common_extent-cut.result ≡ common_extent (extent_of f) (extent_of a) =
    c.common_extent-cut.ensures.value ∙ ap (λ (e : Extent). common_extent e c.extent_of.result) c.frame_of.ensures.value ∙ ap (λ (e : Extent). common_extent (extent_of f) e) c.extent_of.ensures.value in
    let made : Area = record {
      least = c.corner.result;
      width = c.size.result;
      height = c.size-2.result;
      length = c.size-3.result;
    } in
    let fields : made ≡ box_of c.common_extent-cut.result = λ i. record {
      least = record { x = c.corner.ensures.x i; y = c.corner.ensures.y i; z = c.corner.ensures.z i };
      width = c.size.ensures.value i;
      height = c.size-2.ensures.value i;
      length = c.size-3.ensures.value i;
    } in
    let is : made ≡ whole = fields ∙ ap box_of same in
    made_box c.new.result made whole c.new.ensures is
    (common_box-world f a c.well_formed-2.ensures
    (subst (λ (b : Area). 0 < b.width) is c.size.ensures.some)
    (subst (λ (b : Area). 0 < b.height) is c.size-2.ensures.some)
    (subst (λ (b : Area). 0 < b.length) is c.size-3.ensures.some))
