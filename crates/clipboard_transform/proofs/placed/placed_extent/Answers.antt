use Rattle.std.proofs.Common.{◌∙◌, ◌+ℤ◌, ap}
use Rattle.clipboard_transform.specs.declared.relative_box.RelativeBox.{RelativeBox}
use Rattle.region_shapes.proofs.ExtentLemmas.{same_interval, same_extent}
use Rattle.clipboard_transform.proofs.PlacedLemmas.{placed_end}
use Rattle.clipboard_transform.proofs.placed.placed_extent.Goals as goal

pub returns : goal.returns
returns c = λ box is.
    let p = c.args.place.now in
    same_extent _ _
    (same_interval _ _ (c.placed_x.ensures.from ∙ ap (λ (b : RelativeBox). p.x +ℤ b.least.x) is) (c.placed_x.ensures.to ∙ placed_end p.x box.least.x _ box.width (ap (λ (b : RelativeBox). b.greatest.x) is)))
    (same_interval _ _ (c.placed_y.ensures.from ∙ ap (λ (b : RelativeBox). p.y +ℤ b.least.y) is) (c.placed_y.ensures.to ∙ placed_end p.y box.least.y _ box.height (ap (λ (b : RelativeBox). b.greatest.y) is)))
    (same_interval _ _ (c.placed_z.ensures.from ∙ ap (λ (b : RelativeBox). p.z +ℤ b.least.z) is) (c.placed_z.ensures.to ∙ placed_end p.z box.least.z _ box.length (ap (λ (b : RelativeBox). b.greatest.z) is)))
