-- How long a box is along a direction.
use Rattle.std.proofs.Common.{◌≡◌, ℕ, ap, ◌∙◌}
use Rattle.edit_terms.specs.declared.direction.Direction.{Direction}
use Rattle.edit_terms.specs.declared.direction.Direction.TheVariants.{North, South, East, West, Up, Down}
use Rattle.edit_terms.specs.Area.{Area}
use Rattle.edit_terms.specs.Frame.{size_along}
use Rattle.region_shapes.specs.declared.extent.Extent.{Extent}
use Rattle.region_shapes.specs.declared.interval.Interval.{Interval}
use Rattle.region_shapes.specs.Extents.{extent_of}
use Rattle.region_shapes.specs.Interval.{size}
use Rattle.region_shapes.proofs.ExtentLemmas.{size_of_numbers}
use Rattle.plain_effects.specs.Sections.{along}

size_of_box : (to : Direction) (a : Area) → size (along to (extent_of a)) ≡ size_along to a
size_of_box North a = size_of_numbers a.least.z a.length
size_of_box South a = size_of_numbers a.least.z a.length
size_of_box East a = size_of_numbers a.least.x a.width
size_of_box West a = size_of_numbers a.least.x a.width
size_of_box Up a = size_of_numbers a.least.y a.height
size_of_box Down a = size_of_numbers a.least.y a.height

pub size_of_frame : (to : Direction) (a : Area) (e : Extent) (i : Interval) (n : ℕ) → e ≡ extent_of a → i ≡ along to e → n ≡ size i → n ≡ size_along to a
size_of_frame to a e i n is of_it long = long ∙ ap size (of_it ∙ ap (along to) is) ∙ size_of_box to a
