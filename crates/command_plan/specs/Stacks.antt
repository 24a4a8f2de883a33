-- The extents of boxes that are moved and stacked.
use Rattle.std.specs.Prelude.{ℕ, ◌*◌, pos, ◌+ℤ◌, ◌-ℤ◌}
use Rattle.edit_terms.specs.declared.direction.Direction.{Direction}
use Rattle.edit_terms.specs.declared.direction.Direction.TheVariants.{North, South, East, West, Up, Down}
use Rattle.edit_terms.specs.Area.{Area}
use Rattle.region_shapes.specs.declared.interval.Interval.{Interval}
use Rattle.region_shapes.specs.declared.extent.Extent.{Extent}
use Rattle.region_shapes.specs.Interval.{shifted, size}

-- so many boxes side by side in a direction, from beside this box on
abbrev pub stack_hull : ℕ → Direction → Area → Area
stack_hull count North box = record box { least = record box.least { z = box.least.z -ℤ pos (count * box.length) }; length = count * box.length }
stack_hull count South box = record box { least = record box.least { z = box.least.z +ℤ pos box.length }; length = count * box.length }
stack_hull count East box = record box { least = record box.least { x = box.least.x +ℤ pos box.width }; width = count * box.width }
stack_hull count West box = record box { least = record box.least { x = box.least.x -ℤ pos (count * box.width) }; width = count * box.width }
stack_hull count Up box = record box { least = record box.least { y = box.least.y +ℤ pos box.height }; height = count * box.height }
stack_hull count Down box = record box { least = record box.least { y = box.least.y -ℤ pos (count * box.height) }; height = count * box.height }

-- an extent so many blocks on in a direction
abbrev pub moved_extent : Direction → ℕ → Extent → Extent
moved_extent North count e = record e { z = shifted (pos 0 -ℤ pos count) e.z }
moved_extent South count e = record e { z = shifted (pos count) e.z }
moved_extent East count e = record e { x = shifted (pos count) e.x }
moved_extent West count e = record e { x = shifted (pos 0 -ℤ pos count) e.x }
moved_extent Up count e = record e { y = shifted (pos count) e.y }
moved_extent Down count e = record e { y = shifted (pos 0 -ℤ pos count) e.y }

-- what so many copies of an interval fill that lie one behind the other, and one before the other
abbrev pub copies_behind : ℕ → Interval → Interval
copies_behind count i = record { from = i.to; to = i.to +ℤ pos (count * size i) }

abbrev pub copies_before : ℕ → Interval → Interval
copies_before count i = record { from = i.from -ℤ pos (count * size i); to = i.from }

-- what the copies of a stack fill together
abbrev pub stacked_extent : Direction → ℕ → Extent → Extent
stacked_extent North count e = record e { z = copies_before count e.z }
stacked_extent South count e = record e { z = copies_behind count e.z }
stacked_extent East count e = record e { x = copies_behind count e.x }
stacked_extent West count e = record e { x = copies_before count e.x }
stacked_extent Up count e = record e { y = copies_behind count e.y }
stacked_extent Down count e = record e { y = copies_before count e.y }
