use Rattle.std.proofs.Common.{◌≡◌, ◌*◌}
use Rattle.std.specs.List.{range_with_len, filter}
use Rattle.plain_effects.specs.Sections.{is_in_section}
use Rattle.plain_effects.proofs.visit.visited.Given as goal

-- the places of the rows passed
abbrev pub invariant-loop-row : goal.invariant-loop-row
invariant-loop-row l = l.places.items ≡ filter (is_in_section l.area l.section) (range_with_len 0 (l.row * l.area.width))
