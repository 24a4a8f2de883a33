use Rattle.std.proofs.Common.{◌≡◌, map, drop}
use Rattle.std.specs.Arc.{arc_value}
use Rattle.edit_terms.specs.Grid.{is_rising_from}
use Rattle.edit_terms.proofs.grid.is_rising.Given as goal

abbrev pub invariant-loop-placed : goal.invariant-loop-placed
invariant-loop-placed l =
    is_rising_from l.area l.least (map (λ e. (e.0, arc_value e.1)) (drop l.placed-index l.list)) ≡ is_rising_from l.area 0 (map (λ e. (e.0, arc_value e.1)) l.list)
