use Rattle.std.proofs.Common.{◌≡◌, ◌++◌, map}
use Rattle.std.specs.List.{flat_map}
use Rattle.state_counts.specs.Counts.{listed}
use Rattle.edit_top.specs.DrillText.{state_text}
use Rattle.edit_top.proofs.drill_text.push_states.Given as goal

-- the lines put and those left are the lines of all states
abbrev pub invariant-loop-state : goal.invariant-loop-state
invariant-loop-state l = l.text.items ++ flat_map state_text (map (λ e. (e.0.items, e.1)) l.state-iterator) ≡ l.fn.text.items ++ flat_map state_text (listed l.counts)
