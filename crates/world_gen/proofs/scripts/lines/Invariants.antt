use Rattle.std.proofs.Common.{◌≡◌, ℕ, ◌*◌, length}
use Rattle.std.specs.List.{range_with_len, flat_map}
use Rattle.world_gen.specs.Drill.{group_commands, drill_word, lines_from}
use Rattle.world_gen.proofs.scripts.lines.Given as goal

-- the lines of the groups so far, three each
abbrev pub invariant-loop-group : goal.invariant-loop-group
invariant-loop-group l = record {
  lines : l.lines.items ≡ lines_from 2 (flat_map (λ (group : ℕ). group_commands (drill_word l.number l.player group) l.player) (range_with_len 0 l.group));
  long : length l.lines.items ≡ 3 * l.group;
}
