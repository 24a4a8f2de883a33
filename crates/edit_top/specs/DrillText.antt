-- The words of a drill, and the text that tells what its run left.
use Rattle.std.specs.Prelude.{◌≡◌, ℕ, List, [], ◌∷◌, ◌++◌, length, map, get_or, sum_by, Option, None, if◌then◌else◌, codes, decimal, bytes_eq}
use Rattle.std.specs.List.{range_with_len, flat_map}
use Rattle.edit_terms.specs.declared.outcome.Reply.{Reply}
use Rattle.edit_terms.specs.declared.outcome.Reply.TheVariants.{Accepted, Changed}
use Rattle.run_terms.specs.Workload.{Workload}
use Rattle.run_terms.specs.Order.{IsWholeOrder, lines_of, ticket_of}
use Rattle.run_terms.specs.Reply.{reply_of, final_world}
use Rattle.state_counts.specs.Counts.{IsCensus}
use Rattle.world_gen.specs.Drill.{drill_workload}
use Rattle.edit_top.specs.Words.{seed_of}
use Rattle.edit_top.specs.RunText.{name_of}

-- The number in the words `drill NUMBER`, as a seed is written, and nothing where they are other words.
abbrev pub drilled_by : List (List ℕ) → Option ℕ
drilled_by (call ∷ number ∷ []) = if bytes_eq call (codes "drill") then seed_of number else None
drilled_by _ = None

-- the message where the words aren't `drill NUMBER`
abbrev pub drill_usage_text : List ℕ
drill_usage_text = codes "fault: usage: drill NUMBER\n"

-- ---- what the players changed

-- how many positions a reply tells as changed
abbrev pub changed_in : Reply → ℕ
changed_in (Changed count) = count
changed_in _ = 0

-- how many positions a command changed in the run of an order, as its reply tells
abbrev pub changed_by_command : Workload → List ℕ → ℕ → ℕ → ℕ
changed_by_command case order player step = changed_in (reply_of case order (ticket_of order (record { player = player; step = step })))

-- the sum over a player's commands
abbrev pub changed_by : Workload → List ℕ → ℕ → ℕ
changed_by case order player = sum_by (changed_by_command case order player) (range_with_len 0 (length (lines_of case.scripts player)))

-- each player's name, and what its commands changed
abbrev pub players_changes : Workload → List ℕ → List (List ℕ × ℕ)
players_changes case order = map (λ player. (name_of case.scripts player, changed_by case order player)) (range_with_len 0 (length case.scripts))

-- ---- the text

-- PLAYER changed N
abbrev pub player_text : List ℕ × ℕ → List ℕ
player_text changed = changed.0 ++ codes " changed " ++ decimal changed.1 ++ codes "\n"

-- STATE N
abbrev pub state_text : List ℕ × ℕ → List ℕ
state_text counted = counted.0 ++ codes " " ++ decimal counted.1 ++ codes "\n"

-- the text of a drill: its number, what each player changed, the states of the last world with the numbers of their
-- blocks, and how many commands were run
abbrev pub drill_text : ℕ → List (List ℕ × ℕ) → List (List ℕ × ℕ) → ℕ → List ℕ
drill_text number players census commands =
    codes "drill " ++ decimal number ++ codes "\n" ++ flat_map player_text players ++ flat_map state_text census ++ codes "done " ++ decimal commands ++ codes "\n"

-- The text of the drill of a number, from a run of one whole order of its players' commands: what each of them changed,
-- and a census of the world that is left.
pub record IsDrillText (number : ℕ) (text : List ℕ) : Type 0 where
  pub order : List ℕ
  pub whole : IsWholeOrder (drill_workload number).scripts order
  pub census : List (List ℕ × ℕ)
  pub counts : IsCensus (final_world (drill_workload number) order) census
  pub is : text ≡ drill_text number (players_changes (drill_workload number) order) census (length order)

-- ---- while the counts are made

-- what a player's first commands changed, as these replies to an order tell
abbrev pub changed_in_turns : List ℕ → List Reply → ℕ → ℕ → ℕ
changed_in_turns order replies player turns = sum_by (λ step. changed_in (get_or replies (ticket_of order (record { player = player; step = step })) Accepted)) (range_with_len 0 turns)
