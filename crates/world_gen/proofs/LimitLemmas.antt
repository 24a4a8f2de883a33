-- The drill keeps to the limits of a case.
use Rattle.std.proofs.Common.{◌≡◌, ℕ, zero, suc, ◌+◌, ◌*◌, ◌<◌, true, length, refl, ◌∙◌, arith}
use Rattle.std.specs.Prelude.{IsTrue}
use Rattle.std.specs.List.{range_with_len, flat_map}
use Rattle.std.proofs.lemmas.Int.{ints}
use Rattle.std.proofs.lemmas.List.{length-append}
use Rattle.edit_terms.specs.declared.script.Command.{Command}
use Rattle.edit_terms.specs.Area.{is_on_map}
use Rattle.run_terms.specs.Limits.{is_command_within, IsScriptWithin, IsWithinLimits}
use Rattle.world_gen.specs.Drill.{corner, group_commands, drill_word, drill_commands, drill_script, drill_workload}
use Rattle.world_gen.proofs.LineLemmas.{length-lines_from}
use Rattle.world_gen.proofs.ScriptLemmas.{HoldsOfEach, script_holds, scripts_hold}

-- a corner is on the map
corner_on_map : (player a b c : ℕ) → player < 8 → is_on_map (corner player a b c) ≡ true
corner_on_map player a b c below = grind (arith, ints)

-- a command within the limits
abbrev IsWithin : Command → Type 0
IsWithin command = IsTrue (is_command_within command)

-- each command of a group is
each_within : (player : ℕ) → player < 8 → HoldsOfEach IsWithin player
each_within player below = record {
  first = λ a b c. corner_on_map player a b c below;
  second = λ a b c. corner_on_map player a b c below;
  set = λ word. refl;
  walls = λ word. refl;
  faces = λ word. refl;
  replace = λ word. refl;
  stack = refl;
  undo = refl;
}

-- groups have three commands each
length-groups : (number player a n : ℕ) → length (flat_map (λ (group : ℕ). group_commands (drill_word number player group) player) (range_with_len a n)) ≡ 3 * n
length-groups number player a zero = refl
length-groups number player a (suc n) =
    let rest = flat_map (λ (group : ℕ). group_commands (drill_word number player group) player) (range_with_len (a + 1) n) in
    length-append (group_commands (drill_word number player a) player) rest ∙ omega (arith, length-groups number player (a + 1) n)

-- each player's script is within the limits
script_within : (number player : ℕ) → player < 8 → IsScriptWithin (drill_script number player)
script_within number player below = record {
  name = refl;
  lines = omega (arith, length-lines_from 2 (drill_commands number player), length-groups number player 0 50);
  commands = script_holds IsWithin player (each_within player below) number;
}

-- and the drill
pub drill_within : (number : ℕ) → IsWithinLimits (drill_workload number)
drill_within number = record { scripts = refl; depth = refl; each = scripts_hold IsScriptWithin number 0 8 (omega arith) (script_within number) }
