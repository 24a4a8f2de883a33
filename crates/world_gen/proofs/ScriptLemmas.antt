-- What holds of each command that a group may have holds of each line of each script.
use Rattle.std.proofs.Common.{◌≡◌, ℕ, zero, suc, ◌+◌, ◌%◌, ◌<◌, ◌≤◌, List, [], ◌∷◌, map, get_or, Option, Some, sym, subst, ◌∙◌, inl, inr, arith}
use Rattle.std.specs.Prelude.{All}
use Rattle.std.specs.List.{range_with_len, flat_map}
use Rattle.std.specs.Option.{option_map_or}
use Rattle.std.proofs.lemmas.List.Elements.{All-nil, All-append, All-cons, All-head, All-tail}
use Rattle.std.proofs.lemmas.List.FromFn.{get_or-map-range_with_len, length-map-range_with_len}
use Rattle.std.proofs.lemmas.Option.{slice_get_cases}
use Rattle.edit_terms.specs.declared.direction.Direction.TheVariants.{Up}
use Rattle.edit_terms.specs.declared.script.Command.{Command}
use Rattle.edit_terms.specs.declared.script.Command.TheVariants.{Pos1, Pos2, Set, Walls, Faces, Replace, Stack, Undo}
use Rattle.edit_terms.specs.declared.script.Line.{Line}
use Rattle.edit_terms.specs.declared.script.Script.{Script}
use Rattle.run_terms.specs.Order.{lines_of}
use Rattle.world_gen.specs.Drill.{corner, command_by, pattern_of, state_by, stone_mask, group_commands, drill_word, drill_commands, lines_from, drill_script}

-- it holds of a player's corners, and of each command with a pattern of one state
pub record HoldsOfEach (Q : Command → Type 0) (player : ℕ) : Type 0 where
  pub first : (a b c : ℕ) → Q (Pos1 (corner player a b c))
  pub second : (a b c : ℕ) → Q (Pos2 (corner player a b c))
  pub set : (word : ℕ) → Q (Set (pattern_of (state_by word)))
  pub walls : (word : ℕ) → Q (Walls (pattern_of (state_by word)))
  pub faces : (word : ℕ) → Q (Faces (pattern_of (state_by word)))
  pub replace : (word : ℕ) → Q (Replace stone_mask (pattern_of (state_by word)))
  pub stack : Q (Stack 1 Up)
  pub undo : Q (Undo 1)

module _ (Q : Command → Type 0) (player : ℕ) (each : HoldsOfEach Q player) where
  -- it holds of the command that two words choose
  command_holds : (choice word : ℕ) → Q (command_by choice (pattern_of (state_by word)))
  command_holds choice word = by_choice (choice % 6)
    where
      by_choice : (n : ℕ) → Q (get_or (Set (pattern_of (state_by word)) ∷ Walls (pattern_of (state_by word)) ∷ Faces (pattern_of (state_by word)) ∷ Replace stone_mask (pattern_of (state_by word)) ∷ Stack 1 Up ∷ []) n (Undo 1))
      by_choice zero = each.set word
      by_choice (suc zero) = each.walls word
      by_choice (suc (suc zero)) = each.faces word
      by_choice (suc (suc (suc zero))) = each.replace word
      by_choice (suc (suc (suc (suc zero)))) = each.stack
      by_choice (suc (suc (suc (suc (suc n))))) = each.undo

  -- of each command of a group
  group_holds : (word : ℕ → ℕ) → All Q (group_commands word player)
  group_holds word =
      let last : Command = command_by (word 6) (pattern_of (state_by (word 7))) in
      let second : Command = Pos2 (corner player (word 3) (word 4) (word 5)) in
      All-cons Q (Pos1 (corner player (word 0) (word 1) (word 2))) (second ∷ last ∷ []) (each.first (word 0) (word 1) (word 2))
      (All-cons Q second (last ∷ []) (each.second (word 3) (word 4) (word 5))
      (All-cons Q last [] (command_holds (word 6) (word 7)) (All-nil Q)))

  -- of each command of some groups
  groups_hold : (number a n : ℕ) → All Q (flat_map (λ (group : ℕ). group_commands (drill_word number player group) player) (range_with_len a n))
  groups_hold number a zero = All-nil Q
  groups_hold number a (suc n) =
      All-append Q (group_commands (drill_word number player a) player) (flat_map (λ (group : ℕ). group_commands (drill_word number player group) player) (range_with_len (a + 1) n))
      (group_holds (drill_word number player a)) (groups_hold number (a + 1) n)

  -- of each line of such commands
  lines_hold : (first : ℕ) (commands : List Command) → All Q commands → All (λ (line : Line). Q line.command) (lines_from first commands)
  lines_hold first [] all = All-nil (λ (line : Line). Q line.command)
  lines_hold first (command ∷ commands) all =
      All-cons (λ (line : Line). Q line.command) (record { number = first; command = command }) (lines_from (first + 1) commands) (All-head Q command commands all)
      (lines_hold (first + 1) commands (All-tail Q command commands all))

  -- of each line of the player's script
  pub script_holds : (number : ℕ) → All (λ (line : Line). Q line.command) (lines_from 2 (drill_commands number player))
  script_holds number = lines_hold 2 (drill_commands number player) (groups_hold number 0 50)

-- what holds of each player's script holds of all scripts
pub scripts_hold : (R : Script → Type 0) (number a n : ℕ) → a + n ≤ 8 → ((player : ℕ) → player < 8 → R (drill_script number player)) → All R (map (drill_script number) (range_with_len a n))
scripts_hold R number a zero fits each = All-nil R
scripts_hold R number a (suc n) fits each =
    All-cons R (drill_script number a) (map (drill_script number) (range_with_len (a + 1) n)) (each a (omega (arith, fits))) (scripts_hold R number (a + 1) n (omega (arith, fits)) each)

-- what holds of each command that a player may have holds of each of the player's lines
pub player_holds : (Q : Command → Type 0) (number n player : ℕ) → HoldsOfEach Q player → All (λ (line : Line). Q line.command) (lines_of (map (drill_script number) (range_with_len 0 n)) player)
player_holds Q number n player each =
    let scripts = map (drill_script number) (range_with_len 0 n) in
    let P : Option Script → Type 0 = λ o. All (λ (line : Line). Q line.command) (option_map_or (λ (s : Script). s.lines) o []) in
    elim (slice_get_cases scripts player).1 [
      | inl found ↦
          let inside : player < n = omega (arith, found.1, length-map-range_with_len (drill_script number) 0 n) in
          let is : drill_script number player ≡ found.0 = sym (get_or-map-range_with_len (drill_script number) 0 n player player found.0 inside (omega arith)) ∙ found.3 in
          subst P (sym found.2) (subst (λ (s : Script). P (Some s)) is (script_holds Q player each number))
      | inr past ↦ subst P (sym past.1) (All-nil (λ (line : Line). Q line.command))
    ]
