-- Two players whose blocks lie in two chunks meet the conditions under which the order is free; in one place the order
-- tells.
use Rattle.std.proofs.Common.{◌≡◌, ℕ, zero, suc, ◌≤◌, eqb, Bool, true, false, ◌&&◌, ◌||◌, [], ◌∷◌, length, take, Option, refl, sym, ap, ◌∙◌, codes, arith}
use Rattle.std.specs.Prelude.{All, IsTrue, replicate, flat_map}
use Rattle.std.specs.List.{range_with_len, list_any}
use Rattle.std.specs.Option.{option_map_or}
use Rattle.std.proofs.lemmas.List.Elements.{All-nil, All-cons}
use Rattle.std.proofs.lemmas.Option.{slice_get_past}
use Rattle.edit_terms.specs.declared.clip.Source.{Source}
use Rattle.edit_terms.specs.declared.script.Command.TheVariants.{Block}
use Rattle.edit_terms.specs.declared.script.Line.{Line}
use Rattle.edit_terms.specs.declared.script.Script.{Script}
use Rattle.edit_terms.specs.declared.step.Step.{Step}
use Rattle.edit_terms.specs.declared.step.Step.TheVariants.{Settled}
use Rattle.edit_terms.specs.Area.{chunks}
use Rattle.edit_terms.specs.StateText.{State, air}
use Rattle.run_terms.specs.Workload.{Workload}
use Rattle.run_terms.specs.Order.{lines_of, step_of_command}
use Rattle.run_terms.specs.Session.{resolved_command, session_after}
use Rattle.run_terms.specs.Limits.{IsScriptWithin, IsWithinLimits, is_command_within}
use Rattle.run_terms.specs.Access.{is_chunk_of_box, chunks_of_boxes, boxes_read_by, boxes_written_by, with_edits_taken, chunks_read_by, chunks_written_by}
use Rattle.run_terms.specs.Fold.{edits_taken_by}
use Rattle.run_terms.proofs.ExampleTerms.{east, stone, dirt, street_of, left, left_by}
use Rattle.edit_terms.specs.declared.outcome.Reply.TheVariants.{Changed}
use Rattle.access_laws.specs.Locality.{is_among}
use Rattle.access_laws.specs.OrderFree.{is_command_still, AreScriptsStill, accesses, IsFreeOfOrder, OrderIsFree}
use Rattle.access_laws.proofs.Stays.{among_is, any_joined}
use Rattle.access_laws.proofs.StillScripts.{commands_still}
use Rattle.access_laws.proofs.Results.{order_is_free}

-- a command that changes the session alone, or isn't there, accesses no chunk
settled_accesses : (case : Workload) (id : Source) (chunk : ℕ) → step_of_command case id ≡ Settled → accesses case id chunk ≡ false
settled_accesses case id chunk is =
    let area = case.opening.area in
    let boxes = λ (n : ℕ). boxes_written_by area (step_of_command case (record id { step = n })) in
    let reads : is_among (chunks_read_by case id) chunk ≡ false = ap (λ (step : Step). is_among (chunks_of_boxes area (boxes_read_by step)) chunk) is ∙ among_is area [] chunk in
    let own : list_any (is_chunk_of_box area chunk) (boxes_written_by area (step_of_command case id)) ≡ false = ap (λ (step : Step). list_any (is_chunk_of_box area chunk) (boxes_written_by area step)) is in
    let joined : list_any (is_chunk_of_box area chunk) (flat_map boxes (with_edits_taken case id)) ≡ false =
    any_joined (is_chunk_of_box area chunk) boxes (with_edits_taken case id)
    ∙ ap (λ (step : Step). list_any (λ n. list_any (is_chunk_of_box area chunk) (boxes n)) (id.step ∷ edits_taken_by step)) is
    ∙ ap (λ (b : Bool). b || false) own in
    let writes : is_among (chunks_written_by case id) chunk ≡ false =
    among_is area (flat_map boxes (with_edits_taken case id)) chunk ∙ ap (λ (b : Bool). b && is_among (range_with_len 0 (chunks area)) chunk) joined in
    λ i. reads i || writes i

-- a script of one block
abbrev block_script : ℕ → State → Script
block_script x state = record { player = codes "alex"; lines = record { number = 1; command = Block (east x) state } ∷ [] }

-- two chunks of air, and a block of each player: the second's at this place
abbrev two_players : ℕ → Workload
two_players x = record { opening = street_of (replicate 32 air); scripts = block_script 0 stone ∷ block_script x dirt ∷ []; seed = 0; depth = 15 }

-- past a player's one command, and past the two players, is no command
past_is_settled : (player n : ℕ) → length (lines_of (two_players 16).scripts player) ≤ n → step_of_command (two_players 16) (record { player = player; step = n }) ≡ Settled
past_is_settled player n past =
    let lines = lines_of (two_players 16).scripts player in
    ap (λ (o : Option Line). option_map_or (λ line. resolved_command (session_after player 15 (take n lines)) line.command) o Settled) (slice_get_past lines n past)

-- each player has the chunk of its own number
own_chunk : (chunk mine : ℕ) → (eqb mine chunk || false) ≡ true → chunk ≡ mine
own_chunk chunk mine h = grind (arith)

chunk_is_player : (player n chunk : ℕ) → accesses (two_players 16) (record { player = player; step = n }) chunk ≡ true → chunk ≡ player
chunk_is_player zero zero chunk h = own_chunk chunk 0 h
chunk_is_player (suc zero) zero chunk h = own_chunk chunk 1 h
chunk_is_player zero (suc n) chunk h = let none = settled_accesses (two_players 16) (record { player = 0; step = suc n }) chunk (past_is_settled 0 (suc n) (omega arith)) in absurd cc
chunk_is_player (suc zero) (suc n) chunk h = let none = settled_accesses (two_players 16) (record { player = 1; step = suc n }) chunk (past_is_settled 1 (suc n) (omega arith)) in absurd cc
chunk_is_player (suc (suc player)) n chunk h = let none = settled_accesses (two_players 16) (record { player = suc (suc player); step = n }) chunk (past_is_settled (suc (suc player)) n (omega arith)) in absurd cc

block_scripts_still : AreScriptsStill (two_players 16).scripts
block_scripts_still =
    let still = λ (x : ℕ) (state : State). All-cons (λ (line : Line). is_command_still line.command ≡ true) (record { number = 1; command = Block (east x) state }) [] refl (All-nil (λ (line : Line). is_command_still line.command ≡ true)) in
    All-cons (λ (script : Script). All (λ line. is_command_still line.command ≡ true) script.lines) (block_script 0 stone) (block_script 16 dirt ∷ []) (still 0 stone)
    (All-cons (λ (script : Script). All (λ line. is_command_still line.command ≡ true) script.lines) (block_script 16 dirt) [] (still 16 dirt) (All-nil (λ (script : Script). All (λ line. is_command_still line.command ≡ true) script.lines)))

block_script_within : (x : ℕ) (state : State) → is_command_within (Block (east x) state) ≡ true → IsScriptWithin (block_script x state)
block_script_within x state within = record {
  name = refl;
  lines = omega arith;
  commands = All-cons (λ (line : Line). IsTrue (is_command_within line.command)) (record { number = 1; command = Block (east x) state }) [] within (All-nil (λ (line : Line). IsTrue (is_command_within line.command)));
}

players_within : IsWithinLimits (two_players 16)
players_within = record {
  scripts = refl;
  depth = refl;
  each = All-cons IsScriptWithin (block_script 0 stone) (block_script 16 dirt ∷ []) (block_script_within 0 stone refl) (All-cons IsScriptWithin (block_script 16 dirt) [] (block_script_within 16 dirt refl) (All-nil IsScriptWithin));
}

players_apart : IsFreeOfOrder (two_players 16)
players_apart = record {
  apart = λ a b chunk first second. sym (chunk_is_player a.player a.step chunk first) ∙ chunk_is_player b.player b.step chunk second;
  still = commands_still (two_players 16) block_scripts_still;
}

-- so whatever the order, the replies and the world are the same
free_players : OrderIsFree (two_players 16)
free_players = order_is_free (two_players 16) players_within refl refl players_apart

-- two blocks in one place: the later one stays
stone_first : left_by (two_players 0) (0 ∷ 1 ∷ []) ≡ left (Changed 1 ∷ Changed 1 ∷ []) (dirt ∷ replicate 31 air)
stone_first = refl

dirt_first : left_by (two_players 0) (1 ∷ 0 ∷ []) ≡ left (Changed 1 ∷ Changed 1 ∷ []) (stone ∷ replicate 31 air)
dirt_first = refl
