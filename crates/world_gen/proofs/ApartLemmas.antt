-- The drill's players keep apart, so that its serial order is free.
use Rattle.std.proofs.Common.{◌≡◌, ℕ, ◌/◌, ◌%◌, true, List, [], ◌∷◌, map, refl, sym, ap, ◌∙◌, arith}
use Rattle.std.specs.Prelude.{All, flat_map}
use Rattle.std.specs.List.{range_with_len, list_any}
use Rattle.std.proofs.lemmas.List.FromFn.{length-map-range_with_len}
use Rattle.edit_terms.specs.declared.clip.Source.{Source}
use Rattle.edit_terms.specs.declared.script.Line.{Line}
use Rattle.edit_terms.specs.declared.script.Script.{Script}
use Rattle.edit_terms.specs.Area.{Area, volume, position_of, chunks, is_world_box}
use Rattle.edit_terms.specs.World.{IsWorld, without_entity}
use Rattle.edit_terms.proofs.AreaLemmas.{and_both}
use Rattle.run_terms.specs.Order.{lines_of, step_of_command}
use Rattle.run_terms.specs.Access.{is_chunk_of_box, boxes_read_by, boxes_written_by, with_edits_taken, chunks_read_by, chunks_written_by}
use Rattle.access_laws.specs.Locality.{is_among}
use Rattle.access_laws.specs.OrderFree.{is_command_still, AreScriptsStill, accesses, IsFreeOfOrder, OrderIsFree}
use Rattle.access_laws.proofs.Stays.{among_is, any_joined}
use Rattle.access_laws.proofs.StillScripts.{commands_still}
use Rattle.access_laws.proofs.Results.{order_is_free}
use Rattle.world_gen.specs.Drill.{drill_area, ground_at, ground_over, drill_script, drill_workload}
use Rattle.world_gen.proofs.ColumnLemmas.{either, corner_own, chunks_own}
use Rattle.world_gen.proofs.SessionLemmas.{IsOwnCommand, IsOwnStep, script_own}
use Rattle.world_gen.proofs.ScriptLemmas.{HoldsOfEach, script_holds, scripts_hold, player_holds}
use Rattle.world_gen.proofs.LimitLemmas.{drill_within}

-- each command of a player is its own
each_own : (player : ℕ) → HoldsOfEach (IsOwnCommand player) player
each_own player = record {
  first = λ a b c. corner_own player a b c;
  second = λ a b c. corner_own player a b c;
  set = λ word. tt;
  walls = λ word. tt;
  faces = λ word. tt;
  replace = λ word. tt;
  stack = refl;
  undo = tt;
}

-- each step of each player is its own
step_own : (number : ℕ) (id : Source) → IsOwnStep id.player (step_of_command (drill_workload number) id)
step_own number id =
    script_own id.player 15 (lines_of (map (drill_script number) (range_with_len 0 8)) id.player) (player_holds (IsOwnCommand id.player) number 8 id.player (each_own id.player)) id.step

-- a chunk of the boxes of some commands of a player is the player's
edits_own : (number chunk : ℕ) (id : Source) (ns : List ℕ) → list_any (λ (n : ℕ). list_any (is_chunk_of_box drill_area chunk) (boxes_written_by drill_area (step_of_command (drill_workload number) (record id { step = n })))) ns ≡ true → chunk % 16 / 2 ≡ id.player
edits_own number chunk id [] h = absurd cc
edits_own number chunk id (n ∷ ns) h =
    let boxes = λ (k : ℕ). boxes_written_by drill_area (step_of_command (drill_workload number) (record id { step = k })) in
    either (list_any (is_chunk_of_box drill_area chunk) (boxes n)) (list_any (λ (k : ℕ). list_any (is_chunk_of_box drill_area chunk) (boxes k)) ns) h
    (λ here. chunks_own id.player chunk (boxes n) (step_own number (record id { step = n })).written here)
    (λ later. edits_own number chunk id ns later)

-- a chunk that a command accesses is its player's
accessed_own : (number chunk : ℕ) (id : Source) → accesses (drill_workload number) id chunk ≡ true → chunk % 16 / 2 ≡ id.player
unfolding ground_over
accessed_own number chunk id h =
    let case = drill_workload number in
    let reads = boxes_read_by (step_of_command case id) in
    let boxes = λ (n : ℕ). boxes_written_by drill_area (step_of_command case (record id { step = n })) in
    let writes = flat_map boxes (with_edits_taken case id) in
    let inside = is_among (range_with_len 0 (chunks drill_area)) chunk in
    let test = is_chunk_of_box drill_area chunk in
    either (is_among (chunks_read_by case id) chunk) (is_among (chunks_written_by case id) chunk) h
    (λ read. chunks_own id.player chunk reads (step_own number id).read (and_both (list_any test reads) inside (sym (among_is drill_area reads chunk) ∙ read)).0)
    (λ written.
    edits_own number chunk id (with_edits_taken case id)
    (sym (any_joined test boxes (with_edits_taken case id)) ∙ (and_both (list_any test writes) inside (sym (among_is drill_area writes chunk) ∙ written)).0))

-- no pattern of the drill has a choice, and no mask a noise leaf
each_still : (player : ℕ) → HoldsOfEach (λ command. is_command_still command ≡ true) player
each_still player = record {
  first = λ a b c. refl;
  second = λ a b c. refl;
  set = λ word. refl;
  walls = λ word. refl;
  faces = λ word. refl;
  replace = λ word. refl;
  stack = refl;
  undo = refl;
}

-- so the scripts draw nothing
scripts_still : (number : ℕ) → AreScriptsStill (map (drill_script number) (range_with_len 0 8))
scripts_still number =
    scripts_hold (λ (script : Script). All (λ (line : Line). is_command_still line.command ≡ true) script.lines) number 0 8 (omega arith)
    (λ player below. script_holds (λ command. is_command_still command ≡ true) player (each_still player) number)

-- the drill's players access no common chunk, and none draws a random word
pub players_keep_apart : (number : ℕ) → IsFreeOfOrder (drill_workload number)
players_keep_apart number = record {
  apart = λ a b chunk first second. sym (accessed_own number chunk a first) ∙ accessed_own number chunk b second;
  still = commands_still (drill_workload number) (scripts_still number);
}

-- the ground has a content for each place of its box
ground_whole : (area : Area) → IsWorld (ground_over area)
unfolding ground_over
ground_whole area = length-map-range_with_len (λ (index : ℕ). without_entity (ground_at (position_of area index))) 0 (volume area)

-- the ground's box is the given one
ground_area : (area : Area) → (ground_over area).area ≡ area
unfolding ground_over
ground_area area = refl

-- so the drill has the same results in whatever order
pub drill_order_is_free : (number : ℕ) → OrderIsFree (drill_workload number)
drill_order_is_free number = order_is_free (drill_workload number) (drill_within number) (ap is_world_box (ground_area drill_area)) (ground_whole drill_area) (players_keep_apart number)
