-- The printed text of a run: a line for each ticket, and a last line with their number.
use Rattle.std.specs.Prelude.{ℕ, List, [], ◌++◌, length, get_or, slice_get, codes, decimal}
use Rattle.std.specs.Option.{option_map_or}
use Rattle.std.specs.List.{flat_map, range_with_len}
use Rattle.edit_terms.specs.declared.script.Script.{Script}
use Rattle.edit_terms.specs.declared.step.Refusal.{Refusal}
use Rattle.edit_terms.specs.declared.step.Refusal.TheVariants.{NoSelection, NoPlace, NoClipboard, NothingToUndo, NothingToRedo}
use Rattle.edit_terms.specs.declared.outcome.Reply.{Reply}
use Rattle.edit_terms.specs.declared.outcome.Reply.TheVariants.{Accepted, Changed, Refused}
use Rattle.run_terms.specs.Workload.{Workload}
use Rattle.run_terms.specs.Order.{lines_of, player_of, command_number}
use Rattle.run_terms.specs.Reply.{replies_of}

abbrev pub refusal_text : Refusal → List ℕ
refusal_text NoSelection = codes "refused no selection"
refusal_text NoPlace = codes "refused no place"
refusal_text NoClipboard = codes "refused no clipboard"
refusal_text NothingToUndo = codes "refused nothing to undo"
refusal_text NothingToRedo = codes "refused nothing to redo"

abbrev pub reply_text : Reply → List ℕ
reply_text Accepted = codes "ok"
reply_text (Changed count) = codes "changed " ++ decimal count
reply_text (Refused refusal) = refusal_text refusal

-- TICKET PLAYER LINE REPLY, and a line feed
abbrev pub ticket_text : ℕ → List ℕ → ℕ → Reply → List ℕ
ticket_text ticket player line reply = decimal ticket ++ codes " " ++ player ++ codes " " ++ decimal line ++ codes " " ++ reply_text reply ++ codes "\n"

-- a player's name
abbrev pub name_of : List Script → ℕ → List ℕ
name_of scripts player = option_map_or (λ script. script.player) (slice_get scripts player) []

-- the line that a command of a player stands in, by the command's number in the script
abbrev pub line_number : List Script → ℕ → ℕ → ℕ
line_number scripts player command = option_map_or (λ line. line.number) (slice_get (lines_of scripts player) command) 0

-- the text of a ticket of an order, with the reply at its place
abbrev pub text_of_ticket : List Script → List ℕ → List Reply → ℕ → List ℕ
text_of_ticket scripts order replies ticket =
    ticket_text ticket (name_of scripts (player_of order ticket)) (line_number scripts (player_of order ticket) (command_number order ticket)) (get_or replies ticket Accepted)

-- the text of an order and its replies
abbrev pub text_of_order : List Script → List ℕ → List Reply → List ℕ
text_of_order scripts order replies = flat_map (text_of_ticket scripts order replies) (range_with_len 0 (length order)) ++ codes "done " ++ decimal (length order) ++ codes "\n"

-- the text of a run of a workload in an order
abbrev pub run_text : Workload → List ℕ → List ℕ
run_text case order = text_of_order case.scripts order (replies_of case order)
