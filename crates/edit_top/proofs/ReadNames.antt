-- A script that was read has a player of a name of letters, digits and _.
use Rattle.std.proofs.Common.{◌≡◌, ℕ, Bool, true, false, cond, List, [], ◌∷◌, Option, Some, None, Result, Ok, Err, refl, ap, subst}
use Rattle.std.specs.Prelude.{nat_le, codes, position, bytes_eq}
use Rattle.edit_terms.specs.declared.script.Line.{Line}
use Rattle.edit_terms.specs.declared.script.Script.{Script}
use Rattle.command_syntax.specs.declared.fault.LineFault.{LineFault}
use Rattle.command_syntax.specs.declared.fault.ScriptFault.{ScriptFault}
use Rattle.command_syntax.specs.declared.fault.ScriptFault.TheVariants.{NoPlayer, BadPlayer}
use Rattle.term_text.specs.Verdict.{both}
use Rattle.command_syntax.specs.Lines.{lines_of}
use Rattle.command_syntax.specs.Words.{words_of}
use Rattle.command_syntax.specs.Player.{is_player_name, player_named, player_from, player_in, player_of}
use Rattle.command_syntax.specs.Script.{commands_of, script_of_lines, script_behind, script_of_bytes}

-- the player of a script that two verdicts give
player_read : (first : Result (List ℕ) ScriptFault) (rest : Result (List Line) ScriptFault) (script : Script) → both (λ player lines. record { player = player; lines = lines }) first rest ≡ Ok script
    → first ≡ Ok script.player
player_read (Ok player) (Ok lines) script is = ap (λ (s : Script). Ok s.player) (inside (record { player = player; lines = lines }) script is)
  where
    inside : (s t : Script) → (◌≡◌ {A = Result Script ScriptFault} (Ok s) (Ok t)) → s ≡ t
    inside s t same = cc
player_read (Ok player) (Err fault) script is = absurd cc
player_read (Err fault) rest script is = absurd cc

-- the first line of a script names its player by such a name
named_one : (names : List (List ℕ)) (player : List ℕ) → player_named names ≡ Ok player → is_player_name player ≡ true
named_one [] player is = absurd cc
named_one (name ∷ []) player is = by (is_player_name name) refl is
  where
    by : (t : Bool) → is_player_name name ≡ t → (◌≡◌ {A = Result (List ℕ) ScriptFault} (cond t (Ok name) (Err BadPlayer)) (Ok player)) → is_player_name player ≡ true
    by true named same = let name_is : name ≡ player = cc in subst (λ (n : List ℕ). is_player_name n ≡ true) name_is named
    by false unnamed same = absurd cc
named_one (name ∷ other ∷ names) player is = absurd cc

named_from : (words : List (List ℕ)) (player : List ℕ) → player_from words ≡ Ok player → is_player_name player ≡ true
named_from [] player is = absurd cc
named_from (word ∷ names) player is = by (bytes_eq word (codes "player")) is
  where
    by : (t : Bool) → (◌≡◌ {A = Result (List ℕ) ScriptFault} (cond t (player_named names) (Err NoPlayer)) (Ok player)) → is_player_name player ≡ true
    by true same = named_one names player same
    by false same = absurd cc

named_in : (words : Result (List (List ℕ)) LineFault) (player : List ℕ) → player_in words ≡ Ok player → is_player_name player ≡ true
named_in (Ok words) player is = named_from words player is
named_in (Err fault) player is = absurd cc

named_by_lines : (lines : List (ℕ × List ℕ)) (script : Script) → script_of_lines lines ≡ Ok script → is_player_name script.player ≡ true
named_by_lines [] script is = absurd cc
named_by_lines (first ∷ rest) script is = named_in (words_of first.1) script.player (player_read (player_of first.1) (commands_of rest) script is)

-- a script that was read has a player of such a name
pub named_by_bytes : (bytes : List ℕ) (script : Script) → script_of_bytes bytes ≡ Ok script → is_player_name script.player ≡ true
named_by_bytes bytes script is = by (position (λ b. nat_le 128 b) bytes) is
  where
    by : (beyond : Option ℕ) → script_behind beyond bytes ≡ Ok script → is_player_name script.player ≡ true
    by None same = named_by_lines (lines_of bytes) script same
    by (Some byte) same = absurd cc
