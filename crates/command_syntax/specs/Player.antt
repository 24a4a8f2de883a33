-- A script's first line, which names its player.
use Rattle.std.specs.Prelude.{ℕ, ◌==◌, Bool, ◌&&◌, ◌||◌, nat_le, if◌then◌else◌, List, [], ◌∷◌, length, Result, Ok, Err, codes, bytes_eq}
use Rattle.std.specs.List.{list_all}
use Rattle.run_terms.specs.Limits.{is_one_of}
use Rattle.command_syntax.specs.declared.fault.ScriptFault.{ScriptFault}
use Rattle.command_syntax.specs.declared.fault.ScriptFault.TheVariants.{NoPlayer, BadPlayer}
use Rattle.command_syntax.specs.declared.fault.LineFault.{LineFault}
use Rattle.command_syntax.specs.Words.{words_of}

-- a byte of a player's name: A to Z, a to z, 0 to 9, _
abbrev pub is_name_byte : ℕ → Bool
is_name_byte b = (nat_le 65 b && nat_le b 90) || (nat_le 97 b && nat_le b 122) || (nat_le 48 b && nat_le b 57) || b == 95

-- a player's name: 1 to 16 bytes
abbrev pub is_player_name : List ℕ → Bool
is_player_name name = is_one_of 1 16 (length name) && list_all is_name_byte name

-- the player whose names these are; there must be one
abbrev pub player_named : List (List ℕ) → Result (List ℕ) ScriptFault
player_named [] = Err BadPlayer
player_named (name ∷ []) = if is_player_name name then Ok name else Err BadPlayer
player_named (_ ∷ _ ∷ _) = Err BadPlayer

-- the player of a line's words
abbrev pub player_from : List (List ℕ) → Result (List ℕ) ScriptFault
player_from [] = Err NoPlayer
player_from (word ∷ names) = if bytes_eq word (codes "player") then player_named names else Err NoPlayer

-- a line without words, since a quote has no end, is a bad player's whatever its first word is
abbrev pub player_in : Result (List (List ℕ)) LineFault → Result (List ℕ) ScriptFault
player_in (Ok words) = player_from words
player_in (Err _) = Err BadPlayer

-- The player of a script's first line: `player` and a name.
abbrev pub player_of : List ℕ → Result (List ℕ) ScriptFault
player_of line = player_in (words_of line)
