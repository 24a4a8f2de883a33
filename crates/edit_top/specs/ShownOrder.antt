-- The order that the printed text of a run shows: each ticket's line names the ticket's player.
use Rattle.std.specs.Prelude.{◌≡◌, ℕ, ◌-◌, ◌<◌, true, false, List, [], length, take, map, get_or, All, bytes_eq}
use Rattle.std.specs.List.{position_or_len}
use Rattle.edit_terms.specs.declared.script.Script.{Script}
use Rattle.edit_terms.specs.declared.outcome.Reply.{Reply}
use Rattle.run_terms.specs.Order.{IsLegalOrder}
use Rattle.command_syntax.specs.Player.{is_player_name}
use Rattle.edit_terms.specs.StateText.{cut_at}
use Rattle.command_syntax.specs.Text.{feed}
use Rattle.edit_top.specs.Reading.{has_player}
use Rattle.edit_top.specs.RunText.{text_of_order}

-- the byte between the words of a line
abbrev pub space : ℕ
space = 32

-- all but the last, where there is one
abbrev pub but_last : {X : Type 0} → List X → List X
but_last xs = take (length xs - 1) xs

-- the lines of a text whose lines each end with a line feed
abbrev pub lines_of_text : List ℕ → List (List ℕ)
lines_of_text text = but_last (cut_at feed text)

-- the second word of a line
abbrev pub second_word : List ℕ → List ℕ
second_word line = get_or (cut_at space line) 1 []

-- the number of the first script whose player has this name
abbrev pub player_of_name : List Script → List ℕ → ℕ
player_of_name scripts name = position_or_len (λ script. bytes_eq script.player name) scripts

-- The order that a text shows: the players whose names are the second words of the lines before the last one.
unfoldable pub order_shown : List Script → List ℕ → List ℕ
order_shown scripts text = map (λ line. player_of_name scripts (second_word line)) (but_last (lines_of_text text))

-- each script's player has a name of letters, digits and _, which no earlier script's player has
pub record AreNamed (scripts : List Script) : Type 0 where
  pub named : All (λ script. is_player_name script.player ≡ true) scripts
  pub distinct : (k : ℕ) (d : Script) → k < length scripts → has_player (take k scripts) (get_or scripts k d).player ≡ false

-- Legal orders of these scripts that have the same text are the same.
abbrev pub HaveOwnTexts : List Script → Type 0
HaveOwnTexts scripts = (a b : List ℕ) (replies others : List Reply) → IsLegalOrder scripts a → IsLegalOrder scripts b → text_of_order scripts a replies ≡ text_of_order scripts b others → a ≡ b
