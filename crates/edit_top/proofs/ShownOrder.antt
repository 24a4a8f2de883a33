-- The printed text of an order shows the order: the text is cut into the lines that it was put together from, the
-- second word of a ticket's line is its player's name, and no other player has that name.
use Rattle.std.proofs.Common.{◌≡◌, ℕ, ◌<◌, List, [], ◌∷◌, ◌++◌, length, map, get_or, refl, sym, ap, ◌∙◌, append_assoc, arith}
use Rattle.std.specs.Prelude.{codes, decimal}
use Rattle.std.specs.List.{flat_map, range_with_len}
use Rattle.std.proofs.lemmas.List.{ext_get_or, get_or-map, length-map}
use Rattle.std.proofs.lemmas.List.FromFn.{get_or-map-range_with_len, length-map-range_with_len}
use Rattle.edit_terms.specs.declared.script.Script.{Script}
use Rattle.edit_terms.specs.declared.step.Refusal.{Refusal}
use Rattle.edit_terms.specs.declared.step.Refusal.TheVariants.{NoSelection, NoPlace, NoClipboard, NothingToUndo, NothingToRedo}
use Rattle.edit_terms.specs.declared.outcome.Reply.{Reply}
use Rattle.edit_terms.specs.declared.outcome.Reply.TheVariants.{Accepted, Changed, Refused}
use Rattle.run_terms.specs.Order.{player_of, command_number, IsLegalOrder}
use Rattle.command_syntax.specs.Text.{feed}
use Rattle.edit_top.specs.RunText.{refusal_text, reply_text, name_of, line_number, text_of_ticket, text_of_order}
use Rattle.edit_top.specs.ShownOrder.{AreNamed, HaveOwnTexts, space, but_last, lines_of_text, second_word, player_of_name, order_shown}
use Rattle.edit_top.proofs.Pieces.{IsWithout, without_by_test, without-append, without-decimal, lines_before_last, second_word_is}
use Rattle.edit_top.proofs.PlayerNames.{name_of_without, player_of_name-name_of}

-- no reply has a line feed
refusal_no_feed : (refusal : Refusal) → IsWithout feed (refusal_text refusal)
refusal_no_feed NoSelection = without_by_test feed (refusal_text NoSelection) refl
refusal_no_feed NoPlace = without_by_test feed (refusal_text NoPlace) refl
refusal_no_feed NoClipboard = without_by_test feed (refusal_text NoClipboard) refl
refusal_no_feed NothingToUndo = without_by_test feed (refusal_text NothingToUndo) refl
refusal_no_feed NothingToRedo = without_by_test feed (refusal_text NothingToRedo) refl

reply_no_feed : (reply : Reply) → IsWithout feed (reply_text reply)
reply_no_feed Accepted = without_by_test feed (codes "ok") refl
reply_no_feed (Changed count) = without-append feed (codes "changed ") (decimal count) (without_by_test feed (codes "changed ") refl) (without-decimal feed count (omega arith))
reply_no_feed (Refused refusal) = refusal_no_feed refusal

-- a ticket's line, without the line feed at its end
line_text : ℕ → List ℕ → ℕ → Reply → List ℕ
line_text ticket player line reply = decimal ticket ++ codes " " ++ player ++ codes " " ++ decimal line ++ codes " " ++ reply_text reply

module _ (ticket : ℕ) (player : List ℕ) (line : ℕ) (reply : Reply) where
  line_text_no_feed : IsWithout feed player → IsWithout feed (line_text ticket player line reply)
  unfolding line_text
  line_text_no_feed clear =
      let blank : IsWithout feed (codes " ") = without_by_test feed (codes " ") refl in
      let before = decimal ticket ++ codes " " in
      let numbered : IsWithout feed before = without-append feed (decimal ticket) (codes " ") (without-decimal feed ticket (omega arith)) blank in
      let named : IsWithout feed (before ++ player ++ codes " ") = without-append feed (before ++ player) (codes " ") (without-append feed before player numbered clear) blank in
      let placed = without-append feed (before ++ player ++ codes " ") (decimal line) named (without-decimal feed line (omega arith)) in
      without-append feed (before ++ player ++ codes " " ++ decimal line ++ codes " ") (reply_text reply)
      (without-append feed (before ++ player ++ codes " " ++ decimal line) (codes " ") placed blank) (reply_no_feed reply)

  line_text_second : IsWithout space player → second_word (line_text ticket player line reply) ≡ player
  unfolding line_text
  line_text_second clear =
      let before = decimal ticket ++ codes " " ++ player in
      let rest = decimal line ++ (codes " " ++ reply_text reply) in
      let words : decimal ticket ++ codes " " ++ player ++ codes " " ++ decimal line ++ codes " " ++ reply_text reply ≡ decimal ticket ++ 32 ∷ (player ++ 32 ∷ rest) =
      append_assoc (before ++ codes " " ++ decimal line) (codes " ") (reply_text reply)
      ∙ append_assoc (before ++ codes " ") (decimal line) (codes " " ++ reply_text reply)
      ∙ append_assoc before (codes " ") rest
      ∙ append_assoc (decimal ticket ++ codes " ") player (codes " " ++ rest)
      ∙ append_assoc (decimal ticket) (codes " ") (player ++ 32 ∷ rest) in
      ap second_word words ∙ second_word_is (decimal ticket) player rest (without-decimal space ticket (omega arith)) clear

module _ (scripts : List Script) (are : AreNamed scripts) (order : List ℕ) (replies : List Reply) where
  -- the line of a ticket of the order
  line_of : ℕ → List ℕ
  line_of t = line_text t (name_of scripts (player_of order t)) (line_number scripts (player_of order t) (command_number order t)) (get_or replies t Accepted)

  line_of_ends : (t : ℕ) → text_of_ticket scripts order replies t ≡ line_of t ++ 10 ∷ []
  unfolding line_text line_of
  line_of_ends t = refl

  line_of_no_feed : (t : ℕ) → IsWithout feed (line_of t)
  unfolding line_of
  line_of_no_feed t =
      line_text_no_feed t (name_of scripts (player_of order t)) (line_number scripts (player_of order t) (command_number order t)) (get_or replies t Accepted)
      (name_of_without feed refl scripts are.named (player_of order t))

  line_of_second : (t : ℕ) → second_word (line_of t) ≡ name_of scripts (player_of order t)
  unfolding line_of
  line_of_second t =
      line_text_second t (name_of scripts (player_of order t)) (line_number scripts (player_of order t) (command_number order t)) (get_or replies t Accepted)
      (name_of_without space refl scripts are.named (player_of order t))

  -- the lines before the last one are those of the tickets
  lines_of_order : but_last (lines_of_text (text_of_order scripts order replies)) ≡ map line_of (range_with_len 0 (length order))
  lines_of_order =
      let tickets = flat_map (text_of_ticket scripts order replies) (range_with_len 0 (length order)) in
      let count = decimal (length order) in
      let text : text_of_order scripts order replies ≡ tickets ++ (codes "done " ++ count ++ 10 ∷ []) =
      append_assoc (tickets ++ codes "done ") count (10 ∷ [])
      ∙ append_assoc tickets (codes "done ") (count ++ 10 ∷ [])
      ∙ ap (λ (xs : List ℕ). tickets ++ xs) (sym (append_assoc (codes "done ") count (10 ∷ []))) in
      ap (λ (t : List ℕ). but_last (lines_of_text t)) text
      ∙ lines_before_last (text_of_ticket scripts order replies) line_of line_of_ends line_of_no_feed (range_with_len 0 (length order)) (codes "done " ++ count)
      (without-append feed (codes "done ") count (without_by_test feed (codes "done ") refl) (without-decimal feed (length order) (omega arith)))

  -- each names the ticket's player
  players_of_lines : IsLegalOrder scripts order → map (λ line. player_of_name scripts (second_word line)) (map line_of (range_with_len 0 (length order))) ≡ order
  players_of_lines legal =
      let lines = map line_of (range_with_len 0 (length order)) in
      let shown = λ (line : List ℕ). player_of_name scripts (second_word line) in
      let count : length lines ≡ length order = length-map-range_with_len line_of 0 (length order) in
      ext_get_or 0 (map shown lines) order (length-map lines shown ∙ count)
      (λ k below.
      let inside : k < length order = omega (arith, below, length-map lines shown, count) in
      get_or-map shown lines k [] 0 (omega (arith, inside, count))
      ∙ ap shown (get_or-map-range_with_len line_of 0 (length order) k k [] inside (omega arith))
      ∙ ap (player_of_name scripts) (line_of_second k)
      ∙ player_of_name-name_of scripts are (get_or order k 0) (legal.players k 0 inside))

  -- The text of an order shows the order.
  pub order_shown-text_of_order : IsLegalOrder scripts order → order_shown scripts (text_of_order scripts order replies) ≡ order
  unfolding order_shown
  order_shown-text_of_order legal = ap (map (λ (line : List ℕ). player_of_name scripts (second_word line))) lines_of_order ∙ players_of_lines legal

-- So no other order has its text.
pub own_texts : (scripts : List Script) → AreNamed scripts → HaveOwnTexts scripts
own_texts scripts are a b replies others legal_a legal_b same =
    sym (order_shown-text_of_order scripts are a replies legal_a) ∙ ap (order_shown scripts) same ∙ order_shown-text_of_order scripts are b others legal_b
