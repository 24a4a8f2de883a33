-- A ticket's line names the command that comes next in its player's script: the count of the player's earlier tickets.
use Rattle.std.proofs.Common.{◌≡◌, ℕ, zero, suc, ◌+◌, ◌<◌, ◌≤◌, false, cond, eqb, List, [], ◌∷◌, ◌++◌, length, take, drop, set, get_or, Option, Some, refl, sym, ap, ◌∙◌, inl, inr, arith}
use Rattle.std.specs.Prelude.{slice_get}
use Rattle.std.specs.Option.{option_map_or}
use Rattle.std.specs.List.{flat_map, range_with_len}
use Rattle.std.proofs.lemmas.Bool.{cases_eq, eq-eqb}
use Rattle.std.proofs.lemmas.Bool.Decides.{nat_tests}
use Rattle.std.proofs.lemmas.Grind.{flat_map-append}
use Rattle.std.proofs.lemmas.List.{append-nil, take-append-drop, get_or-set_same, get_or-set_other}
use Rattle.std.proofs.lemmas.List.Sums.{count_by_more_yes, count_by_more_no, sum_by-append}
use Rattle.std.proofs.lemmas.Option.{slice_get_read}
use Rattle.edit_terms.specs.declared.script.Line.{Line}
use Rattle.edit_terms.specs.declared.script.Script.{Script}
use Rattle.edit_terms.specs.declared.outcome.Reply.{Reply}
use Rattle.edit_terms.specs.declared.outcome.Reply.TheVariants.{Accepted}
use Rattle.run_terms.specs.Order.{turns_of, lines_of, player_of, command_number, IsLegalOrder}
use Rattle.edit_top.specs.RunText.{ticket_text, name_of, line_number, text_of_ticket}

-- one turn more of the ticket's player, and none of the others
pub turns_of-more : (order : List ℕ) (t : ℕ) → t < length order → turns_of (get_or order t 0) (take (t + 1) order) ≡ turns_of (get_or order t 0) (take t order) + 1
turns_of-more order t within = count_by_more_yes (λ p. eqb p (get_or order t 0)) order t 0 within (eq-eqb (get_or order t 0) (get_or order t 0) refl)

different : (a b : ℕ) → (a ≡ b → ⊥) → eqb b a ≡ false
different a b apart = grind (arith, nat_tests)

pub turns_of-other : (order : List ℕ) (t player : ℕ) → t < length order → (player ≡ get_or order t 0 → ⊥) → turns_of player (take (t + 1) order) ≡ turns_of player (take t order)
turns_of-other order t player within apart = count_by_more_no (λ p. eqb p player) order t 0 within (different player (get_or order t 0) apart)

-- a player's turns in the front of an order are no more than in all of it
pub turns_of-take : (player t : ℕ) (order : List ℕ) → turns_of player (take t order) ≤ turns_of player order
turns_of-take player t order =
    let parts : turns_of player order ≡ turns_of player (take t order) + turns_of player (drop t order) =
    ap (turns_of player) (sym (take-append-drop t order)) ∙ sum_by-append (λ (p : ℕ). cond (eqb p player) 1 0) (take t order) (drop t order) in
    omega (arith, parts)

-- in a legal order a ticket's command is in its player's script
pub command_below : (scripts : List Script) (order : List ℕ) (t : ℕ) → IsLegalOrder scripts order → t < length order → command_number order t < length (lines_of scripts (player_of order t))
command_below scripts order t legal within =
    let more = turns_of-more order t within in
    let few = turns_of-take (get_or order t 0) (t + 1) order in
    let all = legal.within (get_or order t 0) in
    omega (arith, more, few, all)

-- the lines of the script that was read
pub lines_of-read : (scripts : List Script) (player : ℕ) (script : Script) → player < length scripts → script ≡ get_or scripts player script → lines_of scripts player ≡ script.lines
lines_of-read scripts player script within there = ap (λ (o : Option Script). option_map_or (λ s. s.lines) o []) (slice_get_read scripts (length scripts) player script refl within there)

-- the name in the script that was read
pub name_of-read : (scripts : List Script) (player : ℕ) (script : Script) → player < length scripts → script ≡ get_or scripts player script → name_of scripts player ≡ script.player
name_of-read scripts player script within there = ap (λ (o : Option Script). option_map_or (λ s. s.player) o []) (slice_get_read scripts (length scripts) player script refl within there)

-- the text of a ticket, from what was read of its script
pub text_of_ticket-read : (scripts : List Script) (order : List ℕ) (replies : List Reply) (t : ℕ) (script : Script) (line : Line) (command : ℕ)
    → player_of order t < length scripts → script ≡ get_or scripts (player_of order t) script → command ≡ command_number order t → slice_get script.lines command ≡ Some line
    → text_of_ticket scripts order replies t ≡ ticket_text t script.player line.number (get_or replies t Accepted)
text_of_ticket-read scripts order replies t script line command within there next line_there =
    let name = name_of-read scripts (player_of order t) script within there in
    let number : line_number scripts (player_of order t) (command_number order t) ≡ line.number =
    ap (λ (ls : List Line). option_map_or (λ l. l.number) (slice_get ls (command_number order t)) 0) (lines_of-read scripts (player_of order t) script within there)
    ∙ ap (λ (k : ℕ). option_map_or (λ l. l.number) (slice_get script.lines k) 0) (sym next)
    ∙ ap (λ (o : Option Line). option_map_or (λ l. l.number) o 0) line_there in
    ap (λ (n : List ℕ). ticket_text t n (line_number scripts (player_of order t) (command_number order t)) (get_or replies t Accepted)) name
    ∙ ap (λ (n : ℕ). ticket_text t script.player n (get_or replies t Accepted)) number

pub range-more : (a n j : ℕ) → a + n ≡ j → range_with_len a (n + 1) ≡ range_with_len a n ++ j ∷ []
range-more a zero j e = ap (λ (x : ℕ). x ∷ []) (omega (arith, e))
range-more a (suc n) j e =
    let next : suc n + 1 ≡ suc (n + 1) = omega arith in
    ap (range_with_len a) next ∙ ap (λ (xs : List ℕ). a ∷ xs) (range-more (a + 1) n j (omega (arith, e)))

-- one ticket more
pub flat_map-range_more : (f : ℕ → List ℕ) (t : ℕ) → flat_map f (range_with_len 0 (t + 1)) ≡ flat_map f (range_with_len 0 t) ++ f t
flat_map-range_more f t =
    ap (flat_map f) (range-more 0 t t (omega arith)) ∙ flat_map-append f (range_with_len 0 t) (t ∷ []) ∙ ap (λ (xs : List ℕ). flat_map f (range_with_len 0 t) ++ xs) (append-nil (f t))

-- the counts after a ticket
pub turns_step : (order taken : List ℕ) (scripts t : ℕ) → t < length order → length taken ≡ scripts → get_or order t 0 < scripts
    → ((player : ℕ) → player < scripts → get_or taken player 0 ≡ turns_of player (take t order))
    → (player : ℕ) → player < scripts → get_or (set taken (get_or order t 0) (turns_of (get_or order t 0) (take t order) + 1)) player 0 ≡ turns_of player (take (t + 1) order)
turns_step order taken scripts t within long here turns player below =
    elim (cases_eq player (get_or order t 0)) [
      | inl same ↦
          let inside : get_or order t 0 < length taken = omega arith in
          ap (λ (p : ℕ). get_or (set taken (get_or order t 0) (turns_of (get_or order t 0) (take t order) + 1)) p 0) same
          ∙ get_or-set_same taken (get_or order t 0) (turns_of (get_or order t 0) (take t order) + 1) 0 inside
          ∙ sym (turns_of-more order t within)
          ∙ ap (λ (p : ℕ). turns_of p (take (t + 1) order)) (sym same)
      | inr apart ↦ get_or-set_other taken (get_or order t 0) player (turns_of (get_or order t 0) (take t order) + 1) 0 apart ∙ turns player below ∙ sym (turns_of-other order t player within apart)
    ]
