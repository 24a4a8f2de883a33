-- The appender's counts after a draw.
use Rattle.std.proofs.Common.{◌≡◌, ℕ, ◌+◌, ◌<◌, true, [], ◌∷◌, ◌++◌, List, length, set, get_or, ap, sym, ◌∙◌, subst, arith, length-set, length-append, get_or-set_same}
use Rattle.std.proofs.lemmas.List.{get_or-set_other}
use mathlib.Core.Logic.{dite}
use native.Mathlib.Decide.{ℕ_discrete}
use Rattle.atomic_table.specs.Table.{Me}
use Rattle.atomic_table.specs.Seated.{TableId}
use Rattle.edit_terms.specs.declared.script.Case.{Case}
use Rattle.run_terms.specs.Order.{turns_of, lines_of, IsLegalOrder}
use Rattle.ticket_log.specs.declared.view.View.{View}
use Rattle.ticket_log.specs.Handles.{IsHandle, IsAppender}
use Rattle.ticket_log.proofs.LegalOrders.{turns_of-same, turns_of-other, player_there, legal_more}

-- one more ticket, and one more entry of its player
pub appender_more : (table : TableId) (case : Case) (of : TableId) (me : Me (Unit {0}) View) (size : ℕ) (numbers : List ℕ) (later : Me (Unit {0}) View) (now : TableId) (player number : ℕ)
    → IsAppender table case of me size numbers → IsHandle table true now later → later.0.order ≡ me.0.order ++ player ∷ [] → turns_of player me.0.order < length (lines_of case.scripts player)
    → number ≡ turns_of player me.0.order + 1 → IsAppender table case now later (size + 1) (set numbers player number)
appender_more table case of me size numbers later now player number before handle appended left is = record {
  handle = handle;
  legal = subst (IsLegalOrder case.scripts) (sym appended) (legal_more case.scripts player me.0.order before.legal left);
  tickets = omega (arith, before.tickets, ap length appended, length-append me.0.order (player ∷ []));
  players = length-set numbers player number ∙ before.players;
  counts = λ q in_range. counts q in_range ∙ ap (turns_of q) (sym appended);
}
  where
    there : player < length numbers
    there = omega (arith, before.players, player_there case.scripts player (turns_of player me.0.order) left)

    counts : (q : ℕ) → q < length case.scripts → get_or (set numbers player number) q 0 ≡ turns_of q (me.0.order ++ player ∷ [])
    counts q in_range = dite (ℕ_discrete q player)
        (λ same. subst (λ (p : ℕ). get_or (set numbers player number) p 0 ≡ turns_of p (me.0.order ++ player ∷ [])) (sym same)
        (get_or-set_same numbers player number 0 there ∙ (is ∙ sym (turns_of-same player me.0.order))))
        (λ differ. get_or-set_other numbers player q number 0 differ ∙ (before.counts q in_range ∙ sym (turns_of-other q player me.0.order (λ e. differ (sym e)))))
