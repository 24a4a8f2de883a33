use Rattle.std.proofs.Common.{◌≡◌, ◌<◌, ◌+◌, ◌++◌, ℕ, List, length, get_or, set, take, ap, sym, ◌∙◌, subst, arith}
use Rattle.std.proofs.lemmas.List.{get_or_default, length-set}
use Rattle.edit_terms.specs.declared.script.Line.{Line}
use Rattle.edit_terms.specs.declared.outcome.Reply.TheVariants.{Accepted}
use Rattle.run_terms.specs.Order.{turns_of, lines_of, command_number}
use Rattle.edit_top.specs.RunText.{text_of_ticket, ticket_text}
use Rattle.edit_top.proofs.Printing.{command_below, lines_of-read, text_of_ticket-read, flat_map-range_more, turns_step}
use Rattle.edit_top.proofs.run_text.tickets_text.Goals as goal

pub line_of-line-requires : goal.line_of-line-requires
line_of-line-requires c =
    let p = get_or c.args.order.now c.loop-ticket.ticket 0 in
    let player : p < length c.args.scripts.now = c.requires.legal.players c.loop-ticket.ticket 0 c.loop-ticket-test.true in
    let inside : p < length c.loop-ticket.taken.items = omega arith in
    let command : c.index-command.result.now ≡ command_number c.args.order.now c.loop-ticket.ticket =
    c.index-command.ensures ∙ get_or_default c.loop-ticket.taken.items p c.index-command.result.now 0 inside ∙ c.loop-ticket.invariant.turns p player in
    let below = command_below c.args.scripts.now c.args.order.now c.loop-ticket.ticket c.requires.legal c.loop-ticket-test.true in
    let lines : length (lines_of c.args.scripts.now p) ≡ length c.index-scripts-player.result.lines =
    ap (λ (ls : List Line). length ls) (lines_of-read c.args.scripts.now p c.index-scripts-player.result player c.index-scripts-player.is) in
    omega (arith, command, below, lines)

pub loop-ticket-preserved : goal.loop-ticket-preserved
loop-ticket-preserved c =
    let t = c.loop-ticket.ticket in
    let p = get_or c.args.order.now t 0 in
    let player : p < length c.args.scripts.now = c.requires.legal.players t 0 c.loop-ticket-test.true in
    let inside : p < length c.loop-ticket.taken.items = omega arith in
    let command : c.index-command.result.now ≡ command_number c.args.order.now t =
    c.index-command.ensures ∙ get_or_default c.loop-ticket.taken.items p c.index-command.result.now 0 inside ∙ c.loop-ticket.invariant.turns p player in
    record {
      told = c.in_ok-push_ticket.ensures
          ∙ ap (λ (name : List ℕ). c.loop-ticket.text.items ++ ticket_text t name c.line_of-line.result.now.number (get_or c.args.replies.now t Accepted)) c.as_slice.ensures
          ∙ ap (λ (line : List ℕ). c.loop-ticket.text.items ++ line) (sym (text_of_ticket-read c.args.scripts.now c.args.order.now c.args.replies.now t c.index-scripts-player.result c.line_of-line.result.now c.index-command.result.now player c.index-scripts-player.is command c.line_of-line.ensures.line))
          ∙ ap (λ (text : List ℕ). text ++ text_of_ticket c.args.scripts.now c.args.order.now c.args.replies.now t) c.loop-ticket.invariant.told
          ∙ sym (flat_map-range_more (text_of_ticket c.args.scripts.now c.args.order.now c.args.replies.now) t);
      long = length-set c.loop-ticket.taken.items p (c.index-command.result.now + 1) ∙ c.loop-ticket.invariant.long;
      turns = subst (λ (k : ℕ). (player : ℕ) → player < length c.args.scripts.now → get_or (set c.loop-ticket.taken.items p (k + 1)) player 0 ≡ turns_of player (take (t + 1) c.args.order.now)) (sym command)
          (turns_step c.args.order.now c.loop-ticket.taken.items (length c.args.scripts.now) t c.loop-ticket-test.true c.loop-ticket.invariant.long player c.loop-ticket.invariant.turns);
    }
