use Rattle.std.proofs.Common.{◌≡◌, suc, true, List, get_or, set, sym, subst, refl}
use Rattle.edit_terms.specs.declared.outcome.Reply.{Reply}
use Rattle.edit_terms.specs.declared.script.Command.{Command}
use Rattle.run_terms.specs.Limits.{is_command_within}
use Rattle.run_terms.specs.Workload.{workload_of}
use Rattle.run_terms.proofs.Tickets.{ticket_of-source_of}
use Rattle.serial_model.specs.declared.player.Player.{Player}
use Rattle.serial_model.specs.Acted.{IsActed}
use Rattle.serial_model.specs.Folded.{IsFolded}
use Rattle.serial_model.specs.Ready.{IsReady}
use Rattle.serial_model.proofs.FoldLemmas.{folds_on}
use Rattle.serial_model.proofs.StartLemmas.{ready, stops}
use Rattle.serial_model.proofs.fold.Fold.next.Goals as goal

pub returns-in_default-clause-illegal : goal.returns-in_default-clause-illegal
returns-in_default-clause-illegal c =
    stops (workload_of c.args.case.now) c.args.order.now c.args.ticket (get_or c.args.order.now c.args.ticket 0) c.args.self.now.canvas c.args.self.now.players.items c.args.self.now.replies.items
    c.requires.ticket refl c.requires.folded c.in_default.ensures

pub act-requires : goal.act-requires
act-requires c =
    let number = get_or c.args.order.now c.args.ticket 0 in
    let acting = c.index_mut-acting.result.now in
    subst (λ (q : Player). IsReady c.args.self.now.canvas q c.in-Some.command.now) (sym c.index_mut-acting.ensures.value)
    (ready (workload_of c.args.case.now) c.args.order.now c.args.ticket number c.args.self.now.canvas c.args.self.now.players.items c.args.self.now.replies.items c.in-Some.command.now acting
    c.requires.limits c.requires.folded c.in-Some.ensures)

pub returns-clause-folded : goal.returns-clause-folded
returns-clause-folded c =
    let case = workload_of c.args.case.now in
    let order = c.args.order.now in
    let ticket = c.args.ticket in
    let number = get_or order ticket 0 in
    let old = c.args.self.now.canvas in
    let new = c.act.new.canvas in
    let players = c.args.self.now.players.items in
    let answered = c.args.self.now.replies.items in
    let acting = c.index_mut-acting.result.now in
    let next = c.in-Some.ensures in
    let can = ready case order ticket number old players answered c.in-Some.command.now acting c.requires.limits c.requires.folded next in
    let within : is_command_within next.line.command ≡ true = subst (λ (k : Command). is_command_within k ≡ true) next.is can.command_within in
    let acted = subst (λ (q : Player). IsActed case.seed ticket old new q c.act.new.player next.line.command c.in_ok-reply.reply) c.index_mut-acting.ensures.value
    (subst (λ (k : Command). IsActed case.seed ticket old new acting c.act.new.player k c.in_ok-reply.reply) next.is c.in_ok-reply.ensures) in
    subst (λ (rs : List Reply). IsFolded case order (suc ticket) new (set players number c.act.new.player) rs) (sym c.in_ok-push.ensures.items)
    (folds_on case order ticket number old new players c.act.new.player answered next.line c.in_ok-reply.reply acting (ticket_of-source_of order) c.requires.ticket refl next.known c.requires.folded c.well_formed-2.ensures
    (next.there acting) within acted)
