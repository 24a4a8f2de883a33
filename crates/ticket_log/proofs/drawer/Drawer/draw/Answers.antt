use Rattle.std.proofs.Common.{ℕ, ◌+◌, ◌<◌, length, ap, arith}
use Rattle.edit_terms.specs.declared.script.Case.{Case}
use Rattle.run_terms.specs.Order.{turns_of, lines_of}
use Rattle.ticket_log.proofs.Appending.{appender_more}
use Rattle.ticket_log.proofs.LegalOrders.{player_there, lines_of-within, length-legal}
use Rattle.ticket_log.proofs.drawer.Drawer.draw.Goals as goal

pub overflow_add-self : goal.overflow_add-self
overflow_add-self g c =
    let long = length-legal g.N.RunName.case c.self.inside.handle.me.0.order c.args.log.now.loggable c.self.invariant.legal in
    omega (arith, long, c.self.invariant.tickets)

pub overflow_add-step : goal.overflow_add-step
overflow_add-step g c =
    let left : turns_of c.args.player c.self.inside.handle.me.0.order < length (lines_of g.N.RunName.case.scripts c.args.player) = rw c.self.view_is c.requires in
    omega (arith, left, c.append-step.ensures.count, lines_of-within g.N.RunName.case c.args.log.now.loggable c.args.player)

pub index_mut-requires : goal.index_mut-requires
index_mut-requires g c =
    let there = player_there g.N.RunName.case.scripts c.args.player (turns_of c.args.player c.args.self.now) c.requires in
    omega (arith, there, c.self.invariant.players)

pub invariant_of-self : goal.invariant_of-self
invariant_of-self g c =
    let case : Case = g.N.RunName.case in
    let inside = c.self.inside in
    let step = c.append-step in
    let left : turns_of c.args.player inside.handle.me.0.order < length (lines_of case.scripts c.args.player) = rw c.self.view_is c.requires in
    appender_more g.N.RunName.table case inside.handle.table_id inside.handle.me inside.tickets inside.counts.items step.new.handle.me step.new.handle.table_id c.args.player (step.result + 1)
    c.self.invariant step.ensures.handle step.ensures.order left (ap (λ (n : ℕ). n + 1) step.ensures.count)
