use Rattle.std.proofs.Common.{◌<◌, length, sym, ap, ◌∙◌, arith}
use Rattle.edit_terms.specs.declared.script.Case.{Case}
use Rattle.run_terms.specs.Order.{turns_of}
use Rattle.ticket_log.proofs.LegalOrders.{player_there, lines_of-within}
use Rattle.ticket_log.proofs.Steps.{draws}
use Rattle.ticket_log.proofs.log.Log.append.Goals as goal

pub fetch_add-requires : goal.fetch_add-requires
fetch_add-requires g c =
    let log = c.args.self.now in
    let handle = c.args.handle.now in
    let player = c.args.player in
    let case : Case = g.N.RunName.case in
    let there : player < length case.scripts = player_there case.scripts player (turns_of player handle.me.0.order) c.requires.left in (
      c.requires.handle.own ∙ sym log.table_is,
      omega (arith, ap (λ t. t.words) log.table_is, log.words, there),
      rw log.case_is (draws case log.table.shared.table_id.slots handle.id handle.me player log.loggable c.requires.handle.draws c.requires.left),
    )

pub overflow_cast-result : goal.overflow_cast-result
overflow_cast-result g c =
    let found = c.fetch_add.ensures.2.count in
    omega (arith, found, c.requires.left, lines_of-within g.N.RunName.case c.args.self.now.loggable c.args.player)
