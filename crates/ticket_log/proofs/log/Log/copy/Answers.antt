use Rattle.std.proofs.Common.{sym, ap, ◌∙◌, arith}
use Rattle.ticket_log.proofs.Steps.{splits}
use Rattle.ticket_log.proofs.log.Log.copy.Goals as goal

pub split_seat-requires : goal.split_seat-requires
split_seat-requires g c =
    let log = c.args.self.now in
    (c.requires.own ∙ sym log.table_is, omega (arith, ap (λ t. t.words) log.table_is, log.words, log.loggable.some), splits log.table.shared.key c.args.handle.now.id c.args.handle.now.me.0)
