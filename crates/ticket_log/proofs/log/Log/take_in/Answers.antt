use Rattle.std.proofs.Common.{sym, ap, ◌∙◌, arith}
use Rattle.ticket_log.proofs.Steps.{joins, loads}
use Rattle.ticket_log.proofs.log.Log.take_in.Goals as goal

pub join_seat-requires : goal.join_seat-requires
join_seat-requires g c =
    let log = c.args.self.now in
    let there = sym log.table_is in
    let other = c.requires.other in
    let handle = c.args.handle.now in (
      c.requires.own ∙ there,
      other.own ∙ there,
      other.idle,
      omega (arith, ap (λ t. t.words) log.table_is, log.words, log.loggable.some),
      joins log.table.shared.key handle.id c.args.other.id handle.me.0 c.args.other.me.0 other.draws,
    )

pub load-requires : goal.load-requires
load-requires g c =
    let log = c.args.self.now in
    let joined = c.join_seat.new.seat in (
      c.join_seat.ensures.0 ∙ (c.requires.own ∙ sym log.table_is),
      omega (arith, ap (λ t. t.words) log.table_is, log.words, log.loggable.some),
      loads log.table.shared.key log.table.shared.table_id.slots joined.id joined.me 0,
    )
