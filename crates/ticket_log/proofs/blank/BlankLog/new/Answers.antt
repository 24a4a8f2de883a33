use Rattle.std.proofs.Common.{◌≡◌, replicate, length, arith}
use Rattle.ticket_log.proofs.Steps.{begins}
use Rattle.ticket_log.proofs.blank.BlankLog.new.Goals as goal

pub of_words-requires : goal.of_words-requires
of_words-requires c =
    let zeros : c.as_slice.result.now ≡ replicate (length c.args.case.now.scripts) 0 = grind (arith, c.as_slice.ensures.value, c.in_ok-zeros.ensures.items, c.as_slice-players.ensures) in
    begins c.args.case.now c.as_slice.result.now zeros
