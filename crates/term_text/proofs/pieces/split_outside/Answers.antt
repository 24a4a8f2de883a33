use Rattle.std.proofs.Common.{◌≡◌, ◌+◌, ◌-◌, length, take, drop, sym}
use Rattle.std.proofs.Math.Seq.{take-length}
use Rattle.std.proofs.lemmas.List.{length-drop}
use Rattle.term_text.proofs.Cuts.{cut_first}
use Rattle.term_text.proofs.pieces.split_outside.Goals as goal

pub returns-clause-cases : goal.returns-clause-cases
returns-clause-cases c =
    let cut = cut_first c.args.separator c.in_ok-end.end c.args.text.now (sym c.in_ok-end.ensures.first) in
    let rest : take (length c.args.text.now - (c.in_ok-end.end + 1)) (drop (c.in_ok-end.end + 1) c.args.text.now) ≡ drop (c.in_ok-end.end + 1) c.args.text.now = rw (← length-drop (c.in_ok-end.end + 1) c.args.text.now) (take-length (drop (c.in_ok-end.end + 1) c.args.text.now)) in
    rw rest cut
