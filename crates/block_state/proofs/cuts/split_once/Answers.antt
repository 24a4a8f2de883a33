use Rattle.std.proofs.Common.{◌≡◌, ◌+◌, ◌-◌, length, take, drop, arith, sym}
use Rattle.std.proofs.Math.Seq.{take-length}
use Rattle.std.proofs.lemmas.List.{length-drop}
use Rattle.block_state.proofs.CutLemmas.{cut_first, cut_some}
use Rattle.block_state.proofs.cuts.split_once.Goals as goal

pub returns-clause-cases : goal.returns-clause-cases
returns-clause-cases c =
    let cut = cut_first c.args.separator c.args.bytes.now c.in_ok-at.at (sym c.in_ok-at.ensures) in
    let rest : take (length c.args.bytes.now - (c.in_ok-at.at + 1)) (drop (c.in_ok-at.at + 1) c.args.bytes.now) ≡ drop (c.in_ok-at.at + 1) c.args.bytes.now = rw (← length-drop (c.in_ok-at.at + 1) c.args.bytes.now) (take-length (drop (c.in_ok-at.at + 1) c.args.bytes.now)) in
    rw rest cut

pub returns-clause-several : goal.returns-clause-several
returns-clause-several c =
    let cut = cut_first c.args.separator c.args.bytes.now c.in_ok-at.at (sym c.in_ok-at.ensures) in
    rw cut (omega (arith, cut_some c.args.separator (drop (c.in_ok-at.at + 1) c.args.bytes.now)))
