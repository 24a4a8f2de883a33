use Rattle.std.proofs.Common.{ℕ, List, [], ◌+◌, take, drop, get_or, sym, subst}
use Rattle.std.specs.Prelude.{flat_map}
use Rattle.std.specs.Borrow.{Bor}
use Rattle.std.proofs.lemmas.List.{take_all}
use Rattle.run_ports.specs.Output.{IsAppended}
use Rattle.edit_top.specs.Ends.{IsPrinted}
use Rattle.edit_top.proofs.Messages.{printed_whole, printed_part, flat_map-at}
use Rattle.edit_top.proofs.message.print_message.Goals as goal

pub returns : goal.returns
returns g c =
    let all = take_all c.loop-piece.piece-index c.args.pieces.now c.loop-piece-test.false in
    printed_whole (g.K.Sink.seen c.args.out.now) (g.K.Sink.seen c.loop-piece.out) (flat_map (λ (piece : Bor (List ℕ)). piece.now) c.args.pieces.now)
    (subst (λ (ps : List (Bor (List ℕ))). IsAppended (g.K.Sink.seen c.args.out.now).written (g.K.Sink.seen c.loop-piece.out).written (flat_map (λ piece. piece.now) ps)) all c.loop-piece.invariant.appended)

pub returns-in-Err : goal.returns-in-Err
returns-in-Err g c =
    let i = c.loop-piece.piece-index in
    let pieces : List (Bor (List ℕ)) = c.args.pieces.now in
    let none : Bor (List ℕ) = record { ref_ptr = (0, 0); now = [] } in
    let bytes : Bor (List ℕ) → List ℕ = λ (piece : Bor (List ℕ)). piece.now in
    subst (λ (t : List ℕ). IsPrinted (g.K.Sink.seen c.args.out.now) (g.K.Sink.seen c.put.new.self) t) (sym (flat_map-at bytes pieces i none c.loop-piece-test.true))
    (printed_part (g.K.Sink.seen c.args.out.now) (g.K.Sink.seen c.loop-piece.out) (g.K.Sink.seen c.put.new.self) (flat_map bytes (take i pieces)) (get_or pieces i none).now (flat_map bytes (drop (i + 1) pieces))
    c.loop-piece.invariant.appended c.loop-piece.invariant.later c.in-Err.ensures.partly c.in-Err.ensures.failed)
