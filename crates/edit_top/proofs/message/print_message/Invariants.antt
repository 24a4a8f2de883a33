use Rattle.std.proofs.Common.{take}
use Rattle.std.specs.Prelude.{flat_map}
use Rattle.run_ports.specs.Output.{IsAppended, IsLaterOutput}
use Rattle.edit_top.proofs.message.print_message.Given as goal

-- the pieces passed are appended
abbrev pub invariant-loop-piece : goal.invariant-loop-piece
invariant-loop-piece g l = record {
  appended : IsAppended (g.K.Sink.seen l.fn.out).written (g.K.Sink.seen l.out).written (flat_map (λ piece. piece.now) (take l.piece-index l.pieces));
  later : IsLaterOutput (g.K.Sink.seen l.fn.out) (g.K.Sink.seen l.out);
}
