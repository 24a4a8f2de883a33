use Rattle.std.specs.Prelude.{ℕ, None}
use Rattle.run_ports.specs.declared.term_sink.TermSink.{TermSink}
use Rattle.run_ports.specs.Output.{OutputState}

module _ {R : Type 0} where
  -- how many puts failed
  abbrev pub faults_of : TermSink R → ℕ
  faults_of sink = sink.faults

  -- what the terminal shows isn't known
  abbrev pub terminal_output : TermSink R → OutputState
  terminal_output sink = record { written = None; faults = faults_of sink }
