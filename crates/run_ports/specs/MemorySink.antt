use Rattle.std.specs.Prelude.{ℕ, ◌+◌, Bool, ◌||◌, List, [], length, take, not, Option, Some, unwrap_or, option_and_then, is_some, nat_le, if◌then◌else◌}
use Rattle.run_ports.specs.declared.memory_sink.MemorySink.{MemorySink}
use Rattle.run_ports.specs.declared.fail_plan.Fail.{Fail}
use Rattle.run_ports.specs.Output.{OutputState}
use Rattle.run_ports.specs.FailPlan.{planned}

-- what was written
abbrev pub written_of : MemorySink → List ℕ
written_of sink = sink.written.items

-- the puts that are to fail
abbrev pub fails_of : MemorySink → List Fail
fails_of sink = sink.plan.fails.items

-- how many bytes it has room for in all
abbrev pub room_of : MemorySink → ℕ
room_of sink = sink.room

-- how many puts there were
abbrev pub calls_of : MemorySink → ℕ
calls_of sink = sink.plan.calls

-- how many of them failed
abbrev pub faults_of : MemorySink → ℕ
faults_of sink = sink.faults

-- callers know what was written
abbrev pub memory_output : MemorySink → OutputState
memory_output sink = record { written = Some (written_of sink); faults = faults_of sink }

-- whether these bytes fit behind what was written
abbrev pub is_fitting : MemorySink → List ℕ → Bool
is_fitting sink bytes = nat_le (length (written_of sink) + length bytes) (room_of sink)

-- what is planned for the next put
abbrev pub next_fail : MemorySink → Option Fail
next_fail sink = planned (fails_of sink) (calls_of sink)

-- whether a put of these bytes fails now: they don't fit, or the plan says so
abbrev pub is_refused : MemorySink → List ℕ → Bool
is_refused sink bytes = not (is_fitting sink bytes) || is_some (next_fail sink)

-- what a failing put takes of the bytes: nothing where they don't fit, and else what the plan keeps
abbrev pub kept_of : MemorySink → List ℕ → List ℕ
kept_of sink bytes = if is_fitting sink bytes then take (unwrap_or (option_and_then (λ fail. fail.kept) (next_fail sink)) 0) bytes else []
