use Rattle.std.specs.Prelude.{ℕ, ◌==◌, Option, List}
use Rattle.std.specs.List.{find}
use Rattle.run_ports.specs.declared.fail_plan.Fail.{Fail}

-- what is planned for the call of this number: the first entry that names it, if one does
abbrev pub planned : List Fail → ℕ → Option Fail
planned fails call = find (λ fail. fail.call == call) fails
