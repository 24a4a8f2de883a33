-- No dead end: while a ticket has a job that isn't done, some job is enabled.
use Rattle.std.specs.Prelude.{◌≡◌, ℕ, ◌<◌, Bool, true, false, length}
use Rattle.edit_terms.specs.declared.event.Event.{Event}
use Rattle.edit_terms.specs.declared.event.Event.TheVariants.{Draw, Read, Write}
use Rattle.run_terms.specs.Workload.{Workload}
use Rattle.core_laws.specs.Core.{Core, is_settled, is_enabled}

-- the event runs a job, and takes no ticket
abbrev pub is_job : Event → Bool
is_job (Draw player) = false
is_job (Read ticket chunk) = true
is_job (Write ticket chunk) = true

-- some job is enabled
pub record HasEnabledJob (case : Workload) (core : Core) : Type 0 where
  pub event : Event
  pub job : is_job event ≡ true
  pub enabled : is_enabled case core event ≡ true

abbrev pub HasNoDeadEnd : Workload → Core → Type 0
HasNoDeadEnd case core =
    (ticket chunk : ℕ) → ticket < length core.order → is_settled case core.order chunk (core.chunks chunk) ticket ≡ false → HasEnabledJob case core
