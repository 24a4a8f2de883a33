-- Events commute: which may be exchanged, and what that means.
use Rattle.std.specs.Prelude.{◌≡◌, ℕ, ◌==◌, Bool, true, not}
use Rattle.edit_terms.specs.declared.clip.Source.{Source}
use Rattle.edit_terms.specs.declared.event.Event.{Event}
use Rattle.edit_terms.specs.declared.event.Event.TheVariants.{Draw, Read, Write}
use Rattle.run_terms.specs.Workload.{Workload}
use Rattle.core_laws.specs.Core.{Core, is_enabled, after_event}
use Rattle.core_laws.specs.Progress.{is_job}

-- the event isn't a job on this chunk
abbrev pub is_elsewhere : ℕ → Event → Bool
is_elsewhere chunk (Draw player) = true
is_elsewhere chunk (Read ticket other) = not (chunk == other)
is_elsewhere chunk (Write ticket other) = not (chunk == other)

-- two jobs on different chunks, or a job and a command that takes its ticket
abbrev pub are_apart : Event → Event → Bool
are_apart (Draw player) other = is_job other
are_apart (Read ticket chunk) other = is_elsewhere chunk other
are_apart (Write ticket chunk) other = is_elsewhere chunk other

-- each event stays enabled after the other, and both orders lead to the same core
pub record IsExchange (case : Workload) (keeps : Source → Bool) (core : Core) (first second : Event) : Type 0 where
  pub then_second : is_enabled case (after_event case keeps core first) second ≡ true
  pub then_first : is_enabled case (after_event case keeps core second) first ≡ true
  pub same : after_event case keeps (after_event case keeps core first) second ≡ after_event case keeps (after_event case keeps core second) first

abbrev pub EventsExchange : Workload → (Source → Bool) → Core → Type 0
EventsExchange case keeps core =
    (first second : Event) → are_apart first second ≡ true → is_enabled case core first ≡ true → is_enabled case core second ≡ true → IsExchange case keeps core first second
