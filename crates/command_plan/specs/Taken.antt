-- A script's session behind so many of its lines.
use Rattle.std.specs.Prelude.{◌≡◌, ℕ, List, take}
use Rattle.edit_terms.specs.declared.script.Line.{Line}
use Rattle.edit_terms.specs.declared.step.Step.{Step}
use Rattle.edit_terms.specs.Area.{Area}
use Rattle.run_terms.specs.Session.{Session, session_after}
use Rattle.run_terms.specs.SessionLimits.{IsSessionWithin}
use Rattle.command_plan.specs.declared.footprint.Footprint.{Footprint}
use Rattle.command_plan.specs.ResolvedScripts.{IsResolved}

-- the session took the first commands, and they are resolved
pub record IsTaken (area : Area) (player depth : ℕ) (lines : List Line) (count : ℕ) (session : Session) (steps : List Step) (footprints : List Footprint) : Type 0 where
  pub session_is : session ≡ session_after player depth (take count lines)
  pub within : IsSessionWithin session
  pub resolved : IsResolved area player depth lines count steps footprints
