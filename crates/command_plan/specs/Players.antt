-- The scripts of a workload's players.
use Rattle.std.specs.Prelude.{◌≡◌, ℕ, ◌<◌, List, get_or, length}
use Rattle.run_terms.specs.Order.{lines_of}
use Rattle.run_terms.specs.Workload.{Workload}
use Rattle.command_plan.specs.declared.resolved_script.ResolvedScript.{ResolvedScript}
use Rattle.command_plan.specs.ResolvedScripts.{IsResolved}

-- all commands of the player are resolved
pub record IsResolvedScript (case : Workload) (player : ℕ) (script : ResolvedScript) : Type 0 where
  pub resolved : IsResolved case.opening.area player case.depth (lines_of case.scripts player) (length (lines_of case.scripts player)) script.steps.items script.footprints.items

-- those of the first so many players
pub record AreResolvedScripts (case : Workload) (count : ℕ) (scripts : List ResolvedScript) : Type 0 where
  pub many : length scripts ≡ count
  pub each : (player : ℕ) (d : ResolvedScript) → player < count → IsResolvedScript case player (get_or scripts player d)
