-- The plan of a workload: what each command is, which chunks it reads and writes, and whether its changes must be kept.
use Rattle.std.specs.Prelude.{◌≡◌, ℕ, ◌+◌, ◌<◌, ◌≤◌, List, Option, length, map, slice_get, sum_by, ⊤}
use Rattle.std.specs.List.{range_with_len}
use Rattle.std.specs.Option.{option_and_then}
use Rattle.edit_terms.specs.declared.clip.Source.{Source}
use Rattle.edit_terms.specs.Area.{Area}
use Rattle.run_terms.specs.Access.{chunks_read_by, chunks_written_by, records_changes, accesses_of}
use Rattle.run_terms.specs.Order.{lines_of, step_of_command}
use Rattle.run_terms.specs.Workload.{Workload}
use Rattle.command_plan.specs.declared.plan_fault.PlanFault.{PlanFault}
use Rattle.command_plan.specs.declared.plan_fault.PlanFault.TheVariants.{TooManyJobs}
use Rattle.command_plan.specs.declared.planned.Planned.{Planned}

-- what is planned for a command
abbrev pub planned_of : Workload → Source → Planned
planned_of case id = record {
  step = step_of_command case id;
  reads = chunks_read_by case id;
  writes = chunks_written_by case id;
  keeps = records_changes case id;
}

-- what is planned for a player: for each command of the script in order
abbrev pub planned_by : Workload → ℕ → List Planned
planned_by case player = map (λ n. planned_of case (record { player = player; step = n })) (range_with_len 0 (length (lines_of case.scripts player)))

-- what contracts see of a plan: the box, the seed of random choices, and for each player what is planned
pub record PlanView : Type 0 where
  pub area : Area
  pub seed : ℕ
  pub players : List (List Planned)

-- The plan of a workload.
abbrev pub plan_of : Workload → PlanView
plan_of case = record { area = case.opening.area; seed = case.seed; players = map (planned_by case) (range_with_len 0 (length case.scripts)) }

-- what a plan has for a command id, if there is such a command
abbrev pub planned_in : PlanView → Source → Option Planned
planned_in plan id = option_and_then (λ commands. slice_get commands id.step) (slice_get plan.players id.player)

-- how many accesses a command has, each chunk counted once for a read and once for a write
abbrev pub jobs_of_command : Planned → ℕ
jobs_of_command planned = length planned.reads + length planned.writes

abbrev pub jobs_of_player : List Planned → ℕ
jobs_of_player commands = sum_by jobs_of_command commands

-- how many accesses all commands have
abbrev pub jobs_of : PlanView → ℕ
jobs_of plan = sum_by jobs_of_player plan.players

-- the greatest number of accesses that a plan may have
abbrev pub most_jobs : ℕ
most_jobs = 16777216

-- the fault of too many accesses has their number
pub record HasTooMany (case : Workload) (jobs : ℕ) : Type 0 where
  pub all : jobs ≡ accesses_of case
  pub many : most_jobs < jobs

abbrev pub IsFaultOf : Workload → PlanFault → Type 0
IsFaultOf case (TooManyJobs jobs) = HasTooMany case jobs
IsFaultOf case _ = ⊤

-- Where two workloads have one box and one depth, and a player has one script in both, the same is planned for it.
abbrev pub DependsOnTheScript : Workload → Workload → ℕ → Type 0
DependsOnTheScript a b player =
    a.opening.area ≡ b.opening.area → a.depth ≡ b.depth → lines_of a.scripts player ≡ lines_of b.scripts player → planned_by a player ≡ planned_by b player
