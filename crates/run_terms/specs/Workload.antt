-- What a run starts from: the opening world, the players' scripts, the seed of random choices, and how many edits
-- each player's history keeps.
use Rattle.std.specs.Prelude.{ℕ, List}
use Rattle.edit_terms.specs.declared.script.Case.{Case}
use Rattle.edit_terms.specs.declared.script.Script.{Script}
use Rattle.edit_terms.specs.Grid.{world_of}
use Rattle.edit_terms.specs.World.{World}

pub record Workload : Type 0 where
  pub opening : World
  pub scripts : List Script
  pub seed : ℕ
  pub depth : ℕ

-- the workload of a case, its grid read as a world
abbrev pub workload_of : Case → Workload
workload_of case = record { opening = world_of case.opening; scripts = case.scripts; seed = case.seed; depth = case.depth }
