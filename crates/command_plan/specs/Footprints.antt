-- The chunks that a command reads and writes by itself.
use Rattle.std.specs.Prelude.{Option}
use Rattle.edit_terms.specs.declared.clip.Clip.{Clip}
use Rattle.edit_terms.specs.declared.step.Step.{Step}
use Rattle.edit_terms.specs.declared.step.Work.{Work}
use Rattle.edit_terms.specs.Area.{Area}
use Rattle.run_terms.specs.Access.{boxes_read, boxes_written, boxes_read_by, boxes_written_by}
use Rattle.command_plan.specs.declared.footprint.Footprint.{Footprint}
use Rattle.command_plan.specs.Cuts.{IsChunkSetOf}

-- the chunks of what the work reads and of what it writes
pub record IsWorkFootprint (area : Area) (clip : Option Clip) (work : Work) (f : Footprint) : Type 0 where
  pub reads : IsChunkSetOf area (boxes_read work) f.reads
  pub writes : IsChunkSetOf area (boxes_written area clip work) f.writes

-- the same of a resolved command
pub record IsFootprint (area : Area) (step : Step) (f : Footprint) : Type 0 where
  pub reads : IsChunkSetOf area (boxes_read_by step) f.reads
  pub writes : IsChunkSetOf area (boxes_written_by area step) f.writes
