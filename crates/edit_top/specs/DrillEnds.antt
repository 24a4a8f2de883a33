-- What stands after each ending of a drill, and why it came.
use Rattle.std.specs.Prelude.{◌≡◌, ℕ, List, Some, None, codes}
use Rattle.run_ports.specs.Output.{OutputState, IsAppended}
use Rattle.edit_top.specs.declared.status.Status.{Status}
use Rattle.edit_top.specs.declared.status.Status.TheVariants.{Done, Usage, PrintFault, OutOfMemory}
use Rattle.edit_top.specs.Ends.{IsPrinted}
use Rattle.edit_top.specs.CheckEnds.{IsHalfPut}
use Rattle.edit_top.specs.DrillText.{drilled_by, drill_usage_text, IsDrillText}

-- the message where memory is wanting
abbrev pub memory_text : List ℕ
memory_text = codes "fault: memory\n"

-- the words name a number, and this is the text of its drill
pub record IsDrillOf (words : List (List ℕ)) (text : List ℕ) : Type 0 where
  pub number : ℕ
  pub are : drilled_by words ≡ Some number
  pub tells : IsDrillText number text

-- Done: exactly the text of the drill was put.
pub record IsDrillDone (words : List (List ℕ)) (shown told : OutputState) : Type 0 where
  pub text : List ℕ
  pub drill : IsDrillOf words text
  pub printed : IsAppended shown.written told.written text

-- the print failed: a prefix of the text was put, and the failure was counted
pub record IsDrillHalfPrinted (words : List (List ℕ)) (shown told : OutputState) : Type 0 where
  pub text : List ℕ
  pub drill : IsDrillOf words text
  pub part : IsHalfPut text shown told

-- the words aren't of the form
pub record IsDrillMisused (words : List (List ℕ)) (shown told : OutputState) : Type 0 where
  pub words_are : drilled_by words ≡ None
  pub message : IsPrinted shown told drill_usage_text

-- an allocation was refused
pub record IsDrillStarved (words : List (List ℕ)) (shown told : OutputState) : Type 0 where
  pub number : ℕ
  pub are : drilled_by words ≡ Some number
  pub message : IsPrinted shown told memory_text

-- Each ending of a drill of these words, between two states of the output. It has no other.
abbrev pub DrillEnds : List (List ℕ) → OutputState → OutputState → Status → Type 0
DrillEnds words shown told Done = IsDrillDone words shown told
DrillEnds words shown told PrintFault = IsDrillHalfPrinted words shown told
DrillEnds words shown told Usage = IsDrillMisused words shown told
DrillEnds words shown told OutOfMemory = IsDrillStarved words shown told
DrillEnds words shown told _ = ⊥

-- the words name a number
pub record IsGoodDrill (words : List (List ℕ)) : Type 0 where
  pub number : ℕ
  pub are : drilled_by words ≡ Some number
