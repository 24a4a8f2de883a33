-- What stands after each ending of a check, and why it came.
use Rattle.std.specs.Prelude.{◌≡◌, ℕ, List, Option, Some, None}
use Rattle.run_ports.specs.Count.{Rose}
use Rattle.run_ports.specs.Store.{Files, StoreState}
use Rattle.run_ports.specs.Output.{OutputState, IsAppended, IsPartlyAppended}
use Rattle.sponge_schematic.specs.Carried.{Loaded}
use Rattle.edit_top.specs.declared.status.Status.{Status}
use Rattle.edit_top.specs.declared.status.Status.TheVariants.{Done, Usage, PrintFault}
use Rattle.edit_top.specs.Words.{FileNames}
use Rattle.edit_top.specs.Status.{fault_text}
use Rattle.edit_top.specs.Reading.{HasWorld, IsWorldCause}
use Rattle.edit_top.specs.Ends.{IsPrinted}
use Rattle.edit_top.specs.CheckText.{checked_by, world_alone, check_usage_text, IsWorldText}

-- a prefix of a text was put, and the failure was counted
pub record IsHalfPut (text : List ℕ) (shown told : OutputState) : Type 0 where
  pub partly : IsPartlyAppended shown.written told.written text
  pub rose : Rose shown.faults told.faults

-- the text of the world that the file gives
pub record IsFileText (told : Option Files) (names : FileNames) (text : List ℕ) : Type 0 where
  pub loaded : Loaded
  pub world : HasWorld told names loaded
  pub tells : IsWorldText loaded.world text

-- the words name a world, and this is the text of its file's world
pub record IsCheckOf (words : List (List ℕ)) (told : Option Files) (text : List ℕ) : Type 0 where
  pub name : List ℕ
  pub are : checked_by words ≡ Some name
  pub file : IsFileText told (world_alone name) text

-- Done: the files are as before, and exactly the text was put.
pub record IsCheckDone (words : List (List ℕ)) (before after : StoreState) (shown told : OutputState) : Type 0 where
  pub text : List ℕ
  pub check : IsCheckOf words before.files text
  pub stays : after.files ≡ before.files
  pub printed : IsAppended shown.written told.written text

-- the print failed: a prefix of the text was put, and the failure was counted
pub record IsCheckHalfPrinted (words : List (List ℕ)) (before after : StoreState) (shown told : OutputState) : Type 0 where
  pub text : List ℕ
  pub check : IsCheckOf words before.files text
  pub stays : after.files ≡ before.files
  pub part : IsHalfPut text shown told

-- the words aren't of the form
pub record IsCheckMisused (words : List (List ℕ)) (before after : StoreState) (shown told : OutputState) : Type 0 where
  pub words_are : checked_by words ≡ None
  pub stays : after.files ≡ before.files
  pub message : IsPrinted shown told check_usage_text

-- a refusal: it has its cause at the world's file, and the files are as before
pub record IsCheckStopped (words : List (List ℕ)) (before after : StoreState) (shown told : OutputState) (status : Status) : Type 0 where
  pub name : List ℕ
  pub are : checked_by words ≡ Some name
  pub cause : IsWorldCause (world_alone name) before after status
  pub stays : after.files ≡ before.files
  pub message : IsPrinted shown told (fault_text (world_alone name) status)

-- Each ending of a check of these words, between two states of the file store and of the output. No other status has a
-- cause at the world's file.
abbrev pub CheckEnds : List (List ℕ) → StoreState → StoreState → OutputState → OutputState → Status → Type 0
CheckEnds words before after shown told Done = IsCheckDone words before after shown told
CheckEnds words before after shown told PrintFault = IsCheckHalfPrinted words before after shown told
CheckEnds words before after shown told Usage = IsCheckMisused words before after shown told
CheckEnds words before after shown told status = IsCheckStopped words before after shown told status

-- good words over told files that hold a world
pub record IsGoodCheck (words : List (List ℕ)) (told : Option Files) : Type 0 where
  pub files : Files
  pub tells : told ≡ Some files
  pub name : List ℕ
  pub are : checked_by words ≡ Some name
  pub loaded : Loaded
  pub world : HasWorld told (world_alone name) loaded

-- how the print of a text ended
abbrev pub Prints : List ℕ → OutputState → OutputState → Status → Type 0
Prints text shown told Done = IsAppended shown.written told.written text
Prints text shown told PrintFault = IsHalfPut text shown told
Prints text shown told _ = ⊥
