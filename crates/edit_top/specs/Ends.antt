-- The end-to-end theorem: what stands after each ending of a run, and why it came.
use Rattle.std.specs.Prelude.{◌≡◌, ℕ, ◌≤◌, ◌⊎◌, List, length, take, Option, Some, None}
use Rattle.edit_terms.specs.declared.script.Script.{Script}
use Rattle.run_terms.specs.Workload.{Workload}
use Rattle.run_terms.specs.Access.{accesses_of}
use Rattle.run_terms.specs.Order.{IsLegalOrder, IsWholeOrder}
use Rattle.run_terms.specs.Reply.{final_world}
use Rattle.run_ports.specs.Count.{Rose}
use Rattle.run_ports.specs.Store.{Files, StoreState, IsSaved, IsTorn}
use Rattle.run_ports.specs.Output.{OutputState, IsAppended, IsPartlyAppended}
use Rattle.command_plan.specs.Plan.{most_jobs, HasTooMany}
use Rattle.sponge_schematic.specs.Carried.{Loaded}
use Rattle.sponge_schematic.specs.File.{schematic_bytes}
use Rattle.edit_top.specs.declared.status.Status.{Status}
use Rattle.edit_top.specs.declared.status.Status.TheVariants.{Done, Usage, ReadFault, TooLong, WorldRefused, ScriptRefused, DuplicatePlayer, TooManyJobs, SaveFault, PrintFault, OutOfMemory}
use Rattle.edit_top.specs.Words.{Asked, asked_by}
use Rattle.edit_top.specs.Status.{fault_text, usage_text}
use Rattle.edit_top.specs.RunText.{run_text}
use Rattle.edit_top.specs.ShownOrder.{order_shown}
use Rattle.edit_top.specs.Reading.{HasWorld, AreAllScripts, IsCause}

-- the workload of a world and scripts, with the seed and the depth of the words
abbrev pub workload : Asked → Loaded → List Script → Workload
workload asked loaded scripts = record { opening = loaded.world; scripts = scripts; seed = asked.seed; depth = asked.depth }

-- A run of these words over these files: the world and the scripts that were read, in the order of the words, whose
-- commands access chunks at most as often as a run may, and one
-- order of all commands, which is the order that its text shows. So no other order has the same text.
pub record IsRunOf (words : List (List ℕ)) (told : Option Files) : Type 0 where
  pub asked : Asked
  pub are : asked_by words ≡ Some asked
  pub loaded : Loaded
  pub scripts : List Script
  pub world : HasWorld told asked.names loaded
  pub read : AreAllScripts told asked.names.scripts scripts
  pub few : accesses_of (workload asked loaded scripts) ≤ most_jobs
  pub order : List ℕ
  pub legal : IsLegalOrder scripts order
  pub whole : IsWholeOrder scripts order
  pub shown : order_shown scripts (run_text (workload asked loaded scripts) order) ≡ order

module _ {words : List (List ℕ)} {told : Option Files} where
  -- the file of the world that the order leaves
  abbrev pub saved_file : IsRunOf words told → List ℕ
  saved_file run = schematic_bytes run.loaded.carried (final_world (workload run.asked run.loaded run.scripts) run.order)

  -- the text of the order and its replies
  abbrev pub printed_text : IsRunOf words told → List ℕ
  printed_text run = run_text (workload run.asked run.loaded run.scripts) run.order

-- a prefix of the message was put, and all of it where the output's faults didn't rise
pub record IsPrinted (before after : OutputState) (text : List ℕ) : Type 0 where
  pub kept : ℕ
  pub part : IsAppended before.written after.written (take kept text)
  pub whole : (length text ≤ kept) ⊎ Rose before.faults after.faults

-- Done: OUT holds exactly the file of the order's world, all other files are as before, and exactly the text of that
-- order and its replies was put.
pub record IsDone (words : List (List ℕ)) (before after : StoreState) (shown told : OutputState) : Type 0 where
  pub run : IsRunOf words before.files
  pub saved : IsSaved before.files after.files run.asked.names.out (saved_file run)
  pub printed : IsAppended shown.written told.written (printed_text run)

-- the save failed: OUT holds a prefix of the file or what it held, and its failure was counted
pub record IsHalfSaved (words : List (List ℕ)) (before after : StoreState) (shown told : OutputState) : Type 0 where
  pub run : IsRunOf words before.files
  pub rose : Rose (before.save_faults run.asked.names.out) (after.save_faults run.asked.names.out)
  pub torn : IsTorn before.files after.files run.asked.names.out (saved_file run)
  pub message : IsPrinted shown told (fault_text run.asked.names SaveFault)

-- the print failed: the file is saved whole, a prefix of the text was put, and the failure was counted
pub record IsHalfPrinted (words : List (List ℕ)) (before after : StoreState) (shown told : OutputState) : Type 0 where
  pub run : IsRunOf words before.files
  pub rose : Rose shown.faults told.faults
  pub saved : IsSaved before.files after.files run.asked.names.out (saved_file run)
  pub partly : IsPartlyAppended shown.written told.written (printed_text run)

-- the words aren't of the form
pub record IsMisused (words : List (List ℕ)) (before after : StoreState) (shown told : OutputState) : Type 0 where
  pub words_are : asked_by words ≡ None
  pub stays : after.files ≡ before.files
  pub message : IsPrinted shown told usage_text

-- the world and the scripts were read, and their commands access chunks so often, more than a run may
pub record IsTooMuch (asked : Asked) (told : Option Files) (jobs : ℕ) : Type 0 where
  pub loaded : Loaded
  pub scripts : List Script
  pub world : HasWorld told asked.names loaded
  pub read : AreAllScripts told asked.names.scripts scripts
  pub many : HasTooMany (workload asked loaded scripts) jobs

-- why a run stopped before it saved: at reading, or as it would have too many jobs
abbrev pub IsStopCause : Asked → StoreState → StoreState → Status → Type 0
IsStopCause asked before after (TooManyJobs jobs) = IsTooMuch asked before.files jobs
IsStopCause asked before after status = IsCause asked.names before after status

-- a refusal before the save: it has its cause, and the files are as before
pub record IsStopped (words : List (List ℕ)) (before after : StoreState) (shown told : OutputState) (status : Status) : Type 0 where
  pub asked : Asked
  pub are : asked_by words ≡ Some asked
  pub cause : IsStopCause asked before after status
  pub stays : after.files ≡ before.files
  pub message : IsPrinted shown told (fault_text asked.names status)

-- Each ending of a run of these words, between two states of the file store and of the output.
abbrev pub Ends : List (List ℕ) → StoreState → StoreState → OutputState → OutputState → Status → Type 0
Ends words before after shown told Done = IsDone words before after shown told
Ends words before after shown told SaveFault = IsHalfSaved words before after shown told
Ends words before after shown told PrintFault = IsHalfPrinted words before after shown told
Ends words before after shown told Usage = IsMisused words before after shown told
Ends words before after shown told (ReadFault file) = IsStopped words before after shown told (ReadFault file)
Ends words before after shown told (TooLong file) = IsStopped words before after shown told (TooLong file)
Ends words before after shown told (WorldRefused fault) = IsStopped words before after shown told (WorldRefused fault)
Ends words before after shown told (ScriptRefused script fault) = IsStopped words before after shown told (ScriptRefused script fault)
Ends words before after shown told (DuplicatePlayer script) = IsStopped words before after shown told (DuplicatePlayer script)
Ends words before after shown told (TooManyJobs jobs) = IsStopped words before after shown told (TooManyJobs jobs)
Ends words before after shown told OutOfMemory = IsStopped words before after shown told OutOfMemory

-- Nothing outside failed: no count of failures rose, of loads of the world and the scripts, of saves of OUT, and of the
-- output.
pub record NothingFailed (before after : StoreState) (shown told : OutputState) : Type 0 where
  pub loads : (name : List ℕ) → ¬ Rose (before.faults name) (after.faults name)
  pub saves : (name : List ℕ) → ¬ Rose (before.save_faults name) (after.save_faults name)
  pub puts : ¬ Rose shown.faults told.faults

-- an ending that no outside failure caused
abbrev pub IsNoFailure : Status → Type 0
IsNoFailure (ReadFault file) = ⊥
IsNoFailure SaveFault = ⊥
IsNoFailure PrintFault = ⊥
IsNoFailure _ = Unit {0}

-- Good words over told files that hold a world and scripts of distinct players, each within its limit, whose commands
-- access chunks at most as often as a run may.
pub record IsGood (words : List (List ℕ)) (told : Option Files) : Type 0 where
  pub files : Files
  pub tells : told ≡ Some files
  pub asked : Asked
  pub are : asked_by words ≡ Some asked
  pub loaded : Loaded
  pub world : HasWorld told asked.names loaded
  pub scripts : List Script
  pub read : AreAllScripts told asked.names.scripts scripts
  pub few : accesses_of (workload asked loaded scripts) ≤ most_jobs

-- the run ended well, or an allocation was refused
abbrev pub IsDoneOrMemory : Status → Type 0
IsDoneOrMemory Done = Unit {0}
IsDoneOrMemory OutOfMemory = Unit {0}
IsDoneOrMemory _ = ⊥
