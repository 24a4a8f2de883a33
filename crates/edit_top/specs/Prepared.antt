-- What a run has made before its first save, and what it does with it.
use Rattle.std.specs.Prelude.{◌≡◌, ◌≤◌, ℕ, List, [], ◌∷◌, map, Option, true, All}
use Rattle.edit_terms.specs.declared.script.Script.{Script}
use Rattle.run_terms.specs.Order.{IsLegalOrder, IsWholeOrder}
use Rattle.run_terms.specs.Access.{accesses_of}
use Rattle.run_terms.specs.Reply.{final_world}
use Rattle.run_ports.specs.Count.{Rose}
use Rattle.run_ports.specs.Store.{Files, StoreState}
use Rattle.run_ports.specs.Output.{OutputState, IsAppended, IsPartlyAppended}
use Rattle.command_plan.specs.Plan.{most_jobs, HasTooMany}
use Rattle.run_terms.specs.Workload.{Workload}
use Rattle.sponge_schematic.specs.Carried.{Loaded}
use Rattle.sponge_schematic.specs.File.{schematic_bytes}
use Rattle.command_syntax.specs.Player.{is_player_name}
use Rattle.edit_top.specs.declared.top_call.Prepared.{Prepared}
use Rattle.edit_top.specs.declared.status.Status.{Status}
use Rattle.edit_top.specs.declared.status.Status.TheVariants.{Done, TooManyJobs, SaveFault, PrintFault, OutOfMemory}
use Rattle.edit_top.specs.Words.{FileNames, Asked}
use Rattle.edit_top.specs.Status.{fault_text}
use Rattle.edit_top.specs.RunText.{run_text}
use Rattle.edit_top.specs.Reading.{HasWorld, AreAllScripts}
use Rattle.edit_top.specs.Outputs.{output_view, AreSaved, StopsSaving}
use Rattle.edit_top.specs.Ends.{workload, IsPrinted}

-- the file and the text of one order of the scripts' commands over a world
pub record IsMade (asked : Asked) (loaded : Loaded) (scripts : List Script) (prepared : Prepared) : Type 0 where
  pub few : accesses_of (workload asked loaded scripts) ≤ most_jobs
  pub order : List ℕ
  pub legal : IsLegalOrder scripts order
  pub whole : IsWholeOrder scripts order
  pub outputs : map output_view prepared.outputs.items ≡ (asked.names.out, schematic_bytes loaded.carried (final_world (workload asked loaded scripts) order)) ∷ []
  pub text : prepared.text.items ≡ run_text (workload asked loaded scripts) order

-- why nothing was made of a workload: it would have too many jobs, or an allocation was refused
abbrev pub IsMakeCause : Workload → Status → Type 0
IsMakeCause case (TooManyJobs jobs) = HasTooMany case jobs
IsMakeCause case OutOfMemory = Unit {0}
IsMakeCause case _ = ⊥

-- the same of the world and the scripts that were read, whose players have names of letters, digits and _
pub record IsPrepared (asked : Asked) (told : Option Files) (prepared : Prepared) : Type 0 where
  pub loaded : Loaded
  pub scripts : List Script
  pub world : HasWorld told asked.names loaded
  pub read : AreAllScripts told asked.names.scripts scripts
  pub named : All (λ script. is_player_name script.player ≡ true) scripts
  pub made : IsMade asked loaded scripts prepared

-- all is saved and the whole text is put
pub record IsAllOut (before after : StoreState) (shown told : OutputState) (prepared : Prepared) : Type 0 where
  pub saved : AreSaved before.files after.files (map output_view prepared.outputs.items)
  pub printed : IsAppended shown.written told.written prepared.text.items

-- a save failed, and the message was put
pub record IsSaveStopped (names : FileNames) (before after : StoreState) (shown told : OutputState) (prepared : Prepared) : Type 0 where
  pub stopped : StopsSaving before after (map output_view prepared.outputs.items)
  pub message : IsPrinted shown told (fault_text names SaveFault)

-- all is saved, and a prefix of the text was put
pub record IsPrintStopped (before after : StoreState) (shown told : OutputState) (prepared : Prepared) : Type 0 where
  pub saved : AreSaved before.files after.files (map output_view prepared.outputs.items)
  pub partly : IsPartlyAppended shown.written told.written prepared.text.items
  pub rose : Rose shown.faults told.faults

-- how the saves and the print ended
abbrev pub Finishes : FileNames → Prepared → StoreState → StoreState → OutputState → OutputState → Status → Type 0
Finishes names prepared before after shown told Done = IsAllOut before after shown told prepared
Finishes names prepared before after shown told SaveFault = IsSaveStopped names before after shown told prepared
Finishes names prepared before after shown told PrintFault = IsPrintStopped before after shown told prepared
Finishes names prepared before after shown told _ = ⊥
