-- Why a run stopped before it saved.
use Rattle.std.proofs.Common.{List}
use Rattle.edit_terms.specs.declared.script.Script.{Script}
use Rattle.run_ports.specs.Store.{StoreState}
use Rattle.sponge_schematic.specs.Carried.{Loaded}
use Rattle.edit_top.specs.declared.status.Status.{Status}
use Rattle.edit_top.specs.declared.status.Status.TheVariants.{Done, Usage, ReadFault, TooLong, WorldRefused, ScriptRefused, DuplicatePlayer, TooManyJobs, SaveFault, PrintFault, OutOfMemory}
use Rattle.edit_top.specs.Words.{Asked}
use Rattle.edit_top.specs.Reading.{HasWorld, AreAllScripts}
use Rattle.edit_top.specs.Ends.{workload, IsStopCause}
use Rattle.edit_top.specs.Prepared.{IsMakeCause}

-- what stopped a run behind its reading stops it
pub make_stops : (asked : Asked) (before after : StoreState) (loaded : Loaded) (scripts : List Script) (status : Status) → HasWorld before.files asked.names loaded → AreAllScripts before.files asked.names.scripts scripts
    → IsMakeCause (workload asked loaded scripts) status → IsStopCause asked before after status
make_stops asked before after loaded scripts (TooManyJobs jobs) world read cause = record { loaded = loaded; scripts = scripts; world = world; read = read; many = cause }
make_stops asked before after loaded scripts OutOfMemory world read cause = tt
make_stops asked before after loaded scripts Done world read cause = absurd cause
make_stops asked before after loaded scripts Usage world read cause = absurd cause
make_stops asked before after loaded scripts (ReadFault file) world read cause = absurd cause
make_stops asked before after loaded scripts (TooLong file) world read cause = absurd cause
make_stops asked before after loaded scripts (WorldRefused fault) world read cause = absurd cause
make_stops asked before after loaded scripts (ScriptRefused script fault) world read cause = absurd cause
make_stops asked before after loaded scripts (DuplicatePlayer script) world read cause = absurd cause
make_stops asked before after loaded scripts SaveFault world read cause = absurd cause
make_stops asked before after loaded scripts PrintFault world read cause = absurd cause
