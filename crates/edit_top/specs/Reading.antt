-- What a run reads, and why it may stop at reading. A fact about the bytes of a file is said where the file store
-- tells its files.
use Rattle.std.specs.Prelude.{◌≡◌, ℕ, zero, suc, ◌≤◌, ◌<◌, Bool, true, false, List, [], length, take, get_or, Option, Ok, Err, IfSome, IsSomeAnd, bytes_eq}
use Rattle.std.specs.List.{list_any}
use Rattle.edit_terms.specs.declared.script.Script.{Script}
use Rattle.run_ports.specs.Count.{Rose}
use Rattle.run_ports.specs.Store.{Files, StoreState, IsLater, IsTooLong}
use Rattle.sponge_schematic.specs.declared.fault.WorldFault.{WorldFault}
use Rattle.sponge_schematic.specs.Carried.{Loaded}
use Rattle.sponge_schematic.specs.Schematic.{schematic_of}
use Rattle.command_syntax.specs.declared.fault.ScriptFault.{ScriptFault}
use Rattle.command_syntax.specs.declared.fault.ScriptFault.TheVariants as script_faults
use Rattle.command_syntax.specs.Script.{script_of_bytes}
use Rattle.edit_top.specs.declared.status.Status.{Status}
use Rattle.edit_top.specs.declared.status.Status.TheVariants.{ReadFault, TooLong, WorldRefused, ScriptRefused, DuplicatePlayer, OutOfMemory}
use Rattle.edit_top.specs.Words.{FileNames}

-- the most bytes of a world's file, and of a script
abbrev pub world_limit : ℕ
world_limit = 268435456

abbrev pub script_limit : ℕ
script_limit = 1048576

-- the file of this name is there, within the limit, and this holds of its bytes
abbrev pub HasFile : Option Files → List ℕ → ℕ → (List ℕ → Type 0) → Type 0
HasFile told name limit P = IfSome told (λ files. IsSomeAnd (files name) (λ bytes. (length bytes ≤ limit) × P bytes))

-- the world's file gives this world, and this beside it
abbrev pub HasWorld : Option Files → FileNames → Loaded → Type 0
HasWorld told names loaded = HasFile told names.world world_limit (λ bytes. schematic_of bytes ≡ Ok loaded)

-- the file of this name is this script
abbrev pub HasScript : Option Files → List ℕ → Script → Type 0
HasScript told name script = HasFile told name script_limit (λ bytes. script_of_bytes bytes ≡ Ok script)

-- one of these scripts is the player's
abbrev pub has_player : List Script → List ℕ → Bool
has_player scripts player = list_any (λ script. bytes_eq script.player player) scripts

-- The first of these files, as many as there are scripts here, are these scripts, and no player stands in an earlier
-- one.
pub record AreScripts (told : Option Files) (names : List (List ℕ)) (scripts : List Script) : Type 0 where
  pub each : (k : ℕ) (d : Script) → k < length scripts → HasScript told (get_or names k []) (get_or scripts k d)
  pub distinct : (k : ℕ) (d : Script) → k < length scripts → has_player (take k scripts) (get_or scripts k d).player ≡ false

-- these files are these scripts, of a player each
pub record AreAllScripts (told : Option Files) (names : List (List ℕ)) (scripts : List Script) : Type 0 where
  pub count : length scripts ≡ length names
  pub read : AreScripts told names scripts

-- the world's file gives some world
pub record WorldIsRead (told : Option Files) (names : FileNames) : Type 0 where
  pub loaded : Loaded
  pub has : HasWorld told names loaded

-- a load found that the file is longer than its limit; it met no fault
pub record IsLong (before after : StoreState) (name : List ℕ) (limit : ℕ) : Type 0 where
  pub long : IsTooLong before.files name limit
  pub counted : Rose before.longs after.longs
  pub no_fault : after.faults name ≡ before.faults name

-- the world's file is refused with this first fault
abbrev pub IsNoWorld : Option Files → FileNames → WorldFault → Type 0
IsNoWorld told names fault = HasFile told names.world world_limit (λ bytes. schematic_of bytes ≡ Err fault)

-- the file of this name is refused as a script, with this first fault
abbrev pub IsNoScript : Option Files → List ℕ → ScriptFault → Type 0
IsNoScript told name fault = HasFile told name script_limit (λ bytes. script_of_bytes bytes ≡ Err fault)

-- the file of this name is a script, and its player stands in one of the earlier ones
pub record IsRepeated (told : Option Files) (name : List ℕ) (earlier : List Script) : Type 0 where
  pub script : Script
  pub has : HasScript told name script
  pub repeats : has_player earlier script.player ≡ true

-- why a run stopped when it loaded and read its world
abbrev pub IsWorldCause : FileNames → StoreState → StoreState → Status → Type 0
IsWorldCause names before after (ReadFault zero) = Rose (before.faults names.world) (after.faults names.world)
IsWorldCause names before after (TooLong zero) = IsLong before after names.world world_limit
IsWorldCause names before after (WorldRefused fault) = IsNoWorld before.files names fault
IsWorldCause names before after OutOfMemory = Unit {0}
IsWorldCause names before after _ = ⊥

-- the ending of a run whose script of this number has this fault
abbrev pub refusal : ℕ → ScriptFault → Status
refusal number script_faults.Memory = OutOfMemory
refusal number fault = ScriptRefused number fault

-- why a run stopped when it loaded and read the file of this name as a script
abbrev pub IsLoadCause : List ℕ → StoreState → StoreState → Status → Type 0
IsLoadCause name before after (ReadFault file) = Rose (before.faults name) (after.faults name)
IsLoadCause name before after (TooLong file) = IsLong before after name script_limit
IsLoadCause name before after (ScriptRefused script fault) = IsNoScript before.files name fault
IsLoadCause name before after OutOfMemory = Unit {0}
IsLoadCause name before after _ = ⊥

-- why a run stopped at the script of this name, behind these
abbrev pub IsScriptCause : List ℕ → List Script → StoreState → StoreState → Status → Type 0
IsScriptCause name earlier before after (DuplicatePlayer script) = IsRepeated before.files name earlier
IsScriptCause name earlier before after status = IsLoadCause name before after status

-- the status names the script of this number
abbrev pub IsOfScript : ℕ → Status → Type 0
IsOfScript number (ReadFault file) = file ≡ number
IsOfScript number (TooLong file) = file ≡ number
IsOfScript number (ScriptRefused script fault) = script ≡ number
IsOfScript number (DuplicatePlayer script) = script ≡ number
IsOfScript number OutOfMemory = Unit {0}
IsOfScript number _ = ⊥

-- Why a run stopped at its scripts: the earlier ones were read, between their loads and the last one the store showed
-- this, and the next file stopped it.
pub record StopsAtScript (names : List (List ℕ)) (before after : StoreState) (status : Status) : Type 0 where
  pub earlier : List Script
  pub read : AreScripts before.files names earlier
  pub left : length earlier < length names
  pub number : IsOfScript (suc (length earlier)) status
  pub between : StoreState
  pub later : IsLater before between
  pub stays : between.files ≡ before.files
  pub cause : IsScriptCause (get_or names (length earlier) []) earlier between after status

-- the world was read before, and between its load and those of the scripts the store showed this
pub record IsLaterCause (names : FileNames) (before after : StoreState) (status : Status) : Type 0 where
  pub world : WorldIsRead before.files names
  pub between : StoreState
  pub later : IsLater before between
  pub stays : between.files ≡ before.files
  pub cause : StopsAtScript names.scripts between after status

-- Why a run stopped before it saved: the first thing that went wrong, of the world's file and then of the scripts in
-- order.
abbrev pub IsCause : FileNames → StoreState → StoreState → Status → Type 0
IsCause names before after (ReadFault zero) = IsWorldCause names before after (ReadFault zero)
IsCause names before after (ReadFault (suc script)) = IsLaterCause names before after (ReadFault (suc script))
IsCause names before after (TooLong zero) = IsWorldCause names before after (TooLong zero)
IsCause names before after (TooLong (suc script)) = IsLaterCause names before after (TooLong (suc script))
IsCause names before after (WorldRefused fault) = IsWorldCause names before after (WorldRefused fault)
IsCause names before after (ScriptRefused script fault) = IsLaterCause names before after (ScriptRefused script fault)
IsCause names before after (DuplicatePlayer script) = IsLaterCause names before after (DuplicatePlayer script)
IsCause names before after OutOfMemory = Unit {0}
IsCause names before after _ = ⊥
