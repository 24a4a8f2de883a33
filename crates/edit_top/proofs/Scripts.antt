-- Scripts that are read one after the other.
use Rattle.std.proofs.Common.{◌≡◌, ℕ, zero, suc, ◌-◌, ◌<◌, ◌≤◌, false, List, [], ◌∷◌, ◌++◌, length, map, take, get_or, Option, Some, None, Result, Ok, Err, refl, sym, ap, ◌∙◌, subst, inl, inr, arith}
use Rattle.std.specs.Prelude.{All, slice_get, IfErr, IsErrAnd, IsSomeAnd}
use Rattle.std.proofs.lemmas.Bool.{cases_lt}
use Rattle.std.proofs.lemmas.List.{get_or-map, get_or_append_left, length-append, take-append-le}
use Rattle.std.proofs.lemmas.List.Elements.{All-append, All-cons, All-nil}
use Rattle.std.proofs.Math.Seq.{get_or-append_seam, take-append_seam}
use Rattle.edit_terms.specs.declared.script.Script.{Script}
use Rattle.run_ports.specs.Store.{Files, StoreState, IsLater, IsLoaded}
use Rattle.run_terms.specs.Limits.{IsScriptWithin}
use Rattle.command_syntax.specs.declared.fault.ScriptFault.{ScriptFault}
use Rattle.command_syntax.specs.declared.fault.ScriptFault.TheVariants as faults
use Rattle.command_syntax.specs.Read.{IsScriptFault}
use Rattle.command_syntax.specs.Script.{script_of_bytes}
use Rattle.edit_top.specs.declared.status.Status.{Status}
use Rattle.edit_top.specs.declared.status.Status.TheVariants.{Done, Usage, ReadFault, TooLong, WorldRefused, ScriptRefused, DuplicatePlayer, TooManyJobs, SaveFault, PrintFault, OutOfMemory}
use Rattle.edit_top.specs.Words.{FileNames}
use Rattle.edit_top.specs.Status.{file_name}
use Rattle.edit_top.specs.Reading.{HasScript, script_limit, has_player, AreScripts, IsNoScript, refusal, IsLoadCause, IsScriptCause, IsOfScript, StopsAtScript}

-- no script is read
pub none_read : (told : Option Files) (names : List (List ℕ)) → AreScripts told names []
none_read told names = record { each = λ k d within. absurd (omega (arith, within)); distinct = λ k d within. absurd (omega (arith, within)) }

-- one script more
pub read_then : (told : Option Files) (names : List (List ℕ)) (scripts : List Script) (script : Script) → AreScripts told names scripts → HasScript told (get_or names (length scripts) []) script
    → has_player scripts script.player ≡ false → AreScripts told names (scripts ++ script ∷ [])
read_then told names scripts script read has new = record {
  each = λ k d within. elim (cases_lt k (length scripts)) [
    | inl below ↦ subst (λ (s : Script). HasScript told (get_or names k []) s) (sym (get_or_append_left scripts (script ∷ []) d k below)) (read.each k d below)
    | inr past ↦
        let last : k ≡ length scripts = last_place k within past in
        subst (λ (n : ℕ). HasScript told (get_or names n []) (get_or (scripts ++ script ∷ []) n d)) (sym last)
        (subst (λ (s : Script). HasScript told (get_or names (length scripts) []) s) (sym (get_or-append_seam scripts script [] d)) has)
  ];
  distinct = λ k d within. elim (cases_lt k (length scripts)) [
    | inl below ↦
        ap (λ (ss : List Script). has_player ss (get_or (scripts ++ script ∷ []) k d).player) (take-append-le k scripts (script ∷ []) (omega (arith, below)))
        ∙ ap (λ (s : Script). has_player (take k scripts) s.player) (get_or_append_left scripts (script ∷ []) d k below)
        ∙ read.distinct k d below
    | inr past ↦
        let last : k ≡ length scripts = last_place k within past in
        ap (λ (n : ℕ). has_player (take n (scripts ++ script ∷ [])) (get_or (scripts ++ script ∷ []) n d).player) last
        ∙ ap (λ (ss : List Script). has_player ss (get_or (scripts ++ script ∷ []) (length scripts) d).player) (take-append_seam scripts (script ∷ []))
        ∙ ap (λ (s : Script). has_player scripts s.player) (get_or-append_seam scripts script [] d)
        ∙ new
  ];
}
  where
    last_place : (k : ℕ) → k < length (scripts ++ script ∷ []) → length scripts ≤ k → k ≡ length scripts
    last_place k within past = omega (arith, within, past, length-append scripts (script ∷ []))

-- one script more within the limits
pub within_then : (scripts : List Script) (script : Script) → All IsScriptWithin scripts → IsScriptWithin script → All IsScriptWithin (scripts ++ script ∷ [])
within_then scripts script within one = All-append IsScriptWithin scripts (script ∷ []) within (All-cons IsScriptWithin script [] one (All-nil IsScriptWithin))

-- a name by its place
pub name_at : {S : Type 0} (f : S → List ℕ) (names : List S) (i : ℕ) (name : S) → i < length names → name ≡ get_or names i name → get_or (map f names) i [] ≡ f name
name_at f names i name within there = get_or-map f names i name [] within ∙ ap f (sym there)

-- a script that stops a run behind others
pub stops_at : (names : List (List ℕ)) (before mid after : StoreState) (earlier : List Script) (name : List ℕ) (status : Status) → AreScripts before.files names earlier → length earlier < length names
    → get_or names (length earlier) [] ≡ name → IsOfScript (suc (length earlier)) status → IsLater before mid → mid.files ≡ before.files → IsScriptCause name earlier mid after status → StopsAtScript names before after status
stops_at names before mid after earlier name status read left named number later stays cause = record {
  earlier = earlier;
  read = read;
  left = left;
  number = number;
  between = mid;
  later = later;
  stays = stays;
  cause = subst (λ (n : List ℕ). IsScriptCause n earlier mid after status) (sym named) cause;
}

-- what stopped a load stops the run, whatever scripts stand before
pub stops_run : (name : List ℕ) (earlier : List Script) (before after : StoreState) (status : Status) → IsLoadCause name before after status → IsScriptCause name earlier before after status
stops_run name earlier before after Done cause = cause
stops_run name earlier before after Usage cause = cause
stops_run name earlier before after (ReadFault file) cause = cause
stops_run name earlier before after (TooLong file) cause = cause
stops_run name earlier before after (WorldRefused fault) cause = cause
stops_run name earlier before after (ScriptRefused script fault) cause = cause
stops_run name earlier before after (DuplicatePlayer script) cause = absurd cause
stops_run name earlier before after (TooManyJobs jobs) cause = cause
stops_run name earlier before after SaveFault cause = cause
stops_run name earlier before after PrintFault cause = cause
stops_run name earlier before after OutOfMemory cause = cause

-- an error that is this status
pub err_is : {A : Type 0} (result : Result A Status) (P : Status → Type 0) (status : Status) → IsErrAnd result (λ s. s ≡ status) → P status → IfErr result P
err_is (Ok x) P status is holds = tt
err_is (Err s) P status is holds = subst P (sym is) holds

-- loaded bytes that are refused as a script
pub no_script : (told : Option Files) (name bytes : List ℕ) (fault : ScriptFault) → IsLoaded told name bytes → length bytes ≤ script_limit → script_of_bytes bytes ≡ Err fault → IsNoScript told name fault
no_script None name bytes fault loaded within refused = tt
no_script (Some files) name bytes fault loaded within refused =
    subst (λ (file : Option (List ℕ)). IsSomeAnd file (λ bs. (length bs ≤ script_limit) × (script_of_bytes bs ≡ Err fault))) (sym loaded) (within, refused)

-- the ending by a fault of the loaded bytes has its cause
pub refusal_stops : (number : ℕ) (name bytes : List ℕ) (before after : StoreState) (fault : ScriptFault) → IsLoaded before.files name bytes → length bytes ≤ script_limit → IsScriptFault (script_of_bytes bytes) fault
    → IsLoadCause name before after (refusal number fault)
refusal_stops number name bytes before after (faults.NotAscii byte) loaded within refused = no_script before.files name bytes (faults.NotAscii byte) loaded within refused
refusal_stops number name bytes before after faults.NoPlayer loaded within refused = no_script before.files name bytes faults.NoPlayer loaded within refused
refusal_stops number name bytes before after faults.BadPlayer loaded within refused = no_script before.files name bytes faults.BadPlayer loaded within refused
refusal_stops number name bytes before after faults.TooManyLines loaded within refused = no_script before.files name bytes faults.TooManyLines loaded within refused
refusal_stops number name bytes before after (faults.Line line fault) loaded within refused = no_script before.files name bytes (faults.Line line fault) loaded within refused.is
refusal_stops number name bytes before after faults.Memory loaded within refused = tt

-- and names the script of its number
pub refusal_of_script : (number : ℕ) (fault : ScriptFault) → IsOfScript number (refusal number fault)
refusal_of_script number (faults.NotAscii byte) = refl
refusal_of_script number faults.NoPlayer = refl
refusal_of_script number faults.BadPlayer = refl
refusal_of_script number faults.TooManyLines = refl
refusal_of_script number (faults.Line line fault) = refl
refusal_of_script number faults.Memory = tt

-- a name that is found at its place
pub name_there : {S : Type 0} (f : S → List ℕ) (names : List S) (i : ℕ) (name : S) → slice_get names i ≡ Some name → f name ≡ get_or (map f names) i []
name_there f [] i name found = absurd cc
name_there f (n ∷ ns) zero name found = cc
name_there f (n ∷ ns) (suc i) name found = name_there f ns i name found

-- the name of a script by its number
pub file_name_script : (names : FileNames) (number : ℕ) → 0 < number → file_name names number ≡ get_or names.scripts (number - 1) []
file_name_script names zero positive = absurd (omega (arith, positive))
file_name_script names (suc script) positive =
    let before : script ≡ suc script - 1 = omega arith in
    ap (λ (place : ℕ). get_or names.scripts place []) before
