-- Good words and files end well: each cause of a refusal contradicts them.
use Rattle.std.proofs.Common.{◌≡◌, ℕ, zero, suc, ◌<◌, ◌≤◌, true, false, List, [], length, take, get_or, Option, Some, None, Result, Ok, Err, refl, sym, ap, ◌∙◌, subst, arith}
use Rattle.std.specs.Prelude.{IfSome, IsSomeAnd}
use Rattle.std.proofs.lemmas.List.{ext_get_or, get_or-take, length-take-le, take_all}
use Rattle.edit_terms.specs.declared.script.Script.{Script}
use Rattle.run_ports.specs.Count.{Rose}
use Rattle.run_ports.specs.Store.{Files, StoreState, IsLater, IsTooLong}
use Rattle.run_ports.specs.Output.{OutputState}
use Rattle.edit_top.specs.declared.status.Status.{Status}
use Rattle.edit_top.specs.declared.status.Status.TheVariants.{Done, Usage, ReadFault, TooLong, WorldRefused, ScriptRefused, DuplicatePlayer, TooManyJobs, SaveFault, PrintFault, OutOfMemory}
use Rattle.edit_top.specs.Words.{Asked, FileNames, asked_by}
use Rattle.run_terms.specs.Access.{accesses_of}
use Rattle.command_plan.specs.Plan.{most_jobs}
use Rattle.sponge_schematic.specs.declared.fault.WorldFault.{WorldFault}
use Rattle.sponge_schematic.specs.Carried.{Loaded}
use Rattle.sponge_schematic.specs.Schematic.{schematic_of}
use Rattle.command_syntax.specs.declared.fault.ScriptFault.{ScriptFault}
use Rattle.command_syntax.specs.Script.{script_of_bytes}
use Rattle.edit_top.specs.Reading.{HasFile, HasWorld, HasScript, has_player, AreScripts, AreAllScripts, world_limit, script_limit, IsNoScript, IsRepeated, IsScriptCause, IsLaterCause}
use Rattle.edit_top.specs.Ends.{workload, Ends, IsStopped, IsStopCause, IsTooMuch, IsGood, NothingFailed, IsDoneOrMemory}
use Rattle.edit_top.proofs.Messages.{rose_since}
use Rattle.edit_top.proofs.Saving.{later_then}

-- what two facts about the bytes of a told file give together
both_hold : {X : Type 0} (told : Option Files) (files : Files) (name : List ℕ) (P Q : List ℕ → Type 0) → told ≡ Some files
    → IfSome told (λ fs. IsSomeAnd (fs name) P) → IfSome told (λ fs. IsSomeAnd (fs name) Q) → ((bytes : List ℕ) → P bytes → Q bytes → X) → X
both_hold {X} None files name P Q tells p q both = absurd cc
both_hold {X} (Some fs) files name P Q tells p q both = by_file (fs name) p q
  where
    by_file : (file : Option (List ℕ)) → IsSomeAnd file P → IsSomeAnd file Q → X
    by_file None p q = absurd p
    by_file (Some bytes) p q = both bytes p q

-- a file that is read isn't refused
pub not_refused : {A E : Type 0} (told : Option Files) (files : Files) (name : List ℕ) (limit : ℕ) (reading : List ℕ → Result A E) (a : A) (e : E) → told ≡ Some files
    → HasFile told name limit (λ bytes. reading bytes ≡ Ok a) → HasFile told name limit (λ bytes. reading bytes ≡ Err e) → ⊥
not_refused {A} {E} told files name limit reading a e tells good bad =
    both_hold told files name (λ bytes. (length bytes ≤ limit) × (reading bytes ≡ Ok a)) (λ bytes. (length bytes ≤ limit) × (reading bytes ≡ Err e)) tells good bad
    (λ bytes p q. differ (sym p.1 ∙ q.1))
  where
    differ : (◌≡◌ {A = Result A E} (Ok a) (Err e)) → ⊥
    differ h = cc

-- nor is it too long
pub not_long : (told : Option Files) (files : Files) (name : List ℕ) (limit : ℕ) (P : List ℕ → Type 0) → told ≡ Some files → HasFile told name limit P → IsTooLong told name limit → ⊥
not_long told files name limit P tells good long =
    both_hold told files name (λ bytes. (length bytes ≤ limit) × P bytes) (λ bytes. limit < length bytes) tells good long (λ bytes p q. omega (arith, p.0, q))

-- a told file is one script
same_script : (told : Option Files) (files : Files) (name : List ℕ) (s t : Script) → told ≡ Some files → HasScript told name s → HasScript told name t → s ≡ t
same_script told files name s t tells has had =
    both_hold told files name (λ bytes. (length bytes ≤ script_limit) × (script_of_bytes bytes ≡ Ok s)) (λ bytes. (length bytes ≤ script_limit) × (script_of_bytes bytes ≡ Ok t)) tells has had
    (λ bytes p q. ok_inside (sym p.1 ∙ q.1))
  where
    ok_inside : (◌≡◌ {A = Result Script ScriptFault} (Ok s) (Ok t)) → s ≡ t
    ok_inside h = cc

-- scripts that were read are the first of all
same_front : (told : Option Files) (files : Files) (names : List (List ℕ)) (earlier all : List Script) (d : Script) → told ≡ Some files → AreScripts told names earlier → AreScripts told names all
    → length earlier ≤ length all → earlier ≡ take (length earlier) all
same_front told files names earlier all d tells read good few =
    ext_get_or d earlier (take (length earlier) all) (sym (length-take-le (length earlier) all few))
    (λ k within. same_script told files (get_or names k []) (get_or earlier k d) (get_or all k d) tells (read.each k d within) (good.each k d (omega (arith, within, few)))
    ∙ sym (get_or-take (length earlier) all k d within))

-- a script of all that stand in files
script_at : (told : Option Files) (names : List (List ℕ)) (all : List Script) (k : ℕ) (d : Script) → AreAllScripts told names all → k < length names → HasScript told (get_or names k []) (get_or all k d)
script_at told names all k d good within = good.read.each k d (omega (arith, within, good.count))

-- a player of distinct ones stands in no earlier script
not_repeated : (told : Option Files) (files : Files) (names : List (List ℕ)) (all earlier : List Script) → told ≡ Some files → AreAllScripts told names all → AreScripts told names earlier → length earlier < length names
    → IsRepeated told (get_or names (length earlier) []) earlier → ⊥
not_repeated told files names all earlier tells good read left repeated =
    let d : Script = repeated.script in
    let n : ℕ = length earlier in
    let inside : n < length all = omega (arith, left, good.count) in
    let same : repeated.script ≡ get_or all n d = same_script told files (get_or names n []) repeated.script (get_or all n d) tells repeated.has (script_at told names all n d good left) in
    let front : earlier ≡ take n all = same_front told files names earlier all d tells read good.read (omega (arith, inside)) in
    let new : has_player earlier repeated.script.player ≡ false =
    ap (λ (s : Script). has_player earlier s.player) same ∙ ap (λ (ss : List Script). has_player ss (get_or all n d).player) front ∙ good.read.distinct n d inside in
    differ (sym repeated.repeats ∙ new)
  where
    differ : true ≡ false → ⊥
    differ h = cc

-- no script stops a run where all are good and no load failed
no_script_cause : (told : Option Files) (files : Files) (names : List (List ℕ)) (all earlier : List Script) (before between after : StoreState) → told ≡ Some files → AreAllScripts told names all
    → AreScripts told names earlier → length earlier < length names → between.files ≡ told → IsLater before between → ((name : List ℕ) → ¬ Rose (before.faults name) (after.faults name))
    → (status : Status) → IsScriptCause (get_or names (length earlier) []) earlier between after status → IsDoneOrMemory status
no_script_cause told files names all earlier before between after tells good read left same later steady = by_status
  where
    some : Script
    some = record { player = []; lines = [] }

    by_status : (status : Status) → IsScriptCause (get_or names (length earlier) []) earlier between after status → IsDoneOrMemory status
    by_status Done cause = absurd cause
    by_status Usage cause = absurd cause
    by_status (ReadFault file) cause =
        let name = get_or names (length earlier) [] in
        absurd (steady name (rose_since (before.faults name) (between.faults name) (after.faults name) (later.faults name) cause))
    by_status (TooLong file) cause =
        absurd (not_long told files (get_or names (length earlier) []) script_limit (λ bytes. script_of_bytes bytes ≡ Ok (get_or all (length earlier) some)) tells (script_at told names all (length earlier) some good left)
        (subst (λ (f : Option Files). IsTooLong f (get_or names (length earlier) []) script_limit) same cause.long))
    by_status (WorldRefused fault) cause = absurd cause
    by_status (ScriptRefused number fault) cause =
        absurd (not_refused told files (get_or names (length earlier) []) script_limit script_of_bytes (get_or all (length earlier) some) fault tells (script_at told names all (length earlier) some good left)
        (subst (λ (f : Option Files). IsNoScript f (get_or names (length earlier) []) fault) same cause))
    by_status (DuplicatePlayer number) cause =
        absurd (not_repeated told files names all earlier tells good read left (subst (λ (f : Option Files). IsRepeated f (get_or names (length earlier) []) earlier) same cause))
    by_status (TooManyJobs jobs) cause = absurd cause
    by_status SaveFault cause = absurd cause
    by_status PrintFault cause = absurd cause
    by_status OutOfMemory cause = tt

-- a later cause leaves only want of memory
no_later_cause : (told : Option Files) (files : Files) (names : FileNames) (all : List Script) (before after : StoreState) → told ≡ Some files → before.files ≡ told → AreAllScripts told names.scripts all
    → ((name : List ℕ) → ¬ Rose (before.faults name) (after.faults name)) → (status : Status) → IsLaterCause names before after status → IsDoneOrMemory status
no_later_cause told files names all before after tells same good steady status cause =
    let stop = cause.cause in
    let mid : cause.between.files ≡ told = cause.stays ∙ same in
    no_script_cause told files names.scripts all stop.earlier before stop.between after tells good (subst (λ (f : Option Files). AreScripts f names.scripts stop.earlier) mid stop.read) stop.left (stop.stays ∙ mid)
    (later_then before cause.between stop.between cause.later stop.later) steady status stop.cause

-- a told file is one world
same_world : (told : Option Files) (files : Files) (names : FileNames) (a b : Loaded) → told ≡ Some files → HasWorld told names a → HasWorld told names b → a ≡ b
same_world told files names a b tells has had =
    both_hold told files names.world (λ bytes. (length bytes ≤ world_limit) × (schematic_of bytes ≡ Ok a)) (λ bytes. (length bytes ≤ world_limit) × (schematic_of bytes ≡ Ok b)) tells has had
    (λ bytes p q. ok_inside (sym p.1 ∙ q.1))
  where
    ok_inside : (◌≡◌ {A = Result Loaded WorldFault} (Ok a) (Ok b)) → a ≡ b
    ok_inside h = cc

-- told files are one list of scripts
same_scripts : (told : Option Files) (files : Files) (names : List (List ℕ)) (some all : List Script) → told ≡ Some files → AreAllScripts told names some → AreAllScripts told names all → some ≡ all
same_scripts told files names some all tells has had =
    let d : Script = record { player = []; lines = [] } in
    let long : length some ≡ length all = has.count ∙ sym had.count in
    same_front told files names some all d tells has.read had.read (omega (arith, long)) ∙ take_all (length some) all (omega (arith, long))

-- good words and files aren't too much for a plan
not_too_much : (asked : Asked) (told : Option Files) (files : Files) (loaded : Loaded) (scripts : List Script) (jobs : ℕ) → told ≡ Some files → HasWorld told asked.names loaded
    → AreAllScripts told asked.names.scripts scripts → accesses_of (workload asked loaded scripts) ≤ most_jobs → IsTooMuch asked told jobs → ⊥
not_too_much asked told files loaded scripts jobs tells world read few cause =
    let world_is : cause.loaded ≡ loaded = same_world told files asked.names cause.loaded loaded tells cause.world world in
    let scripts_are : cause.scripts ≡ scripts = same_scripts told files asked.names.scripts cause.scripts scripts tells cause.read read in
    let sum : jobs ≡ accesses_of (workload asked loaded scripts) =
    cause.many.all ∙ ap (λ (l : Loaded). accesses_of (workload asked l cause.scripts)) world_is ∙ ap (λ (ss : List Script). accesses_of (workload asked loaded ss)) scripts_are in
    omega (arith, few, cause.many.many, sum)

-- Good words and files end well where nothing outside fails.
pub ends_well : (words : List (List ℕ)) (before after : StoreState) (shown told : OutputState) (status : Status) → Ends words before after shown told status → IsGood words before.files
    → NothingFailed before after shown told → IsDoneOrMemory status
ends_well words before after shown told status ends good steady = by_status status ends
  where
    same_asked : (asked : Asked) → asked_by words ≡ Some asked → asked ≡ good.asked
    same_asked asked are = inside (sym are ∙ good.are)
      where
        inside : (◌≡◌ {A = Option Asked} (Some asked) (Some good.asked)) → asked ≡ good.asked
        inside h = cc

    cause_here : (status : Status) (stop : IsStopped words before after shown told status) → IsStopCause good.asked before after status
    cause_here status stop = subst (λ (a : Asked). IsStopCause a before after status) (same_asked stop.asked stop.are) stop.cause

    later_here : (status : Status) → IsLaterCause good.asked.names before after status → IsDoneOrMemory status
    later_here status cause = no_later_cause before.files good.files good.asked.names good.scripts before after good.tells refl good.read steady.loads status cause

    by_cause : (status : Status) → IsStopCause good.asked before after status → IsDoneOrMemory status
    by_cause Done cause = absurd cause
    by_cause Usage cause = absurd cause
    by_cause (ReadFault zero) cause = absurd (steady.loads good.asked.names.world cause)
    by_cause (ReadFault (suc script)) cause = later_here (ReadFault (suc script)) cause
    by_cause (TooLong zero) cause =
        absurd (not_long before.files good.files good.asked.names.world world_limit (λ bytes. schematic_of bytes ≡ Ok good.loaded) good.tells good.world cause.long)
    by_cause (TooLong (suc script)) cause = later_here (TooLong (suc script)) cause
    by_cause (WorldRefused fault) cause = absurd (not_refused before.files good.files good.asked.names.world world_limit schematic_of good.loaded fault good.tells good.world cause)
    by_cause (ScriptRefused script fault) cause = later_here (ScriptRefused script fault) cause
    by_cause (DuplicatePlayer script) cause = later_here (DuplicatePlayer script) cause
    by_cause (TooManyJobs jobs) cause = absurd (not_too_much good.asked before.files good.files good.loaded good.scripts jobs good.tells good.world good.read good.few cause)
    by_cause SaveFault cause = absurd cause
    by_cause PrintFault cause = absurd cause
    by_cause OutOfMemory cause = tt

    by_status : (status : Status) → Ends words before after shown told status → IsDoneOrMemory status
    by_status Done ends = tt
    by_status Usage ends = absurd (apart (sym ends.words_are ∙ good.are))
      where
        apart : (◌≡◌ {A = Option Asked} None (Some good.asked)) → ⊥
        apart h = cc
    by_status (ReadFault file) ends = by_cause (ReadFault file) (cause_here (ReadFault file) ends)
    by_status (TooLong file) ends = by_cause (TooLong file) (cause_here (TooLong file) ends)
    by_status (WorldRefused fault) ends = by_cause (WorldRefused fault) (cause_here (WorldRefused fault) ends)
    by_status (ScriptRefused script fault) ends = by_cause (ScriptRefused script fault) (cause_here (ScriptRefused script fault) ends)
    by_status (DuplicatePlayer script) ends = by_cause (DuplicatePlayer script) (cause_here (DuplicatePlayer script) ends)
    by_status (TooManyJobs jobs) ends = by_cause (TooManyJobs jobs) (cause_here (TooManyJobs jobs) ends)
    by_status SaveFault ends = absurd (steady.saves ends.run.asked.names.out ends.rose)
    by_status PrintFault ends = absurd (steady.puts ends.rose)
    by_status OutOfMemory ends = tt
