-- How the parts of a check make its ending, and that good words and a world end well.
use Rattle.std.proofs.Common.{◌≡◌, ℕ, zero, suc, List, Option, Some, None, Ok, refl, sym, ◌∙◌, subst}
use Rattle.std.specs.Prelude.{option_map}
use Rattle.run_ports.specs.Store.{StoreState}
use Rattle.run_ports.specs.Output.{OutputState}
use Rattle.sponge_schematic.specs.Schematic.{schematic_of}
use Rattle.edit_top.specs.declared.status.Status.{Status}
use Rattle.edit_top.specs.declared.status.Status.TheVariants.{Done, Usage, ReadFault, TooLong, WorldRefused, ScriptRefused, DuplicatePlayer, TooManyJobs, SaveFault, PrintFault, OutOfMemory}
use Rattle.edit_top.specs.Words.{FileNames}
use Rattle.edit_top.specs.Status.{fault_text}
use Rattle.edit_top.specs.Reading.{IsWorldCause, world_limit}
use Rattle.edit_top.specs.Ends.{IsPrinted, NothingFailed, IsDoneOrMemory, IsNoFailure}
use Rattle.edit_top.specs.CheckText.{checked_by, world_alone}
use Rattle.edit_top.specs.CheckEnds.{IsFileText, CheckEnds, IsCheckStopped, IsGoodCheck, Prints}
use Rattle.edit_top.proofs.Completeness.{not_refused, not_long}

-- the words name the world of these files
pub record AreNamed (words : List (List ℕ)) (names : FileNames) : Type 0 where
  pub name : List ℕ
  pub are : checked_by words ≡ Some name
  pub is : names ≡ world_alone name

pub are_named : (words : List (List ℕ)) (names : FileNames) → Some names ≡ option_map world_alone (checked_by words) → AreNamed words names
are_named words names h = by_words (checked_by words) refl h
  where
    by_words : (o : Option (List ℕ)) → checked_by words ≡ o → Some names ≡ option_map world_alone o → AreNamed words names
    by_words None is h = absurd cc
    by_words (Some name) is h = record { name = name; are = is; is = cc }

pub none_named : (words : List (List ℕ)) → None ≡ option_map world_alone (checked_by words) → checked_by words ≡ None
none_named words h = by_words (checked_by words) h
  where
    by_words : (o : Option (List ℕ)) → (◌≡◌ {A = Option FileNames} None (option_map world_alone o)) → o ≡ None
    by_words None h = refl
    by_words (Some name) h = absurd cc

module _ (words : List (List ℕ)) (names : FileNames) (named : AreNamed words names) (before after : StoreState) (stays : after.files ≡ before.files) (shown told : OutputState) where
  -- a check whose text was made ends as its print does
  pub ends_printed : (text : List ℕ) → IsFileText before.files names text → (status : Status) → Prints text shown told status → CheckEnds words before after shown told status
  ends_printed text file = by_status
    where
      here : IsFileText before.files (world_alone named.name) text
      here = subst (λ (n : FileNames). IsFileText before.files n text) named.is file

      by_status : (status : Status) → Prints text shown told status → CheckEnds words before after shown told status
      by_status Done p = record { text = text; check = record { name = named.name; are = named.are; file = here }; stays = stays; printed = p }
      by_status PrintFault p = record { text = text; check = record { name = named.name; are = named.are; file = here }; stays = stays; part = p }
      by_status Usage p = absurd p
      by_status (ReadFault file) p = absurd p
      by_status (TooLong file) p = absurd p
      by_status (WorldRefused fault) p = absurd p
      by_status (ScriptRefused script fault) p = absurd p
      by_status (DuplicatePlayer script) p = absurd p
      by_status (TooManyJobs jobs) p = absurd p
      by_status SaveFault p = absurd p
      by_status OutOfMemory p = absurd p

  -- a check that the world's file stopped ends so
  pub ends_refused : (status : Status) → IsWorldCause names before after status → IsPrinted shown told (fault_text names status) → CheckEnds words before after shown told status
  ends_refused status cause message = by_status status (subst (λ (n : FileNames). IsWorldCause n before after status) named.is cause) (subst (λ (n : FileNames). IsPrinted shown told (fault_text n status)) named.is message)
    where
      stopped : (status : Status) → IsWorldCause (world_alone named.name) before after status → IsPrinted shown told (fault_text (world_alone named.name) status) → IsCheckStopped words before after shown told status
      stopped status cause message = record { name = named.name; are = named.are; cause = cause; stays = stays; message = message }

      by_status : (status : Status) → IsWorldCause (world_alone named.name) before after status → IsPrinted shown told (fault_text (world_alone named.name) status) → CheckEnds words before after shown told status
      by_status Done cause message = absurd cause
      by_status PrintFault cause message = absurd cause
      by_status Usage cause message = absurd cause
      by_status (ReadFault file) cause message = stopped (ReadFault file) cause message
      by_status (TooLong file) cause message = stopped (TooLong file) cause message
      by_status (WorldRefused fault) cause message = stopped (WorldRefused fault) cause message
      by_status (ScriptRefused script fault) cause message = stopped (ScriptRefused script fault) cause message
      by_status (DuplicatePlayer script) cause message = stopped (DuplicatePlayer script) cause message
      by_status (TooManyJobs jobs) cause message = stopped (TooManyJobs jobs) cause message
      by_status SaveFault cause message = stopped SaveFault cause message
      by_status OutOfMemory cause message = stopped OutOfMemory cause message

-- Good words and a world end well where nothing outside fails.
pub check_ends_well : (words : List (List ℕ)) (before after : StoreState) (shown told : OutputState) (status : Status) → CheckEnds words before after shown told status → IsGoodCheck words before.files
    → NothingFailed before after shown told → IsDoneOrMemory status
check_ends_well words before after shown told status ends good steady = by_status status ends
  where
    same_name : (name : List ℕ) → checked_by words ≡ Some name → name ≡ good.name
    same_name name are = inside (sym are ∙ good.are)
      where
        inside : (◌≡◌ {A = Option (List ℕ)} (Some name) (Some good.name)) → name ≡ good.name
        inside h = cc

    cause_here : (status : Status) → IsCheckStopped words before after shown told status → IsWorldCause (world_alone good.name) before after status
    cause_here status stop = subst (λ (n : List ℕ). IsWorldCause (world_alone n) before after status) (same_name stop.name stop.are) stop.cause

    by_cause : (status : Status) → IsWorldCause (world_alone good.name) before after status → IsDoneOrMemory status
    by_cause Done cause = absurd cause
    by_cause Usage cause = absurd cause
    by_cause (ReadFault zero) cause = absurd (steady.loads good.name cause)
    by_cause (ReadFault (suc script)) cause = absurd cause
    by_cause (TooLong zero) cause = absurd (not_long before.files good.files good.name world_limit (λ bytes. schematic_of bytes ≡ Ok good.loaded) good.tells good.world cause.long)
    by_cause (TooLong (suc script)) cause = absurd cause
    by_cause (WorldRefused fault) cause = absurd (not_refused before.files good.files good.name world_limit schematic_of good.loaded fault good.tells good.world cause)
    by_cause (ScriptRefused script fault) cause = absurd cause
    by_cause (DuplicatePlayer script) cause = absurd cause
    by_cause (TooManyJobs jobs) cause = absurd cause
    by_cause SaveFault cause = absurd cause
    by_cause PrintFault cause = absurd cause
    by_cause OutOfMemory cause = tt

    by_status : (status : Status) → CheckEnds words before after shown told status → IsDoneOrMemory status
    by_status Done ends = tt
    by_status PrintFault ends = absurd (steady.puts ends.part.rose)
    by_status Usage ends = absurd (apart (sym ends.words_are ∙ good.are))
      where
        apart : (◌≡◌ {A = Option (List ℕ)} None (Some good.name)) → ⊥
        apart h = cc
    by_status (ReadFault file) ends = by_cause (ReadFault file) (cause_here (ReadFault file) ends)
    by_status (TooLong file) ends = by_cause (TooLong file) (cause_here (TooLong file) ends)
    by_status (WorldRefused fault) ends = by_cause (WorldRefused fault) (cause_here (WorldRefused fault) ends)
    by_status (ScriptRefused script fault) ends = by_cause (ScriptRefused script fault) (cause_here (ScriptRefused script fault) ends)
    by_status (DuplicatePlayer script) ends = by_cause (DuplicatePlayer script) (cause_here (DuplicatePlayer script) ends)
    by_status (TooManyJobs jobs) ends = by_cause (TooManyJobs jobs) (cause_here (TooManyJobs jobs) ends)
    by_status SaveFault ends = by_cause SaveFault (cause_here SaveFault ends)
    by_status OutOfMemory ends = tt

-- Where nothing outside failed, no ending says so.
pub check_is_no_failure : (words : List (List ℕ)) (before after : StoreState) (shown told : OutputState) (status : Status) → CheckEnds words before after shown told status → NothingFailed before after shown told → IsNoFailure status
check_is_no_failure words before after shown told Done ends steady = tt
check_is_no_failure words before after shown told PrintFault ends steady = absurd (steady.puts ends.part.rose)
check_is_no_failure words before after shown told Usage ends steady = tt
check_is_no_failure words before after shown told (ReadFault zero) ends steady = absurd (steady.loads ends.name ends.cause)
check_is_no_failure words before after shown told (ReadFault (suc script)) ends steady = absurd ends.cause
check_is_no_failure words before after shown told (TooLong file) ends steady = tt
check_is_no_failure words before after shown told (WorldRefused fault) ends steady = tt
check_is_no_failure words before after shown told (ScriptRefused script fault) ends steady = tt
check_is_no_failure words before after shown told (DuplicatePlayer script) ends steady = tt
check_is_no_failure words before after shown told (TooManyJobs jobs) ends steady = tt
check_is_no_failure words before after shown told SaveFault ends steady = absurd ends.cause
check_is_no_failure words before after shown told OutOfMemory ends steady = tt
