-- The endings of a drill.
use Rattle.std.proofs.Common.{◌≡◌, ℕ, List, Option, Some, None, sym, ◌∙◌}
use Rattle.run_ports.specs.Count.{Rose}
use Rattle.run_ports.specs.Output.{OutputState}
use Rattle.edit_top.specs.declared.status.Status.{Status}
use Rattle.edit_top.specs.declared.status.Status.TheVariants.{Done, Usage, ReadFault, TooLong, WorldRefused, ScriptRefused, DuplicatePlayer, TooManyJobs, SaveFault, PrintFault, OutOfMemory}
use Rattle.edit_top.specs.CheckEnds.{Prints}
use Rattle.edit_top.specs.DrillEnds.{DrillEnds, IsDrillOf, IsGoodDrill}
use Rattle.edit_top.specs.Ends.{IsDoneOrMemory, IsNoFailure}

-- a drill whose text was printed so ends so
pub drill_printed : (words : List (List ℕ)) (shown told : OutputState) (text : List ℕ) (status : Status) → IsDrillOf words text → Prints text shown told status → DrillEnds words shown told status
drill_printed words shown told text Done drill p = record { text = text; drill = drill; printed = p }
drill_printed words shown told text PrintFault drill p = record { text = text; drill = drill; part = p }
drill_printed words shown told text Usage drill p = absurd p
drill_printed words shown told text (ReadFault file) drill p = absurd p
drill_printed words shown told text (TooLong file) drill p = absurd p
drill_printed words shown told text (WorldRefused fault) drill p = absurd p
drill_printed words shown told text (ScriptRefused script fault) drill p = absurd p
drill_printed words shown told text (DuplicatePlayer script) drill p = absurd p
drill_printed words shown told text (TooManyJobs jobs) drill p = absurd p
drill_printed words shown told text SaveFault drill p = absurd p
drill_printed words shown told text OutOfMemory drill p = absurd p

-- Good words end well where the output doesn't fail.
pub drill_ends_well : (words : List (List ℕ)) (shown told : OutputState) (status : Status) → DrillEnds words shown told status → IsGoodDrill words → ¬ Rose shown.faults told.faults → IsDoneOrMemory status
drill_ends_well words shown told Done ends good steady = tt
drill_ends_well words shown told PrintFault ends good steady = absurd (steady ends.part.rose)
drill_ends_well words shown told Usage ends good steady = absurd (apart (sym ends.words_are ∙ good.are))
  where
    apart : (◌≡◌ {A = Option ℕ} None (Some good.number)) → ⊥
    apart h = cc
drill_ends_well words shown told OutOfMemory ends good steady = tt
drill_ends_well words shown told (ReadFault file) ends good steady = absurd ends
drill_ends_well words shown told (TooLong file) ends good steady = absurd ends
drill_ends_well words shown told (WorldRefused fault) ends good steady = absurd ends
drill_ends_well words shown told (ScriptRefused script fault) ends good steady = absurd ends
drill_ends_well words shown told (DuplicatePlayer script) ends good steady = absurd ends
drill_ends_well words shown told (TooManyJobs jobs) ends good steady = absurd ends
drill_ends_well words shown told SaveFault ends good steady = absurd ends

-- Where the output didn't fail, no ending says so.
pub drill_is_no_failure : (words : List (List ℕ)) (shown told : OutputState) (status : Status) → DrillEnds words shown told status → ¬ Rose shown.faults told.faults → IsNoFailure status
drill_is_no_failure words shown told Done ends steady = tt
drill_is_no_failure words shown told PrintFault ends steady = absurd (steady ends.part.rose)
drill_is_no_failure words shown told Usage ends steady = tt
drill_is_no_failure words shown told OutOfMemory ends steady = tt
drill_is_no_failure words shown told (ReadFault file) ends steady = absurd ends
drill_is_no_failure words shown told (TooLong file) ends steady = absurd ends
drill_is_no_failure words shown told (WorldRefused fault) ends steady = absurd ends
drill_is_no_failure words shown told (ScriptRefused script fault) ends steady = absurd ends
drill_is_no_failure words shown told (DuplicatePlayer script) ends steady = absurd ends
drill_is_no_failure words shown told (TooManyJobs jobs) ends steady = absurd ends
drill_is_no_failure words shown told SaveFault ends steady = absurd ends
