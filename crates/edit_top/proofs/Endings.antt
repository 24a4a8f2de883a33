-- How the parts of a run make its ending.
use Rattle.std.proofs.Common.{◌≡◌, ℕ, List, [], ◌∷◌, ◌++◌, map, Option, Some, None, subst}
use Rattle.run_terms.specs.Reply.{replies_of}
use Rattle.run_ports.specs.Count.{Rose}
use Rattle.run_ports.specs.Store.{Files, StoreState, IsLater, IsSaved, IsTorn}
use Rattle.run_ports.specs.Output.{OutputState, IsAppended, IsPartlyAppended}
use Rattle.edit_top.specs.declared.top_call.Prepared.{Prepared}
use Rattle.edit_top.specs.declared.status.Status.{Status}
use Rattle.edit_top.specs.declared.status.Status.TheVariants.{Done, Usage, ReadFault, TooLong, WorldRefused, ScriptRefused, DuplicatePlayer, TooManyJobs, SaveFault, PrintFault, OutOfMemory}
use Rattle.edit_top.specs.Words.{Asked, asked_by}
use Rattle.edit_top.specs.Outputs.{output_view, AreSaved, StopsSaving}
use Rattle.edit_top.specs.Ends.{workload, IsRunOf, IsPrinted, saved_file, IsStopCause, Ends}
use Rattle.edit_top.specs.RunText.{run_text}
use Rattle.edit_top.specs.ShownOrder.{order_shown}
use Rattle.edit_top.specs.Status.{fault_text}
use Rattle.edit_top.specs.Prepared.{IsPrepared, Finishes}
use Rattle.edit_top.proofs.Messages.{rose_since}
use Rattle.edit_top.proofs.ShownOrder.{order_shown-text_of_order}

-- the text of the order that was prepared shows it
shown_by : (asked : Asked) (told : Option Files) (prepared : Prepared) (made : IsPrepared asked told prepared)
    → order_shown made.scripts (run_text (workload asked made.loaded made.scripts) made.made.order) ≡ made.made.order
shown_by asked told prepared made =
    order_shown-text_of_order made.scripts (record { named = made.named; distinct = made.read.read.distinct }) made.made.order (replies_of (workload asked made.loaded made.scripts) made.made.order) made.made.legal

-- the run that was prepared
abbrev prepared_run : (words : List (List ℕ)) (asked : Asked) (told : Option Files) (prepared : Prepared) → asked_by words ≡ Some asked → IsPrepared asked told prepared → IsRunOf words told
prepared_run words asked told prepared are made = record {
  asked = asked;
  are = are;
  loaded = made.loaded;
  scripts = made.scripts;
  world = made.world;
  read = made.read;
  few = made.made.few;
  order = made.made.order;
  legal = made.made.legal;
  whole = made.made.whole;
  shown = shown_by asked told prepared made;
}

-- one file alone is saved
saved_one : (before after : Option Files) (name bytes : List ℕ) → AreSaved before after ((name, bytes) ∷ []) → IsSaved before after name bytes
saved_one before after name bytes saved = saved

-- nothing saved before a stop
none_saved : (before between : Option Files) → AreSaved before between [] → between ≡ before
none_saved None between saved = saved
none_saved (Some files) between saved = saved

-- a stop at the only file
torn_one : (before after : StoreState) (name bytes : List ℕ) → StopsSaving before after ((name, bytes) ∷ []) → IsTorn before.files after.files name bytes × Rose (before.save_faults name) (after.save_faults name)
torn_one before after name bytes stop = by_front stop.front stop.parts stop.saved
  where
    by_front : (front : List (List ℕ × List ℕ)) → (name, bytes) ∷ [] ≡ front ++ stop.output ∷ stop.rest → AreSaved before.files stop.between front → IsTorn before.files after.files name bytes × Rose (before.save_faults name) (after.save_faults name)
    by_front [] parts saved =
        let same : stop.output ≡ (name, bytes) = cc in
        let torn : IsTorn stop.between after.files name bytes = subst (λ (o : List ℕ × List ℕ). IsTorn stop.between after.files o.0 o.1) same stop.torn in (
          subst (λ (f : Option Files). IsTorn f after.files name bytes) (none_saved before.files stop.between saved) torn,
          subst (λ (o : List ℕ × List ℕ). Rose (before.save_faults o.0) (after.save_faults o.0)) same stop.rose,
        )
    by_front (o ∷ []) parts saved = absurd cc
    by_front (o ∷ p ∷ front) parts saved = absurd cc

-- a run that was prepared ends as its saves and its print do
module _ (words : List (List ℕ)) (asked : Asked) (are : asked_by words ≡ Some asked) (before mid after : StoreState) (stays : mid.files ≡ before.files) (later : IsLater before mid) (shown told : OutputState) (prepared : Prepared) (made : IsPrepared asked before.files prepared) where
  saved_here : AreSaved mid.files after.files (map output_view prepared.outputs.items) → IsSaved before.files after.files asked.names.out (saved_file (prepared_run words asked before.files prepared are made))
  saved_here saved =
      let by_outputs = subst (λ (os : List (List ℕ × List ℕ)). AreSaved mid.files after.files os) made.made.outputs saved in
      subst (λ (f : Option Files). IsSaved f after.files asked.names.out (saved_file (prepared_run words asked before.files prepared are made))) stays by_outputs

  pub ends_finished : (status : Status) → Finishes asked.names prepared mid after shown told status → Ends words before after shown told status
  ends_finished Done f = record {
    run = prepared_run words asked before.files prepared are made;
    saved = saved_here f.saved;
    printed = subst (λ (t : List ℕ). IsAppended shown.written told.written t) made.made.text f.printed;
  }
  ends_finished SaveFault f =
      let stop = torn_one mid after asked.names.out (saved_file (prepared_run words asked before.files prepared are made)) (subst (λ (os : List (List ℕ × List ℕ)). StopsSaving mid after os) made.made.outputs f.stopped) in
      record {
        run = prepared_run words asked before.files prepared are made;
        rose = rose_since (before.save_faults asked.names.out) (mid.save_faults asked.names.out) (after.save_faults asked.names.out) (later.save_faults asked.names.out) stop.1;
        torn = subst (λ (g : Option Files). IsTorn g after.files asked.names.out (saved_file (prepared_run words asked before.files prepared are made))) stays stop.0;
        message = f.message;
      }
  ends_finished PrintFault f = record {
    run = prepared_run words asked before.files prepared are made;
    rose = f.rose;
    saved = saved_here f.saved;
    partly = subst (λ (t : List ℕ). IsPartlyAppended shown.written told.written t) made.made.text f.partly;
  }
  ends_finished Usage f = absurd f
  ends_finished (ReadFault file) f = absurd f
  ends_finished (TooLong file) f = absurd f
  ends_finished (WorldRefused fault) f = absurd f
  ends_finished (ScriptRefused script fault) f = absurd f
  ends_finished (DuplicatePlayer script) f = absurd f
  ends_finished (TooManyJobs jobs) f = absurd f
  ends_finished OutOfMemory f = absurd f

-- a run that stopped before its save ends so
pub ends_stopped : (words : List (List ℕ)) (asked : Asked) (before after : StoreState) (shown told : OutputState) (status : Status) → asked_by words ≡ Some asked
    → IsStopCause asked before after status → after.files ≡ before.files → IsPrinted shown told (fault_text asked.names status) → Ends words before after shown told status
ends_stopped words asked before after shown told Done are cause stays message = absurd cause
ends_stopped words asked before after shown told Usage are cause stays message = absurd cause
ends_stopped words asked before after shown told SaveFault are cause stays message = absurd cause
ends_stopped words asked before after shown told PrintFault are cause stays message = absurd cause
ends_stopped words asked before after shown told (ReadFault file) are cause stays message = record { asked = asked; are = are; cause = cause; stays = stays; message = message }
ends_stopped words asked before after shown told (TooLong file) are cause stays message = record { asked = asked; are = are; cause = cause; stays = stays; message = message }
ends_stopped words asked before after shown told (WorldRefused fault) are cause stays message = record { asked = asked; are = are; cause = cause; stays = stays; message = message }
ends_stopped words asked before after shown told (ScriptRefused script fault) are cause stays message = record { asked = asked; are = are; cause = cause; stays = stays; message = message }
ends_stopped words asked before after shown told (DuplicatePlayer script) are cause stays message = record { asked = asked; are = are; cause = cause; stays = stays; message = message }
ends_stopped words asked before after shown told (TooManyJobs jobs) are cause stays message = record { asked = asked; are = are; cause = cause; stays = stays; message = message }
ends_stopped words asked before after shown told OutOfMemory are cause stays message = record { asked = asked; are = are; cause = cause; stays = stays; message = message }
