use Rattle.std.specs.Prelude.{ℕ, Ok, Err, Result, Option}
use Rattle.run_ports.specs.declared.store.LoadError.{LoadError}
use Rattle.run_ports.specs.declared.store.LoadError.TheVariants.{Failed, TooLong, Memory}
use Rattle.run_ports.specs.Count.{count_after}
use Rattle.run_ports.specs.Store.{StoreState, Files}

-- the counts of a store that has one for the failures of all names, loads and saves: these failures, and
-- the loads of a file that was too long
pub record StoreCounts : Type 0 where
  pub faults : ℕ
  pub longs : ℕ

-- nothing was counted yet
abbrev pub no_counts : StoreCounts
no_counts = record { faults = 0; longs = 0 }

-- what a contract sees of a store with these files, where they are known, and these counts
abbrev pub store_state : Option Files → StoreCounts → StoreState
store_state known counts = record {
  files = known;
  faults = λ _. counts.faults;
  save_faults = λ _. counts.faults;
  longs = counts.longs;
}

-- the counts after a load with this answer
abbrev pub counts_loaded : {T : Type 0} → Result T LoadError → StoreCounts → StoreCounts
counts_loaded (Ok _) counts = counts
counts_loaded (Err Failed) counts = record counts { faults = count_after counts.faults }
counts_loaded (Err TooLong) counts = record counts { longs = count_after counts.longs }
counts_loaded (Err Memory) counts = counts

-- the counts after a save with this answer
abbrev pub counts_saved : {T E : Type 0} → Result T E → StoreCounts → StoreCounts
counts_saved (Ok _) counts = counts
counts_saved (Err _) counts = record counts { faults = count_after counts.faults }
