use Rattle.std.specs.Prelude.{ℕ, Bool, ◌||◌, List, take, Option, Some, None, is_some, is_none}
use Rattle.run_ports.specs.declared.memory_shelf.MemoryShelf.{MemoryShelf}
use Rattle.run_ports.specs.declared.fail_plan.Fail.{Fail}
use Rattle.run_ports.specs.Store.{StoreState, Files, with_file}
use Rattle.run_ports.specs.StoreCounts.{StoreCounts, store_state}
use Rattle.run_ports.specs.FileList.{listed, first_files}
use Rattle.run_ports.specs.FailPlan.{planned}

-- its files: the first entry of each name
abbrev pub files_of : MemoryShelf → Files
files_of shelf = first_files (listed shelf.files.items)

-- the calls that are to fail
abbrev pub fails_of : MemoryShelf → List Fail
fails_of shelf = shelf.plan.fails.items

-- how many loads and saves there were
abbrev pub calls_of : MemoryShelf → ℕ
calls_of shelf = shelf.plan.calls

-- what was counted so far
abbrev pub counts_of : MemoryShelf → StoreCounts
counts_of shelf = record { faults = shelf.faults; longs = shelf.longs }

-- callers know its files
abbrev pub memory_store : MemoryShelf → StoreState
memory_store shelf = store_state (Some (files_of shelf)) (counts_of shelf)

-- what is planned for the next call
abbrev pub next_fail : MemoryShelf → Option Fail
next_fail shelf = planned (fails_of shelf) (calls_of shelf)

-- whether the next call fails where it is for this name: there is no such file, or the plan says so
abbrev pub is_refused : MemoryShelf → List ℕ → Bool
is_refused shelf name = is_none (files_of shelf name) || is_some (next_fail shelf)

-- the files after a failing save of a file that is there: it holds what the plan keeps of the bytes
abbrev pub files_kept : Option Fail → List ℕ → List ℕ → Files → Files
files_kept None name bytes files = files
files_kept (Some fail) name bytes files = kept_part fail.kept
  where
    kept_part : Option ℕ → Files
    kept_part None = files
    kept_part (Some kept) = with_file name (take kept bytes) files
