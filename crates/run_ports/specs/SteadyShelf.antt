use Rattle.std.specs.Prelude.{ℕ, List, [], None, unwrap_or}
use Rattle.run_ports.specs.declared.steady_shelf.SteadyShelf.{SteadyShelf}
use Rattle.run_ports.specs.Store.{StoreState, Files}
use Rattle.run_ports.specs.StoreCounts.{store_state}
use Rattle.run_ports.specs.FileList.{listed, first_files}

-- its files: the first entry of each name
abbrev pub files_of : SteadyShelf → Files
files_of shelf = first_files (listed shelf.files.items)

-- what a name loads as: a name that isn't listed is an empty file
abbrev pub bytes_under : SteadyShelf → List ℕ → List ℕ
bytes_under shelf name = unwrap_or (files_of shelf name) []

-- how many loads found a file that was too long
abbrev pub longs_of : SteadyShelf → ℕ
longs_of shelf = shelf.longs

-- callers don't know its files, and it never counts a failure
abbrev pub steady_store : SteadyShelf → StoreState
steady_store shelf = store_state None (record { faults = 0; longs = longs_of shelf })
