use Rattle.std.specs.Prelude.{None}
use Rattle.run_ports.specs.declared.disk_shelf.DiskShelf.{DiskShelf}
use Rattle.run_ports.specs.Store.{StoreState}
use Rattle.run_ports.specs.StoreCounts.{StoreCounts, store_state}

module _ {R : Type 0} where
  -- what was counted so far
  abbrev pub counts_of : DiskShelf R → StoreCounts
  counts_of shelf = record { faults = shelf.faults; longs = shelf.longs }

  -- what the disk holds isn't known
  abbrev pub disk_store : DiskShelf R → StoreState
  disk_store shelf = store_state None (counts_of shelf)
