-- What holds of the runs that changes are kept in.
use Rattle.std.specs.Prelude.{◌≡◌, ℕ, ◌+◌, ◌-◌, ◌<◌, ◌≤◌, Bool, true, ◌&&◌, ◌==◌, List, [], ◌∷◌, map, length, Some, slice_get}
use Rattle.edit_terms.specs.declared.pos.Pos.{Pos}
use Rattle.edit_terms.specs.declared.stretch.Stretch.{Stretch}
use Rattle.edit_terms.specs.Area.{Area, holds, index_of, position_of, volume}
use Rattle.edit_terms.specs.Chunk.{chunk_box, place_in_chunk}
use Rattle.change_set.specs.Changes.{changes_of, positions, rises, breaks}
use Rattle.change_set.specs.declared.run.Run.{Run}
use Rattle.change_set.specs.declared.read.RunAt.{RunAt}
use Rattle.edit_terms.specs.World.{BlockContent}
use Rattle.change_set.specs.ContentRun.{ContentRun, all_looked_up, AreNumbered}
use Rattle.change_set.specs.declared.proposed.Proposed.{Proposed}

-- One run: its place among the changes, it has cells, and they are of one chunk's part.
pub record IsRun (a : Area) (start : ℕ) (run : ContentRun) : Type 0 where
  pub start_is : run.start ≡ start
  pub some : 0 < run.length
  pub held : holds a run.first ≡ true
  pub fits : place_in_chunk a run.first + run.length ≤ volume (chunk_box a run.first)

-- each of the runs is one, and they start one behind the other from a place on
abbrev pub AreRunsFrom : Area → ℕ → List ContentRun → Type 0
AreRunsFrom a start [] = Unit {0}
AreRunsFrom a start (run ∷ runs) = IsRun a start run × AreRunsFrom a (start + run.length) runs

-- What holds of runs and of how many cells they have.
pub record AreKept (a : Area) (runs : List ContentRun) (count : ℕ) : Type 0 where
  pub each : AreRunsFrom a 0 runs
  pub count_is : count ≡ length (changes_of a runs)
  pub rising : rises a (positions (changes_of a runs)) ≡ true
  pub starts : map (λ run. run.start) runs ≡ breaks a (changes_of a runs)

-- What holds of contents and runs by their numbers, and of how many cells the runs have.
pub record AreRunsKept (a : Area) (contents : List BlockContent) (runs : List Run) (count : ℕ) : Type 0 where
  pub kept : AreKept a (all_looked_up contents runs) count
  pub numbered : AreNumbered contents runs

-- the position is the next cell behind so many cells of a chunk's part
abbrev pub follows : Area → Pos → ℕ → Pos → Bool
follows a first count p = holds (chunk_box a first) p && (index_of (chunk_box a first) p == place_in_chunk a first + count)

-- the runs with so many more cells in the last one
abbrev pub with_last_longer : List ContentRun → ℕ → List ContentRun
with_last_longer [] more = []
with_last_longer (run ∷ []) more = record run { length = run.length + more } ∷ []
with_last_longer (run ∷ next ∷ runs) more = run ∷ with_last_longer (next ∷ runs) more

-- the change of a run's cell
abbrev pub cell_of_run : Area → ContentRun → ℕ → Proposed
cell_of_run a run j = record { at = position_of (chunk_box a run.first) (place_in_chunk a run.first + j); before = run.before; after = run.after }

-- The run has the change at a place of the list, and its other changes stand before and behind that.
pub record IsRunAt (a : Area) (list : List Proposed) (i : ℕ) (run : ContentRun) : Type 0 where
  pub from : run.start ≤ i
  pub to : i < run.start + run.length
  pub held : holds a run.first ≡ true
  pub fits : place_in_chunk a run.first + run.length ≤ volume (chunk_box a run.first)
  pub within : run.start + run.length ≤ length list
  pub each : (j : ℕ) → j < run.length → slice_get list (run.start + j) ≡ Some (cell_of_run a run j)

-- what is left of so many cells of a chunk's part, from the first one on, behind some of them
abbrev pub rest_of : Area → Pos → ℕ → ℕ → Stretch
rest_of a first count further = record { part = chunk_box a first; start = place_in_chunk a first + further; count = count - further }

-- a run that is lent with its contents
abbrev pub lent_run : RunAt → ContentRun
lent_run run = record { first = run.first; start = run.start; length = run.length; before = run.before.now; after = run.after.now }
