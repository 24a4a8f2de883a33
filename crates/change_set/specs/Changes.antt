-- Changes of a world as a list, and the runs that such a list is kept in.
use Rattle.std.specs.Prelude.{◌≡◌, ℕ, ◌+◌, ◌<◌, ◌≤◌, Bool, true, false, ◌&&◌, not, if◌then◌else◌, List, [], ◌∷◌, ◌++◌, map, take, drop, nat_le}
use Rattle.std.specs.List.{All, IsDistinct, range_with_len, flat_map}
use Rattle.edit_terms.specs.declared.pos.Pos.{Pos}
use Rattle.edit_terms.specs.Area.{Area, holds, index_of, position_of, volume}
use Rattle.edit_terms.specs.World.{BlockContent}
use Rattle.edit_terms.specs.Same.{same_content}
use Rattle.edit_terms.specs.Chunk.{chunk_box, place_in_chunk, is_next_cell}
use Rattle.change_set.specs.declared.run.Run.{Run}
use Rattle.change_set.specs.ContentRun.{ContentRun, all_looked_up, AreNumbered}
use Rattle.change_set.specs.declared.proposed.Proposed.{Proposed}

-- What contracts see of changes: the box of their world, and the changes in order, each with its position and
-- the contents before and after.
pub record ChangeList : Type 0 where
  pub area : Area
  pub list : List Proposed

-- the positions of changes
abbrev pub positions : List Proposed → List Pos
positions changes = map (λ c. c.at) changes

-- the positions with the contents afterwards, and with those before
abbrev pub afters : List Proposed → List (Pos × BlockContent)
afters changes = map (λ c. (c.at, c.after)) changes

abbrev pub befores : List Proposed → List (Pos × BlockContent)
befores changes = map (λ c. (c.at, c.before)) changes

-- the positions are of the box, and strictly rise in index order from this place on
abbrev pub rises_from : Area → ℕ → List Pos → Bool
rises_from a least [] = true
rises_from a least (p ∷ ps) = holds a p && nat_le least (index_of a p) && rises_from a (index_of a p + 1) ps

-- the positions are of the box, and strictly rise in index order
abbrev pub rises : Area → List Pos → Bool
rises a ps = rises_from a 0 ps

-- the contents before and after differ
abbrev pub is_change : Proposed → Bool
is_change c = not (same_content c.before c.after)

-- the change by itself where its contents differ; equal contents are no change
abbrev pub kept_change : Proposed → List Proposed
kept_change c = if same_content c.before c.after then [] else c ∷ []

-- so many cells of a chunk's part in index order, from one on, that all change from one content to another
abbrev pub stretch : Area → Pos → ℕ → BlockContent → BlockContent → List Proposed
stretch a first count before after =
    map (λ place. record { at = position_of (chunk_box a first) place; before = before; after = after })
    (range_with_len (place_in_chunk a first) count)

-- the same where the contents differ; equal contents are no change
abbrev pub kept_stretch : Area → Pos → ℕ → BlockContent → BlockContent → List Proposed
kept_stretch a first count before after = if same_content before after then [] else stretch a first count before after

-- the changes that a run stands for
abbrev pub run_changes : Area → ContentRun → List Proposed
run_changes a run = stretch a run.first run.length run.before run.after

-- the changes of runs, one run after another
abbrev pub changes_of : Area → List ContentRun → List Proposed
changes_of a runs = flat_map (run_changes a) runs

-- d goes on where c ended: its position is the next cell, and it has the same contents before and after
abbrev pub goes_on : Area → Proposed → Proposed → Bool
goes_on a c d = is_next_cell a c.at d.at && (same_content c.before d.before && same_content c.after d.after)

-- The places of the breaks of a list that stands behind c, counted from a number on: a break stands at each change
-- that doesn't go on where the one before it ended.
abbrev pub breaks_behind : Area → Proposed → ℕ → List Proposed → List ℕ
breaks_behind a c place [] = []
breaks_behind a c place (d ∷ ds) = (if goes_on a c d then [] else place ∷ []) ++ breaks_behind a d (place + 1) ds

-- the places of a list's breaks; the first change is one
abbrev pub breaks : Area → List Proposed → List ℕ
breaks a [] = []
breaks a (c ∷ cs) = 0 ∷ breaks_behind a c 1 cs

-- the change goes on where the list ended
abbrev pub goes_on_behind : Area → List Proposed → Proposed → Bool
goes_on_behind a [] d = false
goes_on_behind a (c ∷ []) d = goes_on a c d
goes_on_behind a (c ∷ e ∷ cs) d = goes_on_behind a (e ∷ cs) d

-- The run is one of a list: it has cells, they are of one chunk's part from a position of the box on, and its changes
-- are those that stand in the list from its place on.
pub record IsRunOf (seen : ChangeList) (run : ContentRun) : Type 0 where
  pub some : 0 < run.length
  pub held : holds seen.area run.first ≡ true
  pub fits : place_in_chunk seen.area run.first + run.length ≤ volume (chunk_box seen.area run.first)
  pub changes : take run.length (drop run.start seen.list) ≡ run_changes seen.area run

-- The runs of a list, by the numbers of their contents among these: with the contents looked up, they begin where the
-- list's breaks stand, their changes one after another are the list, and each of them is a run of it. No two of the
-- contents are equal.
pub record AreRunsOf (seen : ChangeList) (contents : List BlockContent) (runs : List Run) : Type 0 where
  pub whole : changes_of seen.area (all_looked_up contents runs) ≡ seen.list
  pub starts : map (λ run. run.start) runs ≡ breaks seen.area seen.list
  pub each : All (IsRunOf seen) (all_looked_up contents runs)
  pub numbered : AreNumbered contents runs
  pub distinct : IsDistinct same_content contents
