-- Recorded changes that are taken back or done again.
use Rattle.std.specs.Prelude.{◌≡◌, ℕ, ◌<◌, ◌==◌, List, [], length, map, reverse, get_or}
use Rattle.std.specs.List.{find, flat_map}
use Rattle.std.specs.Option.{option_map_or}
use Rattle.edit_terms.specs.World.{BlockContent, World}
use Rattle.run_terms.specs.Change.{Change, content_of}
use Rattle.run_terms.specs.Effect.{latest_change}
use Rattle.world_canvas.specs.declared.cell_change.CellChange.{CellChange}
use Rattle.world_canvas.specs.declared.restoring.Side.{Side}
use Rattle.world_canvas.specs.declared.restoring.Side.TheVariants.{Before, After}
use Rattle.world_canvas.specs.Changes.{changes_shown}

-- the content before a change, and that after it
abbrev pub before_of : Change → BlockContent
before_of change = change.before

abbrev pub after_of : Change → BlockContent
after_of change = change.after

-- The content at a place once the edits with these changes are taken back (its content before the last of them that
-- changed the place) or done again (the content after it).
abbrev pub restored : (Change → BlockContent) → List (List Change) → World → ℕ → BlockContent
restored side taken w index = option_map_or side (latest_change taken index) (content_of w index)

-- the changes of the edits with these numbers
abbrev pub changes_taken : List BlockContent → List (List CellChange) → List ℕ → List (List Change)
changes_taken kinds kept edits = map (λ n. changes_shown kinds (get_or kept n [])) edits

-- the content on a side of a change, and its number
abbrev pub content_on : Side → Change → BlockContent
content_on Before change = change.before
content_on After change = change.after

abbrev pub number_on : Side → CellChange → ℕ
number_on Before change = change.before
number_on After change = change.after

-- the number at a place once the places of some changes got the numbers on a side of them, where of two changes of one
-- place the first counts
abbrev pub number_written : Side → List CellChange → List ℕ → ℕ → ℕ
number_written side changes cells index = option_map_or (number_on side) (find (λ change. change.index == index) changes) (get_or cells index 0)

-- all changes of the edits with these numbers, those of the last edit first
abbrev pub last_first : List (List CellChange) → List ℕ → List CellChange
last_first kept edits = flat_map (λ changes. changes) (reverse (map (λ n. get_or kept n []) edits))

-- each place of some changes has got the number on a side of them
pub record AreWritten (side : Side) (changes : List CellChange) (old new : List ℕ) : Type 0 where
  pub long : length new ≡ length old
  pub each : (i : ℕ) → i < length old → get_or new i 0 ≡ number_written side changes old i
