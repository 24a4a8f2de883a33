-- Changes that are kept by the numbers of their contents.
use Rattle.std.specs.Prelude.{◌≡◌, ℕ, ◌<◌, List, length, map, get_or, All}
use Rattle.std.specs.List.{range_with_len, filter_map}
use Rattle.edit_terms.specs.Area.{Area, volume}
use Rattle.edit_terms.specs.World.{BlockContent, World, air_content}
use Rattle.run_terms.specs.Change.{Change, change_at, changes_between}
use Rattle.world_canvas.specs.declared.cell_change.CellChange.{CellChange}
use Rattle.world_canvas.specs.Canvas.{Painting, shown, IsGrown}

-- the change whose contents these numbers name
abbrev pub change_shown : List BlockContent → CellChange → Change
change_shown kinds c = record { index = c.index; before = get_or kinds c.before air_content; after = get_or kinds c.after air_content }

abbrev pub changes_shown : List BlockContent → List CellChange → List Change
changes_shown kinds cs = map (change_shown kinds) cs

-- both numbers of a change name contents
pub record IsChangeNamed (kinds : List BlockContent) (c : CellChange) : Type 0 where
  pub before : c.before < length kinds
  pub after : c.after < length kinds

abbrev pub AreChangesNamed : List BlockContent → List CellChange → Type 0
AreChangesNamed kinds cs = All (λ c. IsChangeNamed kinds c) cs

-- each change is of a place of the box's list
abbrev pub AreChangesIn : Area → List CellChange → Type 0
AreChangesIn area cs = All (λ c. c.index < volume area) cs

-- these are the changes between two worlds at the places below this one, by numbers
pub record AreChangesBelow (old new : World) (kinds : List BlockContent) (end : ℕ) (recorded : List CellChange) : Type 0 where
  pub changes : changes_shown kinds recorded ≡ filter_map (change_at old new) (range_with_len 0 end)
  pub named : AreChangesNamed kinds recorded
  pub within : AreChangesIn old.area recorded

-- all changes between two worlds
abbrev pub AreChangesBetween : World → World → List BlockContent → List CellChange → Type 0
AreChangesBetween old new kinds recorded = AreChangesBelow old new kinds (volume old.area) recorded

-- the canvas has these contents now, and this is what changed
pub record IsRewritten (to : ℕ → BlockContent) (old new : Painting) (recorded : List CellChange) : Type 0 where
  pub area : new.area ≡ old.area
  pub grown : IsGrown old.kinds new.kinds
  pub world : shown new ≡ record (shown old) { contents = map to (range_with_len 0 (volume old.area)) }
  pub changes : changes_shown new.kinds recorded ≡ changes_between (shown old) (shown new)
  pub named : AreChangesNamed new.kinds recorded
  pub within : AreChangesIn old.area recorded
