-- What a ticket changed: the positions whose contents before and after it differ.
use Rattle.std.specs.Prelude.{ℕ, if◌then◌else◌, List, get_or, Option, Some, None}
use Rattle.std.specs.List.{range_with_len, filter_map}
use Rattle.edit_terms.specs.Area.{volume}
use Rattle.edit_terms.specs.Same.{same_content}
use Rattle.edit_terms.specs.World.{BlockContent, World, air_content}

-- the content at a place of the box's list
abbrev pub content_of : World → ℕ → BlockContent
content_of w index = get_or w.contents index air_content

-- a position, by its place in the box's list, with its content before and after
pub record Change : Type 0 where
  pub index : ℕ
  pub before : BlockContent
  pub after : BlockContent

-- the change at a place, if the contents differ there
abbrev pub change_at : World → World → ℕ → Option Change
change_at old new index =
    if same_content (content_of old index) (content_of new index) then None
    else Some (record { index = index; before = content_of old index; after = content_of new index })

-- all changes between two worlds of one box, in index order
abbrev pub changes_between : World → World → List Change
changes_between old new = filter_map (change_at old new) (range_with_len 0 (volume old.area))
