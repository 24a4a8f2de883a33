-- The map of the changes that are kept, by the commands that made them.
use Rattle.std.specs.Prelude.{◌≡◌, ℕ, Bool, ◌&&◌, ◌==◌, if◌then◌else◌, List, Option}
use Rattle.std.specs.Map.{lookup}
use Rattle.edit_terms.specs.declared.clip.Source.{Source}
use Rattle.change_set.specs.Changes.{ChangeList}

-- what contracts see of it: the changes that are kept, each with the player and the step of its command
abbrev pub KeptChanges : Type 0
KeptChanges = List ((ℕ × ℕ) × ChangeList)

-- the changes that are kept of a command
abbrev pub kept_of : KeptChanges → Source → Option ChangeList
kept_of kept source = lookup (λ key. key.0 == source.player && key.1 == source.step) kept

-- the two are one command
abbrev pub same_source : Source → Source → Bool
same_source s t = s.player == t.player && s.step == t.step

-- of this command these changes are kept now, if any, and of the others what was
abbrev pub IsWith : KeptChanges → KeptChanges → Source → Option ChangeList → Type 0
IsWith before now source changes = (s : Source) → kept_of now s ≡ (if same_source s source then changes else kept_of before s)
