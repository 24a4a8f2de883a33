-- What a pattern puts in a position's place: a weighted choice, and then the chosen value.
use Rattle.std.specs.Prelude.{ℕ, ◌+◌, ◌*◌, ◌^◌, nat_lt, nat_le, if◌then◌else◌, List, [], ◌∷◌, length, Option, Some, None, sum_by, bytes_eq}
use Rattle.std.specs.Option.{option_map_or}
use Rattle.edit_terms.specs.declared.pos.Pos.{Pos}
use Rattle.edit_terms.specs.declared.pattern.Value.{Value}
use Rattle.edit_terms.specs.declared.pattern.Value.TheVariants.{Fixed, Rename, Put, RenamePut, Clipboard}
use Rattle.edit_terms.specs.declared.pattern.Entry.{Entry}
use Rattle.edit_terms.specs.declared.pattern.Pattern.{Pattern}
use Rattle.edit_terms.specs.Draw.{draw_word, pattern_use}
use Rattle.edit_terms.specs.StateText.{State, with_properties}
use Rattle.edit_terms.specs.World.{BlockContent, without_entity}
use Rattle.edit_terms.specs.Clipboard.{CopiedBlocks, tiled}

-- the first entry whose running weight sum s, begun at this sum, has s * 2 ^ 32 > word * total
abbrev pub chosen_from : ℕ → ℕ → ℕ → List Entry → Option Entry
chosen_from word total sum [] = None
chosen_from word total sum (e ∷ es) = if nat_lt (word * total) ((sum + e.weight) * 2 ^ 32) then Some e else chosen_from word total (sum + e.weight) es

-- the entry that a random word chooses: the words below 2 ^ 32 are shared out by weight, in order
abbrev pub chosen_entry : ℕ → List Entry → Option Entry
chosen_entry word entries = chosen_from word (sum_by (λ e. e.weight) entries) 0 entries

-- the old content with another state; the entity stays where the block's name does
abbrev pub restated : BlockContent → State → BlockContent
restated old s = record { state = s; entity = if bytes_eq s.name old.state.name then old.entity else None }

-- the state of this name with the old properties, these replaced or added; with more than 16 the old state
abbrev pub overridden : State → List ℕ → List (List ℕ × List ℕ) → State
overridden old name properties =
    let all = with_properties old.properties properties in
    if nat_le (length all) 16 then record { name = name; properties = all } else old

-- What a value makes of the old content. What a clipboard does depends on the position, and stands in `placed`.
abbrev pub applied : Value → BlockContent → BlockContent
applied (Fixed state) old = without_entity state
applied (Rename name) old = restated old (record { name = name; properties = old.state.properties })
applied (Put properties) old = restated old (overridden old.state old.state.name properties)
applied (RenamePut state) old = restated old (overridden old.state state.name state.properties)
applied Clipboard old = old

-- what a value makes of the old content at a position, with this clipboard
abbrev pub placed : CopiedBlocks → Pos → Value → BlockContent → BlockContent
placed copied p Clipboard old = tiled copied p old
placed copied p value old = applied value old

-- The content that a pattern gives for an old one at a position, with this clipboard, under a seed and a ticket.
abbrev pub pattern_value : Pattern → CopiedBlocks → ℕ → ℕ → Pos → BlockContent → BlockContent
pattern_value pattern copied seed ticket p old =
    option_map_or (λ e. placed copied p e.value old) (chosen_entry (draw_word seed ticket pattern_use p) pattern.entries) old
