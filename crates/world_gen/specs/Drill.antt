-- The drill: a workload that is made from a number (its world, its players and its draws are rules of this project).
use Rattle.std.specs.Prelude.{ℕ, ◌+◌, ◌*◌, ◌%◌, if◌then◌else◌, List, [], ◌∷◌, map, get_or, pos, int_lt, codes}
use Rattle.std.specs.List.{range_with_len, flat_map}
use Rattle.edit_terms.specs.declared.pos.Pos.{Pos}
use Rattle.edit_terms.specs.declared.direction.Direction.TheVariants.{Up}
use Rattle.edit_terms.specs.declared.mask.Leaf.TheVariants.{OneOf}
use Rattle.edit_terms.specs.declared.mask.Mask.{Mask}
use Rattle.edit_terms.specs.declared.pattern.Value.TheVariants.{Fixed}
use Rattle.edit_terms.specs.declared.pattern.Pattern.{Pattern}
use Rattle.edit_terms.specs.declared.script.Command.{Command}
use Rattle.edit_terms.specs.declared.script.Command.TheVariants.{Pos1, Pos2, Set, Walls, Faces, Replace, Stack, Undo}
use Rattle.edit_terms.specs.declared.script.Line.{Line}
use Rattle.edit_terms.specs.declared.script.Script.{Script}
use Rattle.edit_terms.specs.Area.{Area, position_of, volume}
use Rattle.edit_terms.specs.StateText.{State, air}
use Rattle.edit_terms.specs.World.{World, without_entity}
use Rattle.edit_terms.specs.Draw.{random_word}
use Rattle.run_terms.specs.Workload.{Workload}

-- ---- the world

-- a state without properties
abbrev pub bare_state : List ℕ → State
bare_state name = record { name = name; properties = [] }

abbrev pub stone : State
stone = bare_state (codes "minecraft:stone")

abbrev pub dirt : State
dirt = bare_state (codes "minecraft:dirt")

abbrev pub glass : State
glass = bare_state (codes "minecraft:glass")

abbrev pub grass_block : State
grass_block = bare_state (codes "minecraft:grass_block")

-- the box of 256 by 32 by 64 blocks
abbrev pub drill_area : Area
drill_area = record { least = record { x = pos 0; y = pos 0; z = pos 0 }; width = 256; height = 32; length = 64 }

-- stone below height 8, dirt from 8 to 11, grass at 12, and air above
abbrev pub ground_at : Pos → State
ground_at p =
    if int_lt p.y (pos 8) then stone
    else (if int_lt p.y (pos 12) then dirt
    else (if int_lt p.y (pos 13) then grass_block else air))

-- the ground over a box
unfoldable pub ground_over : Area → World
ground_over area = record { area = area; contents = map (λ index. without_entity (ground_at (position_of area index))) (range_with_len 0 (volume area)) }

abbrev pub drill_world : World
drill_world = ground_over drill_area

-- ---- the scripts

-- The random word of this number among the eight of a player's group: the seed is the drill's number, and the stream
-- the player's.
abbrev pub drill_word : ℕ → ℕ → ℕ → ℕ → ℕ
drill_word number player group word = random_word number player (8 * group + word)

-- a position in the player's 32 columns of x, by three random words
abbrev pub corner : ℕ → ℕ → ℕ → ℕ → Pos
corner player a b c = record { x = pos (32 * player + a % 32); y = pos (b % 32); z = pos (c % 64) }

-- one of four states, by a random word
abbrev pub state_by : ℕ → State
state_by word = get_or (stone ∷ dirt ∷ glass ∷ []) (word % 4) air

-- a pattern of this state alone
abbrev pub pattern_of : State → Pattern
pattern_of state = record { entries = record { weight = 1; value = Fixed state } ∷ [] }

-- the mask that holds where stone stands
abbrev pub stone_mask : Mask
stone_mask = record { terms = record { signs = []; leaf = OneOf (stone ∷ []) } ∷ [] }

-- one of six commands with this pattern, by a random word
abbrev pub command_by : ℕ → Pattern → Command
command_by word pattern =
    get_or (Set pattern ∷ Walls pattern ∷ Faces pattern ∷ Replace stone_mask pattern ∷ Stack 1 Up ∷ []) (word % 6) (Undo 1)

-- the three commands of a group: two corners, and what is done between them
abbrev pub group_commands : (ℕ → ℕ) → ℕ → List Command
group_commands word player =
    Pos1 (corner player (word 0) (word 1) (word 2))
    ∷ Pos2 (corner player (word 3) (word 4) (word 5))
    ∷ command_by (word 6) (pattern_of (state_by (word 7)))
    ∷ []

-- the commands of a player: 50 groups
abbrev pub drill_commands : ℕ → ℕ → List Command
drill_commands number player = flat_map (λ group. group_commands (drill_word number player group) player) (range_with_len 0 50)

-- commands on lines of their own, from this line on
abbrev pub lines_from : ℕ → List Command → List Line
lines_from first [] = []
lines_from first (command ∷ commands) = record { number = first; command = command } ∷ lines_from (first + 1) commands

-- the player p0, p1 and so on to p7; its name has the first line
abbrev pub drill_script : ℕ → ℕ → Script
drill_script number player = record { player = 112 ∷ (48 + player) ∷ []; lines = lines_from 2 (drill_commands number player) }

-- The drill of a number: eight players, a history of 15 edits, and the number for seed.
abbrev pub drill_workload : ℕ → Workload
drill_workload number = record {
  opening = drill_world;
  scripts = map (drill_script number) (range_with_len 0 8);
  seed = number;
  depth = 15;
}
