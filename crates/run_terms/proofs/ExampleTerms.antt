-- Terms of worked examples: short ways to write small cases.
use Rattle.std.proofs.Common.{ℕ, ℤ, pos, List, [], ◌∷◌, length, map, set}
use Rattle.std.specs.Prelude.{codes, replicate, fold}
use Rattle.edit_terms.specs.declared.pos.Pos.{Pos}
use Rattle.edit_terms.specs.declared.mask.Sign.{Sign}
use Rattle.edit_terms.specs.declared.mask.Leaf.{Leaf}
use Rattle.edit_terms.specs.declared.mask.Mask.{Mask}
use Rattle.edit_terms.specs.declared.script.Command.{Command}
use Rattle.edit_terms.specs.declared.script.Script.{Script}
use Rattle.edit_terms.specs.declared.pattern.Pattern.{Pattern}
use Rattle.edit_terms.specs.declared.pattern.Value.{Value}
use Rattle.edit_terms.specs.declared.pattern.Value.TheVariants.{Fixed}
use Rattle.edit_terms.specs.declared.outcome.Reply.{Reply}
use Rattle.edit_terms.specs.Area.{Area, index_of, volume}
use Rattle.edit_terms.specs.StateText.{State, air}
use Rattle.edit_terms.specs.World.{BlockContent, World, without_entity}
use Rattle.run_terms.specs.Workload.{Workload}
use Rattle.run_terms.specs.Reply.{replies_of, final_world}

abbrev pub at : ℤ → ℤ → ℤ → Pos
at x y z = record { x = x; y = y; z = z }

-- the position this far east of 0,0,0, and the one this far above it
abbrev pub east : ℕ → Pos
east x = at (pos x) (pos 0) (pos 0)

abbrev pub high : ℕ → Pos
high y = at (pos 0) (pos y) (pos 0)

-- a state without properties
abbrev pub bare : List ℕ → State
bare name = record { name = name; properties = [] }

abbrev pub stone : State
stone = bare (codes "minecraft:stone")

abbrev pub dirt : State
dirt = bare (codes "minecraft:dirt")

abbrev pub gold : State
gold = bare (codes "minecraft:gold_block")

-- the box from 0,0,0 to the east, and that from 0,0,0 upwards, with these contents
abbrev pub street : List BlockContent → World
street contents = record { area = record { least = east 0; width = length contents; height = 1; length = 1 }; contents = contents }

abbrev pub street_of : List State → World
street_of states = street (map without_entity states)

abbrev pub tower_of : List State → World
tower_of states = record { area = record { least = east 0; width = 1; height = length states; length = 1 }; contents = map without_entity states }

-- the contents with these states put at these positions of a box
abbrev pub with_states : Area → List (Pos × State) → List BlockContent → List BlockContent
with_states area blocks contents = fold (λ cs block. set cs (index_of area block.0) (without_entity block.1)) contents blocks

-- a box of air with these states in it
abbrev pub box_of : Area → List (Pos × State) → World
box_of area blocks = record { area = area; contents = with_states area blocks (replicate (volume area) (without_entity air)) }

-- a pattern of one value
abbrev pub all_of : Value → Pattern
all_of value = record { entries = record { weight = 1; value = value } ∷ [] }

abbrev pub all_fixed : State → Pattern
all_fixed state = all_of (Fixed state)

-- a mask of one term
abbrev pub only_leaf : List Sign → Leaf → Mask
only_leaf signs leaf = record { terms = record { signs = signs; leaf = leaf } ∷ [] }

-- the script of these commands
abbrev pub script_of : List Command → Script
script_of commands = record { player = []; lines = map (λ command. record { number = 0; command = command }) commands }

-- the scripts of these players over a world, with seed 0 and a history of this depth
abbrev pub case_of : World → ℕ → List (List Command) → Workload
case_of w depth players = record { opening = w; scripts = map script_of players; seed = 0; depth = depth }

-- what an order leaves: the replies, and the contents of the last world
pub record Left : Type 0 where
  pub replies : List Reply
  pub contents : List BlockContent

abbrev pub left_by : Workload → List ℕ → Left
left_by case order = record { replies = replies_of case order; contents = (final_world case order).contents }

-- what the one order of a single player's commands leaves
abbrev pub left_alone : World → ℕ → List Command → Left
left_alone w depth commands = left_by (case_of w depth (commands ∷ [])) (replicate (length commands) 0)

abbrev pub left : List Reply → List State → Left
left replies states = record { replies = replies; contents = map without_entity states }
