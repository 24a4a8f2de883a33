-- A case within the limits: what a reader of scripts gives, and what a planner asks for.
use Rattle.std.specs.Prelude.{ℕ, ◌≤◌, nat_le, Bool, true, ◌&&◌, length, All, IsTrue, Option, sum_by}
use Rattle.std.specs.List.{list_all}
use Rattle.std.specs.Option.{option_map_or}
use Rattle.edit_terms.specs.declared.mask.Leaf.{Leaf}
use Rattle.edit_terms.specs.declared.mask.Leaf.TheVariants.{Noise}
use Rattle.edit_terms.specs.declared.mask.Term.{Term}
use Rattle.edit_terms.specs.declared.mask.Mask.{Mask}
use Rattle.edit_terms.specs.declared.pattern.Entry.{Entry}
use Rattle.edit_terms.specs.declared.pattern.Pattern.{Pattern}
use Rattle.edit_terms.specs.declared.script.Command.{Command}
use Rattle.edit_terms.specs.declared.script.Command.TheVariants.{Pos1, Pos2, Place, Sel, Block, Set, Walls, Faces, Replace, Sphere, Cyl, Stack, Move, Copy, Cut, Paste, Rotate, Flip, Gmask, Undo, Redo}
use Rattle.edit_terms.specs.declared.script.Script.{Script}
use Rattle.edit_terms.specs.Area.{is_on_map}
use Rattle.edit_terms.specs.Mask.{noise_leaves}
use Rattle.run_terms.specs.Workload.{Workload}

-- the number is one from low to high
abbrev pub is_one_of : ℕ → ℕ → ℕ → Bool
is_one_of low high n = nat_le low n && nat_le n high

-- a count of copies, blocks or edits
abbrev pub is_count : ℕ → Bool
is_count n = is_one_of 1 1000 n

abbrev pub is_radius : ℕ → Bool
is_radius n = nat_le n 1000

abbrev pub is_height : ℕ → Bool
is_height n = is_one_of 1 4096 n

-- a noise leaf holds in at most 100 of 100 cases
abbrev pub is_leaf_within : Leaf → Bool
is_leaf_within (Noise chance) = nat_le chance 100
is_leaf_within _ = true

-- at most 4 noise leaves
abbrev pub is_mask_within : Mask → Bool
is_mask_within mask =
    nat_le (sum_by (λ (t : Term). noise_leaves t.leaf) mask.terms) 4 && list_all (λ (t : Term). is_leaf_within t.leaf) mask.terms

-- a mask that may be absent
abbrev pub is_optional_mask_within : Option Mask → Bool
is_optional_mask_within mask = option_map_or is_mask_within mask true

-- 1 to 32 entries of weights 1 to 1,000,000
abbrev pub is_pattern_within : Pattern → Bool
is_pattern_within pattern = is_one_of 1 32 (length pattern.entries) && list_all (λ (e : Entry). is_one_of 1 1000000 e.weight) pattern.entries

abbrev pub is_command_within : Command → Bool
is_command_within (Pos1 at) = is_on_map at
is_command_within (Pos2 at) = is_on_map at
is_command_within (Place at) = is_on_map at
is_command_within (Sel kind) = true
is_command_within (Block at state) = is_on_map at
is_command_within (Set pattern) = is_pattern_within pattern
is_command_within (Walls pattern) = is_pattern_within pattern
is_command_within (Faces pattern) = is_pattern_within pattern
is_command_within (Replace mask pattern) = is_mask_within mask && is_pattern_within pattern
is_command_within (Sphere pattern radius hollow) = is_pattern_within pattern && is_radius radius
is_command_within (Cyl pattern radius height hollow) = is_pattern_within pattern && is_radius radius && is_height height
is_command_within (Stack count to) = is_count count
is_command_within (Move count to) = is_count count
is_command_within Copy = true
is_command_within Cut = true
is_command_within (Paste skip_air) = true
is_command_within (Rotate quarters) = is_one_of 1 3 quarters
is_command_within (Flip to) = true
is_command_within (Gmask mask) = is_optional_mask_within mask
is_command_within (Undo count) = is_count count
is_command_within (Redo count) = is_count count

-- a player's name has 1 to 16 bytes, and the script at most 10,000 commands, each within the limits
pub record IsScriptWithin (script : Script) : Type 0 where
  pub name : IsTrue (is_one_of 1 16 (length script.player))
  pub lines : length script.lines ≤ 10000
  pub commands : All (λ line. IsTrue (is_command_within line.command)) script.lines

-- 1 to 64 scripts within the limits, and a history of 1 to 1,000 edits
pub record IsWithinLimits (case : Workload) : Type 0 where
  pub scripts : IsTrue (is_one_of 1 64 (length case.scripts))
  pub depth : IsTrue (is_one_of 1 1000 case.depth)
  pub each : All IsScriptWithin case.scripts
