-- What the motions that a transform is made of do.
use Rattle.std.specs.Prelude.{ℕ, List, map}
use Rattle.edit_terms.specs.declared.transform.Transform.{Transform}
use Rattle.edit_terms.specs.StateText.{sorted_properties}
use Rattle.edit_terms.specs.Transform.{TurnTable, quarter_table, x_table, y_table, flip_table, turned_property, transformed}
use Rattle.block_state.specs.declared.motion.Motion.{Motion}
use Rattle.block_state.specs.declared.motion.Motion.TheVariants.{QuarterTurn, FlipX, FlipY}

-- what a motion makes of properties
abbrev pub table_of : Motion → TurnTable
table_of QuarterTurn = quarter_table
table_of FlipX = x_table
table_of FlipY = y_table

-- properties by a table, sorted by key again
abbrev pub properties_by : TurnTable → List (List ℕ × List ℕ) → List (List ℕ × List ℕ)
properties_by table ps = sorted_properties (map (turned_property table) ps)

-- the properties of a state that a transform turned
abbrev pub turned_properties : Transform → List (List ℕ × List ℕ) → List (List ℕ × List ℕ)
turned_properties t ps = transformed (properties_by quarter_table) (λ to. properties_by (flip_table to)) t ps
