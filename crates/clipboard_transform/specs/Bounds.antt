-- Boxes by their two outermost corners, and what turns and flips make of them.
use Rattle.std.specs.Prelude.{ℕ, ℤ, pos, negsuc, ◌+ℤ◌, ◌-ℤ◌, ◌≤ℤ◌, ◌<ℤ◌, neg_ℤ}
use Rattle.edit_terms.specs.declared.pos.Pos.{Pos}
use Rattle.edit_terms.specs.declared.direction.Direction.{Direction}
use Rattle.edit_terms.specs.declared.direction.Direction.TheVariants.{North, South, East, West, Up, Down}
use Rattle.edit_terms.specs.declared.transform.Transform.{Transform}
use Rattle.edit_terms.specs.Area.{Area}
use Rattle.edit_terms.specs.Transform.{transformed}
use Rattle.clipboard_transform.specs.declared.relative_box.RelativeBox.{RelativeBox}
use Rattle.clipboard_transform.specs.Reach.{IsTurnable}

-- the last of the size coordinates from low on, of which there is one
abbrev pub last_from : ℤ → ℕ → ℤ
last_from low size = low +ℤ pos size -ℤ pos 1

-- the block of a box with the greatest coordinates
abbrev pub greatest_of : Area → Pos
greatest_of a = record { x = last_from a.least.x a.width; y = last_from a.least.y a.height; z = last_from a.least.z a.length }

-- a box that isn't empty, by its blocks with the least and with the greatest coordinates
abbrev pub corners : Area → RelativeBox
corners a = record { least = a.least; greatest = greatest_of a }

-- the position is on the map
pub record IsOnMap (p : Pos) : Type 0 where
  pub least_x : negsuc 33554431 ≤ℤ p.x
  pub most_x : p.x <ℤ pos 33554432
  pub least_y : negsuc 2047 ≤ℤ p.y
  pub most_y : p.y <ℤ pos 2048
  pub least_z : negsuc 33554431 ≤ℤ p.z
  pub most_z : p.z <ℤ pos 33554432

-- both corners are, and so each block
pub record IsBoxOnMap (b : RelativeBox) : Type 0 where
  pub least : IsOnMap b.least
  pub greatest : IsOnMap b.greatest

-- both corners can be turned
pub record IsBoxTurnable (b : RelativeBox) : Type 0 where
  pub least : IsTurnable b.least
  pub greatest : IsTurnable b.greatest

-- what a quarter turn, a flip and a transform make of the corners of a box
abbrev pub quarter_turned_box : RelativeBox → RelativeBox
quarter_turned_box b = record {
  least = record { x = neg_ℤ b.greatest.z; y = b.least.y; z = b.least.x };
  greatest = record { x = neg_ℤ b.least.z; y = b.greatest.y; z = b.greatest.x };
}

abbrev pub flipped_box : Direction → RelativeBox → RelativeBox
flipped_box North b = record { least = record b.least { z = neg_ℤ b.greatest.z }; greatest = record b.greatest { z = neg_ℤ b.least.z } }
flipped_box South b = record { least = record b.least { z = neg_ℤ b.greatest.z }; greatest = record b.greatest { z = neg_ℤ b.least.z } }
flipped_box East b = record { least = record b.least { x = neg_ℤ b.greatest.x }; greatest = record b.greatest { x = neg_ℤ b.least.x } }
flipped_box West b = record { least = record b.least { x = neg_ℤ b.greatest.x }; greatest = record b.greatest { x = neg_ℤ b.least.x } }
flipped_box Up b = record { least = record b.least { y = neg_ℤ b.greatest.y }; greatest = record b.greatest { y = neg_ℤ b.least.y } }
flipped_box Down b = record { least = record b.least { y = neg_ℤ b.greatest.y }; greatest = record b.greatest { y = neg_ℤ b.least.y } }

abbrev pub turned_box : Transform → RelativeBox → RelativeBox
turned_box t b = transformed quarter_turned_box flipped_box t b
