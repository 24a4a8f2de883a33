-- Which relative positions can be turned: each coordinate fits 32 bits with either sign.
use Rattle.std.specs.Prelude.{◌<ℤ◌, negsuc}
use Rattle.edit_terms.specs.declared.pos.Pos.{Pos}

-- each coordinate is above -2^31
pub record IsTurnable (r : Pos) : Type 0 where
  pub x : negsuc 2147483647 <ℤ r.x
  pub y : negsuc 2147483647 <ℤ r.y
  pub z : negsuc 2147483647 <ℤ r.z
