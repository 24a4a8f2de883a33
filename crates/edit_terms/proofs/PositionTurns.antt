-- Positions are turned and flipped as `IsTurning` asks.
use Rattle.std.proofs.Common.{◌≡◌, refl, sym}
use Rattle.std.specs.Prelude.{neg_ℤ, ⊤}
use Rattle.std.proofs.Math.IntN.{neg_ℤ-neg_ℤ}
use Rattle.edit_terms.specs.declared.pos.Pos.{Pos}
use Rattle.edit_terms.specs.declared.direction.Direction.{Direction}
use Rattle.edit_terms.specs.declared.direction.Direction.TheVariants.{North, South, East, West, Up, Down}
use Rattle.edit_terms.specs.Transform.{quarter_turned_position, flipped_position}
use Rattle.edit_terms.proofs.TurnLemmas.{IsTurning}

-- every position may be turned
abbrev pub Any : Pos → Type 0
Any r = ⊤

pub twice_flipped : (to : Direction) (r : Pos) → flipped_position to (flipped_position to r) ≡ r
twice_flipped North r = λ i. record r { z = neg_ℤ-neg_ℤ r.z i }
twice_flipped South r = λ i. record r { z = neg_ℤ-neg_ℤ r.z i }
twice_flipped East r = λ i. record r { x = neg_ℤ-neg_ℤ r.x i }
twice_flipped West r = λ i. record r { x = neg_ℤ-neg_ℤ r.x i }
twice_flipped Up r = λ i. record r { y = neg_ℤ-neg_ℤ r.y i }
twice_flipped Down r = λ i. record r { y = neg_ℤ-neg_ℤ r.y i }

pub position_turning : IsTurning Any quarter_turned_position flipped_position
position_turning = record {
  turned = λ r h. tt;
  flipped = λ to r h. tt;
  four = λ r h i. record r { x = neg_ℤ-neg_ℤ r.x i; z = neg_ℤ-neg_ℤ r.z i };
  twice = λ to r h. twice_flipped to r;
  along_z = λ r h. let e = sym (neg_ℤ-neg_ℤ r.x) in λ i. record r { x = e i; z = neg_ℤ r.z };
  south = λ r. refl;
  west = λ r. refl;
  down = λ r. refl;
  mirrored = λ r h. let e = sym (neg_ℤ-neg_ℤ r.x) in λ i. record r { x = neg_ℤ (neg_ℤ r.z); z = e i };
  upright = λ r h. refl;
  apart = λ r h. refl;
}
