-- What the signs before a mask's leaf come to: whether its answer is turned round, and at which height it is asked.
use Rattle.std.specs.Prelude.{◌≡◌, ℕ, Bool, true, not, if◌then◌else◌, List, drop, ℤ, pos, negsuc, ◌+ℤ◌, ◌-ℤ◌, ◌≤ℤ◌}
use Rattle.edit_terms.specs.declared.pos.Pos.{Pos}
use Rattle.edit_terms.specs.declared.mask.Sign.{Sign}
use Rattle.edit_terms.specs.declared.mask.Sign.TheVariants.{Not, Below, Above}
use Rattle.edit_terms.specs.declared.mask.Leaf.{Leaf}
use Rattle.edit_terms.specs.Area.{Area, holds}
use Rattle.edit_terms.specs.Mask.{Scene, signs_hold, leaf_holds}
use Rattle.clipboard_transform.specs.Bounds.{IsOnMap}
use Rattle.plain_terms.specs.declared.probe.Probe.{Probe}

-- the position of this height above or below another
abbrev pub at_height : Pos → ℤ → Pos
at_height p height = record p { y = height }

-- the probe behind one sign more
abbrev pub probe_after : Sign → Probe → Probe
probe_after Not s = record s { is_negated = not s.is_negated }
probe_after Below s = record s { height = s.height -ℤ pos 1 }
probe_after Above s = record s { height = s.height +ℤ pos 1 }

-- an answer, turned round or not
abbrev pub answered : Bool → Bool → Bool
answered is_negated answer = if is_negated then not answer else answer

-- the signs before any leaf, asked at a position, come to this probe
pub record IsProbe (signs : List Sign) (p : Pos) (s : Probe) : Type 0 where
  pub same : (leaf : Leaf) (number : ℕ) (scene : Scene) → signs_hold signs leaf number scene p ≡ answered s.is_negated (leaf_holds leaf number scene (at_height p s.height))

-- the first count of the signs do, and the other signs are left
pub record IsProbeSoFar (signs : List Sign) (count : ℕ) (p : Pos) (s : Probe) : Type 0 where
  pub same : (leaf : Leaf) (number : ℕ) (scene : Scene) → signs_hold signs leaf number scene p ≡ answered s.is_negated (signs_hold (drop count signs) leaf number scene (at_height p s.height))
  pub low : (negsuc 2147483647 -ℤ pos count) ≤ℤ s.height
  pub high : s.height ≤ℤ (pos 2147483648 +ℤ pos count)

-- this is the block of the box that a probe from a position looks at
pub record IsProbedBlock (a : Area) (p : Pos) (s : Probe) (probed : Pos) : Type 0 where
  pub is : probed ≡ at_height p s.height
  pub held : holds a probed ≡ true
  pub map : IsOnMap probed
