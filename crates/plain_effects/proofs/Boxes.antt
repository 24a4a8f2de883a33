-- What a box's test says, one axis at a time.
use Rattle.std.proofs.Common.{◌≡◌, true, ◌&&◌}
use Rattle.edit_terms.specs.declared.pos.Pos.{Pos}
use Rattle.edit_terms.specs.Area.{Area, is_from, holds}
use Rattle.edit_terms.proofs.AreaLemmas.{and_both}

pub record IsHeld (a : Area) (p : Pos) : Type 0 where
  pub x : is_from a.least.x a.width p.x ≡ true
  pub y : is_from a.least.y a.height p.y ≡ true
  pub z : is_from a.least.z a.length p.z ≡ true

pub held : (a : Area) (p : Pos) → holds a p ≡ true → IsHeld a p
held a p h =
    let first = and_both (is_from a.least.x a.width p.x && is_from a.least.y a.height p.y) (is_from a.least.z a.length p.z) h in
    let two = and_both (is_from a.least.x a.width p.x) (is_from a.least.y a.height p.y) first.0 in
    record { x = two.0; y = two.1; z = first.1 }
