-- Equal coordinates make equal positions, and equal corners equal boxes.
use Rattle.std.proofs.Common.{◌≡◌, refl, ◌∙◌, ap, Bool, true, false}
use Rattle.std.specs.Prelude.{if◌then◌else◌}
use Rattle.edit_terms.specs.declared.pos.Pos.{Pos}
use Rattle.clipboard_transform.specs.declared.relative_box.RelativeBox.{RelativeBox}

pub same_position : (p q : Pos) → p.x ≡ q.x → p.y ≡ q.y → p.z ≡ q.z → p ≡ q
same_position p q x y z =
    ap (λ v. record p { x = v }) x ∙ ap (λ v. record p { x = q.x; y = v }) y ∙ ap (λ v. record p { x = q.x; y = q.y; z = v }) z

pub same_box : (b c : RelativeBox) → b.least ≡ c.least → b.greatest ≡ c.greatest → b ≡ c
same_box b c least greatest = ap (λ p. record b { least = p }) least ∙ ap (λ p. record b { least = c.least; greatest = p }) greatest

pub when_true : (flips : Bool) (a b : RelativeBox) → flips ≡ true → a ≡ (if flips then a else b)
when_true true a b h = refl
when_true false a b h = absurd cc
