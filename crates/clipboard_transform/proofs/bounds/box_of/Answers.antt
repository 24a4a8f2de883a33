use Rattle.std.proofs.Common.{rules, sym, subst, negsuc, ◌≤ℤ◌}
use Rattle.clipboard_transform.proofs.BoundsLemmas.{least_y, least_z, box_on_map}
use Rattle.clipboard_transform.proofs.bounds.box_of.Goals as goal

-- src/bounds.rt:48:16
pub last-requires-2-clause-from : goal.last-requires-2-clause-from
last-requires-2-clause-from c =
    let from : negsuc 33554431 ≤ℤ c.least-least.result.y = subst (λ p. negsuc 33554431 ≤ℤ p.y) (sym c.least-least.ensures) (least_y c.args.area.now c.well_formed-2.ensures) in
    search rules

-- src/bounds.rt:49:16
pub last-requires-3-clause-from : goal.last-requires-3-clause-from
last-requires-3-clause-from c =
    let from : negsuc 33554431 ≤ℤ c.least-least.result.z = subst (λ p. negsuc 33554431 ≤ℤ p.z) (sym c.least-least.ensures) (least_z c.args.area.now c.well_formed-2.ensures) in
    search rules

-- src/bounds.rt:37:1
pub returns-clause-map : goal.returns-clause-map
returns-clause-map c = box_on_map c.args.area.now c.well_formed-2.ensures
