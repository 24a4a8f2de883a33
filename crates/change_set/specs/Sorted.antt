-- The order of cells that are kept one by one.
use Rattle.std.specs.Prelude.{◌^◌, ◌<◌, List, length}
use Rattle.std.specs.Ordering.{int_cmp, ordering_then, is_lt}
use Rattle.std.specs.declared.cmp.Ordering.{Ordering}
use Rattle.std.specs.List.Sorted.{IsSortedBy}
use Rattle.edit_terms.specs.declared.pos.Pos.{Pos}
use Rattle.edit_terms.specs.World.{BlockContent}

-- the order of positions: by y, then by z, then by x. In each box it is the order of their places.
abbrev pub position_cmp : Pos → Pos → Ordering
position_cmp p q = ordering_then (ordering_then (int_cmp p.y q.y) (int_cmp p.z q.z)) (int_cmp p.x q.x)

-- no cell comes before the one in front of it
abbrev pub AreInOrder : List (Pos × BlockContent) → Type 0
AreInOrder cells = IsSortedBy (λ c d. is_lt (position_cmp c.0 d.0)) cells

-- what holds of cells that are kept one by one
pub record AreSorted (cells : List (Pos × BlockContent)) : Type 0 where
  pub few : length cells < 2 ^ 32
  pub in_order : AreInOrder cells
