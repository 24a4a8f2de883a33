-- The grid of the ground shows the ground.
use Rattle.std.proofs.Common.{◌≡◌, ℕ, Bool, true, false, cond, List, [], ◌∷◌, length, map, get_or, refl, ap, ◌∙◌, arith, pos}
use Rattle.std.specs.Prelude.{int_lt, nat_lt}
use Rattle.std.specs.List.{range_with_len, list_all}
use Rattle.std.specs.Cmp.Derive.{both_true}
use Rattle.std.proofs.lemmas.Bool.{eq-eqb}
use Rattle.std.proofs.lemmas.List.FromFn.{get_or-map-range_with_len, length-map-range_with_len}
use Rattle.edit_terms.specs.declared.pos.Pos.{Pos}
use Rattle.edit_terms.specs.Area.{Area, position_of, volume}
use Rattle.edit_terms.specs.StateText.{State, air}
use Rattle.edit_terms.specs.World.{BlockContent, without_entity}
use Rattle.edit_terms.specs.Grid.{GridParts, world_of, content_of_cell, is_numbered}
use Rattle.run_terms.proofs.Lists.{map-range_agrees}
use Rattle.world_gen.specs.Drill.{stone, dirt, grass_block, ground_at, ground_over}
use Rattle.world_gen.specs.Ground.{ground_number}

-- the states by number
abbrev pub ground_kinds : List State
ground_kinds = stone ∷ dirt ∷ grass_block ∷ air ∷ []

-- the numbers over a box
abbrev pub ground_cells : Area → List ℕ
ground_cells area = map (λ (index : ℕ). ground_number (position_of area index)) (range_with_len 0 (volume area))

-- the number names the state
ground_named : (p : Pos) → get_or ground_kinds (ground_number p) air ≡ ground_at p
ground_named p = by_tests (int_lt p.y (pos 8)) (int_lt p.y (pos 12)) (int_lt p.y (pos 13))
  where
    by_tests : (low middle high : Bool) → get_or ground_kinds (cond low 0 (cond middle 1 (cond high 2 3))) air ≡ cond low stone (cond middle dirt (cond high grass_block air))
    by_tests true middle high = refl
    by_tests false true high = refl
    by_tests false false true = refl
    by_tests false false false = refl

-- each number names a state
number_below : (p : Pos) → nat_lt (ground_number p) 4 ≡ true
number_below p = by_tests (int_lt p.y (pos 8)) (int_lt p.y (pos 12)) (int_lt p.y (pos 13))
  where
    by_tests : (low middle high : Bool) → nat_lt (cond low 0 (cond middle 1 (cond high 2 3))) 4 ≡ true
    by_tests true middle high = refl
    by_tests false true high = refl
    by_tests false false true = refl
    by_tests false false false = refl

all_below : (area : Area) (ns : List ℕ) → list_all (λ (n : ℕ). nat_lt n 4) (map (λ (index : ℕ). ground_number (position_of area index)) ns) ≡ true
all_below area [] = refl
all_below area (n ∷ ns) = both_true (number_below (position_of area n)) (all_below area ns)

pub ground_numbered : (area : Area) → is_numbered area ground_kinds (ground_cells area) ≡ true
ground_numbered area =
    both_true (eq-eqb (length (ground_cells area)) (volume area) (length-map-range_with_len (λ (index : ℕ). ground_number (position_of area index)) 0 (volume area)))
    (all_below area (range_with_len 0 (volume area)))

-- the grid of these numbers
abbrev pub ground_grid : Area → GridParts
ground_grid area = record { area = area; kinds = ground_kinds; cells = ground_cells area; entities = [] }

pub ground_shown : (area : Area) → world_of (ground_grid area) ≡ ground_over area
unfolding ground_over
ground_shown area = ap (λ (contents : List BlockContent). record { area = area; contents = contents })
    (map-range_agrees (content_of_cell (ground_grid area)) (λ (index : ℕ). without_entity (ground_at (position_of area index))) 0 (volume area) (volume area) (omega arith)
    (λ k within. ap without_entity
    (ap (λ (n : ℕ). get_or ground_kinds n air) (get_or-map-range_with_len (λ (index : ℕ). ground_number (position_of area index)) 0 (volume area) k k 0 within (omega arith))
    ∙ ground_named (position_of area k))))
