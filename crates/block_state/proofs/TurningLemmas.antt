-- A transform turns a state by turning its properties.
use Rattle.std.proofs.Common.{◌≡◌, ℕ, zero, suc, ◌%◌, Bool, true, false, cond, refl, ap, ◌∙◌, subst}
use Rattle.edit_terms.specs.declared.transform.Transform.{Transform}
use Rattle.edit_terms.specs.StateText.{State, is_properties, IsState}
use Rattle.edit_terms.specs.Transform.{TurnTable, times, quarter_table, x_table, y_table, turned_by, quarter_turned_state, turned_state}
use Rattle.block_state.specs.Turn.{properties_by, turned_properties}

quarters_of_properties : (n : ℕ) (s : State) → times n quarter_turned_state s ≡ record s { properties = times n (properties_by quarter_table) s.properties }
quarters_of_properties zero s = refl
quarters_of_properties (suc n) s = ap quarter_turned_state (quarters_of_properties n s)

flip_of_properties : (b : Bool) (table : TurnTable) (s : State) → cond b (turned_by table s) s ≡ record s { properties = cond b (properties_by table s.properties) s.properties }
flip_of_properties true table s = refl
flip_of_properties false table s = refl

pub turned_state-properties : (t : Transform) (s : State) → turned_state t s ≡ record s { properties = turned_properties t s.properties }
turned_state-properties t s =
    ap (λ (u : State). times (t.turns % 4) quarter_turned_state (cond t.flip_y (turned_by y_table u) u)) (flip_of_properties t.flip_x x_table s)
    ∙ ap (times (t.turns % 4) quarter_turned_state) (flip_of_properties t.flip_y y_table (record s { properties = cond t.flip_x (properties_by x_table s.properties) s.properties }))
    ∙ quarters_of_properties (t.turns % 4) (record s { properties = cond t.flip_y (properties_by y_table (cond t.flip_x (properties_by x_table s.properties) s.properties)) (cond t.flip_x (properties_by x_table s.properties) s.properties) })

-- the properties stay of the form
pub formed_turned : (t : Transform) (s : State) → IsState (turned_state t s) → is_properties (turned_properties t s.properties) ≡ true
formed_turned t s is = subst (λ (u : State). is_properties u.properties ≡ true) (turned_state-properties t s) is.formed
