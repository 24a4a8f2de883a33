-- Turns and flips of a clipboard: of its relative positions and of the states that stand there.
use Rattle.std.specs.Prelude.{ℕ, zero, suc, ◌+◌, ◌-◌, ◌%◌, not, if◌then◌else◌, List, [], ◌∷◌, map, get_or, neg_ℤ, codes, bytes_eq}
use Rattle.std.specs.List.{range_with_len}
use Rattle.edit_terms.specs.declared.pos.Pos.{Pos}
use Rattle.edit_terms.specs.declared.direction.Direction.{Direction}
use Rattle.edit_terms.specs.declared.direction.Direction.TheVariants.{North, South, East, West, Up, Down}
use Rattle.edit_terms.specs.declared.transform.Transform.{Transform}
use Rattle.edit_terms.specs.StateText.{State, sorted_properties}
use Rattle.edit_terms.specs.World.{BlockContent}

-- f done n times
abbrev pub times : {A : Type 0} → ℕ → (A → A) → A → A
times zero f a = a
times (suc n) f a = f (times n f a)

-- What a transform does where this is a quarter turn and this are the flips: the flips first, then the turns,
-- which count modulo 4.
abbrev pub transformed : {A : Type 0} → (A → A) → (Direction → A → A) → Transform → A → A
transformed turn flip t a =
    let east = if t.flip_x then flip East a else a in
    times (t.turns % 4) turn (if t.flip_y then flip Up east else east)

-- What undoes that: the turns that are left to a whole one, then the flips.
abbrev pub undone : {A : Type 0} → (A → A) → (Direction → A → A) → Transform → A → A
undone turn flip t a =
    let back = times ((4 - t.turns % 4) % 4) turn a in
    let up = if t.flip_y then flip Up back else back in
    if t.flip_x then flip East up else up

-- the transform that does this one and then so many quarter turns more
abbrev pub then_turn : Transform → ℕ → Transform
then_turn t quarters = record t { turns = (t.turns + quarters) % 4 }

-- The transform that does this one and then flips: a flip that comes behind turns goes before as many turns the
-- other way round, and a flip along z is one along x and two turns.
abbrev pub then_flip : Transform → Direction → Transform
then_flip t North = record t { flip_x = not t.flip_x; turns = (6 - t.turns % 4) % 4 }
then_flip t South = record t { flip_x = not t.flip_x; turns = (6 - t.turns % 4) % 4 }
then_flip t East = record t { flip_x = not t.flip_x; turns = (4 - t.turns % 4) % 4 }
then_flip t West = record t { flip_x = not t.flip_x; turns = (4 - t.turns % 4) % 4 }
then_flip t Up = record t { flip_y = not t.flip_y }
then_flip t Down = record t { flip_y = not t.flip_y }

-- ---- positions

-- a quarter turn sends east to south: x and z become -z and x
abbrev pub quarter_turned_position : Pos → Pos
quarter_turned_position r = record r { x = neg_ℤ r.z; z = r.x }

-- a flip to north or south changes the sign of z, to east or west that of x, up or down that of y
abbrev pub flipped_position : Direction → Pos → Pos
flipped_position North r = record r { z = neg_ℤ r.z }
flipped_position South r = record r { z = neg_ℤ r.z }
flipped_position East r = record r { x = neg_ℤ r.x }
flipped_position West r = record r { x = neg_ℤ r.x }
flipped_position Up r = record r { y = neg_ℤ r.y }
flipped_position Down r = record r { y = neg_ℤ r.y }

-- where a transform sends a relative position
abbrev pub turned_position : Transform → Pos → Pos
turned_position t r = transformed quarter_turned_position flipped_position t r

-- the relative position that a transform sends to this one
abbrev pub source_position : Transform → Pos → Pos
source_position t r = undone quarter_turned_position flipped_position t r

-- ---- states

-- words and what they become
abbrev pub Words : Type 0
Words = List (List ℕ × List ℕ)

-- what a word becomes; one that isn't listed stays
abbrev pub by_words : Words → List ℕ → List ℕ
by_words [] word = word
by_words (row ∷ rows) word = if bytes_eq row.0 word then row.1 else by_words rows word

-- What a turn or flip makes of a property: which values of `facing`, `axis` and `rotation` become which, and
-- which keys.
pub record TurnTable : Type 0 where
  pub facing : Words
  pub axis : Words
  pub rotation : Words
  pub keys : Words

-- each becomes the other
abbrev pub exchanged : List ℕ → List ℕ → Words
exchanged a b = (a, b) ∷ (b, a) ∷ []

-- the decimal numbers 0 to 15, which are written without leading zeros
abbrev pub decimals : List (List ℕ)
decimals =
    codes "0" ∷ codes "1" ∷ codes "2" ∷ codes "3" ∷ codes "4" ∷ codes "5" ∷ codes "6" ∷ codes "7"
    ∷ codes "8" ∷ codes "9" ∷ codes "10" ∷ codes "11" ∷ codes "12" ∷ codes "13" ∷ codes "14" ∷ codes "15" ∷ []

abbrev pub decimal_of : ℕ → List ℕ
decimal_of r = get_or decimals r []

-- the rotations 0 to 15, in sixteenths of a whole turn, and what they become modulo 16
abbrev pub rotations : (ℕ → ℕ) → Words
rotations become = map (λ r. (decimal_of r, decimal_of (become r % 16))) (range_with_len 0 16)

-- each side becomes the next one
abbrev pub next_sides : Words
next_sides = (codes "north", codes "east") ∷ (codes "east", codes "south") ∷ (codes "south", codes "west") ∷ (codes "west", codes "north") ∷ []

-- what a quarter turn does
abbrev pub quarter_table : TurnTable
quarter_table = record {
  facing = next_sides;
  axis = exchanged (codes "x") (codes "z");
  rotation = rotations (λ r. r + 4);
  keys = next_sides;
}

-- what a flip along x does
abbrev pub x_table : TurnTable
x_table = record {
  facing = exchanged (codes "east") (codes "west");
  axis = [];
  rotation = rotations (λ r. 16 - r);
  keys = exchanged (codes "east") (codes "west");
}

-- what a flip along z does: 24 - r is 8 - r modulo 16
abbrev pub z_table : TurnTable
z_table = record {
  facing = exchanged (codes "north") (codes "south");
  axis = [];
  rotation = rotations (λ r. 24 - r);
  keys = exchanged (codes "north") (codes "south");
}

-- what a flip along y does
abbrev pub y_table : TurnTable
y_table = record { facing = exchanged (codes "up") (codes "down"); axis = []; rotation = []; keys = [] }

abbrev pub flip_table : Direction → TurnTable
flip_table North = z_table
flip_table South = z_table
flip_table East = x_table
flip_table West = x_table
flip_table Up = y_table
flip_table Down = y_table

-- what the value of a key becomes
abbrev pub turned_value : TurnTable → List ℕ → List ℕ → List ℕ
turned_value table key value =
    if bytes_eq (codes "facing") key then by_words table.facing value
    else (if bytes_eq (codes "axis") key then by_words table.axis value
    else (if bytes_eq (codes "rotation") key then by_words table.rotation value else value))

-- what a property becomes
abbrev pub turned_property : TurnTable → List ℕ × List ℕ → List ℕ × List ℕ
turned_property table p = (by_words table.keys p.0, turned_value table p.0 p.1)

-- the state with each property turned, sorted by key again
abbrev pub turned_by : TurnTable → State → State
turned_by table s = record s { properties = sorted_properties (map (turned_property table) s.properties) }

abbrev pub quarter_turned_state : State → State
quarter_turned_state s = turned_by quarter_table s

abbrev pub flipped_state : Direction → State → State
flipped_state to s = turned_by (flip_table to) s

-- what a transform makes of a state
abbrev pub turned_state : Transform → State → State
turned_state t s = transformed quarter_turned_state flipped_state t s

-- a content's state is turned, and its entity stays
abbrev pub turned_content : Transform → BlockContent → BlockContent
turned_content t c = record c { state = turned_state t c.state }
