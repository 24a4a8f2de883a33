-- States are turned and flipped as `IsTurning` asks. Two rows of turns and flips make the same of every state where
-- they make the same of each word that a table lists, which is shown by computing: other words stay.
use Rattle.std.proofs.Common.{◌≡◌, ℕ, ◌≤◌, Bool, true, false, ◌&&◌, ◌||◌, cond, List, [], ◌∷◌, length, map, refl, sym, ap, ◌∙◌, subst, arith}
use Rattle.std.specs.Prelude.{codes, bytes_eq}
use Rattle.std.specs.List.{list_all, list_any}
use Rattle.std.proofs.lemmas.Bool.{and_parts, and_from, both_ways}
use Rattle.std.proofs.lemmas.List.{length-map}
use Rattle.std.proofs.lemmas.Slice.Eq.{bytes_eq-Decides}
use Rattle.edit_terms.specs.declared.direction.Direction.{Direction}
use Rattle.edit_terms.specs.declared.direction.Direction.TheVariants.{North, South, East, West, Up, Down}
use Rattle.edit_terms.specs.StateText.{State, IsState, is_property_word, is_property, sorted_properties}
use Rattle.edit_terms.specs.Transform.{Words, by_words, decimals, TurnTable, quarter_table, x_table, y_table, z_table, flip_table, turned_value, turned_property, turned_by, quarter_turned_state, flipped_state}
use Rattle.edit_terms.proofs.PropertyLemmas.{Pairs, IsKeyed, IsFormed, formed, formed_sorted, sorted_rising, sorted-map-sorted}
use Rattle.edit_terms.proofs.TurnLemmas.{IsTurning}

-- ---- words

abbrev pub is_word_of : List (List ℕ) → List ℕ → Bool
is_word_of words w = list_any (λ x. bytes_eq x w) words

-- every word that the rows change is one of the words
abbrev pub covers : List (List ℕ) → Words → Bool
covers words rows = list_all (λ row. is_word_of words row.0) rows

-- the last table first
abbrev pub through : List Words → List ℕ → List ℕ
through [] w = w
through (rows ∷ more) w = by_words rows (through more w)

pub off : (words : List (List ℕ)) (rows : Words) (w : List ℕ) → covers words rows ≡ true → is_word_of words w ≡ false → by_words rows w ≡ w
off words [] w h none = refl
off words (row ∷ rows) w h none =
    let parts = and_parts (is_word_of words row.0) (covers words rows) h in
    elim (bytes_eq row.0 w) as (λ b. bytes_eq row.0 w ≡ b → cond b row.1 (by_words rows w) ≡ w) [
      | true ↦ λ is. absurd (both_ways (is_word_of words w) none (subst (λ x. is_word_of words x ≡ true) ((bytes_eq-Decides row.0 w).0 is) parts.0))
      | false ↦ λ is. off words rows w parts.1 none
    ] refl

off_through : (words : List (List ℕ)) (ts : List Words) (w : List ℕ) → list_all (covers words) ts ≡ true → is_word_of words w ≡ false → through ts w ≡ w
off_through words [] w h none = refl
off_through words (rows ∷ more) w h none =
    let parts = and_parts (covers words rows) (list_all (covers words) more) h in
    ap (by_words rows) (off_through words more w parts.1 none) ∙ off words rows w parts.0 none

-- the two rows of tables make the same of each of the words, and change no other
abbrev pub agree_on : List (List ℕ) → List Words → List Words → Bool
agree_on words ts us = list_all (λ x. bytes_eq (through ts x) (through us x)) words && (list_all (covers words) ts && list_all (covers words) us)

pub same_through : (words : List (List ℕ)) (ts us : List Words) → agree_on words ts us ≡ true → (w : List ℕ) → through ts w ≡ through us w
same_through words ts us h w =
    let parts = and_parts (list_all (λ x. bytes_eq (through ts x) (through us x)) words) (list_all (covers words) ts && list_all (covers words) us) h in
    let cover = and_parts (list_all (covers words) ts) (list_all (covers words) us) parts.1 in
    at_word words parts.0 (λ none. off_through words ts w cover.0 none ∙ sym (off_through words us w cover.1 none))
  where
    at_word : (xs : List (List ℕ)) → list_all (λ x. bytes_eq (through ts x) (through us x)) xs ≡ true → (is_word_of xs w ≡ false → through ts w ≡ through us w) → through ts w ≡ through us w
    at_word [] h other = other refl
    at_word (x ∷ xs) h other =
        let parts = and_parts (bytes_eq (through ts x) (through us x)) (list_all (λ x. bytes_eq (through ts x) (through us x)) xs) h in
        elim (bytes_eq x w) as (λ b. bytes_eq x w ≡ b → ((b || is_word_of xs w) ≡ false → through ts w ≡ through us w) → through ts w ≡ through us w) [
          | true ↦ λ is rest. subst (λ (y : List ℕ). through ts y ≡ through us y) ((bytes_eq-Decides x w).0 is) ((bytes_eq-Decides (through ts x) (through us x)).0 parts.0)
          | false ↦ λ is rest. at_word xs parts.1 rest
        ] refl other

-- ---- properties

-- the keys that a table may change, and the words that it may change as values
abbrev pub sides : List (List ℕ)
sides = codes "north" ∷ codes "east" ∷ codes "south" ∷ codes "west" ∷ []

abbrev pub facings : List (List ℕ)
facings = codes "up" ∷ codes "down" ∷ sides

abbrev pub axes : List (List ℕ)
axes = codes "x" ∷ codes "z" ∷ []

abbrev pub sixteenths : List (List ℕ)
sixteenths = decimals

-- a row of words that are of the form
abbrev pub is_worded : Words → Bool
is_worded rows = list_all (λ row. is_property_word row.1) rows

-- what is asked of a table
pub record IsTable (t : TurnTable) : Type 0 where
  pub covered : covers sides t.keys ≡ true
  pub stays : list_all (λ row. is_word_of sides row.1) t.keys ≡ true
  pub facing : is_worded t.facing ≡ true
  pub axis : is_worded t.axis ≡ true
  pub rotation : is_worded t.rotation ≡ true
  pub keys : is_worded t.keys ≡ true
  pub keyed : IsKeyed (turned_property t)

side_stays : (rows : Words) (w : List ℕ) → list_all (λ row. is_word_of sides row.1) rows ≡ true → is_word_of sides w ≡ true → is_word_of sides (by_words rows w) ≡ true
side_stays [] w h is = is
side_stays (row ∷ rows) w h is =
    let parts = and_parts (is_word_of sides row.1) (list_all (λ row. is_word_of sides row.1) rows) h in
    elim (bytes_eq row.0 w) as (λ b. is_word_of sides (cond b row.1 (by_words rows w)) ≡ true) [ true ↦ parts.0 | false ↦ side_stays rows w parts.1 is ]

-- a key that is no side is told from others after the keys are changed as before
pub told_alike : (word : List ℕ) → is_word_of sides word ≡ false → (t : TurnTable) → IsTable t → (key : List ℕ) → bytes_eq word (by_words t.keys key) ≡ bytes_eq word key
told_alike word none t is key =
    elim (is_word_of sides key) as (λ b. is_word_of sides key ≡ b → bytes_eq word (by_words t.keys key) ≡ bytes_eq word key) [
      | true ↦ λ side. other (by_words t.keys key) (side_stays t.keys key is.stays side) ∙ sym (other key side)
      | false ↦ λ side. ap (bytes_eq word) (off sides t.keys key is.covered side)
    ] refl
  where
    other : (k : List ℕ) → is_word_of sides k ≡ true → bytes_eq word k ≡ false
    other k side = elim (bytes_eq word k) as (λ b. bytes_eq word k ≡ b → b ≡ false) [
      | true ↦ λ e. absurd (both_ways (is_word_of sides word) none (subst (λ x. is_word_of sides x ≡ true) (sym ((bytes_eq-Decides word k).0 e)) side))
      | false ↦ λ e. refl
    ] refl

-- the last table first
abbrev pub through_tables : List TurnTable → List ℕ × List ℕ → List ℕ × List ℕ
through_tables [] p = p
through_tables (t ∷ ts) p = turned_property t (through_tables ts p)

-- what the value of a key becomes
abbrev pub value_through : List TurnTable → List ℕ → List ℕ → List ℕ
value_through ts key value =
    cond (bytes_eq (codes "facing") key) (through (map (λ t. t.facing) ts) value)
    (cond (bytes_eq (codes "axis") key) (through (map (λ t. t.axis) ts) value)
    (cond (bytes_eq (codes "rotation") key) (through (map (λ t. t.rotation) ts) value) value))

-- each of the tables is as asked
abbrev pub AreTables : List TurnTable → Type 0
AreTables [] = Unit {0}
AreTables (t ∷ ts) = IsTable t × AreTables ts

told_through : (word : List ℕ) → is_word_of sides word ≡ false → (ts : List TurnTable) → AreTables ts → (key : List ℕ) → bytes_eq word (through (map (λ t. t.keys) ts) key) ≡ bytes_eq word key
told_through word none [] h key = refl
told_through word none (t ∷ ts) h key = told_alike word none t h.0 (through (map (λ t. t.keys) ts) key) ∙ told_through word none ts h.1 key

pub through_tables_is : (ts : List TurnTable) → AreTables ts → (p : List ℕ × List ℕ) → through_tables ts p ≡ (through (map (λ t. t.keys) ts) p.0, value_through ts p.0 p.1)
through_tables_is [] h p = λ i. (p.0, unchanged (bytes_eq (codes "facing") p.0) (bytes_eq (codes "axis") p.0) (bytes_eq (codes "rotation") p.0) i)
  where
    unchanged : (a b c : Bool) → p.1 ≡ cond a p.1 (cond b p.1 (cond c p.1 p.1))
    unchanged true b c = refl
    unchanged false true c = refl
    unchanged false false true = refl
    unchanged false false false = refl
through_tables_is (t ∷ ts) h p =
    let key = through (map (λ t. t.keys) ts) p.0 in
    ap (turned_property t) (through_tables_is ts h.1 p)
    ∙ λ i. (by_words t.keys key, (step (told_through (codes "facing") refl ts h.1 p.0) (told_through (codes "axis") refl ts h.1 p.0) (told_through (codes "rotation") refl ts h.1 p.0)) i)
  where
    in_case : (a b c : Bool) →
        cond a (by_words t.facing (cond a (through (map (λ t. t.facing) ts) p.1) (cond b (through (map (λ t. t.axis) ts) p.1) (cond c (through (map (λ t. t.rotation) ts) p.1) p.1))))
        (cond b (by_words t.axis (cond a (through (map (λ t. t.facing) ts) p.1) (cond b (through (map (λ t. t.axis) ts) p.1) (cond c (through (map (λ t. t.rotation) ts) p.1) p.1))))
        (cond c (by_words t.rotation (cond a (through (map (λ t. t.facing) ts) p.1) (cond b (through (map (λ t. t.axis) ts) p.1) (cond c (through (map (λ t. t.rotation) ts) p.1) p.1))))
        (cond a (through (map (λ t. t.facing) ts) p.1) (cond b (through (map (λ t. t.axis) ts) p.1) (cond c (through (map (λ t. t.rotation) ts) p.1) p.1)))))
        ≡ cond a (by_words t.facing (through (map (λ t. t.facing) ts) p.1)) (cond b (by_words t.axis (through (map (λ t. t.axis) ts) p.1)) (cond c (by_words t.rotation (through (map (λ t. t.rotation) ts) p.1)) p.1))
    in_case true b c = refl
    in_case false true c = refl
    in_case false false true = refl
    in_case false false false = refl

    step : {a b c : Bool} → a ≡ bytes_eq (codes "facing") p.0 → b ≡ bytes_eq (codes "axis") p.0 → c ≡ bytes_eq (codes "rotation") p.0 →
        cond a (by_words t.facing (value_through ts p.0 p.1)) (cond b (by_words t.axis (value_through ts p.0 p.1)) (cond c (by_words t.rotation (value_through ts p.0 p.1)) (value_through ts p.0 p.1)))
        ≡ value_through (t ∷ ts) p.0 p.1
    step e f g =
        (λ i. cond (e i) (by_words t.facing (value_through ts p.0 p.1)) (cond (f i) (by_words t.axis (value_through ts p.0 p.1)) (cond (g i) (by_words t.rotation (value_through ts p.0 p.1)) (value_through ts p.0 p.1))))
        ∙ in_case (bytes_eq (codes "facing") p.0) (bytes_eq (codes "axis") p.0) (bytes_eq (codes "rotation") p.0)

-- two rows of tables that make the same of each word that they change
abbrev pub do_same : List TurnTable → List TurnTable → Bool
do_same ts us =
    agree_on facings (map (λ t. t.facing) ts) (map (λ t. t.facing) us) && (agree_on axes (map (λ t. t.axis) ts) (map (λ t. t.axis) us)
    && (agree_on sixteenths (map (λ t. t.rotation) ts) (map (λ t. t.rotation) us) && agree_on sides (map (λ t. t.keys) ts) (map (λ t. t.keys) us)))

pub same_property : (ts us : List TurnTable) → AreTables ts → AreTables us → do_same ts us ≡ true → (p : List ℕ × List ℕ) → through_tables ts p ≡ through_tables us p
same_property ts us g h same p =
    let a = and_parts (agree_on facings (map (λ t. t.facing) ts) (map (λ t. t.facing) us)) _ same in
    let b = and_parts (agree_on axes (map (λ t. t.axis) ts) (map (λ t. t.axis) us)) _ a.1 in
    let c = and_parts (agree_on sixteenths (map (λ t. t.rotation) ts) (map (λ t. t.rotation) us)) (agree_on sides (map (λ t. t.keys) ts) (map (λ t. t.keys) us)) b.1 in
    let facing = same_through facings (map (λ t. t.facing) ts) (map (λ t. t.facing) us) a.0 p.1 in
    let axis = same_through axes (map (λ t. t.axis) ts) (map (λ t. t.axis) us) b.0 p.1 in
    let rotation = same_through sixteenths (map (λ t. t.rotation) ts) (map (λ t. t.rotation) us) c.0 p.1 in
    let key = same_through sides (map (λ t. t.keys) ts) (map (λ t. t.keys) us) c.1 p.0 in
    through_tables_is ts g p
    ∙ (λ i. (key i, cond (bytes_eq (codes "facing") p.0) (facing i) (cond (bytes_eq (codes "axis") p.0) (axis i) (cond (bytes_eq (codes "rotation") p.0) (rotation i) p.1))))
    ∙ sym (through_tables_is us h p)

-- ---- states

-- the last table first
abbrev pub through_states : List TurnTable → State → State
through_states [] s = s
through_states (t ∷ ts) s = turned_by t (through_states ts s)

map-map : (f g : List ℕ × List ℕ → List ℕ × List ℕ) (ps : Pairs) → map f (map g ps) ≡ map (λ p. f (g p)) ps
map-map f g [] = refl
map-map f g (p ∷ ps) = λ i. f (g p) ∷ map-map f g ps i

map-same : (f g : List ℕ × List ℕ → List ℕ × List ℕ) → ((p : List ℕ × List ℕ) → f p ≡ g p) → (ps : Pairs) → map f ps ≡ map g ps
map-same f g same [] = refl
map-same f g same (p ∷ ps) = λ i. same p i ∷ map-same f g same ps i

map-stay : (ps : Pairs) → map (λ (p : List ℕ × List ℕ). p) ps ≡ ps
map-stay [] = refl
map-stay (p ∷ ps) = λ i. p ∷ map-stay ps i

through_states_is : (ts : List TurnTable) → AreTables ts → (s : State) → IsFormed s.properties → through_states ts s ≡ record s { properties = sorted_properties (map (through_tables ts) s.properties) }
through_states_is [] h s is = λ i. record s { properties = (sym (ap sorted_properties (map-stay s.properties) ∙ sorted_rising s.properties is.rising)) i }
through_states_is (t ∷ ts) h s is =
    ap (turned_by t) (through_states_is ts h.1 s is)
    ∙ λ i. record s { properties = (sorted-map-sorted (turned_property t) h.0.keyed (map (through_tables ts) s.properties) ∙ ap sorted_properties (map-map (turned_property t) (through_tables ts) s.properties)) i }

-- two rows of turns and flips that do the same make one state of a state
pub same_states : (ts us : List TurnTable) → AreTables ts → AreTables us → do_same ts us ≡ true → (s : State) → IsState s → through_states ts s ≡ through_states us s
same_states ts us g h same s is =
    let ps = formed s.properties is.formed in
    through_states_is ts g s ps
    ∙ (λ i. record s { properties = sorted_properties (map-same (through_tables ts) (through_tables us) (same_property ts us g h same) s.properties i) })
    ∙ sym (through_states_is us h s ps)

word_stays : (rows : Words) (w : List ℕ) → is_worded rows ≡ true → is_property_word w ≡ true → is_property_word (by_words rows w) ≡ true
word_stays [] w h is = is
word_stays (row ∷ rows) w h is =
    let parts = and_parts (is_property_word row.1) (is_worded rows) h in
    elim (bytes_eq row.0 w) as (λ b. is_property_word (cond b row.1 (by_words rows w)) ≡ true) [ true ↦ parts.0 | false ↦ word_stays rows w parts.1 is ]

property_stays : (t : TurnTable) → IsTable t → (p : List ℕ × List ℕ) → is_property p ≡ true → is_property (turned_property t p) ≡ true
property_stays t is p h =
    let parts = and_parts (is_property_word p.0) (is_property_word p.1) h in
    and_from _ _ (word_stays t.keys p.0 is.keys parts.0) (in_case (bytes_eq (codes "facing") p.0) (bytes_eq (codes "axis") p.0) (bytes_eq (codes "rotation") p.0) parts.1)
  where
    in_case : (a b c : Bool) → is_property_word p.1 ≡ true → is_property_word (cond a (by_words t.facing p.1) (cond b (by_words t.axis p.1) (cond c (by_words t.rotation p.1) p.1))) ≡ true
    in_case true b c h = word_stays t.facing p.1 is.facing h
    in_case false true c h = word_stays t.axis p.1 is.axis h
    in_case false false true h = word_stays t.rotation p.1 is.rotation h
    in_case false false false h = h

all_stay : (t : TurnTable) → IsTable t → (ps : Pairs) → list_all is_property ps ≡ true → list_all is_property (map (turned_property t) ps) ≡ true
all_stay t is [] h = refl
all_stay t is (p ∷ ps) h =
    let parts = and_parts (is_property p) (list_all is_property ps) h in
    and_from _ _ (property_stays t is p parts.0) (all_stay t is ps parts.1)

-- a state stays one
pub state_stays : (t : TurnTable) → IsTable t → (s : State) → IsState s → IsState (turned_by t s)
state_stays t is s h =
    let ps = formed s.properties h.formed in
    let few : length (map (turned_property t) s.properties) ≤ 16 = let l = length-map s.properties (turned_property t) in let few = ps.few in omega (arith, l, few) in
    record { named = h.named; formed = formed_sorted (map (turned_property t) s.properties) few (all_stay t is s.properties ps.all) }

-- ---- the four tables

quarter_is : IsTable quarter_table
quarter_is = record {
  covered = refl;
  stays = refl;
  facing = refl;
  axis = refl;
  rotation = refl;
  keys = refl;
  keyed = record {
    key = by_words quarter_table.keys;
    value = turned_value quarter_table;
    back = through (quarter_table.keys ∷ quarter_table.keys ∷ quarter_table.keys ∷ []);
    is = λ p. refl;
    sent = same_through sides (quarter_table.keys ∷ quarter_table.keys ∷ quarter_table.keys ∷ quarter_table.keys ∷ []) [] refl;
    named = same_through sides (quarter_table.keys ∷ quarter_table.keys ∷ quarter_table.keys ∷ quarter_table.keys ∷ []) [] refl;
  };
}

-- what a flip does to keys is undone by itself
flip_keyed : (t : TurnTable) → agree_on sides (t.keys ∷ t.keys ∷ []) [] ≡ true → IsKeyed (turned_property t)
flip_keyed t h = record {
  key = by_words t.keys;
  value = turned_value t;
  back = by_words t.keys;
  is = λ p. refl;
  sent = same_through sides (t.keys ∷ t.keys ∷ []) [] h;
  named = same_through sides (t.keys ∷ t.keys ∷ []) [] h;
}

x_is : IsTable x_table
x_is = record { covered = refl; stays = refl; facing = refl; axis = refl; rotation = refl; keys = refl; keyed = flip_keyed x_table refl }

z_is : IsTable z_table
z_is = record { covered = refl; stays = refl; facing = refl; axis = refl; rotation = refl; keys = refl; keyed = flip_keyed z_table refl }

y_is : IsTable y_table
y_is = record { covered = refl; stays = refl; facing = refl; axis = refl; rotation = refl; keys = refl; keyed = flip_keyed y_table refl }

flip_is : (to : Direction) → IsTable (flip_table to)
flip_is North = z_is
flip_is South = z_is
flip_is East = x_is
flip_is West = x_is
flip_is Up = y_is
flip_is Down = y_is

twice : (t : TurnTable) → IsTable t → do_same (t ∷ t ∷ []) [] ≡ true → (s : State) → IsState s → turned_by t (turned_by t s) ≡ s
twice t is same s h = same_states (t ∷ t ∷ []) [] (is, (is, tt)) tt same s h

pub twice_flipped : (to : Direction) (s : State) → IsState s → flipped_state to (flipped_state to s) ≡ s
twice_flipped North s h = twice z_table z_is refl s h
twice_flipped South s h = twice z_table z_is refl s h
twice_flipped East s h = twice x_table x_is refl s h
twice_flipped West s h = twice x_table x_is refl s h
twice_flipped Up s h = twice y_table y_is refl s h
twice_flipped Down s h = twice y_table y_is refl s h

pub state_turning : IsTurning IsState quarter_turned_state flipped_state
state_turning = record {
  turned = state_stays quarter_table quarter_is;
  flipped = λ to. state_stays (flip_table to) (flip_is to);
  four = same_states (quarter_table ∷ quarter_table ∷ quarter_table ∷ quarter_table ∷ []) [] (quarter_is, (quarter_is, (quarter_is, (quarter_is, tt)))) tt refl;
  twice = twice_flipped;
  along_z = same_states (z_table ∷ []) (quarter_table ∷ quarter_table ∷ x_table ∷ []) (z_is, tt) (quarter_is, (quarter_is, (x_is, tt))) refl;
  south = λ s. refl;
  west = λ s. refl;
  down = λ s. refl;
  mirrored = same_states (x_table ∷ quarter_table ∷ []) (quarter_table ∷ quarter_table ∷ quarter_table ∷ x_table ∷ []) (x_is, (quarter_is, tt)) (quarter_is, (quarter_is, (quarter_is, (x_is, tt)))) refl;
  upright = same_states (y_table ∷ quarter_table ∷ []) (quarter_table ∷ y_table ∷ []) (y_is, (quarter_is, tt)) (quarter_is, (y_is, tt)) refl;
  apart = same_states (x_table ∷ y_table ∷ []) (y_table ∷ x_table ∷ []) (x_is, (y_is, tt)) (y_is, (x_is, tt)) refl;
}
