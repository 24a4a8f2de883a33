-- Which bytes are block names, property keys and property values, what contracts see of a block state, and
-- which text stands for which state (the text form of block states of Sponge Schematic Specification 2).
use Rattle.std.specs.Prelude.{◌≡◌, ℕ, ◌+◌, Bool, true, false, ◌&&◌, ◌||◌, ◌==◌, not, nat_le, nat_lt, if◌then◌else◌, ◌⊎◌, List, [], ◌∷◌, ◌++◌, length, take, drop, map, Option, Some, None, is_some, option_map, Result, Ok, Err, position, codes, bytes_eq, IsPermutation}
use Rattle.std.specs.List.{list_all, list_any, find, slice_split, join_with_byte}
use Rattle.std.specs.FinMap.Entries.{put}
use Rattle.std.specs.Result.{result_ok, result_err}
use Rattle.std.specs.Ordering.{nat_cmp, is_lt}
use Rattle.std.specs.Cmp.Lexicographic.{slice_cmp}

-- a byte of a property's key or value: a to z, 0 to 9, _
abbrev pub is_word_byte : ℕ → Bool
is_word_byte b = (nat_le 97 b && nat_le b 122) || (nat_le 48 b && nat_le b 57) || b == 95

-- a byte of a namespace: also . and -
abbrev pub is_namespace_byte : ℕ → Bool
is_namespace_byte b = is_word_byte b || b == 46 || b == 45

-- a byte of a path: also /
abbrev pub is_path_byte : ℕ → Bool
is_path_byte b = is_namespace_byte b || b == 47

-- the byte that ends the namespace: a colon
abbrev pub is_colon : ℕ → Bool
is_colon b = b == 58

-- a part of a name: some bytes, each of its kind
abbrev pub is_part : (ℕ → Bool) → List ℕ → Bool
is_part is_byte bytes = nat_lt 0 (length bytes) && list_all is_byte bytes

-- a namespace before the colon at this place, and a path behind it
abbrev pub is_split_at : List ℕ → Option ℕ → Bool
is_split_at bytes None = false
is_split_at bytes (Some colon) = is_part is_namespace_byte (take colon bytes) && is_part is_path_byte (drop (colon + 1) bytes)

-- A block's name with its namespace, as minecraft:oak_stairs: at most 256 bytes.
abbrev pub is_block_name : List ℕ → Bool
is_block_name bytes = nat_le (length bytes) 256 && is_split_at bytes (position is_colon bytes)

-- the name that a text without a colon stands for is in the namespace minecraft
abbrev pub with_namespace : List ℕ → List ℕ
with_namespace text = if is_some (position is_colon text) then text else codes "minecraft:" ++ text

-- a property's key or value: 1 to 64 bytes
abbrev pub is_property_word : List ℕ → Bool
is_property_word bytes = nat_le (length bytes) 64 && is_part is_word_byte bytes

abbrev pub is_property : List ℕ × List ℕ → Bool
is_property p = is_property_word p.0 && is_property_word p.1

-- the key comes before the other in byte order
abbrev pub is_key_below : List ℕ × List ℕ → List ℕ × List ℕ → Bool
is_key_below p q = is_lt (slice_cmp nat_cmp p.0 q.0)

abbrev pub is_below_first : List ℕ × List ℕ → List (List ℕ × List ℕ) → Bool
is_below_first p [] = true
is_below_first p (q ∷ qs) = is_key_below p q

-- keys rise in byte order, so each stands once
abbrev pub is_rising : List (List ℕ × List ℕ) → Bool
is_rising [] = true
is_rising (p ∷ ps) = is_below_first p ps && is_rising ps

-- The properties of a state, as pairs of key and value: at most 16.
abbrev pub is_properties : List (List ℕ × List ℕ) → Bool
is_properties ps = nat_le (length ps) 16 && list_all is_property ps && is_rising ps

-- the value of a key
abbrev pub property_of : List (List ℕ × List ℕ) → List ℕ → Option (List ℕ)
property_of ps key = option_map (λ p. p.1) (find (λ p. bytes_eq p.0 key) ps)

-- A block state: a name with its namespace, and properties sorted by key.
pub record State : Type 0 where
  pub name : List ℕ
  pub properties : List (List ℕ × List ℕ)

-- air without properties
abbrev pub air : State
air = record { name = codes "minecraft:air"; properties = [] }

-- the states that count as air, whatever their properties
abbrev pub is_air : State → Bool
is_air s = bytes_eq s.name (codes "minecraft:air") || bytes_eq s.name (codes "minecraft:cave_air") || bytes_eq s.name (codes "minecraft:void_air")

-- a state of a block's name and of properties as they must be
pub record IsState (s : State) : Type 0 where
  pub named : is_block_name s.name ≡ true
  pub formed : is_properties s.properties ≡ true

-- the property in its place by key; a key that is there gets the new value
abbrev pub put_property : List ℕ × List ℕ → List (List ℕ × List ℕ) → List (List ℕ × List ℕ)
put_property p ps = put (slice_cmp nat_cmp) p.0 p.1 ps

-- the old properties, by rising key, with these replaced or added
abbrev pub with_properties : List (List ℕ × List ℕ) → List (List ℕ × List ℕ) → List (List ℕ × List ℕ)
with_properties old [] = old
with_properties old (p ∷ ps) = put_property p (with_properties old ps)

-- these properties by rising key
abbrev pub sorted_properties : List (List ℕ × List ℕ) → List (List ℕ × List ℕ)
sorted_properties ps = with_properties [] ps

abbrev pub has_key : List (List ℕ × List ℕ) → List ℕ → Bool
has_key ps key = list_any (λ p. bytes_eq p.0 key) ps

-- no key stands among these earlier properties, nor twice
abbrev pub is_each_key_new : List (List ℕ × List ℕ) → List (List ℕ × List ℕ) → Bool
is_each_key_new earlier [] = true
is_each_key_new earlier (p ∷ ps) = not (has_key earlier p.0) && is_each_key_new (earlier ++ p ∷ []) ps

-- the bytes [ ] , and = of a state text
abbrev pub opening : ℕ
opening = 91

abbrev pub closing : ℕ
closing = 93

abbrev pub comma : ℕ
comma = 44

abbrev pub equals : ℕ
equals = 61

-- key=value
abbrev pub spelled_property : List ℕ × List ℕ → List ℕ
spelled_property p = p.0 ++ equals ∷ p.1

-- [key=value,key=value]
abbrev pub in_brackets : List (List ℕ × List ℕ) → List ℕ
in_brackets ps = opening ∷ join_with_byte comma (map spelled_property ps) ++ closing ∷ []

-- the shorter of the two: no brackets where there are no properties
abbrev pub written_properties : List (List ℕ × List ℕ) → List ℕ
written_properties [] = []
written_properties (p ∷ ps) = in_brackets (p ∷ ps)

-- The one written form of a state: the name with its namespace, and the properties by rising key.
abbrev pub written_state : State → List ℕ
written_state s = s.name ++ written_properties s.properties

-- A text stands for a state: the state's name, which may lack the namespace minecraft, and its properties in any
-- order; where there are none, empty brackets or no brackets.
pub record IsStateText (text : List ℕ) (s : State) : Type 0 where
  pub valid : IsState s
  pub name : List ℕ
  pub named : with_namespace name ≡ s.name
  pub listed : List (List ℕ × List ℕ)
  pub order : IsPermutation listed s.properties
  pub spelled : (text ≡ name ++ in_brackets listed) ⊎ (text ≡ name ++ written_properties listed)

-- a text that stands for some state
pub record IsSomeStateText (text : List ℕ) : Type 0 where
  pub state : State
  pub is : IsStateText text state

-- Why a text stands for no state.
pub data TextFault : Type 0 where
  BadName : TextFault
  BadProperty : TextFault
  RepeatedKey : TextFault
  TooManyProperties : TextFault

-- the text's pieces between the bytes of this kind
abbrev pub cut_at : ℕ → List ℕ → List (List ℕ)
cut_at c text = slice_split (λ b. b == c) text

-- the property of a text that was cut at =, behind these earlier properties, or its fault
abbrev pub judged : List (List ℕ × List ℕ) → List (List ℕ) → Result (List ℕ × List ℕ) TextFault
judged earlier (key ∷ value ∷ []) =
    if not (is_property (key, value)) then Err BadProperty
    else (if has_key earlier key then Err RepeatedKey
    else (if nat_le 16 (length earlier) then Err TooManyProperties else Ok (key, value)))
judged earlier _ = Err BadProperty

-- the properties behind these earlier ones, or the first fault from the left
abbrev pub listed_behind : List (List ℕ × List ℕ) → List (List ℕ) → Result (List (List ℕ × List ℕ)) TextFault
listed_behind earlier [] = Ok earlier
listed_behind earlier (piece ∷ pieces) = elim (judged earlier (cut_at equals piece)) [
  | Ok p ↦ listed_behind (earlier ++ p ∷ []) pieces
  | Err fault ↦ Err fault
]

-- the properties of the text between brackets; there may be none
abbrev pub listed_inside : List ℕ → Result (List (List ℕ × List ℕ)) TextFault
listed_inside [] = Ok []
listed_inside (b ∷ bytes) = listed_behind [] (cut_at comma (b ∷ bytes))

-- the properties of what stands behind the opening bracket, cut at ]: that one is the text's last byte
abbrev pub listed_before_end : List (List ℕ) → Result (List (List ℕ × List ℕ)) TextFault
listed_before_end (inside ∷ [] ∷ []) = listed_inside inside
listed_before_end _ = Err BadProperty

-- the properties of a text that was cut at [, its pieces behind the name: at most one
abbrev pub listed_in : List (List ℕ) → Result (List (List ℕ × List ℕ)) TextFault
listed_in [] = Ok []
listed_in (rest ∷ []) = listed_before_end (cut_at closing rest)
listed_in _ = Err BadProperty

-- the state of this name and of the properties listed, which may be a fault
abbrev pub state_listed : List ℕ → Result (List (List ℕ × List ℕ)) TextFault → Result State TextFault
state_listed name (Ok listed) = Ok (record { name = name; properties = sorted_properties listed })
state_listed name (Err fault) = Err fault

-- the state of a text that was cut at [, or the text's first fault: the name's, the brackets', or that of the
-- first bad property from the left
abbrev pub state_in : List (List ℕ) → Result State TextFault
state_in [] = Err BadName
state_in (name ∷ pieces) = if is_block_name (with_namespace name) then state_listed (with_namespace name) (listed_in pieces) else Err BadName

-- the state that a text stands for, or its first fault
abbrev pub state_reading : List ℕ → Result State TextFault
state_reading text = state_in (cut_at opening text)

abbrev pub state_of_text : List ℕ → Option State
state_of_text text = result_ok (state_reading text)

abbrev pub state_text_fault : List ℕ → Option TextFault
state_text_fault text = result_err (state_reading text)
