-- State texts: a text that spells a state is read as that state, and what is read as a state spells it. The bytes
-- at which texts are cut stand in no name, key or value, so the pieces of a spelled text are the parts that it was
-- joined from.
use Rattle.std.proofs.Common.{◌≡◌, ℕ, ◌+◌, ◌<◌, ◌≤◌, Bool, true, false, not, ◌||◌, cond, ◌⊎◌, inl, inr, ◌↔◌, List, [], ◌∷◌, ◌++◌, length, map, get_or, Option, Some, None, refl, sym, ap, ◌∙◌, subst, arith, append_assoc, append-nil, length-append}
use Rattle.std.specs.Prelude.{nat_le, nat_lt, ◌==◌, Result, Ok, Err, is_some, codes, bytes_eq, position}
use Rattle.std.specs.List.{list_all, onto_first, join_with_byte, position_or_len, before_first, after_first}
use Rattle.std.specs.Result.{result_ok, result_err, result_unwrap_or}
use Rattle.std.specs.FinMap.Entries.{find}
use Rattle.std.proofs.lemmas.Bool.{and_parts, and_from, both_ways, leb-false, lt-leb, ltb-true, eq-eqb, eqb-true, not-true, not_from_false, cond-true, or_left, or_right}
use Rattle.std.proofs.lemmas.List.Folds.{list_all-append, list_any-append}
use Rattle.std.proofs.lemmas.List.Sums.{split_at_first, passes_at_first}
use Rattle.std.proofs.lemmas.List.Splits.{join_with_byte-slice_split}
use Rattle.std.specs.Option.{unwrap_or}
use Rattle.std.specs.List.Sorted.{IsPermutation}
use Rattle.std.proofs.lemmas.List.Sorted.{IsPermutation-refl}
use Rattle.std.proofs.lemmas.Slice.Eq.{bytes_eq-Decides}
use Rattle.std.proofs.lemmas.Map.Text.{is_eq-slice_cmp}
use Rattle.std.specs.Ordering.{eq_by_cmp}
use Rattle.edit_terms.specs.StateText.{State, IsState, IsStateText, IsSomeStateText, TextFault, BadName, BadProperty, RepeatedKey, TooManyProperties, is_word_byte, is_namespace_byte, is_path_byte, is_colon, is_part, is_split_at, is_block_name, with_namespace, is_property_word, is_property, has_key, is_each_key_new, sorted_properties, opening, closing, comma, equals, spelled_property, in_brackets, written_properties, written_state, cut_at, judged, listed_behind, listed_inside, listed_before_end, listed_in, state_listed, state_in, state_reading, state_of_text, state_text_fault}
use Rattle.edit_terms.proofs.PropertyOrder.{listing}
use Rattle.edit_terms.proofs.PropertyLemmas.{Pairs, by_key, formed, formed_sorted, sorted_more}

-- ---- cutting

-- the byte stands nowhere in the text
abbrev pub lacks : ℕ → List ℕ → Bool
lacks c text = list_all (λ b. not (b == c)) text

cut_lacking : (c : ℕ) (text : List ℕ) → lacks c text ≡ true → cut_at c text ≡ text ∷ []
cut_lacking c [] h = refl
cut_lacking c (b ∷ text) h =
    let parts = and_parts (not (b == c)) (lacks c text) h in
    (λ i. cond (not-true (b == c) parts.0 i) ([] ∷ cut_at c text) (onto_first b (cut_lacking c text parts.1 i)))

cut_before : (c : ℕ) (text more : List ℕ) → lacks c text ≡ true → cut_at c (text ++ c ∷ more) ≡ text ∷ cut_at c more
cut_before c [] more h = λ i. cond (eq-eqb c c refl i) ([] ∷ cut_at c more) (onto_first c (cut_at c more))
cut_before c (b ∷ text) more h =
    let parts = and_parts (not (b == c)) (lacks c text) h in
    (λ i. cond (not-true (b == c) parts.0 i) ([] ∷ cut_at c (text ++ c ∷ more)) (onto_first b (cut_before c text more parts.1 i)))

-- bytes of a kind that this byte isn't of
lacks_other : (kind : ℕ → Bool) (c : ℕ) (text : List ℕ) → kind c ≡ false → list_all kind text ≡ true → lacks c text ≡ true
lacks_other kind c [] other h = refl
lacks_other kind c (b ∷ text) other h =
    let parts = and_parts (kind b) (list_all kind text) h in
    and_from _ _ (elim (b == c) as (λ t. (b == c) ≡ t → not t ≡ true) [
      | true ↦ λ e. absurd (both_ways (kind c) other (subst (λ x. kind x ≡ true) (eqb-true b c e) parts.0))
      | false ↦ λ e. refl
    ] refl) (lacks_other kind c text other parts.1)

all_wider : (narrow wide : ℕ → Bool) (text : List ℕ) → ((b : ℕ) → narrow b ≡ true → wide b ≡ true) → list_all narrow text ≡ true → list_all wide text ≡ true
all_wider narrow wide [] w h = refl
all_wider narrow wide (b ∷ text) w h =
    let parts = and_parts (narrow b) (list_all narrow text) h in
    and_from _ _ (w b parts.0) (all_wider narrow wide text w parts.1)

all_join : (kind : ℕ → Bool) (xs ys : List ℕ) → list_all kind xs ≡ true → list_all kind ys ≡ true → list_all kind (xs ++ ys) ≡ true
all_join kind xs ys g h = list_all-append kind xs ys ∙ and_from _ _ g h

all_second : (kind : ℕ → Bool) (xs ys : List ℕ) → list_all kind (xs ++ ys) ≡ true → list_all kind ys ≡ true
all_second kind xs ys h = (and_parts (list_all kind xs) (list_all kind ys) (sym (list_all-append kind xs ys) ∙ h)).1

-- ---- names

-- a byte of a name
abbrev is_name_byte : ℕ → Bool
is_name_byte b = is_path_byte b || is_colon b

named_bytes : (name : List ℕ) → is_block_name name ≡ true → list_all is_name_byte name ≡ true
named_bytes name h =
    elim (nat_lt (position_or_len is_colon name) (length name)) as (λ b. nat_lt (position_or_len is_colon name) (length name) ≡ b → is_split_at name (cond b (Some (position_or_len is_colon name)) None) ≡ true → list_all is_name_byte name ≡ true) [
      | true ↦ λ within split.
          let lt : position_or_len is_colon name < length name = ltb-true _ _ within in
          let both = and_parts (is_part is_namespace_byte (before_first is_colon name)) (is_part is_path_byte (after_first is_colon name)) split in
          let before = (and_parts (nat_lt 0 (length (before_first is_colon name))) (list_all is_namespace_byte (before_first is_colon name)) both.0).1 in
          let after = (and_parts (nat_lt 0 (length (after_first is_colon name))) (list_all is_path_byte (after_first is_colon name)) both.1).1 in
          subst (λ (n : List ℕ). list_all is_name_byte n ≡ true) (sym (split_at_first is_colon name 0 lt))
          (all_join is_name_byte (before_first is_colon name) (get_or name (position_or_len is_colon name) 0 ∷ after_first is_colon name)
          (all_wider is_namespace_byte is_name_byte (before_first is_colon name) (λ b e. or_left _ _ (or_left _ _ e)) before)
          (and_from _ _ (or_right _ _ (passes_at_first is_colon name 0 lt)) (all_wider is_path_byte is_name_byte (after_first is_colon name) (λ b e. or_left _ _ e) after)))
      | false ↦ λ within split. absurd cc
    ] refl (and_parts (nat_le (length name) 256) (is_split_at name (position is_colon name)) h).1

pub name_lacks : (name : List ℕ) → is_block_name (with_namespace name) ≡ true → lacks opening name ≡ true
name_lacks name h =
    elim (is_some (position is_colon name)) as (λ b. is_block_name (cond b name (codes "minecraft:" ++ name)) ≡ true → lacks opening name ≡ true) [
      | true ↦ λ is. lacks_other is_name_byte opening name refl (named_bytes name is)
      | false ↦ λ is. lacks_other is_name_byte opening name refl (all_second is_name_byte (codes "minecraft:") name (named_bytes (codes "minecraft:" ++ name) is))
    ] h

-- ---- properties

word_bytes : (w : List ℕ) → is_property_word w ≡ true → list_all is_word_byte w ≡ true
word_bytes w h =
    let part = (and_parts (nat_le (length w) 64) (is_part is_word_byte w) h).1 in
    (and_parts (nat_lt 0 (length w)) (list_all is_word_byte w) part).1

word_some : (w : List ℕ) → is_property_word w ≡ true → 0 < length w
word_some w h =
    let part = (and_parts (nat_le (length w) 64) (is_part is_word_byte w) h).1 in
    ltb-true _ _ (and_parts (nat_lt 0 (length w)) (list_all is_word_byte w) part).0

-- a byte of a property's text
abbrev is_property_byte : ℕ → Bool
is_property_byte b = is_word_byte b || b == equals

property_bytes : (p : List ℕ × List ℕ) → is_property p ≡ true → list_all is_property_byte (spelled_property p) ≡ true
property_bytes p h =
    let parts = and_parts (is_property_word p.0) (is_property_word p.1) h in
    all_join is_property_byte p.0 (equals ∷ p.1)
    (all_wider is_word_byte is_property_byte p.0 (λ b e. or_left _ _ e) (word_bytes p.0 parts.0))
    (all_wider is_word_byte is_property_byte p.1 (λ b e. or_left _ _ e) (word_bytes p.1 parts.1))

-- a byte of what stands between brackets
abbrev is_inner_byte : ℕ → Bool
is_inner_byte b = is_property_byte b || b == comma

inner_bytes : (ps : Pairs) → list_all is_property ps ≡ true → list_all is_inner_byte (join_with_byte comma (map spelled_property ps)) ≡ true
inner_bytes [] h = refl
inner_bytes (p ∷ []) h =
    let parts = and_parts (is_property p) true h in
    all_wider is_property_byte is_inner_byte (spelled_property p) (λ b e. or_left _ _ e) (property_bytes p parts.0)
inner_bytes (p ∷ q ∷ ps) h =
    let parts = and_parts (is_property p) (list_all is_property (q ∷ ps)) h in
    all_join is_inner_byte (spelled_property p) (comma ∷ join_with_byte comma (map spelled_property (q ∷ ps)))
    (all_wider is_property_byte is_inner_byte (spelled_property p) (λ b e. or_left _ _ e) (property_bytes p parts.0))
    (inner_bytes (q ∷ ps) parts.1)

cut_property : (p : List ℕ × List ℕ) → is_property p ≡ true → cut_at equals (spelled_property p) ≡ p.0 ∷ p.1 ∷ []
cut_property p h =
    let parts = and_parts (is_property_word p.0) (is_property_word p.1) h in
    cut_before equals p.0 p.1 (lacks_other is_word_byte equals p.0 refl (word_bytes p.0 parts.0))
    ∙ ap (λ (l : List (List ℕ)). p.0 ∷ l) (cut_lacking equals p.1 (lacks_other is_word_byte equals p.1 refl (word_bytes p.1 parts.1)))

cut_properties : (p : List ℕ × List ℕ) (ps : Pairs) → list_all is_property (p ∷ ps) ≡ true → cut_at comma (join_with_byte comma (map spelled_property (p ∷ ps))) ≡ map spelled_property (p ∷ ps)
cut_properties p [] h =
    let parts = and_parts (is_property p) true h in
    cut_lacking comma (spelled_property p) (lacks_other is_property_byte comma (spelled_property p) refl (property_bytes p parts.0))
cut_properties p (q ∷ ps) h =
    let parts = and_parts (is_property p) (list_all is_property (q ∷ ps)) h in
    cut_before comma (spelled_property p) (join_with_byte comma (map spelled_property (q ∷ ps))) (lacks_other is_property_byte comma (spelled_property p) refl (property_bytes p parts.0))
    ∙ ap (λ (l : List (List ℕ)). spelled_property p ∷ l) (cut_properties q ps parts.1)

-- a property that is new among few earlier ones is judged to be itself
judged_new : (earlier : Pairs) (p : List ℕ × List ℕ) → is_property p ≡ true → has_key earlier p.0 ≡ false → length earlier < 16 → judged earlier (cut_at equals (spelled_property p)) ≡ Ok p
judged_new earlier p is new few =
    let room : nat_le 16 (length earlier) ≡ false = lt-leb 16 (length earlier) few in
    ap (judged earlier) (cut_property p is)
    ∙ λ i. cond (not (is i)) (Err BadProperty) (cond (new i) (Err RepeatedKey) (cond (room i) (Err TooManyProperties) (Ok p)))

listed_spelled : (earlier ps : Pairs) → list_all is_property ps ≡ true → is_each_key_new earlier ps ≡ true → length earlier + length ps ≤ 16 → listed_behind earlier (map spelled_property ps) ≡ Ok (earlier ++ ps)
listed_spelled earlier [] is new few = ap Ok (sym (append-nil earlier))
listed_spelled earlier (p ∷ ps) is new few =
    let parts = and_parts (is_property p) (list_all is_property ps) is in
    let news = and_parts (not (has_key earlier p.0)) (is_each_key_new (earlier ++ p ∷ []) ps) new in
    let room : length earlier < 16 = omega (arith, few) in
    let sum : length (earlier ++ p ∷ []) ≡ length earlier + 1 = length-append earlier (p ∷ []) in
    let left : length (earlier ++ p ∷ []) + length ps ≤ 16 = omega (arith, few, sum) in
    ap (λ (r : Result (List ℕ × List ℕ) TextFault). elim r as (λ _. Result Pairs TextFault) [ Ok q ↦ listed_behind (earlier ++ q ∷ []) (map spelled_property ps) | Err fault ↦ Err fault ]) (judged_new earlier p parts.0 (not-true _ news.0) room)
    ∙ listed_spelled (earlier ++ p ∷ []) ps parts.1 news.1 left
    ∙ ap Ok (append_assoc earlier (p ∷ []) ps)

length_join : (p : List ℕ × List ℕ) (ps : Pairs) → is_property p ≡ true → 0 < length (join_with_byte comma (map spelled_property (p ∷ ps)))
length_join p ps h =
    let some = word_some p.0 (and_parts (is_property_word p.0) (is_property_word p.1) h).0 in
    elim ps as (λ (qs : Pairs). 0 < length (join_with_byte comma (map spelled_property (p ∷ qs)))) [
      | [] ↦ let l = length-append p.0 (equals ∷ p.1) in omega (arith, some, l)
      | ◌∷◌ q qs ↦
          let l = length-append p.0 (equals ∷ p.1) in
          let m = length-append (spelled_property p) (comma ∷ join_with_byte comma (map spelled_property (q ∷ qs))) in
          omega (arith, some, l, m)
    ]

some_inside : (text : List ℕ) → 0 < length text → listed_inside text ≡ listed_behind [] (cut_at comma text)
some_inside [] h = absurd (omega (arith, h))
some_inside (b ∷ text) h = refl

inside_spelled : (ps : Pairs) → list_all is_property ps ≡ true → is_each_key_new [] ps ≡ true → length ps ≤ 16 → listed_inside (join_with_byte comma (map spelled_property ps)) ≡ Ok ps
inside_spelled [] is new few = refl
inside_spelled (p ∷ ps) is new few =
    let first = (and_parts (is_property p) (list_all is_property ps) is).0 in
    some_inside _ (length_join p ps first) ∙ ap (listed_behind []) (cut_properties p ps is) ∙ listed_spelled [] (p ∷ ps) is new (omega (arith, few))

-- ---- what is spelled is read

brackets_read : (name : List ℕ) (ps : Pairs) → is_block_name (with_namespace name) ≡ true → list_all is_property ps ≡ true → is_each_key_new [] ps ≡ true → length ps ≤ 16 → state_reading (name ++ in_brackets ps) ≡ Ok (record { name = with_namespace name; properties = sorted_properties ps })
brackets_read name ps named is new few =
    let inside = join_with_byte comma (map spelled_property ps) in
    let bytes : list_all is_inner_byte inside ≡ true = inner_bytes ps is in
    let no_end : lacks closing inside ≡ true = lacks_other is_inner_byte closing inside refl bytes in
    let no_more : lacks opening (inside ++ closing ∷ []) ≡ true = all_join (λ b. not (b == opening)) inside (closing ∷ []) (lacks_other is_inner_byte opening inside refl bytes) refl in
    let cut : cut_at opening (name ++ in_brackets ps) ≡ name ∷ (inside ++ closing ∷ []) ∷ [] =
    cut_before opening name (inside ++ closing ∷ []) (name_lacks name named) ∙ ap (λ (l : List (List ℕ)). name ∷ l) (cut_lacking opening (inside ++ closing ∷ []) no_more) in
    let end : cut_at closing (inside ++ closing ∷ []) ≡ inside ∷ [] ∷ [] = cut_before closing inside [] no_end in
    ap state_in cut
    ∙ cond-true (is_block_name (with_namespace name)) _ _ named
    ∙ ap (λ (l : List (List ℕ)). state_listed (with_namespace name) (listed_before_end l)) end
    ∙ ap (state_listed (with_namespace name)) (inside_spelled ps is new few)

bare_read : (name : List ℕ) → is_block_name (with_namespace name) ≡ true → state_reading (name ++ []) ≡ Ok (record { name = with_namespace name; properties = [] })
bare_read name named =
    ap state_reading (append-nil name)
    ∙ ap state_in (cut_lacking opening name (name_lacks name named))
    ∙ cond-true (is_block_name (with_namespace name)) _ _ named

-- a new key isn't found among properties that come behind it
found_new : (earlier ps : Pairs) (k : List ℕ) → has_key earlier k ≡ true → is_each_key_new earlier ps ≡ true → find by_key k ps ≡ None
found_new earlier [] k has new = refl
found_new earlier (q ∷ ps) k has new =
    let news = and_parts (not (has_key earlier q.0)) (is_each_key_new (earlier ++ q ∷ []) ps) new in
    let other : eq_by_cmp by_key k q.0 ≡ false = is_eq-slice_cmp k q.0 ∙ elim (bytes_eq k q.0) as (λ b. bytes_eq k q.0 ≡ b → b ≡ false) [
      | true ↦ λ e. absurd (both_ways (has_key earlier q.0) (not-true _ news.0) (subst (λ x. has_key earlier x ≡ true) ((bytes_eq-Decides k q.0).0 e) has))
      | false ↦ λ e. refl
    ] refl in
    let more : has_key (earlier ++ q ∷ []) k ≡ true = list_any-append (λ p. bytes_eq p.0 k) earlier (q ∷ []) ∙ or_left _ _ has in
    (λ i. cond (other i) (Some q.1) (found_new (earlier ++ q ∷ []) ps k more news.1 i))

-- a text that stands for a state is read as that state
pub read_from_text : (text : List ℕ) (s : State) → IsStateText text s → state_reading text ≡ Ok s
read_from_text text s is =
    let named : is_block_name (with_namespace is.name) ≡ true = subst (λ (n : List ℕ). is_block_name n ≡ true) (sym is.named) is.valid.named in
    let ps = listing is.listed s.properties is.order (formed s.properties is.valid.formed) in
    let whole : (record { name = with_namespace is.name; properties = sorted_properties is.listed }) ≡ s = λ i. record { name = is.named i; properties = ps.sorted i } in
    elim is.spelled [
      | inl e ↦ ap state_reading e ∙ brackets_read is.name is.listed named ps.formed ps.distinct ps.few ∙ ap Ok whole
      | inr e ↦ ap state_reading e ∙ shorter is.name is.listed named ps.formed ps.distinct ps.few ∙ ap Ok whole
    ]
  where
    shorter : (name : List ℕ) (ps : Pairs) → is_block_name (with_namespace name) ≡ true → list_all is_property ps ≡ true → is_each_key_new [] ps ≡ true → length ps ≤ 16 → state_reading (name ++ written_properties ps) ≡ Ok (record { name = with_namespace name; properties = sorted_properties ps })
    shorter name [] named is new few = bare_read name named
    shorter name (p ∷ ps) named is new few = brackets_read name (p ∷ ps) named is new few

-- ---- the written form

-- a block's name keeps its namespace
with_own_namespace : (name : List ℕ) → is_block_name name ≡ true → with_namespace name ≡ name
with_own_namespace name h =
    elim (position is_colon name) as (λ (o : Option ℕ). is_split_at name o ≡ true → cond (is_some o) name (codes "minecraft:" ++ name) ≡ name) [
      | None ↦ λ is. absurd cc
      | Some colon ↦ λ is. refl
    ] (and_parts (nat_le (length name) 256) (is_split_at name (position is_colon name)) h).1

-- the written form of a state stands for it
pub written_stands : (s : State) → IsState s → IsStateText (written_state s) s
written_stands s is = record {
  valid = is;
  name = s.name;
  named = with_own_namespace s.name is.named;
  listed = s.properties;
  order = IsPermutation-refl s.properties;
  spelled = inr refl;
}

-- a text stands for one state at most
pub one_state : (text : List ℕ) (s t : State) → IsStateText text s → IsStateText text t → s ≡ t
one_state text s t g h = ap (λ (r : Result State TextFault). result_unwrap_or r s) (sym (read_from_text text s g) ∙ read_from_text text t h)

-- ---- sorting

-- sorting properties of distinct keys moves them
pub sorted-IsPermutation : (earlier ps : Pairs) → is_each_key_new earlier ps ≡ true → IsPermutation ps (sorted_properties ps)
sorted-IsPermutation earlier [] new = IsPermutation-refl []
sorted-IsPermutation earlier (p ∷ ps) new =
    let news = and_parts (not (has_key earlier p.0)) (is_each_key_new (earlier ++ p ∷ []) ps) new in
    let own : has_key (p ∷ []) p.0 ≡ true = or_left _ _ ((bytes_eq-Decides p.0 p.0).1 refl) in
    let has : has_key (earlier ++ p ∷ []) p.0 ≡ true = list_any-append (λ q. bytes_eq q.0 p.0) earlier (p ∷ []) ∙ or_right _ _ own in
    sorted_more p ps (found_new (earlier ++ p ∷ []) ps p.0 has news.1) (sorted-IsPermutation (earlier ++ p ∷ []) ps news.1)

-- ---- what is read is spelled

-- what a property that is judged to be good says of its text
record IsJudged (earlier : Pairs) (pieces : List (List ℕ)) (p : List ℕ × List ℕ) : Type 0 where
  cut : pieces ≡ p.0 ∷ p.1 ∷ []
  property : is_property p ≡ true
  new : has_key earlier p.0 ≡ false
  few : length earlier < 16

judged_is : (earlier : Pairs) (pieces : List (List ℕ)) (p : List ℕ × List ℕ) → judged earlier pieces ≡ Ok p → IsJudged earlier pieces p
judged_is earlier [] p h = absurd cc
judged_is earlier (key ∷ []) p h = absurd cc
judged_is earlier (key ∷ value ∷ []) p h =
    elim (is_property (key, value)) as (λ a. is_property (key, value) ≡ a → cond (not a) (Err BadProperty) (cond (has_key earlier key) (Err RepeatedKey) (cond (nat_le 16 (length earlier)) (Err TooManyProperties) (Ok (key, value)))) ≡ Ok p → IsJudged earlier (key ∷ value ∷ []) p) [
      | false ↦ λ a h. absurd cc
      | true ↦ λ a h. elim (has_key earlier key) as (λ b. has_key earlier key ≡ b → cond b (Err RepeatedKey) (cond (nat_le 16 (length earlier)) (Err TooManyProperties) (Ok (key, value))) ≡ Ok p → IsJudged earlier (key ∷ value ∷ []) p) [
        | true ↦ λ b h. absurd cc
        | false ↦ λ b h. elim (nat_le 16 (length earlier)) as (λ c. nat_le 16 (length earlier) ≡ c → cond c (Err TooManyProperties) (Ok (key, value)) ≡ Ok p → IsJudged earlier (key ∷ value ∷ []) p) [
          | true ↦ λ c h. absurd cc
          | false ↦ λ c h.
              let same : (key, value) ≡ p = ap (λ (r : Result (List ℕ × List ℕ) TextFault). result_unwrap_or r (key, value)) h in
              subst (λ (q : List ℕ × List ℕ). IsJudged earlier (key ∷ value ∷ []) q) same (record { cut = refl; property = a; new = b; few = leb-false 16 (length earlier) c })
        ] refl h
      ] refl h
    ] refl h
judged_is earlier (key ∷ value ∷ other ∷ more) p h = absurd cc

-- what properties that are read say of their pieces
record IsListed (earlier : Pairs) (pieces : List (List ℕ)) (all : Pairs) : Type 0 where
  listed : Pairs
  whole : all ≡ earlier ++ listed
  spelled : pieces ≡ map spelled_property listed
  formed : list_all is_property listed ≡ true
  new : is_each_key_new earlier listed ≡ true
  few : length listed + length earlier ≤ 16 ⊎ (listed ≡ [])

piece_is : (earlier : Pairs) (piece : List ℕ) (p : List ℕ × List ℕ) → IsJudged earlier (cut_at equals piece) p → piece ≡ spelled_property p
piece_is earlier piece p is = sym (join_with_byte-slice_split equals piece) ∙ ap (join_with_byte equals) is.cut

listed_is : (earlier : Pairs) (pieces : List (List ℕ)) (all : Pairs) → listed_behind earlier pieces ≡ Ok all → IsListed earlier pieces all
listed_is earlier [] all h =
    let same : earlier ≡ all = ap (λ (r : Result Pairs TextFault). result_unwrap_or r []) h in
    record { listed = []; whole = sym same ∙ sym (append-nil earlier); spelled = refl; formed = refl; new = refl; few = inr refl }
listed_is earlier (piece ∷ pieces) all h =
    elim (judged earlier (cut_at equals piece)) as (λ (r : Result (List ℕ × List ℕ) TextFault). judged earlier (cut_at equals piece) ≡ r
    → elim r as (λ _. Result Pairs TextFault) [ Ok p ↦ listed_behind (earlier ++ p ∷ []) pieces | Err fault ↦ Err fault ] ≡ Ok all → IsListed earlier (piece ∷ pieces) all) [
      | Ok p ↦ λ is h.
          let one = judged_is earlier (cut_at equals piece) p is in
          let rest = listed_is (earlier ++ p ∷ []) pieces all h in
          let sum : length (earlier ++ p ∷ []) ≡ length earlier + 1 = length-append earlier (p ∷ []) in
          let room = one.few in
          record {
            listed = p ∷ rest.listed;
            whole = rest.whole ∙ append_assoc earlier (p ∷ []) rest.listed;
            spelled = λ i. piece_is earlier piece p one i ∷ rest.spelled i;
            formed = and_from _ _ one.property rest.formed;
            new = and_from _ _ (not_from_false _ one.new) rest.new;
            few = inl (elim rest.few [
              | inl l ↦ omega (arith, l, sum)
              | inr e ↦ let none : length rest.listed ≡ 0 = ap (λ (l : Pairs). length l) e in omega (arith, none, room)
            ]);
          }
      | Err fault ↦ λ is h. absurd cc
    ] refl h

-- what the properties of a text say of it
record IsInside (text : List ℕ) (ps : Pairs) : Type 0 where
  spelled : text ≡ join_with_byte comma (map spelled_property ps)
  formed : list_all is_property ps ≡ true
  new : is_each_key_new [] ps ≡ true
  few : length ps ≤ 16

inside_is : (text : List ℕ) (ps : Pairs) → listed_inside text ≡ Ok ps → IsInside text ps
inside_is [] ps h =
    let same : [] ≡ ps = ap (λ (r : Result Pairs TextFault). result_unwrap_or r []) h in
    subst (λ (l : Pairs). IsInside [] l) same (record { spelled = refl; formed = refl; new = refl; few = omega arith })
inside_is (b ∷ text) ps h =
    let is = listed_is [] (cut_at comma (b ∷ text)) ps h in
    let same : is.listed ≡ ps = sym is.whole in
    subst (λ (l : Pairs). IsInside (b ∷ text) l) same (record {
      spelled = sym (join_with_byte-slice_split comma (b ∷ text)) ∙ ap (join_with_byte comma) is.spelled;
      formed = is.formed;
      new = is.new;
      few = elim is.few [ inl l ↦ omega (arith, l) | inr e ↦ (let none : length is.listed ≡ 0 = ap (λ (l : Pairs). length l) e in omega (arith, none)) ];
    })

-- what the properties of the pieces behind a name say of them
record IsBehind (name : List ℕ) (pieces : List (List ℕ)) (ps : Pairs) : Type 0 where
  spelled : (join_with_byte opening (name ∷ pieces) ≡ name ++ in_brackets ps) ⊎ (join_with_byte opening (name ∷ pieces) ≡ name ++ written_properties ps)
  formed : list_all is_property ps ≡ true
  new : is_each_key_new [] ps ≡ true
  few : length ps ≤ 16

before_end_is : (name rest : List ℕ) (pieces : List (List ℕ)) (ps : Pairs) → cut_at closing rest ≡ pieces → listed_before_end pieces ≡ Ok ps → IsBehind name (rest ∷ []) ps
before_end_is name rest [] ps e h = absurd cc
before_end_is name rest (inside ∷ []) ps e h = absurd cc
before_end_is name rest (inside ∷ [] ∷ []) ps e h =
    let is = inside_is inside ps h in
    let whole : rest ≡ join_with_byte comma (map spelled_property ps) ++ closing ∷ [] =
    sym (join_with_byte-slice_split closing rest) ∙ ap (join_with_byte closing) e ∙ ap (λ (l : List ℕ). l ++ closing ∷ []) is.spelled in
    record { spelled = inl (ap (λ (l : List ℕ). name ++ opening ∷ l) whole); formed = is.formed; new = is.new; few = is.few }
before_end_is name rest (inside ∷ [] ∷ other ∷ more) ps e h = absurd cc
before_end_is name rest (inside ∷ (b ∷ bytes) ∷ more) ps e h = absurd cc

behind_is : (name : List ℕ) (pieces : List (List ℕ)) (ps : Pairs) → listed_in pieces ≡ Ok ps → IsBehind name pieces ps
behind_is name [] ps h =
    let same : [] ≡ ps = ap (λ (r : Result Pairs TextFault). result_unwrap_or r []) h in
    subst (λ (l : Pairs). IsBehind name [] l) same (record { spelled = inr (sym (append-nil name)); formed = refl; new = refl; few = omega arith })
behind_is name (rest ∷ []) ps h = before_end_is name rest (cut_at closing rest) ps refl h
behind_is name (rest ∷ other ∷ more) ps h = absurd cc

text_from_pieces : (text : List ℕ) (pieces : List (List ℕ)) (s : State) → cut_at opening text ≡ pieces → state_in pieces ≡ Ok s → IsStateText text s
text_from_pieces text [] s e h = absurd cc
text_from_pieces text (name ∷ pieces) s e h =
    elim (is_block_name (with_namespace name)) as (λ b. is_block_name (with_namespace name) ≡ b → cond b (state_listed (with_namespace name) (listed_in pieces)) (Err BadName) ≡ Ok s → IsStateText text s) [
      | false ↦ λ named h. absurd cc
      | true ↦ λ named h. elim (listed_in pieces) as (λ (r : Result Pairs TextFault). listed_in pieces ≡ r → state_listed (with_namespace name) r ≡ Ok s → IsStateText text s) [
        | Err fault ↦ λ is h. absurd cc
        | Ok ps ↦ λ is h.
            let all = behind_is name pieces ps is in
            let joined : text ≡ join_with_byte opening (name ∷ pieces) = sym (join_with_byte-slice_split opening text) ∙ ap (join_with_byte opening) e in
            let state : State = record { name = with_namespace name; properties = sorted_properties ps } in
            let same : state ≡ s = ap (λ (r : Result State TextFault). result_unwrap_or r state) h in
            subst (λ (t : State). IsStateText text t) same (record {
              valid = record { named = named; formed = formed_sorted ps all.few all.formed };
              name = name;
              named = refl;
              listed = ps;
              order = sorted-IsPermutation [] ps all.new;
              spelled = elim all.spelled [ inl f ↦ inl (joined ∙ f) | inr f ↦ inr (joined ∙ f) ];
            })
      ] refl h
    ] refl h

-- what is read as a state stands for it
pub text_from_read : (text : List ℕ) (s : State) → state_reading text ≡ Ok s → IsStateText text s
text_from_read text s h = text_from_pieces text (cut_at opening text) s refl h

-- ---- faults

-- a text has no fault exactly where it stands for a state
pub no_fault : (text : List ℕ) → (state_text_fault text ≡ None) ↔ IsSomeStateText text
no_fault text = (
  λ none. elim (state_reading text) as (λ (r : Result State TextFault). state_reading text ≡ r → result_err r ≡ None → IsSomeStateText text) [
    | Ok s ↦ λ e n. record { state = s; is = text_from_read text s e }
    | Err fault ↦ λ e n. absurd cc
  ] refl none,
  λ some. ap result_err (read_from_text text some.state some.is),
)

pub state_read : (text : List ℕ) (s : State) → (state_of_text text ≡ Some s) ↔ IsStateText text s
state_read text s = (
  λ e. text_from_read text s (elim (state_reading text) as (λ (r : Result State TextFault). result_ok r ≡ Some s → r ≡ Ok s) [
    | Ok t ↦ λ f. ap Ok (ap (λ (o : Option State). unwrap_or o s) f)
    | Err fault ↦ λ f. absurd cc
  ] e),
  λ is. ap result_ok (read_from_text text s is),
)
