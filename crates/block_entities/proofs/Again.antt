-- What a world's list of block entities is made of is found in it again.
use Rattle.std.proofs.Common.{◌≡◌, ℕ, zero, suc, ◌+◌, ◌<◌, ◌≤◌, Bool, true, false, cond, ◌||◌, add-one, List, [], ◌∷◌, ◌++◌, length, take, drop, get_or, reverse, Some, None, Option, refl, sym, ap, ◌∙◌, subst, arith, ⊎_elim, ℤ, ◌+ℤ◌, ◌-ℤ◌}
use Rattle.std.specs.Prelude.{option_map, find, filter, is_none, ◌==◌, codes, IfSome, MatchOption}
use Rattle.std.specs.Option.{option_or, option_and_then, option_map_or}
use Rattle.std.specs.List.{AllByRecursion, filter_map, cons_option, range_with_len, position_or_len, before_first, after_first}
use Rattle.std.specs.Str.{bytes_eq}
use Rattle.std.proofs.lemmas.Bool.{cases_eq}
use Rattle.std.proofs.lemmas.Bool.Decides.{Decides-eqb}
use Rattle.std.proofs.lemmas.Int.{ints}
use Rattle.std.proofs.lemmas.List.{reverse-append}
use Rattle.std.proofs.lemmas.List.Folds.{find-append}
use Rattle.std.proofs.lemmas.List.Elements.{filter-append, filter_passes, All-same, recursion_from_All}
use Rattle.edit_terms.specs.declared.pos.Pos.{Pos}
use Rattle.edit_terms.specs.Area.{Area, volume, holds, index_of, position_of, is_world_box}
use Rattle.edit_terms.specs.Clipboard.{placed_at, relative_to}
use Rattle.edit_terms.specs.World.{EntityTags, World, air_content}
use Rattle.edit_terms.proofs.AreaLemmas.{block_at_place}
use Rattle.nbt_tags.specs.declared.tag.Tag.{Tag}
use Rattle.nbt_tags.specs.declared.tag.Tag.TheVariants as tags
use Rattle.nbt_tags.specs.declared.tag.Named.{Named}
use Rattle.nbt_tags.specs.Spelling.{name_of, tag_of, names_of, also, AreFresh, none_taken}
use Rattle.nbt_tags.specs.Written.{written_row}
use Rattle.block_entities.specs.Entry.{row_in, row_of, is_pos, position_in, position_of_tag, local_position, place_from_corner, place_of, tags_of_entry}
use Rattle.block_entities.specs.FileEntities.{IsFileEntity, AreFileEntities, tags_of, pos_tag, origin, row_of_entity}
use Rattle.block_entities.specs.Gathering.{names_place, entity_at, loose_of, is_entry_list, is_entry_list_in, items_of, items_in}
use Rattle.block_entities.specs.Spreading.{entry_of, entry_at, entries_of, list_of}
use Rattle.block_entities.proofs.Local.{not_true}
use Rattle.block_entities.proofs.Rows.{names_of-append}
use Rattle.block_entities.proofs.WorldEntries.{content_good}
use Rattle.block_entities.proofs.Lists.{each-filter_map}

-- ---- one entry

-- no name of a row that goes on with Pos is Pos
or_parts : (a b : Bool) → (a || b) ≡ false → (a ≡ false) × (b ≡ false)
or_parts false false h = (refl, refl)
or_parts true b h = absurd cc
or_parts false true h = absurd cc

-- names that are fresh where others are taken are none of these
fresh_away : (taken : List ℕ → Bool) (name : List ℕ) (xs ys : List (List ℕ)) → AreFresh taken (xs ++ name ∷ ys) → taken name ≡ false
fresh_away taken name [] ys h = h.0
fresh_away taken name (x ∷ xs) ys h = (or_parts (bytes_eq x name) (taken name) (fresh_away (also x taken) name xs ys h.1)).1

fresh_first : (taken : List ℕ → Bool) (x name : List ℕ) (xs ys : List (List ℕ)) → AreFresh taken (x ∷ (xs ++ name ∷ ys)) → bytes_eq x name ≡ false
fresh_first taken x name xs ys h = (or_parts (bytes_eq x name) (taken name) (fresh_away (also x taken) name xs ys h.1)).0

no_pos : (taken : List ℕ → Bool) (front : List Named) (names : List (List ℕ)) → AreFresh taken (names_of front ++ codes "Pos" ∷ names) → AllByRecursion (λ n. is_pos n ≡ false) front
no_pos taken [] names h = tt
no_pos taken (n ∷ front) names h = (fresh_first taken (name_of n) (codes "Pos") (names_of front) names h, no_pos (also (name_of n) taken) front names h.1)

place_behind : {X : Type 0} (p : X → Bool) (xs : List X) (x : X) (ys : List X) → AllByRecursion (λ y. p y ≡ false) xs → p x ≡ true → position_or_len p (xs ++ x ∷ ys) ≡ length xs
place_behind p [] x ys h is = rw is refl
place_behind p (y ∷ xs) x ys h is = rw h.0 (let e = place_behind p xs x ys h.1 is in omega (arith, e))

found_behind : {X : Type 0} (p : X → Bool) (xs : List X) (x : X) (ys : List X) → AllByRecursion (λ y. p y ≡ false) xs → p x ≡ true → find p (xs ++ x ∷ ys) ≡ Some x
found_behind p [] x ys h is = rw is refl
found_behind p (y ∷ xs) x ys h is = rw h.0 (found_behind p xs x ys h.1 is)

-- the row of an entity's entry
abbrev row_there : EntityTags → Pos → List Named
row_there e p = row_of (tags.Compound (row_of_entity e p))

row_there-is : (e : EntityTags) (p : Pos) → row_there e p ≡ row_of_entity e p
row_there-is e p = ap row_in (tags.outs-Compound (row_of_entity e p))

front_free : (e : EntityTags) → IsFileEntity e → AllByRecursion (λ n. is_pos n ≡ false) (tags_of e.before)
front_free e good = no_pos none_taken (tags_of e.before) (names_of (tags_of e.after)) (subst (AreFresh none_taken) (names_of-append (tags_of e.before) (pos_tag origin ∷ tags_of e.after)) good.sound.distinct)

take_front : {X : Type 0} (xs ys : List X) → take (length xs) (xs ++ ys) ≡ xs
take_front [] ys = refl
take_front (x ∷ xs) ys = ap (λ (zs : List _). x ∷ zs) (take_front xs ys)

drop_past : {X : Type 0} (xs : List X) (x : X) (ys : List X) → drop (suc (length xs)) (xs ++ x ∷ ys) ≡ ys
drop_past [] x ys = refl
drop_past (y ∷ xs) x ys = drop_past xs x ys

before_first-split : {X : Type 0} (p : X → Bool) (xs : List X) (x : X) (ys : List X) → AllByRecursion (λ y. p y ≡ false) xs → p x ≡ true → before_first p (xs ++ x ∷ ys) ≡ xs
before_first-split p xs x ys h is = ap (λ (n : ℕ). take n (xs ++ x ∷ ys)) (place_behind p xs x ys h is) ∙ take_front xs (x ∷ ys)

after_first-split : {X : Type 0} (p : X → Bool) (xs : List X) (x : X) (ys : List X) → AllByRecursion (λ y. p y ≡ false) xs → p x ≡ true → after_first p (xs ++ x ∷ ys) ≡ ys
after_first-split p xs x ys h is = ap (λ (n : ℕ). drop (n + 1) (xs ++ x ∷ ys)) (place_behind p xs x ys h is) ∙ ap (λ (n : ℕ). drop n (xs ++ x ∷ ys)) (add-one (length xs)) ∙ drop_past xs x ys

is_pos-pos_tag : (p : Pos) → is_pos (pos_tag p) ≡ true
is_pos-pos_tag p = refl

-- the entity of an entity's entry is the entity
pub tags_of_entry-built : (e : EntityTags) (p : Pos) → IsFileEntity e → tags_of_entry (tags.Compound (row_of_entity e p)) ≡ e
tags_of_entry-built e p good =
    let free = front_free e good in
    let before : written_row (before_first is_pos (row_there e p)) ≡ e.before =
    ap (λ (row : List Named). written_row (before_first is_pos row)) (row_there-is e p)
    ∙ ap written_row (before_first-split is_pos (tags_of e.before) (pos_tag p) (tags_of e.after) free (is_pos-pos_tag p)) ∙ good.before in
    let after : written_row (after_first is_pos (row_there e p)) ≡ e.after =
    ap (λ (row : List Named). written_row (after_first is_pos row)) (row_there-is e p)
    ∙ ap written_row (after_first-split is_pos (tags_of e.before) (pos_tag p) (tags_of e.after) free (is_pos-pos_tag p)) ∙ good.after in
    λ i. record { before = before i; after = after i }

position_of_tag-pos_tag : (p : Pos) → position_of_tag (tag_of (pos_tag p)) ≡ Some p
position_of_tag-pos_tag p = ap position_in (tags.outs-IntArray (p.x ∷ p.y ∷ p.z ∷ []))

local_position-built : (e : EntityTags) (p : Pos) → IsFileEntity e → local_position (tags.Compound (row_of_entity e p)) ≡ Some p
local_position-built e p good =
    ap (λ (row : List Named). option_and_then (λ (n : Named). position_of_tag (tag_of n)) (find is_pos row)) (row_there-is e p)
    ∙ ap (λ (o : Option Named). option_and_then (λ (n : Named). position_of_tag (tag_of n)) o) (found_behind is_pos (tags_of e.before) (pos_tag p) (tags_of e.after) (front_free e good) (is_pos-pos_tag p))
    ∙ position_of_tag-pos_tag p

back : (l q : ℤ) → l +ℤ (q -ℤ l) ≡ q
back l q = omega (arith, ints)

placed_at-relative_to : (l q : Pos) → placed_at l (relative_to l q) ≡ q
placed_at-relative_to l q =
    let x = back l.x q.x in let y = back l.y q.y in let z = back l.z q.z in
    λ i. record { x = x i; y = y i; z = z i }

-- the entry of the block at a place names that place
pub place_of-entry_of : (a : Area) (i : ℕ) (e : EntityTags) → is_world_box a ≡ true → i < volume a → IsFileEntity e → place_of a (entry_of a i e) ≡ Some i
place_of-entry_of a i e box below good =
    let q : Pos = position_of a i in
    let block = block_at_place a i box below in
    ap (option_and_then (place_from_corner a)) (local_position-built e (relative_to a.least q) good)
    ∙ ap (λ (p : Pos). cond (holds a p) (Some (index_of a p)) None) (placed_at-relative_to a.least q)
    ∙ ap (λ (b : Bool). cond b (Some (index_of a q)) None) block.held
    ∙ ap (λ (n : ℕ). Some n) block.place

-- ---- the list

find_in : (Tag → Bool) → Option Tag → Option Tag
find_in P None = None
find_in P (Some t) = cond (P t) (Some t) None

or_none : (o : Option Tag) → option_or o None ≡ o
or_none (Some t) = refl
or_none None = refl

back_step : (P : Tag → Bool) (o : Option Tag) (xs : List Tag) → find P (reverse (cons_option o xs)) ≡ option_or (find P (reverse xs)) (find_in P o)
unfolding find_in
back_step P None xs = sym (or_none (find P (reverse xs)))
back_step P (Some t) xs = ap (find P) (reverse-append (t ∷ []) xs) ∙ find-append P (reverse xs) (t ∷ [])

found_own : (P : Tag → Bool) (o : Option Tag) → IfSome o (λ t. P t ≡ true) → find_in P o ≡ o
unfolding find_in
found_own P None h = refl
found_own P (Some t) h = rw h refl

found_none : (P : Tag → Bool) (o : Option Tag) → IfSome o (λ t. P t ≡ false) → find_in P o ≡ None
unfolding find_in
found_none P None h = refl
found_none P (Some t) h = rw h refl

if_some : {X : Type 0} (P Q : X → Type 0) (o : Option X) → ((x : X) → P x → Q x) → IfSome o P → IfSome o Q
if_some P Q None f h = tt
if_some P Q (Some x) f h = f x h

-- each of these is the one of its place, if it is the one of a place
abbrev TellsPlaces : (Tag → Bool) → ℕ → (ℕ → Option Tag) → ℕ → ℕ → Type 0
TellsPlaces P k f low n = (i : ℕ) → low ≤ i → i < low + n → IfSome (f i) (λ t. P t ≡ (i == k))

tells_later : (P : Tag → Bool) (k : ℕ) (f : ℕ → Option Tag) (low n : ℕ) → TellsPlaces P k f low (suc n) → TellsPlaces P k f (low + 1) n
tells_later P k f low n h = λ i from to. h i (omega (arith, from)) (omega (arith, to))

back_absent : (P : Tag → Bool) (k : ℕ) (f : ℕ → Option Tag) (low n : ℕ) → TellsPlaces P k f low n → k < low → find P (reverse (filter_map f (range_with_len low n))) ≡ None
back_absent P k f low zero h under = refl
back_absent P k f low (suc n) h under =
    let rest = filter_map f (range_with_len (low + 1) n) in
    let apart : (low == k) ≡ false = not_true (low == k) (λ e. let same : low ≡ k = (Decides-eqb low k).0 e in omega (arith, same, under)) in
    let own = if_some (λ t. P t ≡ (low == k)) (λ t. P t ≡ false) (f low) (λ t e. e ∙ apart) (h low (omega arith) (omega arith)) in
    back_step P (f low) rest
    ∙ ap (λ (o : Option Tag). option_or o (find_in P (f low))) (back_absent P k f (low + 1) n (tells_later P k f low n h) (omega (arith, under)))
    ∙ found_none P (f low) own

pub back_present : (P : Tag → Bool) (k : ℕ) (f : ℕ → Option Tag) (low n : ℕ) → TellsPlaces P k f low n → low ≤ k → k < low + n → find P (reverse (filter_map f (range_with_len low n))) ≡ f k
back_present P k f low zero h from to = absurd (omega (arith, from, to))
back_present P k f low (suc n) h from to =
    let rest = filter_map f (range_with_len (low + 1) n) in
    let later = tells_later P k f low n h in
    let here = h low (omega arith) (omega arith) in
    ⊎_elim
    (λ same.
    let at : low ≡ k = same in
    let own = if_some (λ t. P t ≡ (low == k)) (λ t. P t ≡ true) (f low) (λ t e. e ∙ (Decides-eqb low k).1 at) here in
    back_step P (f low) rest
    ∙ ap (λ (o : Option Tag). option_or o (find_in P (f low))) (back_absent P k f (low + 1) n later (omega (arith, at)))
    ∙ found_own P (f low) own ∙ ap f at)
    (λ other.
    let apart : (low == k) ≡ false = not_true (low == k) (λ e. other ((Decides-eqb low k).0 e)) in
    let own = if_some (λ t. P t ≡ (low == k)) (λ t. P t ≡ false) (f low) (λ t e. e ∙ apart) here in
    let above : low + 1 ≤ k = omega (arith, from, other) in
    back_step P (f low) rest
    ∙ ap (λ (o : Option Tag). option_or (find P (reverse rest)) o) (found_none P (f low) own)
    ∙ or_none (find P (reverse rest))
    ∙ back_present P k f (low + 1) n later above (omega (arith, to)))
    (cases_eq low k)

-- ---- a world's list

-- loose entries name no block
each_loose : (a : Area) (loose : List Tag) → loose_of a loose ≡ loose → AllByRecursion (λ t. is_none (place_of a t) ≡ true) loose
each_loose a loose h =
    recursion_from_All (λ t. is_none (place_of a t) ≡ true) loose
    (All-same (λ t. is_none (place_of a t) ≡ true) loose (loose_of a loose) (sym h) (filter_passes (λ t. is_none (place_of a t)) loose))

nowhere : (k : ℕ) (o : Option ℕ) → is_none o ≡ true → option_map_or (λ (place : ℕ). place == k) o false ≡ false
nowhere k None h = refl
nowhere k (Some i) h = absurd cc

each_not_named : (a : Area) (k : ℕ) (ts : List Tag) → AllByRecursion (λ t. is_none (place_of a t) ≡ true) ts → AllByRecursion (λ t. names_place a k t ≡ false) ts
each_not_named a k [] h = tt
each_not_named a k (t ∷ ts) h = (nowhere k (place_of a t) h.0, each_not_named a k ts h.1)

find_back-none : (P : Tag → Bool) (ts : List Tag) → AllByRecursion (λ t. P t ≡ false) ts → find P (reverse ts) ≡ None
find_back-none P [] h = refl
find_back-none P (t ∷ ts) h =
    back_step P (Some t) ts ∙ ap (λ (o : Option Tag). option_or o (find_in P (Some t))) (find_back-none P ts h.1) ∙ found_none P (Some t) h.0

names_place-entry_of : (a : Area) (i k : ℕ) (e : EntityTags) → is_world_box a ≡ true → i < volume a → IsFileEntity e → names_place a k (entry_of a i e) ≡ (i == k)
names_place-entry_of a i k e box below good = ap (λ (o : Option ℕ). option_map_or (λ (place : ℕ). place == k) o false) (place_of-entry_of a i e box below good)

tells_at : (a : Area) (i k : ℕ) (o : Option EntityTags) → is_world_box a ≡ true → i < volume a → IfSome o IsFileEntity → IfSome (option_map (entry_of a i) o) (λ t. names_place a k t ≡ (i == k))
tells_at a i k None box below good = tt
tells_at a i k (Some e) box below good = names_place-entry_of a i k e box below good

same_entity : (a : Area) (i : ℕ) (o : Option EntityTags) → IfSome o IsFileEntity → option_map tags_of_entry (option_map (entry_of a i) o) ≡ o
same_entity a i None good = refl
same_entity a i (Some e) good = ap (λ (x : EntityTags). Some x) (tags_of_entry-built e (relative_to a.least (position_of a i)) good)

-- each block of a world has its entity in the world's list
pub entity_at-entries_of : (w : World) (loose : List Tag) (k : ℕ) → is_world_box w.area ≡ true → AreFileEntities w → loose_of w.area loose ≡ loose → k < volume w.area
    → entity_at w.area (entries_of w ++ loose) k ≡ (get_or w.contents k air_content).entity
entity_at-entries_of w loose k box good free below =
    let a = w.area in
    let P : Tag → Bool = names_place a k in
    let tells : TellsPlaces P k (entry_at w) 0 (volume a) = λ i from to. tells_at a i k (get_or w.contents i air_content).entity box (omega (arith, to)) (content_good w i good) in
    ap (λ (ts : List Tag). option_map tags_of_entry (find P ts)) (reverse-append (entries_of w) loose)
    ∙ ap (option_map tags_of_entry) (find-append P (reverse loose) (reverse (entries_of w)))
    ∙ ap (λ (o : Option Tag). option_map tags_of_entry (option_or o (find P (reverse (entries_of w))))) (find_back-none P loose (each_not_named a k loose (each_loose a loose free)))
    ∙ ap (option_map tags_of_entry) (back_present P k (entry_at w) 0 (volume a) tells (omega arith) (omega (arith, below)))
    ∙ same_entity a k (get_or w.contents k air_content).entity (content_good w k good)

-- the entries of a world's blocks all name a block
named_somewhere : (a : Area) (i : ℕ) (o : Option EntityTags) → is_world_box a ≡ true → i < volume a → IfSome o IsFileEntity → IfSome (option_map (entry_of a i) o) (λ t. is_none (place_of a t) ≡ false)
named_somewhere a i None box below good = tt
named_somewhere a i (Some e) box below good = ap is_none (place_of-entry_of a i e box below good)

filter-none : (p : Tag → Bool) (ts : List Tag) → AllByRecursion (λ t. p t ≡ false) ts → filter p ts ≡ []
filter-none p [] h = refl
filter-none p (t ∷ ts) h = rw h.0 (filter-none p ts h.1)

-- the loose entries of a world's list are those that were put into it
pub loose_of-entries_of : (w : World) (loose : List Tag) → is_world_box w.area ≡ true → AreFileEntities w → loose_of w.area loose ≡ loose → loose_of w.area (entries_of w ++ loose) ≡ loose
loose_of-entries_of w loose box good free =
    let a = w.area in
    let p : Tag → Bool = λ t. is_none (place_of a t) in
    let named = each-filter_map (λ t. p t ≡ false) (entry_at w) 0 (volume a) (λ i from to. named_somewhere a i (get_or w.contents i air_content).entity box (omega (arith, to)) (content_good w i good)) in
    filter-append p (entries_of w) loose
    ∙ ap (λ (ts : List Tag). ts ++ loose_of a loose) (filter-none p (entries_of w) named)
    ∙ free

-- entries that were gathered as loose are loose
pub loose_of-loose_of : (a : Area) (ts : List Tag) → loose_of a (loose_of a ts) ≡ loose_of a ts
loose_of-loose_of a ts = filter-all (λ t. is_none (place_of a t)) (loose_of a ts) (recursion_from_All (λ t. is_none (place_of a t) ≡ true) (loose_of a ts) (filter_passes (λ t. is_none (place_of a t)) ts))
  where
    filter-all : (p : Tag → Bool) (xs : List Tag) → AllByRecursion (λ t. p t ≡ true) xs → filter p xs ≡ xs
    filter-all p [] h = refl
    filter-all p (x ∷ xs) h = rw h.0 (ap (λ (ys : List Tag). x ∷ ys) (filter-all p xs h.1))

-- ---- the tag

is_entry_list-list : (element : ℕ) → is_entry_list (tags.List element []) ≡ true
is_entry_list-list element = ap is_entry_list_in (tags.outs-List element [])

is_entry_list-entries : (t : Tag) (ts : List Tag) → is_entry_list (tags.List 10 (t ∷ ts)) ≡ true
is_entry_list-entries t ts = ap is_entry_list_in (tags.outs-List 10 (t ∷ ts))

-- the list that is written has the entries, and none is written only where there are none
pub list_of-items : (element : Option ℕ) (entries : List Tag) → MatchOption (list_of element entries) (entries ≡ []) (λ tag. (is_entry_list tag ≡ true) × (items_of tag ≡ entries))
list_of-items None [] = refl
list_of-items (Some element) [] = (is_entry_list-list element, ap items_in (tags.outs-List element []))
list_of-items None (t ∷ ts) = (is_entry_list-entries t ts, ap items_in (tags.outs-List 10 (t ∷ ts)))
list_of-items (Some element) (t ∷ ts) = (is_entry_list-entries t ts, ap items_in (tags.outs-List 10 (t ∷ ts)))
