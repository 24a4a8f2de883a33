-- The entries of a list, one after the other.
use Rattle.std.proofs.Common.{◌≡◌, ℕ, ◌+◌, ◌-◌, ◌<◌, Bool, true, false, cond, List, [], ◌∷◌, ◌++◌, length, take, get_or, reverse, Some, Option, refl, sym, ap, ◌∙◌, subst, All, append_assoc, length-append, ◌^◌, lit<}
use Rattle.std.specs.Prelude.{option_map, find, is_none}
use Rattle.std.specs.List.{AllByRecursion}
use Rattle.std.specs.declared.sync.Arc.{Arc}
use Rattle.std.specs.declared.alloc.Global.{Global}
use Rattle.std.specs.Arc.{arc_value}
use Rattle.std.proofs.lemmas.List.{reverse-append, map-append, take_more}
use Rattle.std.proofs.lemmas.List.Elements.{All-from_recursion, filter-append}
use Rattle.std.proofs.lemmas.Bool.Decides.{Decides-eqb}
use Rattle.edit_terms.specs.declared.pos.Pos.{Pos}
use Rattle.edit_terms.specs.Area.{Area, position_of}
use Rattle.edit_terms.specs.World.{EntityTags}
use Rattle.nbt_tags.specs.declared.tag.Tag.{Tag, out-Tag}
use Rattle.nbt_tags.specs.declared.tag.Tag.TheOpen as layer
use Rattle.nbt_tags.specs.Spelling.{Layer, max_depth}
use Rattle.nbt_tags.specs.WellFormed.{IsSoundTag, IsSound, IsSoundItem, within}
use Rattle.block_entities.specs.Entry.{place_of, tags_of_entry}
use Rattle.block_entities.specs.FileEntities.{IsEntry}
use Rattle.block_entities.specs.Gathering.{items_in, items_of, is_entry_list_in, IsEntryList, names_place, entity_at, loose_of, placed, positioned}

-- ---- one entry more

found_more : (b : Bool) (e : Tag) (o : Option Tag) → option_map tags_of_entry (cond b (Some e) o) ≡ cond b (Some (tags_of_entry e)) (option_map tags_of_entry o)
found_more true e o = refl
found_more false e o = refl

pub entity_at-push : (a : Area) (xs : List Tag) (e : Tag) (i : ℕ) → entity_at a (xs ++ e ∷ []) i ≡ cond (names_place a i e) (Some (tags_of_entry e)) (entity_at a xs i)
entity_at-push a xs e i =
    ap (λ (ys : List Tag). option_map tags_of_entry (find (names_place a i) ys)) (reverse-append xs (e ∷ []))
    ∙ found_more (names_place a i e) e (find (names_place a i) (reverse xs))

pub entity_at-take_more : (a : Area) (xs : List Tag) (e : Tag) (n i : ℕ) → n < length xs → e ≡ get_or xs n e → entity_at a (take (n + 1) xs) i ≡ cond (names_place a i e) (Some (tags_of_entry e)) (entity_at a (take n xs) i)
entity_at-take_more a xs e n i within is =
    ap (λ (ys : List Tag). entity_at a ys i) (take_more xs n e within ∙ ap (λ (y : Tag). take n xs ++ y ∷ []) (sym is)) ∙ entity_at-push a (take n xs) e i

pub length-loose_of-take_more : (a : Area) (xs : List Tag) (e : Tag) (n : ℕ) → n < length xs → e ≡ get_or xs n e → length (loose_of a (take (n + 1) xs)) ≡ length (loose_of a (take n xs)) + length (loose_of a (e ∷ []))
length-loose_of-take_more a xs e n within is =
    ap (λ (ys : List Tag). length (loose_of a ys)) (take_more xs n e within ∙ ap (λ (y : Tag). take n xs ++ y ∷ []) (sym is))
    ∙ ap length (filter-append (λ entry. is_none (place_of a entry)) (take n xs) (e ∷ []))
    ∙ length-append (loose_of a (take n xs)) (loose_of a (e ∷ []))

-- ---- the entries of a well-formed list

each_entry : (element : ℕ) (items : List Tag) → element ≡ 10 → AllByRecursion (IsSoundItem (IsSoundTag (max_depth - 2)) element) items → AllByRecursion IsEntry items
each_entry element items is h = subst (λ (n : ℕ). AllByRecursion (IsSoundItem (IsSoundTag (max_depth - 2)) n) items) is h

items_in-entries : (level : Layer) → is_entry_list_in level ≡ true → IsSound (within (max_depth - 1)) level → AllByRecursion IsEntry (items_in level)
unfolding within
items_in-entries (layer.List element []) kind h = tt
items_in-entries (layer.List element (t ∷ ts)) kind h = each_entry element (t ∷ ts) ((Decides-eqb element 10).0 kind) h.sound.each
items_in-entries (layer.Byte z) kind h = tt
items_in-entries (layer.Short z) kind h = tt
items_in-entries (layer.Int z) kind h = tt
items_in-entries (layer.Long z) kind h = tt
items_in-entries (layer.Float z) kind h = tt
items_in-entries (layer.Double z) kind h = tt
items_in-entries (layer.ByteArray z) kind h = tt
items_in-entries (layer.Str z) kind h = tt
items_in-entries (layer.Compound row) kind h = tt
items_in-entries (layer.IntArray z) kind h = tt
items_in-entries (layer.LongArray z) kind h = tt

items_in-counted : (level : Layer) → IsSound (within (max_depth - 1)) level → length (items_in level) < 2 ^ 31
unfolding within
items_in-counted (layer.List element items) h = h.sound.count
items_in-counted (layer.Byte z) h = lit< tt
items_in-counted (layer.Short z) h = lit< tt
items_in-counted (layer.Int z) h = lit< tt
items_in-counted (layer.Long z) h = lit< tt
items_in-counted (layer.Float z) h = lit< tt
items_in-counted (layer.Double z) h = lit< tt
items_in-counted (layer.ByteArray z) h = lit< tt
items_in-counted (layer.Str z) h = lit< tt
items_in-counted (layer.Compound row) h = lit< tt
items_in-counted (layer.IntArray z) h = lit< tt
items_in-counted (layer.LongArray z) h = lit< tt

pub length-items_of : (list : Tag) → IsEntryList list → length (items_of list) < 2 ^ 31
length-items_of list h = items_in-counted (out-Tag list) h.sound

pub items_of-entries : (list : Tag) → IsEntryList list → All IsEntry (items_of list)
items_of-entries list h = All-from_recursion IsEntry (items_of list) (items_in-entries (out-Tag list) h.kind h.sound)

-- ---- entities by position

-- one entity moves from those that are left to those that are placed
pub placed-push : (a : Area) (items pushed : List (Pos × Arc EntityTags Global)) (left rest : List (ℕ × Arc EntityTags Global)) (p : Pos) (index : ℕ) (entity : Arc EntityTags Global)
    → pushed ≡ items ++ (p, entity) ∷ [] → left ≡ (index, entity) ∷ rest → p ≡ position_of a index
    → placed items ++ positioned a left ≡ placed pushed ++ positioned a rest
placed-push a items pushed left rest p index entity is_pushed is_left at =
    ap (λ (es : List (ℕ × Arc EntityTags Global)). placed items ++ positioned a es) is_left
    ∙ ap (λ (q : Pos). placed items ++ ((q, arc_value entity) ∷ positioned a rest)) (sym at)
    ∙ sym (append_assoc (placed items) ((p, arc_value entity) ∷ []) (positioned a rest))
    ∙ ap (λ (es : List (Pos × EntityTags)). es ++ positioned a rest) (sym (map-append (λ (e : Pos × Arc EntityTags Global). (e.0, arc_value e.1)) items ((p, entity) ∷ [])))
    ∙ ap (λ (es : List (Pos × Arc EntityTags Global)). placed es ++ positioned a rest) (sym is_pushed)
