-- What is kept of a file has at most one proof that it can be written again, so a value can carry the truth of it.
use Rattle.std.proofs.Common.{◌≡◌, ℕ, zero, suc, ◌^◌, ◌<◌, ◌≤◌, Bool, false, ℤ, List, [], ◌∷◌, length, arith}
use Rattle.std.proofs.Math.Logic.{∥∥₁_elim}
use Rattle.std.proofs.Props.{props}
use Rattle.std.specs.List.{AllByRecursion}
use Rattle.nbt_tags.specs.declared.tag.Tag.{Tag, out-Tag}
use Rattle.nbt_tags.specs.declared.tag.Tag.TheOpen as layer
use Rattle.nbt_tags.specs.declared.tag.Named.{Named}
use Rattle.nbt_tags.specs.Spelling.{Layer, AreFresh, also}
use Rattle.nbt_tags.specs.Kinds.{tag_byte}
use Rattle.nbt_tags.specs.WellFormed.{IsName, AreCounted, Within, IsSound, IsSoundItem, IsSoundEntry, within, IsSoundTag}
use Rattle.block_entities.specs.FileEntities.{IsEntry}
use Rattle.sponge_schematic.specs.Carried.{CarriedTags, bare_tags}
use Rattle.sponge_schematic.specs.Rows.{IsKept}

each-prop : {A : Type 0} (P : A → Type 0) → ((x : A) → IsProp (P x)) → (xs : List A) → IsProp (AllByRecursion P xs)
each-prop P one [] = hlevel props
each-prop P one (x ∷ xs) = let p = one x in let q = each-prop P one xs in λ h k i. (p h.0 k.0 i, q h.1 k.1 i)

fresh-prop : (taken : List ℕ → Bool) (names : List (List ℕ)) → IsProp (AreFresh taken names)
fresh-prop taken [] = hlevel props
fresh-prop taken (name ∷ names) = let p : IsProp (taken name ≡ false) = hlevel props in let q = fresh-prop (also name taken) names in λ h k i. (p h.0 k.0 i, q h.1 k.1 i)

counted-prop : {A : Type 0} (P : A → Type 0) → ((x : A) → IsProp (P x)) → (xs : List A) → IsProp (AreCounted P xs)
counted-prop P one xs = let p : IsProp (length xs < 2 ^ 31) = hlevel props in let q = each-prop P one xs in λ h k i. record { count = p h.count k.count i; each = q h.each k.each i }

name-prop : (text : List ℕ) → IsProp (IsName text)
name-prop text = let p : IsProp (length text < 2 ^ 16) = hlevel props in let q = each-prop (λ byte. byte < 256) (λ byte. hlevel props) text in λ h k i. record { short = p h.short k.short i; bytes = q h.bytes k.bytes i }

record HasProps (W : Within) : Type 0 where
  list : (element : ℕ) (items : List Tag) → IsProp (W.list element items)
  compound : (row : List Named) → IsProp (W.compound row)

sound-prop : (W : Within) → HasProps W → (level : Layer) → IsProp (IsSound W level)
sound-prop W h (layer.Byte z) = hlevel props
sound-prop W h (layer.Short z) = hlevel props
sound-prop W h (layer.Int z) = hlevel props
sound-prop W h (layer.Long z) = hlevel props
sound-prop W h (layer.Float bits) = hlevel props
sound-prop W h (layer.Double bits) = hlevel props
sound-prop W h (layer.ByteArray items) = counted-prop (λ byte. byte < 256) (λ byte. hlevel props) items
sound-prop W h (layer.Str text) = name-prop text
sound-prop W h (layer.List element items) = h.list element items
sound-prop W h (layer.Compound row) = h.compound row
sound-prop W h (layer.IntArray items) = counted-prop _ (λ z. hlevel props) items
sound-prop W h (layer.LongArray items) = counted-prop _ (λ z. hlevel props) items

item-prop : (W : Tag → Type 0) → ((tag : Tag) → IsProp (W tag)) → (element : ℕ) (tag : Tag) → IsProp (IsSoundItem W element tag)
item-prop W one element tag = let p : IsProp (tag_byte tag ≡ element) = hlevel props in λ h k i. record { type = p h.type k.type i; fits = one tag h.fits k.fits i }

entry-prop : (W : Tag → Type 0) → ((tag : Tag) → IsProp (W tag)) → (entry : Named) → IsProp (IsSoundEntry W entry)
entry-prop W one entry = λ h k i. record { name = name-prop _ h.name k.name i; tag = one _ h.tag k.tag i }

within-props : (levels : ℕ) → HasProps (within levels)
unfolding within
within-props zero = record { list = λ element items h. absurd h; compound = λ row h. absurd h }
within-props (suc levels) =
    let one : (tag : Tag) → IsProp (IsSoundTag levels tag) = λ tag. sound-prop (within levels) (within-props levels) (out-Tag tag) in
    record {
      list = λ element items. let p : IsProp (element ≤ 12) = hlevel props in let q = counted-prop (IsSoundItem (IsSoundTag levels) element) (item-prop (IsSoundTag levels) one element) items in
          λ h k i. record { known = p h.known k.known i; sound = q h.sound k.sound i };
      compound = λ row. let p = each-prop (IsSoundEntry (IsSoundTag levels)) (entry-prop (IsSoundTag levels) one) row in
          λ h k i. record { entries = p h.entries k.entries i; distinct = fresh-prop _ _ h.distinct k.distinct i };
    }

is_entry-prop : (tag : Tag) → IsProp (IsEntry tag)
is_entry-prop = item-prop (IsSoundTag 510) (λ tag. sound-prop (within 510) (within-props 510) (out-Tag tag)) 10

kept-prop : (c : CarriedTags) → IsProp (IsKept c)
kept-prop c h k i = record {
  loose = λ at d lt. is_entry-prop _ (h.loose at d lt) (k.loose at d lt) i;
  element = λ byte is. (let p : IsProp (byte ≤ 12) = hlevel props in p) (h.element byte is) (k.element byte is) i;
}

-- what a value carries is true of it
pub kept_had : (c : CarriedTags) → ∥ IsKept c ∥₁ → IsKept c
kept_had c h = ∥∥₁_elim h (kept-prop c) (λ k. k)

pub kept_bare : (version : ℤ) → IsKept (bare_tags version)
kept_bare version = record { loose = λ at d lt. absurd (omega arith); element = λ byte is. absurd cc }
