-- What is known of the named tags of a root that bytes spell: they are well formed, and no Compound among them has
-- more named tags than there are bytes.
use Rattle.std.proofs.Common.{◌≡◌, ℕ, suc, ◌^◌, ◌<◌, ◌≤◌, Bool, true, List, [], ◌∷◌, ◌++◌, length, Result, Ok, Err, IfOk, ap, subst, arith}
use Rattle.std.proofs.lemmas.List.{length-append}
use Rattle.std.specs.List.{AllByRecursion}
use Rattle.nbt_tags.specs.declared.tag.Tag.{out-Tag}
use Rattle.nbt_tags.specs.declared.tag.Tag.TheOpen as layer
use Rattle.nbt_tags.specs.declared.tag.Named.{Named}
use Rattle.nbt_tags.specs.Spelling.{Layer, IsEach, IsEntry, IsPayload, IsLayer, nesting, Spells, tag_of}
use Rattle.nbt_tags.specs.WellFormed.{IsSound, IsSoundRow, IsSoundTag, IsWellFormed, within}
use Rattle.sponge_schematic.specs.declared.fault.WorldFault.{WorldFault}
use Rattle.sponge_schematic.specs.Answers.{Gives}
use Rattle.sponge_schematic.specs.Root.{IsShortIn, IsShort, IsFileRow}
use Rattle.sponge_schematic.specs.Schematic.{row_named, schematic_row}

back_within : (bytes front back : List ℕ) → bytes ≡ front ++ back → length back ≤ length bytes
back_within bytes front back e = omega (arith, ap length e, length-append front back)

front_within : (bytes front back : List ℕ) → bytes ≡ front ++ back → length front ≤ length bytes
front_within bytes front back e = omega (arith, ap length e, length-append front back)

-- a row has no more named tags than bytes
row_length : (levels : ℕ) (row : List Named) (bytes : List ℕ) → IsEach (IsEntry (IsPayload levels)) row bytes → length row ≤ length bytes
row_length levels [] bytes h = omega arith
row_length levels (entry ∷ row) bytes h =
    let others = row_length levels row h.back h.second in
    omega (arith, others, ap length h.whole, length-append h.front h.back, ap length h.first.whole, length-append h.first.front h.first.back, ap length h.first.first)

level_short : (levels : ℕ) (level : Layer) (bytes : List ℕ) → length bytes < 2 ^ 32 → IsLayer (nesting (suc levels)) level bytes → IsShortIn level
unfolding nesting
level_short levels (layer.Compound row) bytes lt h = omega (arith, row_length levels row h.front h.first.entries, front_within bytes h.front h.back h.whole)
level_short levels _ bytes lt h = tt

entry_short : (levels : ℕ) (entry : Named) (bytes : List ℕ) → length bytes < 2 ^ 32 → IsEntry (IsPayload (suc levels)) entry bytes → IsShort (tag_of entry)
entry_short levels entry bytes lt h =
    level_short levels (out-Tag (tag_of entry)) h.second.back
    (omega (arith, back_within bytes h.front h.back h.whole, back_within h.back h.second.front h.second.back h.second.whole)) h.second.second

each_short : (levels : ℕ) (row : List Named) (bytes : List ℕ) → length bytes < 2 ^ 32 → IsEach (IsEntry (IsPayload (suc levels))) row bytes → AllByRecursion (λ entry. IsShort (tag_of entry)) row
each_short levels [] bytes lt h = tt
each_short levels (entry ∷ row) bytes lt h = (
  entry_short levels entry h.front (omega (arith, front_within bytes h.front h.back h.whole)) h.first,
  each_short levels row h.back (omega (arith, back_within bytes h.front h.back h.whole)) h.second,
)

-- ---- the root

pub compound_root : (is_named : Bool) (level : Layer) (row : List Named) → row_named is_named level ≡ Ok row → level ≡ layer.Compound row
compound_root true (layer.Compound items) row e = ap layer.Compound (cc)
compound_root _ _ row e = absurd cc

root_short : (levels : ℕ) (row : List Named) (bytes : List ℕ) → length bytes < 2 ^ 32 → IsLayer (nesting (suc (suc levels))) (layer.Compound row) bytes → AllByRecursion (λ entry. IsShort (tag_of entry)) row
unfolding nesting
root_short levels row bytes lt h = each_short levels row h.front (omega (arith, front_within bytes h.front h.back h.whole)) h.first.entries

root_sound : (levels : ℕ) (row : List Named) → IsSound (within (suc levels)) (layer.Compound row) → IsSoundRow (IsSoundTag levels) row
unfolding within
root_sound levels row h = h

file_row : (bytes : List ℕ) (root : Named) (row : List Named) → length bytes < 2 ^ 32 → Spells root bytes → IsWellFormed root → out-Tag (tag_of root) ≡ layer.Compound row → IsFileRow row
file_row bytes root row lt spells sound is = record {
  sound = root_sound 511 row (subst (λ (level : Layer). IsSound (within 512) level) is sound.tag);
  short = root_short 510 row spells.second.back
      (omega (arith, back_within bytes spells.front spells.back spells.whole, back_within spells.back spells.second.front spells.second.back spells.second.whole))
      (subst (λ (level : Layer). IsLayer (nesting 512) level spells.second.back) is spells.second.second);
}

pub row_facts : (bytes : List ℕ) (root : Named) (r : Result (List Named) WorldFault) → length bytes < 2 ^ 32 → Spells root bytes → IsWellFormed root → Gives (λ x. x) r (schematic_row root) → IfOk r IsFileRow
unfolding schematic_row
row_facts bytes root (Ok row) lt spells sound gives = file_row bytes root row lt spells sound (compound_root _ _ row gives)
row_facts bytes root (Err fault) lt spells sound gives = tt
