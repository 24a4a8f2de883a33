-- A file that is written is read again.
use Rattle.std.proofs.Common.{◌≡◌, ℕ, Bool, true, false, not, cond, List, [], ◌∷◌, ◌++◌, length, Option, Some, None, Result, Ok, Err, refl, ap, ◌∙◌, subst, ℤ}
use Rattle.std.specs.Prelude.{filter, option_map}
use Rattle.std.specs.List.{AllByRecursion}
use Rattle.std.proofs.lemmas.List.Elements.{filter_passes, recursion_from_All}
use Rattle.edit_terms.specs.Area.{Area}
use Rattle.edit_terms.specs.World.{World}
use Rattle.nbt_tags.specs.declared.fault.NbtFault.{NbtFault}
use Rattle.nbt_tags.specs.declared.tag.Tag.{Tag}
use Rattle.nbt_tags.specs.declared.tag.Tag.TheVariants as tags
use Rattle.nbt_tags.specs.declared.tag.Named.{Named}
use Rattle.nbt_tags.specs.Kinds.{type_byte, layer_kind}
use Rattle.nbt_tags.specs.Spelling.{Layer, name_of}
use Rattle.nbt_tags.specs.WellFormed.{IsWellFormed}
use Rattle.nbt_tags.specs.Reading.{with_places, decoded}
use Rattle.nbt_tags.specs.Written.{written, written_tag, text_bytes}
use Rattle.nbt_tags.proofs.TreeReads.{whole_root-complete}
use Rattle.nbt_tags.proofs.Spelled.{written-spells}
use Rattle.nbt_tags.proofs.WrittenTags.{written-out, written_tag-byte}
use Rattle.block_entities.specs.Spreading.{entries_of, list_of}
use Rattle.block_entities.proofs.Again.{loose_of-loose_of}
use Rattle.sponge_schematic.specs.declared.fault.WorldFault.{WorldFault}
use Rattle.sponge_schematic.specs.declared.fault.WorldFault.TheVariants as faults
use Rattle.sponge_schematic.specs.Carried.{CarriedTags, Loaded, bare_tags}
use Rattle.sponge_schematic.specs.Fields.{◌>>=◌}
use Rattle.sponge_schematic.specs.Schematic.{is_compressed, from_nbt, row_named, schematic_row, root_row, element_in, element_of, is_own_name, others_of, Parts, parts_of, loaded_in, schematic_of}
use Rattle.sponge_schematic.specs.File.{file_row, schematic_tree, schematic_bytes}
use Rattle.sponge_schematic.specs.RoundTrip.{IsFileWorld, IsBeside, read_again}
use Rattle.sponge_schematic.proofs.RoundTripWorld.{parts_of-file_row, loaded_again}

-- ---- the root

plain_start : (rest : List ℕ) → is_compressed (10 ∷ rest) ≡ false
plain_start [] = refl
plain_start (b ∷ rest) = refl

tree_is_plain : (carried : CarriedTags) (w : World) → is_compressed (schematic_bytes carried w) ≡ false
unfolding schematic_bytes schematic_tree
tree_is_plain carried w =
    let tag : Tag = tags.Compound (file_row carried w) in
    let byte : (written_tag tag).byte ≡ 10 = written_tag-byte tag ∙ ap (λ (level : Layer). type_byte (layer_kind level)) (tags.outs-Compound (file_row carried w)) in
    ap is_compressed (written-out (schematic_tree carried w))
    ∙ ap (λ (n : ℕ). is_compressed (n ∷ (text_bytes (name_of (schematic_tree carried w)) ++ (written_tag tag).payload))) byte
    ∙ plain_start (text_bytes (name_of (schematic_tree carried w)) ++ (written_tag tag).payload)

tree_decoded : (carried : CarriedTags) (w : World) → IsWellFormed (schematic_tree carried w) → decoded (schematic_bytes carried w) ≡ Ok (schematic_tree carried w)
unfolding schematic_bytes
tree_decoded carried w sound =
    let tree = schematic_tree carried w in
    ap (with_places (length (written tree))) (whole_root-complete (written tree) tree (written-spells tree sound))

row_of_tree : (carried : CarriedTags) (w : World) → schematic_row (schematic_tree carried w) ≡ Ok (file_row carried w)
unfolding schematic_row schematic_tree
row_of_tree carried w = ap (row_named true) (tags.outs-Compound (file_row carried w))

root_again : (carried : CarriedTags) (w : World) → IsWellFormed (schematic_tree carried w) → root_row (schematic_bytes carried w) ≡ Ok (file_row carried w)
unfolding root_row
root_again carried w sound =
    let bytes = schematic_bytes carried w in
    ap (λ (b : Bool). cond b (Err faults.Compressed) (from_nbt (decoded bytes) >>= schematic_row)) (tree_is_plain carried w)
    ∙ ap (λ (r : Result Named NbtFault). from_nbt r >>= schematic_row) (tree_decoded carried w sound)
    ∙ row_of_tree carried w

-- ---- the whole

pub schematic_of-schematic_bytes : (carried : CarriedTags) (w : World) → IsFileWorld w → IsBeside w.area carried → IsWellFormed (schematic_tree carried w)
    → schematic_of (schematic_bytes carried w) ≡ Ok (record { carried = read_again carried w; world = w })
unfolding schematic_of
schematic_of-schematic_bytes carried w held beside sound =
    ap (λ (r : Result (List Named) WorldFault). r >>= λ (row : List Named). parts_of row >>= λ (parts : Parts). Ok (loaded_in parts row)) (root_again carried w sound)
    ∙ ap (λ (r : Result Parts WorldFault). r >>= λ (parts : Parts). Ok (loaded_in parts (file_row carried w))) (parts_of-file_row carried w held beside)
    ∙ ap (λ (l : Loaded). Ok l) (loaded_again carried w held beside)

-- ---- tags that can stand beside a world

filter-passing : (p : Named → Bool) (xs : List Named) → AllByRecursion (λ x. p x ≡ true) xs → filter p xs ≡ xs
filter-passing p [] h = refl
filter-passing p (x ∷ xs) h = rw h.0 (ap (λ (ys : List Named). x ∷ ys) (filter-passing p xs h.1))

others_of-others_of : (row : List Named) → others_of (others_of row) ≡ others_of row
others_of-others_of row =
    let p : Named → Bool = λ tag. not (is_own_name (name_of tag)) in
    filter-passing p (others_of row) (recursion_from_All (λ tag. p tag ≡ true) (others_of row) (filter_passes p row))

pub bare_beside : (area : Area) (version : ℤ) → IsBeside area (bare_tags version)
bare_beside area version = record { loose = refl; others = refl }

loaded_beside : (parts : Parts) (row : List Named) → IsBeside (loaded_in parts row).world.area (loaded_in parts row).carried
loaded_beside parts row = record { loose = loose_of-loose_of parts.area _; others = others_of-others_of row }

from_parts : (r : Result Parts WorldFault) (row : List Named) (l : Loaded) → (r >>= λ (parts : Parts). Ok (loaded_in parts row)) ≡ Ok l → IsBeside l.world.area l.carried
from_parts (Ok parts) row l h = let same : loaded_in parts row ≡ l = cc in subst (λ (k : Loaded). IsBeside k.world.area k.carried) same (loaded_beside parts row)
from_parts (Err e) row l h = absurd cc

from_row : (r : Result (List Named) WorldFault) (l : Loaded) → (r >>= λ (row : List Named). parts_of row >>= λ (parts : Parts). Ok (loaded_in parts row)) ≡ Ok l → IsBeside l.world.area l.carried
from_row (Ok row) l h = from_parts (parts_of row) row l h
from_row (Err e) l h = absurd cc

-- what was read stands beside the world that was read
pub read_beside : (bytes : List ℕ) (l : Loaded) → schematic_of bytes ≡ Ok l → IsBeside l.world.area l.carried
unfolding schematic_of
read_beside bytes l h = from_row (root_row bytes) l h

-- ---- the element type

none_kept : (element : Option ℕ) → option_map element_of (list_of element []) ≡ element
none_kept None = refl
none_kept (Some element) = ap (λ (n : ℕ). Some n) (ap element_in (tags.outs-List element []))

some_compounds : (element : Option ℕ) (t : Tag) (ts : List Tag) → option_map element_of (list_of element (t ∷ ts)) ≡ Some 10
some_compounds None t ts = ap (λ (n : ℕ). Some n) (ap element_in (tags.outs-List 10 (t ∷ ts)))
some_compounds (Some element) t ts = ap (λ (n : ℕ). Some n) (ap element_in (tags.outs-List 10 (t ∷ ts)))

pub element_of_none : (carried : CarriedTags) (w : World) → entries_of w ++ carried.loose ≡ [] → (read_again carried w).element ≡ carried.element
element_of_none carried w none = ap (λ (entries : List Tag). option_map element_of (list_of carried.element entries)) none ∙ none_kept carried.element

pub element_of_some : (carried : CarriedTags) (w : World) (t : Tag) (ts : List Tag) → entries_of w ++ carried.loose ≡ t ∷ ts → (read_again carried w).element ≡ Some 10
element_of_some carried w t ts some = ap (λ (entries : List Tag). option_map element_of (list_of carried.element entries)) some ∙ some_compounds carried.element t ts
