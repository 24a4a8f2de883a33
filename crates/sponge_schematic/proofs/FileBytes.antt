-- The bytes of a file are its root's type and name, its named tags one after another, and a byte 0.
use Rattle.std.proofs.Common.{◌≡◌, ℕ, List, [], ◌∷◌, ◌++◌, codes, refl, sym, ap, ◌∙◌, append_assoc}
use Rattle.std.proofs.lemmas.Grind.{flat_map-append}
use Rattle.edit_terms.specs.World.{World}
use Rattle.nbt_tags.specs.declared.tag.Tag.{Tag}
use Rattle.nbt_tags.specs.declared.tag.Tag.TheVariants as tags
use Rattle.nbt_tags.specs.declared.tag.Named.{Named}
use Rattle.nbt_tags.specs.Kinds.{type_byte, layer_kind}
use Rattle.nbt_tags.specs.Reading.{named}
use Rattle.nbt_tags.specs.Spelling.{Layer, name_of, tag_of}
use Rattle.nbt_tags.specs.Written.{text_bytes, written_tag, written, written_row}
use Rattle.nbt_tags.proofs.RowReads.{name_of-named, tag_of-named}
use Rattle.nbt_tags.proofs.WrittenTags.{written-out, written_tag-byte, payload_Compound}
use Rattle.sponge_schematic.specs.Carried.{CarriedTags}
use Rattle.sponge_schematic.specs.File.{own_tags, file_row, schematic_tree, schematic_bytes}

-- the type and the name of the root
abbrev pub root_bytes : List ℕ
root_bytes = 10 ∷ 0 ∷ 9 ∷ codes "Schematic"

compound_written : (name : List ℕ) (row : List Named) → written (named name (tags.Compound row)) ≡ 10 ∷ (text_bytes name ++ (written_row row ++ 0 ∷ []))
compound_written name row =
    let entry = named name (tags.Compound row) in
    let tag = tag_of-named name (tags.Compound row) in
    let byte : (written_tag (tag_of entry)).byte ≡ 10 =
    ap (λ (t : Tag). (written_tag t).byte) tag ∙ written_tag-byte (tags.Compound row) ∙ ap (λ (level : Layer). type_byte (layer_kind level)) (tags.outs-Compound row) in
    let payload : (written_tag (tag_of entry)).payload ≡ written_row row ++ 0 ∷ [] = ap (λ (t : Tag). (written_tag t).payload) tag ∙ payload_Compound row in
    written-out entry
    ∙ ap (λ (b : ℕ). b ∷ (text_bytes (name_of entry) ++ (written_tag (tag_of entry)).payload)) byte
    ∙ ap (λ (n : List ℕ). 10 ∷ (text_bytes n ++ (written_tag (tag_of entry)).payload)) (name_of-named name (tags.Compound row))
    ∙ ap (λ (bytes : List ℕ). 10 ∷ (text_bytes name ++ bytes)) payload

root_written : (own others : List Named) → written (named (codes "Schematic") (tags.Compound (own ++ others))) ≡ ((root_bytes ++ written_row own) ++ written_row others) ++ 0 ∷ []
root_written own others =
    compound_written (codes "Schematic") (own ++ others)
    ∙ ap (λ (bytes : List ℕ). root_bytes ++ (bytes ++ 0 ∷ [])) (flat_map-append written own others)
    ∙ sym (append_assoc root_bytes (written_row own ++ written_row others) (0 ∷ []))
    ∙ ap (λ (bytes : List ℕ). bytes ++ 0 ∷ []) (sym (append_assoc root_bytes (written_row own) (written_row others)))

-- what the writer puts is the file
pub file_written : (carried : CarriedTags) (w : World) (own others : List Named) (head first second all : List ℕ)
    → own ≡ own_tags carried w → others ≡ carried.others → head ≡ root_bytes → first ≡ head ++ written_row own → second ≡ first ++ written_row others → all ≡ second ++ 0 ∷ []
    → all ≡ schematic_bytes carried w
unfolding schematic_bytes schematic_tree file_row
file_written carried w own others head first second all e f h a b d =
    let put : all ≡ ((root_bytes ++ written_row own) ++ written_row others) ++ 0 ∷ [] = rw (d, b, a, h) refl in
    put ∙ sym (root_written own others) ∙ ap (λ (row : List Named). written (named (codes "Schematic") (tags.Compound (row ++ others)))) e
    ∙ ap (λ (row : List Named). written (named (codes "Schematic") (tags.Compound (own_tags carried w ++ row)))) f
