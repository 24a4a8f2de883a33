-- The equations of what is written.
use Rattle.std.proofs.Common.{◌≡◌, ℕ, List, [], ◌∷◌, ◌++◌, map, refl, ap, ◌∙◌}
use Rattle.std.proofs.lemmas.List.{length-map}
use Rattle.std.specs.List.{flat_map}
use Rattle.nbt_tags.specs.declared.tag.Tag.TheVariants as tags
use Rattle.nbt_tags.specs.declared.tag.Tag.{Tag, out-Tag, map-Tag, fold_out-Tag}
use Rattle.nbt_tags.specs.declared.tag.Tag.TheOpen as layer
use Rattle.nbt_tags.specs.declared.tag.Named.{Named, fold_out-Named}
use Rattle.nbt_tags.specs.Kinds.{type_byte, layer_kind, tag_byte}
use Rattle.nbt_tags.specs.Spelling.{Layer, name_of, tag_of}
use Rattle.nbt_tags.specs.Written.{array_bytes, written_payload, Written, payload_bytes, text_bytes, tag_step, named_step, written_tag, written, written_row}

-- one level, with the tags inside written
abbrev pub inside : Layer → layer.Tag-F Written (List ℕ)
inside level = map-Tag Tag Named Written (List ℕ) written_tag written level

layer_kind-inside : (level : Layer) → layer_kind (inside level) ≡ layer_kind level
layer_kind-inside (layer.Byte x) = refl
layer_kind-inside (layer.Short x) = refl
layer_kind-inside (layer.Int x) = refl
layer_kind-inside (layer.Long x) = refl
layer_kind-inside (layer.Float x) = refl
layer_kind-inside (layer.Double x) = refl
layer_kind-inside (layer.ByteArray x) = refl
layer_kind-inside (layer.Str x) = refl
layer_kind-inside (layer.List x y) = refl
layer_kind-inside (layer.Compound x) = refl
layer_kind-inside (layer.IntArray x) = refl
layer_kind-inside (layer.LongArray x) = refl

pub written_tag-out : (tag : Tag) → written_tag tag ≡ tag_step (inside (out-Tag tag))
written_tag-out tag = fold_out-Tag Written (List ℕ) tag_step named_step tag

pub written_tag-byte : (tag : Tag) → (written_tag tag).byte ≡ tag_byte tag
written_tag-byte tag = ap (λ (w : Written). w.byte) (written_tag-out tag) ∙ ap type_byte (layer_kind-inside (out-Tag tag))

pub written_tag-payload : (tag : Tag) → written_payload tag ≡ payload_bytes (inside (out-Tag tag))
written_tag-payload tag = ap (λ (w : Written). w.payload) (written_tag-out tag)

pub written-out : (entry : Named) → written entry ≡ (written_tag (tag_of entry)).byte ∷ (text_bytes (name_of entry) ++ (written_tag (tag_of entry)).payload)
written-out entry = fold_out-Named Written (List ℕ) tag_step named_step entry

-- ---- each variant

flat_map-map : {A B : Type 0} (f : B → List ℕ) (g : A → B) (xs : List A) → flat_map f (map g xs) ≡ flat_map (λ x. f (g x)) xs
flat_map-map f g [] = refl
flat_map-map f g (x ∷ xs) = ap (λ (part : List ℕ). f (g x) ++ part) (flat_map-map f g xs)

pub list_inside : (element : ℕ) (items : List Tag) → payload_bytes (inside (layer.List element items)) ≡ element ∷ array_bytes written_payload items
list_inside element items = ap (λ (part : List ℕ). element ∷ part) (rw (length-map, flat_map-map (λ (item : Written). item.payload) written_tag items) refl)

pub compound_inside : (row : List Named) → payload_bytes (inside (layer.Compound row)) ≡ written_row row ++ 0 ∷ []
compound_inside row = ap (λ (part : List ℕ). part ++ 0 ∷ []) (flat_map-map (λ (entry : List ℕ). entry) written row)

payload_of : (tag : Tag) (level : Layer) → out-Tag tag ≡ level → written_payload tag ≡ payload_bytes (inside level)
payload_of tag level is = written_tag-payload tag ∙ ap (λ (y : Layer). payload_bytes (inside y)) is

pub payload_List : (element : ℕ) (items : List Tag) → (written_tag (tags.List element items)).payload ≡ element ∷ array_bytes written_payload items
payload_List element items = payload_of (tags.List element items) (layer.List element items) (tags.outs-List element items) ∙ list_inside element items

pub payload_Compound : (row : List Named) → (written_tag (tags.Compound row)).payload ≡ written_row row ++ 0 ∷ []
payload_Compound row = payload_of (tags.Compound row) (layer.Compound row) (tags.outs-Compound row) ∙ compound_inside row
