-- What is written for a well-formed tag spells it.
use Rattle.std.proofs.Common.{◌≡◌, ℕ, zero, suc, ◌-◌, ◌^◌, ◌<◌, ℤ, pos, FitsSigned, List, [], ◌∷◌, ◌++◌, length, refl, sym, ap, subst, ◌∙◌, arith}
use Rattle.std.proofs.lemmas.Int.{ints}
use Rattle.std.proofs.lemmas.List.{append-nil}
use Rattle.std.proofs.Math.Facts.{to_z-of_z, to_z_pos, Fits-of_z}
use Rattle.std.specs.Int.{Width, w8, w16, w32, w64, byte_len, cast_signed, cast_unsigned}
use Rattle.std.specs.List.{AllByRecursion, flat_map}
use Rattle.byteorder.specs.Endian.{big_number, big_bytes}
use Rattle.byteorder.specs.Numbers.{length-bytes_high_first, big_number-reads_back}
use mir.Val.{bits}
use Rattle.nbt_tags.specs.declared.tag.Tag.{Tag, out-Tag}
use Rattle.nbt_tags.specs.declared.tag.Tag.TheOpen as layer
use Rattle.nbt_tags.specs.declared.tag.Named.{Named}
use Rattle.nbt_tags.specs.Spelling.{Layer, Nesting, IsEach, IsNumber, IsSigned, IsCount, IsText, IsLayer, IsItem, IsList, IsArray, IsEntry, IsRow, IsCompound, IsPayload, nesting, max_depth, name_of, tag_of, Spells, SpellsRow}
use Rattle.nbt_tags.specs.WellFormed.{IsName, AreCounted, Within, IsSound, IsSoundItem, IsSoundList, IsSoundEntry, IsSoundRow, within, IsSoundTag, IsWellFormed, IsWellFormedRow}
use Rattle.nbt_tags.specs.Written.{array_bytes, int_bytes, long_bytes, written_payload, count_bytes, text_bytes, payload_bytes, written_tag, written, written_row}
use Rattle.nbt_tags.proofs.Fits.{IsWide}
use Rattle.nbt_tags.proofs.WrittenTags.{inside, list_inside, compound_inside, written_tag-byte, written_tag-payload, written-out}

-- ---- fields

reads_back : (w : Width) → IsWide w → (n : ℕ) → n < 2 ^ bits w → big_number (byte_len w) (big_bytes (byte_len w) n) ≡ n
reads_back w wide n lt =
    ap (big_number (byte_len w)) (sym (append-nil (big_bytes (byte_len w) n))) ∙ big_number-reads_back (byte_len w) n [] (subst (λ (m : ℕ). n < m) (sym wide) lt)

number_spelled : (w : Width) → IsWide w → (n : ℕ) → n < 2 ^ bits w → IsNumber w n (big_bytes (byte_len w) n)
number_spelled w wide n lt = record { size = length-bytes_high_first (byte_len w) n; worth = reads_back w wide n lt }

signed_spelled : (w : Width) → IsWide w → (z : ℤ) → FitsSigned w z → IsSigned w z (big_bytes (byte_len w) (cast_unsigned w z))
signed_spelled w wide z fits =
    record {
      size = length-bytes_high_first (byte_len w) (cast_unsigned w z);
      worth = ap (cast_signed w) (reads_back w wide (cast_unsigned w z) (Fits-of_z fits).fits) ∙ to_z-of_z fits;
    }

count_spelled : (n : ℕ) → n < 2 ^ 31 → IsCount n (count_bytes n)
count_spelled n lt =
    record {
      size = length-bytes_high_first 4 n;
      worth = ap (cast_signed w32) (reads_back w32 refl n (omega (arith, lt))) ∙ to_z_pos w32 lt;
    }

text_spelled : (text : List ℕ) → IsName text → IsText text (text_bytes text)
text_spelled text h = record { front = big_bytes 2 (length text); back = text; whole = refl; first = number_spelled w16 refl (length text) h.short; second = refl }

each_spelled : {A : Type 0} (P : A → List ℕ → Type 0) (Q : A → Type 0) (f : A → List ℕ) → ((x : A) → Q x → P x (f x)) → (xs : List A) → AllByRecursion Q xs → IsEach P xs (flat_map f xs)
each_spelled P Q f one [] h = refl
each_spelled P Q f one (x ∷ xs) h = record { front = f x; back = flat_map f xs; whole = refl; first = one x h.0; second = each_spelled P Q f one xs h.1 }

array_spelled : {A : Type 0} (P : A → List ℕ → Type 0) (Q : A → Type 0) (f : A → List ℕ) → ((x : A) → Q x → P x (f x)) → (xs : List A) → AreCounted Q xs → IsArray P xs (array_bytes f xs)
array_spelled P Q f one xs h =
    record { front = count_bytes (length xs); back = flat_map f xs; whole = refl; first = count_spelled (length xs) h.count; second = each_spelled P Q f one xs h.each }

-- ---- lists and compounds

module _ (P : Tag → List ℕ → Type 0) (W : Tag → Type 0) (one : (tag : Tag) → W tag → P tag (written_payload tag)) where
  list_spelled : (element : ℕ) (items : List Tag) → IsSoundList W element items → IsList P element items (element ∷ array_bytes written_payload items)
  list_spelled element [] h =
      (h.known, record { front = element ∷ []; back = count_bytes 0; whole = refl; first = refl; second = record { count = pos 0; none = omega (arith, ints); spelled = count_spelled 0 (omega arith) } })
  list_spelled element (t ∷ ts) h =
      record {
        front = element ∷ [];
        back = array_bytes written_payload (t ∷ ts);
        whole = refl;
        first = refl;
        second = array_spelled (IsItem P element) (IsSoundItem W element) written_payload (λ tag item. record { type = item.type; payload = one tag item.fits }) (t ∷ ts) h.sound;
      }

  entry_spelled : (entry : Named) → IsSoundEntry W entry → IsEntry P entry (written entry)
  entry_spelled entry h =
      subst (λ (bytes : List ℕ). IsEntry P entry bytes) (sym (written-out entry))
      (record {
        front = (written_tag (tag_of entry)).byte ∷ [];
        back = text_bytes (name_of entry) ++ (written_tag (tag_of entry)).payload;
        whole = refl;
        first = ap (λ (b : ℕ). b ∷ []) (written_tag-byte (tag_of entry));
        second = record { front = text_bytes (name_of entry); back = (written_tag (tag_of entry)).payload; whole = refl; first = text_spelled (name_of entry) h.name; second = one (tag_of entry) h.tag };
      })

  row_spelled : (row : List Named) → IsSoundRow W row → IsRow P row (written_row row)
  row_spelled row h = record { entries = each_spelled (IsEntry P) (IsSoundEntry W) written entry_spelled row h.entries; distinct = h.distinct }

  compound_spelled : (row : List Named) → IsSoundRow W row → IsCompound P row (written_row row ++ 0 ∷ [])
  compound_spelled row h = record { front = written_row row; back = 0 ∷ []; whole = refl; first = row_spelled row h; second = refl }

-- ---- one level

record Spelt (N : Nesting) (W : Within) : Type 0 where
  list : (element : ℕ) (items : List Tag) → W.list element items → N.list element items (element ∷ array_bytes written_payload items)
  compound : (row : List Named) → W.compound row → N.compound row (written_row row ++ 0 ∷ [])

layer_spelled : (N : Nesting) (W : Within) → Spelt N W → (level : Layer) → IsSound W level → IsLayer N level (payload_bytes (inside level))
layer_spelled N W s (layer.Byte z) h = signed_spelled w8 refl z h
layer_spelled N W s (layer.Short z) h = signed_spelled w16 refl z h
layer_spelled N W s (layer.Int z) h = signed_spelled w32 refl z h
layer_spelled N W s (layer.Long z) h = signed_spelled w64 refl z h
layer_spelled N W s (layer.Float n) h = number_spelled w32 refl n h
layer_spelled N W s (layer.Double n) h = number_spelled w64 refl n h
layer_spelled N W s (layer.ByteArray items) h = record { front = count_bytes (length items); back = items; whole = refl; first = count_spelled (length items) h.count; second = refl }
layer_spelled N W s (layer.Str text) h = text_spelled text h
layer_spelled N W s (layer.List element items) h = subst (λ (bytes : List ℕ). N.list element items bytes) (sym (list_inside element items)) (s.list element items h)
layer_spelled N W s (layer.Compound row) h = subst (λ (bytes : List ℕ). N.compound row bytes) (sym (compound_inside row)) (s.compound row h)
layer_spelled N W s (layer.IntArray items) h = array_spelled (IsSigned w32) (λ z. FitsSigned w32 z) int_bytes (λ z fits. signed_spelled w32 refl z fits) items h
layer_spelled N W s (layer.LongArray items) h = array_spelled (IsSigned w64) (λ z. FitsSigned w64 z) long_bytes (λ z fits. signed_spelled w64 refl z fits) items h

-- ---- levels

tag_spelled : (levels : ℕ) → Spelt (nesting levels) (within levels) → (tag : Tag) → IsSoundTag levels tag → IsPayload levels tag (written_payload tag)
tag_spelled levels s tag h = subst (λ (bytes : List ℕ). IsPayload levels tag bytes) (sym (written_tag-payload tag)) (layer_spelled (nesting levels) (within levels) s (out-Tag tag) h)

nesting_spelled : (levels : ℕ) → Spelt (nesting levels) (within levels)
unfolding nesting within
nesting_spelled zero = record { list = λ element items h. absurd h; compound = λ row h. absurd h }
nesting_spelled (suc levels) =
    let one = tag_spelled levels (nesting_spelled levels) in
    record { list = list_spelled (IsPayload levels) (IsSoundTag levels) one; compound = compound_spelled (IsPayload levels) (IsSoundTag levels) one }

pub payload_spelled : (levels : ℕ) (tag : Tag) → IsSoundTag levels tag → IsPayload levels tag (written_payload tag)
payload_spelled levels = tag_spelled levels (nesting_spelled levels)

pub written-spells : (entry : Named) → IsWellFormed entry → Spells entry (written entry)
written-spells = entry_spelled (IsPayload max_depth) (IsSoundTag max_depth) (payload_spelled max_depth)

pub written_row-spells : (depth : ℕ) (row : List Named) → IsWellFormedRow depth row → SpellsRow depth row (written_row row)
written_row-spells depth = row_spelled (IsPayload (max_depth - depth)) (IsSoundTag (max_depth - depth)) (payload_spelled (max_depth - depth))
