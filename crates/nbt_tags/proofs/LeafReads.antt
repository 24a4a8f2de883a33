-- The payloads that hold no tags: what is read is spelled so, and what is spelled so is read.
use Rattle.std.proofs.Common.{◌≡◌, ℕ, zero, suc, ◌*◌, ℤ, List, [], ◌∷◌, length, take, drop, Ok, refl, sym, ap, subst, ◌∙◌, arith}
use Rattle.std.proofs.lemmas.List.{take_at, drop_at, take-append-drop, length-append, length-take, length-drop, nil_from_length}
use Rattle.std.specs.Int.{Width, w8, w16, w32, w64, byte_len}
use Rattle.nbt_tags.specs.declared.kind.Kind.{Kind}
use Rattle.nbt_tags.specs.declared.kind.Kind.TheVariants as kinds
use Rattle.nbt_tags.specs.declared.tag.Tag.{Tag, out-Tag, roll-Tag, roll-out-Tag}
use Rattle.nbt_tags.specs.declared.tag.Tag.TheOpen as layer
use Rattle.nbt_tags.specs.declared.tag.Tag.TheVariants as tags
use Rattle.nbt_tags.specs.declared.tag.Tag.TheVariants.{outs-Byte, outs-Short, outs-Int, outs-Long, outs-Float, outs-Double, outs-ByteArray, outs-Str, outs-List, outs-Compound, outs-IntArray, outs-LongArray}
use Rattle.nbt_tags.specs.declared.tag.Named.{Named}
use Rattle.nbt_tags.specs.Kinds.{layer_kind, tag_kind}
use Rattle.nbt_tags.specs.Spelling.{Layer, Nesting, Joins, IsEach, IsSigned, IsCount, IsLayer}
use Rattle.nbt_tags.specs.Reading.{Read, ◌>>=◌, signed_tag, bits_tag, count_at, bytes_at, numbers_in, numbers_at, byte_array_at, string_at, int_array_at, long_array_at}
use Rattle.nbt_tags.proofs.Both.{Reads, Reads-same, Reads-map, Reads-then}
use Rattle.nbt_tags.proofs.FieldReads.{bytes_at-reads, number_at-reads, signed_at-reads, text_at-reads, count_at-reads}

-- ---- numbers of an array

numbers_in-each : (w : Width) (n : ℕ) (bytes : List ℕ) → length bytes ≡ byte_len w * n → (length (numbers_in w n bytes) ≡ n) × IsEach (IsSigned w) (numbers_in w n bytes) bytes
unfolding numbers_in
numbers_in-each w zero bytes len = (refl, nil_from_length bytes (omega (arith, len)))
numbers_in-each w (suc n) bytes len =
    let here : length (take (byte_len w) bytes) ≡ byte_len w = omega (arith, len, length-take (byte_len w) bytes) in
    let there : length (drop (byte_len w) bytes) ≡ byte_len w * n = omega (arith, len, length-drop (byte_len w) bytes) in
    let ih = numbers_in-each w n (drop (byte_len w) bytes) there in (
      ap suc ih.0,
      record {
        front = take (byte_len w) bytes;
        back = drop (byte_len w) bytes;
        whole = sym (take-append-drop (byte_len w) bytes);
        first = record { size = here; worth = refl };
        second = ih.1;
      },
    )

numbers_in-again : (w : Width) (zs : List ℤ) (bytes : List ℕ) → IsEach (IsSigned w) zs bytes → (length bytes ≡ byte_len w * length zs) × (numbers_in w (length zs) bytes ≡ zs)
unfolding numbers_in
numbers_in-again w [] bytes h = (omega (arith, ap length h), refl)
numbers_in-again w (z ∷ zs) bytes h =
    let ih = numbers_in-again w zs h.back h.second in
    let len : length bytes ≡ byte_len w * suc (length zs) = omega (arith, ap length h.whole, length-append h.front h.back, h.first.size, ih.0) in
    (len, rw (h.whole, take_at h.front h.back (byte_len w) h.first.size, drop_at h.front h.back (byte_len w) h.first.size, h.first.worth, ih.1) refl)

pub numbers_at-reads : (w : Width) (n : ℕ) → Reads (λ zs bytes. (length zs ≡ n) × IsEach (IsSigned w) zs bytes) (numbers_at w n)
unfolding numbers_at
numbers_at-reads w n =
    Reads-same
    (λ zs bytes h.
    let each = numbers_in-each w n h.0 h.2.0 in
    let P : List ℤ → List ℕ → Type 0 = λ xs cells. (length xs ≡ n) × IsEach (IsSigned w) xs cells in
    subst (λ (xs : List ℤ). P xs bytes) (sym h.1) (subst (λ (cells : List ℕ). P (numbers_in w n h.0) cells) (sym h.2.1) each))
    (λ zs bytes h.
    let again = numbers_in-again w zs bytes h.1 in
    (bytes, sym again.1 ∙ ap (λ (m : ℕ). numbers_in w m bytes) h.0, (again.0 ∙ ap (λ (m : ℕ). byte_len w * m) h.0, refl)))
    (Reads-map (numbers_in w n) (bytes_at-reads (byte_len w * n)))

-- ---- tags of one kind

-- a tag that V makes of a value that P spells
abbrev pub Made : {A : Type 0} → (A → Tag) → (A → List ℕ → Type 0) → Tag → List ℕ → Type 0
Made {A} V P tag bytes = (x : A) × (tag ≡ V x) × P x bytes

-- a tag of one kind that P spells
abbrev pub OfKind : Kind → (Tag → List ℕ → Type 0) → Tag → List ℕ → Type 0
OfKind kind P tag bytes = (tag_kind tag ≡ kind) × P tag bytes

-- V makes the tags of one kind, of which L is the one level
pub record IsVariant {A : Type 0} (kind : Kind) (V : A → Tag) (L : A → Layer) : Type 0 where
  pub outs : (x : A) → out-Tag (V x) ≡ L x
  pub has : (x : A) → layer_kind (L x) ≡ kind
  pub only : (y : Layer) → layer_kind y ≡ kind → (x : A) × (y ≡ L x)

out-Tag-same : (s t : Tag) → out-Tag s ≡ out-Tag t → s ≡ t
out-Tag-same s t e = sym (roll-out-Tag s) ∙ ap roll-Tag e ∙ roll-out-Tag t

pub variant-reads : {A : Type 0} {V : A → Tag} {L : A → Layer} {P : A → List ℕ → Type 0} {read : List ℕ → Read Tag} (kind : Kind) (N : Nesting) → IsVariant kind V L
    → ((x : A) (bytes : List ℕ) → P x bytes → IsLayer N (L x) bytes) → ((x : A) (bytes : List ℕ) → IsLayer N (L x) bytes → P x bytes)
    → Reads (Made V P) read → Reads (OfKind kind (λ tag. IsLayer N (out-Tag tag))) read
variant-reads {A} {V} {L} {P} kind N v there back r =
    Reads-same
    (λ tag bytes h.
    let out : out-Tag tag ≡ L h.0 = ap out-Tag h.1 ∙ v.outs h.0 in
    (ap layer_kind out ∙ v.has h.0, subst (λ (y : Layer). IsLayer N y bytes) (sym out) (there h.0 bytes h.2)))
    (λ tag bytes h.
    let w = v.only (out-Tag tag) h.0 in
    (w.0, out-Tag-same tag (V w.0) (w.1 ∙ sym (v.outs w.0)), back w.0 bytes (subst (λ (y : Layer). IsLayer N y bytes) w.1 h.1)))
    r

only-Byte : (y : Layer) → layer_kind y ≡ kinds.Byte → (x : ℤ) × (y ≡ layer.Byte x)
only-Byte (layer.Byte x) e = (x, refl)
only-Byte _ e = absurd cc

only-Short : (y : Layer) → layer_kind y ≡ kinds.Short → (x : ℤ) × (y ≡ layer.Short x)
only-Short (layer.Short x) e = (x, refl)
only-Short _ e = absurd cc

only-Int : (y : Layer) → layer_kind y ≡ kinds.Int → (x : ℤ) × (y ≡ layer.Int x)
only-Int (layer.Int x) e = (x, refl)
only-Int _ e = absurd cc

only-Long : (y : Layer) → layer_kind y ≡ kinds.Long → (x : ℤ) × (y ≡ layer.Long x)
only-Long (layer.Long x) e = (x, refl)
only-Long _ e = absurd cc

only-Float : (y : Layer) → layer_kind y ≡ kinds.Float → (x : ℕ) × (y ≡ layer.Float x)
only-Float (layer.Float x) e = (x, refl)
only-Float _ e = absurd cc

only-Double : (y : Layer) → layer_kind y ≡ kinds.Double → (x : ℕ) × (y ≡ layer.Double x)
only-Double (layer.Double x) e = (x, refl)
only-Double _ e = absurd cc

only-ByteArray : (y : Layer) → layer_kind y ≡ kinds.ByteArray → (x : List ℕ) × (y ≡ layer.ByteArray x)
only-ByteArray (layer.ByteArray x) e = (x, refl)
only-ByteArray _ e = absurd cc

only-Str : (y : Layer) → layer_kind y ≡ kinds.Str → (x : List ℕ) × (y ≡ layer.Str x)
only-Str (layer.Str x) e = (x, refl)
only-Str _ e = absurd cc

only-List : (y : Layer) → layer_kind y ≡ kinds.List → (x : ℕ × List Tag) × (y ≡ layer.List x.0 x.1)
only-List (layer.List element items) e = ((element, items), refl)
only-List _ e = absurd cc

only-Compound : (y : Layer) → layer_kind y ≡ kinds.Compound → (x : List Named) × (y ≡ layer.Compound x)
only-Compound (layer.Compound x) e = (x, refl)
only-Compound _ e = absurd cc

only-IntArray : (y : Layer) → layer_kind y ≡ kinds.IntArray → (x : List ℤ) × (y ≡ layer.IntArray x)
only-IntArray (layer.IntArray x) e = (x, refl)
only-IntArray _ e = absurd cc

only-LongArray : (y : Layer) → layer_kind y ≡ kinds.LongArray → (x : List ℤ) × (y ≡ layer.LongArray x)
only-LongArray (layer.LongArray x) e = (x, refl)
only-LongArray _ e = absurd cc

pub the_List : IsVariant {A = ℕ × List Tag} kinds.List (λ x. tags.List x.0 x.1) (λ x. layer.List x.0 x.1)
the_List = record { outs = λ x. outs-List x.0 x.1; has = λ x. refl; only = only-List }

pub the_Compound : IsVariant kinds.Compound (λ x. tags.Compound x) (λ x. layer.Compound x)
the_Compound = record { outs = outs-Compound; has = λ x. refl; only = only-Compound }

-- ---- each kind

-- an array: its count, and its items
abbrev pub Counted : {A : Type 0} → (List A → List ℕ → Type 0) → List A → List ℕ → Type 0
Counted P items = Joins (IsCount (length items)) (P items)

array-reads : {A : Type 0} {P : List A → List ℕ → Type 0} (V : List A → Tag) (next : ℕ → List ℕ → Read (List A)) → ((n : ℕ) → Reads (λ items bytes. (length items ≡ n) × P items bytes) (next n))
    → Reads (Made V (Counted P)) (λ bytes. count_at bytes >>= λ count. (next count.0 count.1 >>= λ items. Ok (V items.0, items.1)))
array-reads {A} {P} V next r =
    Reads-same
    (λ tag bytes h.
    let j = h.1 in
    (j.second.0, j.second.1, record { front = j.front; back = j.back; whole = j.whole; first = subst (λ (n : ℕ). IsCount n j.front) (sym j.second.2.0) j.first; second = j.second.2.1 }))
    (λ tag bytes h.
    let j = h.2 in
    (length h.0, record { front = j.front; back = j.back; whole = j.whole; first = j.first; second = (h.0, h.1, (refl, j.second)) }))
    (Reads-then count_at-reads (λ whole n. Reads-map V (r n)))

module _ (N : Nesting) where
  abbrev pub IsOf : Kind → Tag → List ℕ → Type 0
  IsOf kind = OfKind kind (λ tag. IsLayer N (out-Tag tag))

  pub byte-reads : Reads (IsOf kinds.Byte) (signed_tag w8 tags.Byte)
  byte-reads = variant-reads kinds.Byte N (record { outs = outs-Byte; has = λ x. refl; only = only-Byte }) (λ x bytes h. h) (λ x bytes h. h) (Reads-map tags.Byte (signed_at-reads w8))

  pub short-reads : Reads (IsOf kinds.Short) (signed_tag w16 tags.Short)
  short-reads = variant-reads kinds.Short N (record { outs = outs-Short; has = λ x. refl; only = only-Short }) (λ x bytes h. h) (λ x bytes h. h) (Reads-map tags.Short (signed_at-reads w16))

  pub int-reads : Reads (IsOf kinds.Int) (signed_tag w32 tags.Int)
  int-reads = variant-reads kinds.Int N (record { outs = outs-Int; has = λ x. refl; only = only-Int }) (λ x bytes h. h) (λ x bytes h. h) (Reads-map tags.Int (signed_at-reads w32))

  pub long-reads : Reads (IsOf kinds.Long) (signed_tag w64 tags.Long)
  long-reads = variant-reads kinds.Long N (record { outs = outs-Long; has = λ x. refl; only = only-Long }) (λ x bytes h. h) (λ x bytes h. h) (Reads-map tags.Long (signed_at-reads w64))

  pub float-reads : Reads (IsOf kinds.Float) (bits_tag w32 tags.Float)
  float-reads = variant-reads kinds.Float N (record { outs = outs-Float; has = λ x. refl; only = only-Float }) (λ x bytes h. h) (λ x bytes h. h) (Reads-map tags.Float (number_at-reads w32))

  pub double-reads : Reads (IsOf kinds.Double) (bits_tag w64 tags.Double)
  double-reads = variant-reads kinds.Double N (record { outs = outs-Double; has = λ x. refl; only = only-Double }) (λ x bytes h. h) (λ x bytes h. h) (Reads-map tags.Double (number_at-reads w64))

  pub byte_array-reads : Reads (IsOf kinds.ByteArray) byte_array_at
  unfolding byte_array_at
  byte_array-reads = variant-reads kinds.ByteArray N (record { outs = outs-ByteArray; has = λ x. refl; only = only-ByteArray }) (λ x bytes h. h) (λ x bytes h. h) (array-reads tags.ByteArray (λ n rest. bytes_at n rest) bytes_at-reads)

  pub string-reads : Reads (IsOf kinds.Str) string_at
  unfolding string_at
  string-reads = variant-reads kinds.Str N (record { outs = outs-Str; has = λ x. refl; only = only-Str }) (λ x bytes h. h) (λ x bytes h. h) (Reads-map tags.Str text_at-reads)

  pub int_array-reads : Reads (IsOf kinds.IntArray) int_array_at
  unfolding int_array_at
  int_array-reads = variant-reads kinds.IntArray N (record { outs = outs-IntArray; has = λ x. refl; only = only-IntArray }) (λ x bytes h. h) (λ x bytes h. h) (array-reads tags.IntArray (λ n rest. numbers_at w32 n rest) (numbers_at-reads w32))

  pub long_array-reads : Reads (IsOf kinds.LongArray) long_array_at
  unfolding long_array_at
  long_array-reads = variant-reads kinds.LongArray N (record { outs = outs-LongArray; has = λ x. refl; only = only-LongArray }) (λ x bytes h. h) (λ x bytes h. h) (array-reads tags.LongArray (λ n rest. numbers_at w64 n rest) (numbers_at-reads w64))
