-- Whole trees: what is read is spelled so, what is spelled so is read, and no spelling begins another.
use Rattle.std.proofs.Common.{◌≡◌, ℕ, zero, suc, ◌+◌, ◌-◌, ◌<◌, List, [], ◌∷◌, ◌++◌, length, Result, Ok, Err, refl, sym, ap, subst, ◌∙◌, append_assoc, arith}
use Rattle.std.proofs.lemmas.List.{append-nil, length-append, append_cancel_right}
use Rattle.nbt_tags.specs.declared.ending.Ending.TheVariants as endings
use Rattle.nbt_tags.specs.declared.flaw.Flaw.{Flaw}
use Rattle.nbt_tags.specs.declared.kind.Kind.{Kind}
use Rattle.nbt_tags.specs.declared.kind.Kind.TheVariants as kinds
use Rattle.nbt_tags.specs.declared.tag.Tag.{Tag}
use Rattle.nbt_tags.specs.declared.tag.Tag.TheVariants as tags
use Rattle.nbt_tags.specs.declared.tag.Named.{Named}
use Rattle.nbt_tags.specs.Kinds.{type_byte, tag_kind}
use Rattle.nbt_tags.specs.Spelling.{Nesting, IsCompound, IsPayload, nesting, max_depth, none_taken, tag_of, Spells, SpellsRow}
use Rattle.nbt_tags.specs.Reading.{Read, Nested, content, nested_at, payload_at, whole_row_at, row_at, compound_in, root_at, ended, whole_root, whole_row}
use Rattle.nbt_tags.proofs.Both.{Reads, Reads-same, Reads-map, Reads-then, bind_ok, ok_is}
use Rattle.nbt_tags.proofs.FieldReads.{kind_at-reads}
use Rattle.nbt_tags.proofs.LeafReads.{Made, OfKind, IsOf, variant-reads, the_List, the_Compound, byte-reads, short-reads, int-reads, long-reads, float-reads, double-reads, byte_array-reads, string-reads, int_array-reads, long_array-reads}
use Rattle.nbt_tags.proofs.ListReads.{list_in-reads}
use Rattle.nbt_tags.proofs.RowReads.{entry_at-reads, row_at-sound, row_at-complete, length-IsEach}

-- ---- compounds

module _ {P : Tag → List ℕ → Type 0} {payload : Kind → List ℕ → Read Tag} (r : (kind : Kind) → Reads (OfKind kind P) (payload kind)) where
  braced-reads : Reads (IsCompound P) (whole_row_at payload endings.Zero)
  braced-reads = record {
    sound = λ bytes row rest e.
        let f = row_at-sound r endings.Zero (length bytes + 1) none_taken bytes row rest e in
        record {
          front = f.front ++ 0 ∷ [];
          whole = f.whole ∙ ap (λ (part : List ℕ). f.front ++ part) f.closes ∙ sym (append_assoc f.front (0 ∷ []) rest);
          holds = record { front = f.front; back = 0 ∷ []; whole = refl; first = record { entries = f.entries; distinct = f.fresh }; second = refl };
        };
    complete = λ row front rest j.
        let regrouped : front ++ rest ≡ j.front ++ (0 ∷ rest) =
        ap (λ (part : List ℕ). part ++ rest) j.whole ∙ append_assoc j.front j.back rest ∙ ap (λ (part : List ℕ). j.front ++ (part ++ rest)) j.second in
        let lt : length row < length (front ++ rest) + 1 = omega (arith, length-IsEach P row j.front j.first.entries, ap length regrouped, length-append j.front (0 ∷ rest)) in
        ap (λ (part : List ℕ). row_at payload endings.Zero (length (front ++ rest) + 1) none_taken part) regrouped
        ∙ row_at-complete r endings.Zero (length (front ++ rest) + 1) none_taken row j.front (0 ∷ rest) rest j.first.entries j.first.distinct refl lt;
  }

  compound_in-reads : Reads (Made tags.Compound (IsCompound P)) (compound_in payload)
  unfolding compound_in
  compound_in-reads = Reads-map tags.Compound braced-reads

-- ---- levels

record ReadsNested (N : Nesting) (nested : Nested) : Type 0 where
  list : Reads (IsOf N kinds.List) nested.list
  compound : Reads (IsOf N kinds.Compound) nested.compound

content-reads : (N : Nesting) (nested : Nested) → ReadsNested N nested → (kind : Kind) → Reads (IsOf N kind) (content nested kind)
unfolding content
content-reads N nested r kinds.Byte = byte-reads N
content-reads N nested r kinds.Short = short-reads N
content-reads N nested r kinds.Int = int-reads N
content-reads N nested r kinds.Long = long-reads N
content-reads N nested r kinds.Float = float-reads N
content-reads N nested r kinds.Double = double-reads N
content-reads N nested r kinds.ByteArray = byte_array-reads N
content-reads N nested r kinds.Str = string-reads N
content-reads N nested r kinds.List = r.list
content-reads N nested r kinds.Compound = r.compound
content-reads N nested r kinds.IntArray = int_array-reads N
content-reads N nested r kinds.LongArray = long_array-reads N

fails-reads : {A : Type 0} (V : A → Tag) (flaw : List ℕ → Flaw) → Reads (Made V (λ x bytes. ⊥)) (λ bytes. Err (flaw bytes))
fails-reads V flaw = record { sound = λ bytes x rest e. absurd cc; complete = λ x front rest h. absurd h.2 }

nested_at-reads : (levels : ℕ) → ReadsNested (nesting levels) (nested_at levels)
unfolding nesting nested_at
nested_at-reads zero = record {
  list = variant-reads kinds.List (nesting 0) the_List (λ x bytes h. h) (λ x bytes h. h) (fails-reads (λ (x : ℕ × List Tag). tags.List x.0 x.1) _);
  compound = variant-reads kinds.Compound (nesting 0) the_Compound (λ x bytes h. h) (λ x bytes h. h) (fails-reads (λ (x : List Named). tags.Compound x) _);
}
nested_at-reads (suc levels) =
    let inside = content-reads (nesting levels) (nested_at levels) (nested_at-reads levels) in
    record {
      list = variant-reads kinds.List (nesting (suc levels)) the_List (λ x bytes h. h) (λ x bytes h. h) (list_in-reads inside);
      compound = variant-reads kinds.Compound (nesting (suc levels)) the_Compound (λ x bytes h. h) (λ x bytes h. h) (compound_in-reads inside);
    }

pub payload_at-reads : (levels : ℕ) (kind : Kind) → Reads (OfKind kind (IsPayload levels)) (payload_at levels kind)
payload_at-reads levels = content-reads (nesting levels) (nested_at levels) (nested_at-reads levels)

-- ---- whole inputs

pub root_at-reads : Reads Spells root_at
unfolding root_at
root_at-reads =
    Reads-same
    (λ entry bytes h.
    let j = h.1 in
    let k = j.second.1 in
    record {
      front = j.front;
      back = j.back;
      whole = j.whole;
      first = j.first ∙ ap (λ (kind : Kind). type_byte kind ∷ []) (sym k.second.0);
      second = record { front = k.front; back = k.back; whole = k.whole; first = k.first; second = k.second.1 };
    })
    (λ entry bytes h.
    let k = h.second in
    (tag_kind (tag_of entry), record { front = h.front; back = h.back; whole = h.whole; first = h.first; second = (refl, record { front = k.front; back = k.back; whole = k.whole; first = k.first; second = (refl, k.second) }) }))
    (Reads-then kind_at-reads (λ whole kind. entry_at-reads (payload_at-reads max_depth kind) none_taken whole))

ended_ok : (x : Named) (rest : List ℕ) (y : Named) → ended x rest ≡ Ok y → (rest ≡ []) × (x ≡ y)
unfolding ended
ended_ok x [] y e = (refl, ok_is x y e)
ended_ok x (b ∷ rest) y e = absurd cc

-- what is read is spelled so
pub whole_root-sound : (bytes : List ℕ) (x : Named) → whole_root bytes ≡ Ok x → Spells x bytes
unfolding whole_root
whole_root-sound bytes x e =
    let b = bind_ok (root_at bytes) (λ root. ended root.0 root.1) x e in
    let end = ended_ok b.0.0 b.0.1 x b.2 in
    let f = root_at-reads.sound bytes b.0.0 b.0.1 b.1 in
    let all : bytes ≡ f.front = f.whole ∙ ap (λ (rest : List ℕ). f.front ++ rest) end.0 ∙ append-nil f.front in
    subst (λ (part : List ℕ). Spells x part) (sym all) (subst (λ (y : Named). Spells y f.front) end.1 f.holds)

-- what is spelled so is read
pub whole_root-complete : (bytes : List ℕ) (x : Named) → Spells x bytes → whole_root bytes ≡ Ok x
unfolding whole_root ended
whole_root-complete bytes x h =
    let read : root_at bytes ≡ Ok (x, []) = ap root_at (sym (append-nil bytes)) ∙ root_at-reads.complete x bytes [] h in
    rw read refl

pub whole_row-sound : (depth : ℕ) (bytes : List ℕ) (row : List Named) → whole_row depth bytes ≡ Ok row → SpellsRow depth row bytes
unfolding whole_row
whole_row-sound depth bytes row e =
    let b = bind_ok (whole_row_at (payload_at (max_depth - depth)) endings.Input bytes) (λ read. Ok read.0) row e in
    let f = row_at-sound (payload_at-reads (max_depth - depth)) endings.Input (length bytes + 1) none_taken bytes b.0.0 b.0.1 b.1 in
    let all : bytes ≡ f.front = f.whole ∙ ap (λ (part : List ℕ). f.front ++ part) f.closes.0 ∙ append-nil f.front in
    subst (λ (part : List ℕ). SpellsRow depth row part) (sym all) (subst (λ (r : List Named). SpellsRow depth r f.front) (ok_is b.0.0 row b.2) (record { entries = f.entries; distinct = f.fresh }))

pub whole_row-complete : (depth : ℕ) (bytes : List ℕ) (row : List Named) → SpellsRow depth row bytes → whole_row depth bytes ≡ Ok row
unfolding whole_row
whole_row-complete depth bytes row h =
    let P = IsPayload (max_depth - depth) in
    let lt : length row < length bytes + 1 = omega (arith, length-IsEach P row bytes h.entries) in
    let read : whole_row_at (payload_at (max_depth - depth)) endings.Input bytes ≡ Ok (row, []) =
    ap (λ (part : List ℕ). row_at (payload_at (max_depth - depth)) endings.Input (length bytes + 1) none_taken part) (sym (append-nil bytes))
    ∙ row_at-complete (payload_at-reads (max_depth - depth)) endings.Input (length bytes + 1) none_taken row bytes [] [] h.entries h.distinct (refl, refl) lt in
    rw read refl

-- ---- no spelling begins another

pub Spells-prefix : (a b x y : List ℕ) (s t : Named) → Spells s a → Spells t b → a ++ x ≡ b ++ y → (a ≡ b) × (s ≡ t)
Spells-prefix a b x y s t p q e =
    let one : Ok (s, x) ≡ Ok (t, y) = sym (root_at-reads.complete s a x p) ∙ ap root_at e ∙ root_at-reads.complete t b y q in
    let same : (s, x) ≡ (t, y) = ok_is (s, x) (t, y) one in
    let rest : x ≡ y = ap (λ (r : Named × List ℕ). r.1) same in
    (append_cancel_right a b x (e ∙ ap (λ (part : List ℕ). b ++ part) (sym rest)), ap (λ (r : Named × List ℕ). r.0) same)

pub SpellsRow-one : (depth : ℕ) (bytes : List ℕ) (r s : List Named) → SpellsRow depth r bytes → SpellsRow depth s bytes → r ≡ s
SpellsRow-one depth bytes r s p q =
    let one : Result (List Named) Flaw = Ok r in
    ok_is r s (sym (whole_row-complete depth bytes r p) ∙ whole_row-complete depth bytes s q)
