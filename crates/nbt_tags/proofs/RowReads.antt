-- Rows of named tags and compounds: what is read is spelled so, and what is spelled so is read.
use Rattle.std.proofs.Common.{◌≡◌, ℕ, zero, suc, ◌≤◌, ◌<◌, Bool, false, cond, List, [], ◌∷◌, ◌++◌, length, Option, Some, None, Ok, Err, refl, sym, ap, subst, ◌∙◌, append_assoc, arith}
use Rattle.std.proofs.lemmas.List.{length-append}
use Rattle.nbt_tags.specs.declared.ending.Ending.{Ending}
use Rattle.nbt_tags.specs.declared.ending.Ending.TheVariants as endings
use Rattle.nbt_tags.specs.declared.flaw.Cause.TheVariants.{Duplicate}
use Rattle.nbt_tags.specs.declared.kind.Kind.{Kind}
use Rattle.nbt_tags.specs.declared.kind.Kind.TheVariants as kinds
use Rattle.nbt_tags.specs.declared.tag.Tag.{Tag}
use Rattle.nbt_tags.specs.declared.tag.Named.{Named, Named-F, out-roll-Named, roll-out-Named}
use Rattle.nbt_tags.specs.Kinds.{type_byte, tag_kind, tag_byte}
use Rattle.nbt_tags.specs.Spelling.{Joins, IsEach, IsText, IsEntry, AreFresh, also, name_of, tag_of, names_of}
use Rattle.nbt_tags.specs.Reading.{Read, ◌>>=◌, flaw_at, kind_at, text_at, next_at, fresh_at, named, entry_at, row_from, row_at}
use Rattle.nbt_tags.proofs.Both.{Found, Reads, Reads-same, Reads-map, Reads-then, bind_ok, ok_is}
use Rattle.nbt_tags.proofs.FieldReads.{guard_ok, text_at-reads, kind_at-reads, kind_at-again}
use Rattle.nbt_tags.proofs.LeafReads.{OfKind}

-- ---- named tags

abbrev IsFresh : (List ℕ → Bool) → List ℕ → List ℕ → Type 0
IsFresh taken name bytes = (taken name ≡ false) × IsText name bytes

fresh_at-reads : (taken : List ℕ → Bool) (whole : List ℕ) → Reads (IsFresh taken) (fresh_at taken whole)
unfolding fresh_at
fresh_at-reads taken whole = record {
  sound = λ bytes name rest e.
      let b = bind_ok (text_at bytes) (λ text. cond (taken text.0) (Err (flaw_at Duplicate whole)) (Ok text)) (name, rest) e in
      let g = guard_ok (taken b.0.0) (flaw_at Duplicate whole) b.0 (name, rest) b.2 in
      let f = text_at-reads.sound bytes b.0.0 b.0.1 b.1 in
      subst (λ (p : List ℕ × List ℕ). Found (IsFresh taken) p.0 bytes p.1) g.1 (record { front = f.front; whole = f.whole; holds = (g.0, f.holds) });
  complete = λ name front rest h. rw (text_at-reads.complete name front rest h.1, h.0) refl;
}

pub name_of-named : (name : List ℕ) (tag : Tag) → name_of (named name tag) ≡ name
name_of-named name tag = ap (λ (n : Named-F Tag Named). n.name) (out-roll-Named (record { name = name; tag = tag }))

pub tag_of-named : (name : List ℕ) (tag : Tag) → tag_of (named name tag) ≡ tag
tag_of-named name tag = ap (λ (n : Named-F Tag Named). n.tag) (out-roll-Named (record { name = name; tag = tag }))

-- a named tag behind its type byte
abbrev Behind : (List ℕ → Bool) → (Tag → List ℕ → Type 0) → Named → List ℕ → Type 0
Behind taken P entry bytes = (taken (name_of entry) ≡ false) × Joins (IsText (name_of entry)) (P (tag_of entry)) bytes

pub entry_at-reads : {P : Tag → List ℕ → Type 0} {payload : List ℕ → Read Tag} → Reads P payload → (taken : List ℕ → Bool) (whole : List ℕ) → Reads (Behind taken P) (entry_at payload taken whole)
unfolding entry_at
entry_at-reads {P} {payload} r taken whole =
    Reads-same
    (λ entry bytes h.
    let j = h.1 in
    let t = j.second.0 in
    subst (λ (e : Named). Behind taken P e bytes) (sym j.second.1)
    (subst (λ (n : List ℕ). (taken n ≡ false) × Joins (IsText n) (P (tag_of (named h.0 t))) bytes) (sym (name_of-named h.0 t))
    (j.first.0, record { front = j.front; back = j.back; whole = j.whole; first = j.first.1; second = subst (λ (u : Tag). P u j.back) (sym (tag_of-named h.0 t)) j.second.2 })))
    (λ entry bytes h.
    let j = h.1 in
    (name_of entry, record { front = j.front; back = j.back; whole = j.whole; first = (h.0, j.first); second = (tag_of entry, sym (roll-out-Named entry), j.second) }))
    (Reads-then (fresh_at-reads taken whole) (λ rest name. Reads-map (named name) r))

-- ---- ends of rows

-- what stands behind the last named tag, and what follows that
abbrev pub Closes : Ending → List ℕ → List ℕ → Type 0
Closes endings.Zero close rest = close ≡ 0 ∷ rest
Closes endings.Input close rest = (close ≡ []) × (rest ≡ [])

abbrev some_kind : Kind × List ℕ → Read (Option Kind)
some_kind kind = Ok (Some kind.0, kind.1)

abbrev got : Option Kind → List ℕ → Option Kind × List ℕ
got next rest = (next, rest)

kind_next : (bytes : List ℕ) (next : Option Kind) (after : List ℕ) → (kind_at bytes >>= some_kind) ≡ Ok (next, after) → (kind : Kind) × (next ≡ Some kind) × (bytes ≡ type_byte kind ∷ after)
kind_next bytes next after e =
    let b = bind_ok (kind_at bytes) some_kind (next, after) e in
    let same : got (Some b.0.0) b.0.1 ≡ got next after = ok_is (got (Some b.0.0) b.0.1) (got next after) b.2 in
    let f = kind_at-reads.sound bytes b.0.0 b.0.1 b.1 in
    (b.0.0, ap (λ (p : Option Kind × List ℕ). p.0) (sym same), f.whole ∙ ap (λ (part : List ℕ). part ++ b.0.1) f.holds ∙ ap (λ (p : Option Kind × List ℕ). type_byte b.0.0 ∷ p.1) same)

-- what comes next is the end, or a type byte
abbrev pub IsNext : Ending → List ℕ → Option Kind → List ℕ → Type 0
IsNext ending bytes None after = Closes ending bytes after
IsNext ending bytes (Some kind) after = bytes ≡ type_byte kind ∷ after

some_next : (ending : Ending) (bytes : List ℕ) (next : Option Kind) (after : List ℕ) → (kind : Kind) × (next ≡ Some kind) × (bytes ≡ type_byte kind ∷ after) → IsNext ending bytes next after
some_next ending bytes next after h = subst (λ (o : Option Kind). IsNext ending bytes o after) (sym h.1) h.2

pub next_at-sound : (ending : Ending) (bytes : List ℕ) (next : Option Kind) (after : List ℕ) → next_at ending bytes ≡ Ok (next, after) → IsNext ending bytes next after
unfolding next_at
next_at-sound endings.Zero [] next after e = absurd cc
next_at-sound endings.Zero (zero ∷ bytes) next after e =
    subst (λ (p : Option Kind × List ℕ). IsNext endings.Zero (0 ∷ bytes) p.0 p.1) (ok_is (got None bytes) (got next after) e) refl
next_at-sound endings.Zero (suc b ∷ bytes) next after e = some_next endings.Zero (suc b ∷ bytes) next after (kind_next (suc b ∷ bytes) next after e)
next_at-sound endings.Input [] next after e =
    subst (λ (p : Option Kind × List ℕ). IsNext endings.Input [] p.0 p.1) (ok_is (got None []) (got next after) e) (refl, refl)
next_at-sound endings.Input (b ∷ bytes) next after e = some_next endings.Input (b ∷ bytes) next after (kind_next (b ∷ bytes) next after e)

pub next_at-ends : (ending : Ending) (close rest : List ℕ) → Closes ending close rest → next_at ending close ≡ Ok (None, rest)
unfolding next_at
next_at-ends endings.Zero close rest h = rw h refl
next_at-ends endings.Input close rest h = rw (h.0, h.1) refl

next_at-byte : (ending : Ending) (b : ℕ) (rest : List ℕ) → 0 < b → next_at ending (b ∷ rest) ≡ (kind_at (b ∷ rest) >>= some_kind)
unfolding next_at
next_at-byte endings.Zero zero rest lt = absurd (omega (arith, lt))
next_at-byte endings.Zero (suc b) rest lt = refl
next_at-byte endings.Input b rest lt = refl

type_byte-pos : (kind : Kind) → 0 < type_byte kind
type_byte-pos kinds.Byte = omega arith
type_byte-pos kinds.Short = omega arith
type_byte-pos kinds.Int = omega arith
type_byte-pos kinds.Long = omega arith
type_byte-pos kinds.Float = omega arith
type_byte-pos kinds.Double = omega arith
type_byte-pos kinds.ByteArray = omega arith
type_byte-pos kinds.Str = omega arith
type_byte-pos kinds.List = omega arith
type_byte-pos kinds.Compound = omega arith
type_byte-pos kinds.IntArray = omega arith
type_byte-pos kinds.LongArray = omega arith

pub next_at-goes : (ending : Ending) (kind : Kind) (rest : List ℕ) → next_at ending (type_byte kind ∷ rest) ≡ Ok (Some kind, rest)
next_at-goes ending kind rest = next_at-byte ending (type_byte kind) rest (type_byte-pos kind) ∙ ap (λ (r : Read Kind). r >>= some_kind) (kind_at-again kind rest)

-- ---- rows

-- a row of which some names are taken
pub record RowFound (P : Tag → List ℕ → Type 0) (ending : Ending) (taken : List ℕ → Bool) (row : List Named) (bytes rest : List ℕ) : Type 0 where
  pub front : List ℕ
  pub close : List ℕ
  pub whole : bytes ≡ front ++ close
  pub entries : IsEach (IsEntry P) row front
  pub fresh : AreFresh taken (names_of row)
  pub closes : Closes ending close rest

module _ {P : Tag → List ℕ → Type 0} {payload : Kind → List ℕ → Read Tag} (r : (kind : Kind) → Reads (OfKind kind P) (payload kind)) (ending : Ending) where
  row_more : (taken : List ℕ → Bool) (kind : Kind) (bytes after more rest : List ℕ) (first : Named) (others : List Named) → bytes ≡ type_byte kind ∷ after → Found (Behind taken (OfKind kind P)) first after more
      → RowFound P ending (also (name_of first) taken) others more rest → RowFound P ending taken (first ∷ others) bytes rest
  row_more taken kind bytes after more rest first others is f found =
      let j = f.holds.1 in
      let byte : type_byte kind ≡ tag_byte (tag_of first) = ap type_byte (sym j.second.0) in
      record {
        front = (type_byte kind ∷ f.front) ++ found.front;
        close = found.close;
        whole = is ∙ ap (λ (part : List ℕ). type_byte kind ∷ part) f.whole ∙ ap (λ (part : List ℕ). (type_byte kind ∷ f.front) ++ part) found.whole ∙ sym (append_assoc (type_byte kind ∷ f.front) found.front found.close);
        entries = record {
          front = type_byte kind ∷ f.front;
          back = found.front;
          whole = refl;
          first = record { front = type_byte kind ∷ []; back = f.front; whole = refl; first = ap (λ (b : ℕ). b ∷ []) byte; second = record { front = j.front; back = j.back; whole = j.whole; first = j.first; second = j.second.1 } };
          second = found.entries;
        };
        fresh = (f.holds.0, found.fresh);
        closes = found.closes;
      }

  abbrev Others : Type 0
  Others = (List ℕ → Bool) → List ℕ → Read (List Named)

  abbrev OthersSound : Others → Type 0
  OthersSound others = (taken : List ℕ → Bool) (bytes : List ℕ) (row : List Named) (rest : List ℕ) → others taken bytes ≡ Ok (row, rest) → RowFound P ending taken row bytes rest

  abbrev got_row : List Named → List ℕ → List Named × List ℕ
  got_row row rest = (row, rest)

  row_from-sound : (others : Others) (taken : List ℕ → Bool) (bytes : List ℕ) (next : Option Kind) (after : List ℕ) (row : List Named) (rest : List ℕ) → OthersSound others → IsNext ending bytes next after
      → row_from payload others taken bytes next after ≡ Ok (row, rest) → RowFound P ending taken row bytes rest
  unfolding row_from
  row_from-sound others taken bytes None after row rest more is e =
      subst (λ (p : List Named × List ℕ). RowFound P ending taken p.0 bytes p.1) (ok_is (got_row [] after) (got_row row rest) e) (record { front = []; close = bytes; whole = refl; entries = refl; fresh = tt; closes = is })
  row_from-sound others taken bytes (Some kind) after row rest more is e =
      let b = bind_ok (entry_at (payload kind) taken bytes after) (λ first. others (also (name_of first.0) taken) first.1 >>= λ m. Ok (first.0 ∷ m.0, m.1)) (row, rest) e in
      let c = bind_ok (others (also (name_of b.0.0) taken) b.0.1) (λ m. Ok (b.0.0 ∷ m.0, m.1)) (row, rest) b.2 in
      let f = (entry_at-reads (r kind) taken bytes).sound after b.0.0 b.0.1 b.1 in
      let found = more (also (name_of b.0.0) taken) b.0.1 c.0.0 c.0.1 c.1 in
      subst (λ (p : List Named × List ℕ). RowFound P ending taken p.0 bytes p.1) {x = got_row (b.0.0 ∷ c.0.0) c.0.1} (ok_is (got_row (b.0.0 ∷ c.0.0) c.0.1) (got_row row rest) c.2)
      (row_more taken kind bytes after b.0.1 c.0.1 b.0.0 c.0.0 is f found)

  pub row_at-sound : (steps : ℕ) (taken : List ℕ → Bool) (bytes : List ℕ) (row : List Named) (rest : List ℕ) → row_at payload ending steps taken bytes ≡ Ok (row, rest) → RowFound P ending taken row bytes rest
  unfolding row_at
  row_at-sound zero taken bytes row rest e = absurd cc
  row_at-sound (suc steps) taken bytes row rest e =
      let b = bind_ok (next_at ending bytes) (λ next. row_from payload (λ names more. row_at payload ending steps names more) taken bytes next.0 next.1) (row, rest) e in
      row_from-sound (λ names more. row_at payload ending steps names more) taken bytes b.0.0 b.0.1 row rest (row_at-sound steps) (next_at-sound ending bytes b.0.0 b.0.1 b.1) b.2

  pub row_at-complete : (steps : ℕ) (taken : List ℕ → Bool) (row : List Named) (front close rest : List ℕ) → IsEach (IsEntry P) row front → AreFresh taken (names_of row) → Closes ending close rest → length row < steps
      → row_at payload ending steps taken (front ++ close) ≡ Ok (row, rest)
  unfolding row_at row_from
  row_at-complete zero taken row front close rest each fresh closes lt = absurd (omega (arith, lt))
  row_at-complete (suc steps) taken [] front close rest each fresh closes lt = rw (each, next_at-ends ending close rest closes) refl
  row_at-complete (suc steps) taken (first ∷ others) front close rest each fresh closes lt =
      let e = each.first in
      let kind = tag_kind (tag_of first) in
      let part = e.back ++ (each.back ++ close) in
      let regrouped : front ++ close ≡ type_byte kind ∷ part =
      ap (λ (x : List ℕ). x ++ close) each.whole
      ∙ append_assoc each.front each.back close
      ∙ ap (λ (x : List ℕ). x ++ (each.back ++ close)) e.whole
      ∙ append_assoc e.front e.back (each.back ++ close)
      ∙ ap (λ (x : List ℕ). x ++ part) e.first in
      let j = e.second in
      let read : entry_at (payload kind) taken (type_byte kind ∷ part) part ≡ Ok (first, each.back ++ close) =
      (entry_at-reads (r kind) taken (type_byte kind ∷ part)).complete first e.back (each.back ++ close)
      (fresh.0, record { front = j.front; back = j.back; whole = j.whole; first = j.first; second = (refl, j.second) }) in
      let ih = row_at-complete steps (also (name_of first) taken) others each.back close rest each.second fresh.1 closes (omega (arith, lt)) in
      ap (λ (bytes : List ℕ). row_at payload ending (suc steps) taken bytes) regrouped ∙ rw (next_at-goes ending kind part, read, ih) refl

-- each named tag has a byte at least
pub length-IsEach : (P : Tag → List ℕ → Type 0) (row : List Named) (bytes : List ℕ) → IsEach (IsEntry P) row bytes → length row ≤ length bytes
length-IsEach P [] bytes h = omega arith
length-IsEach P (entry ∷ row) bytes h =
    let e = h.first in
    omega (arith, length-IsEach P row h.back h.second, ap length h.whole, length-append h.front h.back, ap length e.whole, length-append e.front e.back, ap length e.first)
