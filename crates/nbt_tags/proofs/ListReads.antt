-- Lists: what is read is spelled so, and what is spelled so is read.
use Rattle.std.proofs.Common.{◌≡◌, ℕ, zero, suc, ◌≤◌, ℤ, pos, negsuc, ◌≤ℤ◌, List, [], ◌∷◌, ◌++◌, length, Option, Some, None, Ok, refl, sym, ap, subst, ◌∙◌, arith}
use Rattle.std.proofs.lemmas.Int.{ints}
use Rattle.std.proofs.lemmas.List.{append-nil}
use Rattle.std.specs.Int.{w32}
use Rattle.nbt_tags.specs.declared.kind.Kind.{Kind}
use Rattle.nbt_tags.specs.declared.tag.Tag.{Tag}
use Rattle.nbt_tags.specs.declared.tag.Tag.TheVariants as tags
use Rattle.nbt_tags.specs.Kinds.{type_byte, kind_of, tag_kind}
use Rattle.nbt_tags.specs.Spelling.{Joins, IsEach, IsSigned, IsItem, IsList}
use Rattle.nbt_tags.specs.Reading.{Read, items_at, items_of, counted_at, list_in}
use Rattle.nbt_tags.proofs.Both.{Found, Reads, Reads-same, Reads-map, Reads-then, ok_is}
use Rattle.nbt_tags.proofs.FieldReads.{signed_at-reads, element_at-reads, IsElement, kind_of-type_byte, type_byte-kind_of, type_byte-same, type_byte-low}
use Rattle.nbt_tags.proofs.LeafReads.{Made, OfKind}

-- the same parts in other words
pub IsEach-same : {A : Type 0} {P Q : A → List ℕ → Type 0} → ((x : A) (bytes : List ℕ) → P x bytes → Q x bytes) → (xs : List A) (bytes : List ℕ) → IsEach P xs bytes → IsEach Q xs bytes
IsEach-same there [] bytes h = h
IsEach-same there (x ∷ xs) bytes h = record { front = h.front; back = h.back; whole = h.whole; first = there x h.front h.first; second = IsEach-same there xs h.back h.second }

-- so many parts
abbrev pub AreMany : {A : Type 0} → (A → List ℕ → Type 0) → ℕ → List A → List ℕ → Type 0
AreMany P n xs bytes = (length xs ≡ n) × IsEach P xs bytes

abbrev Split : (Tag → List ℕ → Type 0) → ℕ → List Tag → List ℕ → Type 0
Split P n ts bytes = (first : Tag) × Joins (P first) (λ back. (others : List Tag) × (ts ≡ first ∷ others) × AreMany P n others back) bytes

splits : (P : Tag → List ℕ → Type 0) (n : ℕ) (ts : List Tag) (bytes : List ℕ) → AreMany P (suc n) ts bytes → Split P n ts bytes
splits P n [] bytes h = absurd (omega (arith, h.0))
splits P n (t ∷ ts) bytes h =
    let j = h.1 in
    (t, record { front = j.front; back = j.back; whole = j.whole; first = j.first; second = (ts, refl, (omega (arith, h.0), j.second)) })

joins : (P : Tag → List ℕ → Type 0) (n : ℕ) (ts : List Tag) (bytes : List ℕ) → Split P n ts bytes → AreMany P (suc n) ts bytes
joins P n ts bytes h =
    let j = h.1 in
    let s = j.second in
    subst (λ (xs : List Tag). AreMany P (suc n) xs bytes) (sym s.1) (ap suc s.2.0, record { front = j.front; back = j.back; whole = j.whole; first = j.first; second = s.2.1 })

-- tags that were read, and the bytes behind them
abbrev got : List Tag → List ℕ → List Tag × List ℕ
got ts rest = (ts, rest)

none_again : (P : Tag → List ℕ → Type 0) (ts : List Tag) (front rest : List ℕ) → AreMany P 0 ts front → got [] (front ++ rest) ≡ got ts rest
none_again P [] front rest h = ap (λ (part : List ℕ). got [] (part ++ rest)) h.1
none_again P (t ∷ ts) front rest h = absurd (omega (arith, h.0))

pub items_at-reads : {P : Tag → List ℕ → Type 0} {payload : List ℕ → Read Tag} → Reads P payload → (n : ℕ) → Reads (AreMany P n) (items_at payload n)
unfolding items_at
items_at-reads {P} {payload} r zero = record {
  sound = λ bytes ts rest e.
      subst (λ (p : List Tag × List ℕ). Found (AreMany P 0) p.0 bytes p.1) (ok_is (got [] bytes) (got ts rest) e) (record { front = []; whole = refl; holds = (refl, refl) });
  complete = λ ts front rest h. ap (λ (p : List Tag × List ℕ). Ok p) (none_again P ts front rest h);
}
items_at-reads {P} {payload} r (suc n) =
    Reads-same (joins P n) (splits P n)
    (Reads-then r (λ whole first. Reads-map (λ others. first ∷ others) (items_at-reads r n)))

-- ---- what follows a list's count

-- the items behind a count, which are none where it is zero or less
abbrev Follows : (Tag → List ℕ → Type 0) → ℕ → ℤ → List Tag → List ℕ → Type 0
Follows P element z [] bytes = (z ≤ℤ pos 0) × (bytes ≡ [])
Follows P element z (t ∷ ts) bytes = (z ≡ pos (length (t ∷ ts))) × IsEach (IsItem P element) (t ∷ ts) bytes

module _ {P : Tag → List ℕ → Type 0} {payload : Kind → List ℕ → Read Tag} (r : (kind : Kind) → Reads (OfKind kind P) (payload kind)) (whole : List ℕ) (element : ℕ) where
  items_found : (n : ℕ) (kind : Kind) (ts : List Tag) (bytes : List ℕ) → kind_of element ≡ Some kind → AreMany (OfKind kind P) (suc n) ts bytes → Follows P element (pos (suc n)) ts bytes
  items_found n kind [] bytes is h = absurd (omega (arith, h.0))
  items_found n kind (t ∷ ts) bytes is h =
      (ap (λ (m : ℕ). pos m) (sym h.0), IsEach-same (λ tag part here. record { type = ap type_byte here.0 ∙ type_byte-kind_of element kind is; payload = here.1 }) (t ∷ ts) bytes h.1)

  items_sound : (o : Option Kind) (n : ℕ) (bytes : List ℕ) (ts : List Tag) (rest : List ℕ) → kind_of element ≡ o → items_of payload whole o (suc n) bytes ≡ Ok (ts, rest) → Found (Follows P element (pos (suc n))) ts bytes rest
  unfolding items_of
  items_sound None n bytes ts rest is e = absurd cc
  items_sound (Some kind) n bytes ts rest is e =
      let f = (items_at-reads (r kind) (suc n)).sound bytes ts rest e in
      record { front = f.front; whole = f.whole; holds = items_found n kind ts f.front is f.holds }

  -- all items have the kind of the first
  items_again : (n : ℕ) (ts : List Tag) (front rest : List ℕ) → Follows P element (pos (suc n)) ts front → items_of payload whole (kind_of element) (suc n) (front ++ rest) ≡ Ok (ts, rest)
  unfolding items_of
  items_again n [] front rest h = absurd (omega (arith, ints, h.0))
  items_again n (t ∷ ts) front rest h =
      let kind = tag_kind t in
      let is : kind_of element ≡ Some kind = ap kind_of (sym h.1.first.type) ∙ kind_of-type_byte kind in
      let same = IsEach-same {P = IsItem P element} {Q = OfKind kind P} (λ tag part here. (type_byte-same (tag_kind tag) kind (here.type ∙ sym h.1.first.type), here.payload)) (t ∷ ts) front h.1 in
      let count : suc n ≡ length (t ∷ ts) = omega (arith, ints, h.0) in
      ap (λ (o : Option Kind). items_of payload whole o (suc n) (front ++ rest)) is
      ∙ (items_at-reads (r kind) (suc n)).complete (t ∷ ts) front rest (sym count, same)

  none_found : (z : ℤ) (bytes : List ℕ) (ts : List Tag) (rest : List ℕ) → z ≤ℤ pos 0 → got [] bytes ≡ got ts rest → Found (Follows P element z) ts bytes rest
  none_found z bytes ts rest le e =
      subst (λ (p : List Tag × List ℕ). Found (Follows P element z) p.0 bytes p.1) e (record { front = []; whole = refl; holds = (le, refl) })

  nothing_again : (z : ℤ) (ts : List Tag) (front rest : List ℕ) → z ≤ℤ pos 0 → Follows P element z ts front → got [] (front ++ rest) ≡ got ts rest
  nothing_again z [] front rest le h = ap (λ (part : List ℕ). got [] (part ++ rest)) h.1
  nothing_again z (t ∷ ts) front rest le h = absurd (omega (arith, ints, h.0))

  counted_at-reads : (z : ℤ) → Reads (Follows P element z) (counted_at payload whole element z)
  unfolding counted_at
  counted_at-reads (pos zero) = record {
    sound = λ bytes ts rest e. none_found (pos 0) bytes ts rest (omega (arith, ints)) (ok_is (got [] bytes) (got ts rest) e);
    complete = λ ts front rest h. ap (λ (p : List Tag × List ℕ). Ok p) (nothing_again (pos 0) ts front rest (omega (arith, ints)) h);
  }
  counted_at-reads (pos (suc n)) = record {
    sound = λ bytes ts rest e. items_sound (kind_of element) n bytes ts rest refl e;
    complete = λ ts front rest h. items_again n ts front rest h;
  }
  counted_at-reads (negsuc n) = record {
    sound = λ bytes ts rest e. none_found (negsuc n) bytes ts rest (omega (arith, ints)) (ok_is (got [] bytes) (got ts rest) e);
    complete = λ ts front rest h. ap (λ (p : List Tag × List ℕ). Ok p) (nothing_again (negsuc n) ts front rest (omega (arith, ints)) h);
  }

-- ---- lists

module _ {P : Tag → List ℕ → Type 0} {payload : Kind → List ℕ → Read Tag} (r : (kind : Kind) → Reads (OfKind kind P) (payload kind)) where
  abbrev IsListOf : ℕ × List Tag → List ℕ → Type 0
  IsListOf x = IsList P x.0 x.1

  abbrev Parts : Tag → List ℕ → Type 0
  Parts tag bytes = (element : ℕ) × Joins (IsElement element) (λ back. (z : ℤ) × Joins (IsSigned w32 z) (λ more. (items : List Tag) × (tag ≡ tags.List element items) × Follows P element z items more) back) bytes

  list_from : (element : ℕ) (items : List Tag) (z : ℤ) (bytes first count more : List ℕ) → bytes ≡ first ++ (count ++ more) → IsElement element first → IsSigned w32 z count → Follows P element z items more → IsList P element items bytes
  list_from element [] z bytes first count more whole is counted h =
      (is.0, record { front = first; back = count; whole = whole ∙ ap (λ (part : List ℕ). first ++ (count ++ part)) h.1 ∙ ap (λ (part : List ℕ). first ++ part) (append-nil count); first = is.1; second = record { count = z; none = h.0; spelled = counted } })
  list_from element (t ∷ ts) z bytes first count more whole is counted h =
      record { front = first; back = count ++ more; whole = whole; first = is.1; second = record { front = count; back = more; whole = refl; first = subst (λ (n : ℤ). IsSigned w32 n count) h.0 counted; second = h.1 } }

  list_parts : (element : ℕ) (items : List Tag) (tag : Tag) (bytes : List ℕ) → tag ≡ tags.List element items → IsList P element items bytes → Parts tag bytes
  list_parts element [] tag bytes is h =
      let j = h.1 in
      (element, record { front = j.front; back = j.back; whole = j.whole; first = (h.0, j.first); second = (j.second.count, record { front = j.back; back = []; whole = sym (append-nil j.back); first = j.second.spelled; second = ([], is, (j.second.none, refl)) }) })
  list_parts element (t ∷ ts) tag bytes is h =
      let j = h.second in
      let low : element ≤ 12 = subst (λ (n : ℕ). n ≤ 12) j.second.first.type (type_byte-low (tag_kind t)) in
      (element, record { front = h.front; back = h.back; whole = h.whole; first = (low, h.first); second = (pos (length (t ∷ ts)), record { front = j.front; back = j.back; whole = j.whole; first = j.first; second = (t ∷ ts, is, (refl, j.second)) }) })

  pub list_in-reads : Reads (Made (λ (x : ℕ × List Tag). tags.List x.0 x.1) IsListOf) (list_in payload)
  unfolding list_in
  list_in-reads =
      Reads-same
      (λ tag bytes h.
      let j = h.1 in
      let k = j.second.1 in
      let i = k.second in
      ((h.0, i.0), i.1, list_from h.0 i.0 j.second.0 bytes j.front k.front k.back (j.whole ∙ ap (λ (part : List ℕ). j.front ++ part) k.whole) j.first k.first i.2))
      (λ tag bytes h. list_parts h.0.0 h.0.1 tag bytes h.1 h.2)
      (Reads-then element_at-reads (λ whole element. Reads-then (signed_at-reads w32) (λ rest z. Reads-map (λ items. tags.List element items) (counted_at-reads r whole element z))))
