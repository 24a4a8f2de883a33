-- Reading payloads and named tags one after the other, as a loop does.
use Rattle.std.proofs.Common.{◌≡◌, ℕ, suc, ◌-◌, ◌+◌, ◌≤◌, ◌<◌, Bool, List, [], ◌∷◌, ◌++◌, Some, None, Ok, Err, refl, sym, ap, ◌∙◌, append_assoc, arith}
use Rattle.std.proofs.lemmas.List.{append-nil}
use Rattle.nbt_tags.specs.declared.ending.Ending.{Ending}
use Rattle.nbt_tags.specs.declared.flaw.Cause.TheVariants.{Short}
use Rattle.nbt_tags.specs.declared.flaw.Failure.{Failure}
use Rattle.nbt_tags.specs.declared.flaw.Failure.TheVariants as failures
use Rattle.nbt_tags.specs.declared.kind.Kind.{Kind}
use Rattle.nbt_tags.specs.declared.tag.Tag.{Tag}
use Rattle.nbt_tags.specs.declared.tag.Named.{Named}
use Rattle.nbt_tags.specs.Spelling.{also, name_of}
use Rattle.nbt_tags.specs.Reading.{Read, ◌>>=◌, Fails, flaw_at, items_at, next_at, entry_at, row_from, row_at}

-- what was read before, and what is still read
abbrev pub with_front : {A : Type 0} → List A → Read (List A) → Read (List A)
with_front front read = read >>= λ more. Ok (front ++ more.0, more.1)

regroup : {A : Type 0} (front : List A) (x : A) (read : Read (List A)) → with_front front (read >>= λ more. Ok (x ∷ more.0, more.1)) ≡ with_front (front ++ x ∷ []) read
regroup {A} front x (Ok more) = ap (λ (xs : List A). Ok (xs, more.1)) (simp append_assoc)
regroup front x (Err flaw) = refl

-- ---- payloads

pub items_at-more : (payload : List ℕ → Read Tag) (front : List Tag) (count i : ℕ) (bytes : List ℕ) (tag : Tag) (after : List ℕ) (total : Read (List Tag)) → i < count → payload bytes ≡ Ok (tag, after)
    → with_front front (items_at payload (count - i) bytes) ≡ total → with_front (front ++ tag ∷ []) (items_at payload (count - (i + 1)) after) ≡ total
unfolding items_at
items_at-more payload front count i bytes tag after total lt read so_far =
    let k : count - i ≡ suc (count - (i + 1)) = omega arith in
    let one : with_front front (items_at payload (count - i) bytes) ≡ with_front (front ++ tag ∷ []) (items_at payload (count - (i + 1)) after) = rw (k, read) (regroup front tag (items_at payload (count - (i + 1)) after)) in
    sym one ∙ so_far

pub items_at-fails : (e : Failure) (payload : List ℕ → Read Tag) (front : List Tag) (count i : ℕ) (bytes : List ℕ) (total : Read (List Tag)) → i < count → Fails e (payload bytes)
    → with_front front (items_at payload (count - i) bytes) ≡ total → Fails e total
unfolding items_at
items_at-fails failures.Memory payload front count i bytes total lt read so_far = tt
items_at-fails (failures.Flaw flaw) payload front count i bytes total lt read so_far =
    let k : count - i ≡ suc (count - (i + 1)) = omega arith in
    let one : with_front front (items_at payload (count - i) bytes) ≡ Err flaw = rw (k, read) refl in
    sym so_far ∙ one

pub items_at-all : (payload : List ℕ → Read Tag) (front : List Tag) (count i : ℕ) (bytes : List ℕ) (total : Read (List Tag)) → count ≤ i
    → with_front front (items_at payload (count - i) bytes) ≡ total → total ≡ Ok (front, bytes)
unfolding items_at
items_at-all payload front count i bytes total le so_far =
    let k : count - i ≡ 0 = omega arith in
    let one : with_front front (items_at payload (count - i) bytes) ≡ Ok (front, bytes) = rw k (ap (λ (tags : List Tag). Ok (tags, bytes)) (append-nil front)) in
    sym so_far ∙ one

-- ---- named tags

module _ (payload : Kind → List ℕ → Read Tag) (ending : Ending) (front : List Named) (count i : ℕ) (taken : List ℕ → Bool) (bytes : List ℕ) (total : Read (List Named)) where
  pub row_at-more : (kind : Kind) (after : List ℕ) (first : Named) (rest : List ℕ) → i < count → next_at ending bytes ≡ Ok (Some kind, after) → entry_at (payload kind) taken bytes after ≡ Ok (first, rest)
      → with_front front (row_at payload ending (count - i) taken bytes) ≡ total
      → with_front (front ++ first ∷ []) (row_at payload ending (count - (i + 1)) (also (name_of first) taken) rest) ≡ total
  unfolding row_at row_from
  row_at-more kind after first rest lt next read so_far =
      let k : count - i ≡ suc (count - (i + 1)) = omega arith in
      let one : with_front front (row_at payload ending (count - i) taken bytes) ≡ with_front (front ++ first ∷ []) (row_at payload ending (count - (i + 1)) (also (name_of first) taken) rest) =
      rw (k, next, read) (regroup front first (row_at payload ending (count - (i + 1)) (also (name_of first) taken) rest)) in
      sym one ∙ so_far

  pub row_at-ends : (after : List ℕ) → i < count → next_at ending bytes ≡ Ok (None, after)
      → with_front front (row_at payload ending (count - i) taken bytes) ≡ total → total ≡ Ok (front, after)
  unfolding row_at row_from
  row_at-ends after lt next so_far =
      let k : count - i ≡ suc (count - (i + 1)) = omega arith in
      let one : with_front front (row_at payload ending (count - i) taken bytes) ≡ Ok (front, after) = rw (k, next) (ap (λ (row : List Named). Ok (row, after)) (append-nil front)) in
      sym so_far ∙ one

  pub row_at-fails : (e : Failure) → i < count → Fails e (next_at ending bytes)
      → with_front front (row_at payload ending (count - i) taken bytes) ≡ total → Fails e total
  unfolding row_at row_from
  row_at-fails failures.Memory lt next so_far = tt
  row_at-fails (failures.Flaw flaw) lt next so_far =
      let k : count - i ≡ suc (count - (i + 1)) = omega arith in
      let one : with_front front (row_at payload ending (count - i) taken bytes) ≡ Err flaw = rw (k, next) refl in
      sym so_far ∙ one

  pub row_at-fails_inside : (e : Failure) (kind : Kind) (after : List ℕ) → i < count → next_at ending bytes ≡ Ok (Some kind, after) → Fails e (entry_at (payload kind) taken bytes after)
      → with_front front (row_at payload ending (count - i) taken bytes) ≡ total → Fails e total
  unfolding row_at row_from
  row_at-fails_inside failures.Memory kind after lt next read so_far = tt
  row_at-fails_inside (failures.Flaw flaw) kind after lt next read so_far =
      let k : count - i ≡ suc (count - (i + 1)) = omega arith in
      let one : with_front front (row_at payload ending (count - i) taken bytes) ≡ Err flaw = rw (k, next, read) refl in
      sym so_far ∙ one

  pub row_at-none : count ≤ i → with_front front (row_at payload ending (count - i) taken bytes) ≡ total → total ≡ Err (flaw_at Short [])
  unfolding row_at
  row_at-none le so_far =
      let k : count - i ≡ 0 = omega arith in
      let one : with_front front (row_at payload ending (count - i) taken bytes) ≡ Err (flaw_at Short []) = rw k refl in
      sym so_far ∙ one
