-- How many steps a row may take plays no role, if they are more than its bytes.
use Rattle.std.proofs.Common.{◌≡◌, ℕ, zero, suc, ◌+◌, ◌<◌, Bool, List, ◌∷◌, length, Option, Some, None, Result, Ok, Err, refl, ap, arith}
use Rattle.std.proofs.lemmas.List.{length-append}
use Rattle.nbt_tags.specs.declared.ending.Ending.{Ending}
use Rattle.nbt_tags.specs.declared.flaw.Flaw.{Flaw}
use Rattle.nbt_tags.specs.declared.kind.Kind.{Kind}
use Rattle.nbt_tags.specs.declared.tag.Tag.{Tag}
use Rattle.nbt_tags.specs.declared.tag.Named.{Named}
use Rattle.nbt_tags.specs.Spelling.{also, name_of, none_taken}
use Rattle.nbt_tags.specs.Reading.{Read, ◌>>=◌, next_at, entry_at, row_from, row_at, whole_row_at, payload_at}
use Rattle.nbt_tags.proofs.Both.{Reads}
use Rattle.nbt_tags.proofs.LeafReads.{OfKind}
use Rattle.nbt_tags.proofs.RowReads.{IsNext, entry_at-reads, next_at-sound}
use Rattle.nbt_tags.proofs.TreeReads.{payload_at-reads}

bind_same : {A B : Type 0} (r : Result A Flaw) (f g : A → Result B Flaw) → ((x : A) → r ≡ Ok x → f x ≡ g x) → (r >>= f) ≡ (r >>= g)
bind_same (Ok x) f g h = h x refl
bind_same (Err e) f g h = refl

module _ {P : Tag → List ℕ → Type 0} {payload : Kind → List ℕ → Read Tag} (r : (kind : Kind) → Reads (OfKind kind P) (payload kind)) (ending : Ending) where
  row_from-same : (others more : (List ℕ → Bool) → List ℕ → Read (List Named)) (taken : List ℕ → Bool) (bytes : List ℕ) (next : Option Kind) (after : List ℕ) → IsNext ending bytes next after
      → ((names : List ℕ → Bool) (rest : List ℕ) → length rest < length bytes → others names rest ≡ more names rest)
      → row_from payload others taken bytes next after ≡ row_from payload more taken bytes next after
  unfolding row_from
  row_from-same others more taken bytes None after is same = refl
  row_from-same others more taken bytes (Some kind) after is same =
      bind_same (entry_at (payload kind) taken bytes after) _ _
      (λ x e.
      let f = (entry_at-reads (r kind) taken bytes).sound after x.0 x.1 e in
      let lt : length x.1 < length bytes = omega (arith, ap length is, ap length f.whole, length-append f.front x.1) in
      ap (λ (read : Read (List Named)). read >>= λ m. Ok (x.0 ∷ m.0, m.1)) (same (also (name_of x.0) taken) x.1 lt))

  row_at-steps : (n m : ℕ) (taken : List ℕ → Bool) (bytes : List ℕ) → length bytes < n → length bytes < m → row_at payload ending n taken bytes ≡ row_at payload ending m taken bytes
  unfolding row_at
  row_at-steps zero m taken bytes p q = absurd (omega (arith, p))
  row_at-steps (suc n) zero taken bytes p q = absurd (omega (arith, q))
  row_at-steps (suc n) (suc m) taken bytes p q =
      bind_same (next_at ending bytes) _ _
      (λ next e. row_from-same (λ names rest. row_at payload ending n names rest) (λ names rest. row_at payload ending m names rest) taken bytes next.0 next.1 (next_at-sound ending bytes next.0 next.1 e)
      (λ names rest lt. row_at-steps n m names rest (omega (arith, lt, p)) (omega (arith, lt, q))))

pub whole_row_at-steps : (levels steps : ℕ) (ending : Ending) (bytes : List ℕ) → length bytes < steps → row_at (payload_at levels) ending steps none_taken bytes ≡ whole_row_at (payload_at levels) ending bytes
whole_row_at-steps levels steps ending bytes lt = row_at-steps (payload_at-reads levels) ending steps (length bytes + 1) none_taken bytes lt (omega arith)
