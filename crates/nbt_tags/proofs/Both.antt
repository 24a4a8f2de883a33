-- A reader and a relation that say the same: what is read is spelled so, and what is spelled so is read.
use Rattle.std.proofs.Common.{◌≡◌, ℕ, List, ◌++◌, Result, Ok, Err, refl, sym, ap, ◌∙◌, append_assoc}
use Rattle.nbt_tags.specs.declared.flaw.Flaw.{Flaw}
use Rattle.nbt_tags.specs.Spelling.{Joins}
use Rattle.nbt_tags.specs.Reading.{Read, ◌>>=◌}

-- the bytes begin with a part that P holds of
pub record Found {A : Type 0} (P : A → List ℕ → Type 0) (x : A) (bytes rest : List ℕ) : Type 0 where
  pub front : List ℕ
  pub whole : bytes ≡ front ++ rest
  pub holds : P x front

-- the reader gives what P holds of a front of the bytes, and no other value
pub record Reads {A : Type 0} (P : A → List ℕ → Type 0) (read : List ℕ → Read A) : Type 0 where
  pub sound : (bytes : List ℕ) (x : A) (rest : List ℕ) → read bytes ≡ Ok (x, rest) → Found P x bytes rest
  pub complete : (x : A) (front rest : List ℕ) → P x front → read (front ++ rest) ≡ Ok (x, rest)

-- the value of a step that did not fail
pub bind_ok : {A B : Type 0} (r : Result A Flaw) (f : A → Result B Flaw) (y : B) → (r >>= f) ≡ Ok y → (x : A) × (r ≡ Ok x) × (f x ≡ Ok y)
bind_ok (Ok x) f y e = (x, refl, e)
bind_ok (Err d) f y e = absurd cc

abbrev done : {A : Type 0} → A → Result A Flaw
done x = Ok x

pub ok_is : {A : Type 0} (x y : A) → done x ≡ done y → x ≡ y
ok_is x y e = cc

-- the same relation in other words
pub Reads-same : {A : Type 0} {P Q : A → List ℕ → Type 0} {read : List ℕ → Read A} → ((x : A) (bytes : List ℕ) → P x bytes → Q x bytes) → ((x : A) (bytes : List ℕ) → Q x bytes → P x bytes)
    → Reads P read → Reads Q read
Reads-same there back r = record {
  sound = λ bytes x rest e. let f = r.sound bytes x rest e in record { front = f.front; whole = f.whole; holds = there x f.front f.holds };
  complete = λ x front rest q. r.complete x front rest (back x front q);
}

-- what is made of a value
pub Reads-map : {A B : Type 0} {P : A → List ℕ → Type 0} {read : List ℕ → Read A} (f : A → B) → Reads P read
    → Reads (λ y bytes. (x : A) × (y ≡ f x) × P x bytes) (λ bytes. read bytes >>= λ x. Ok (f x.0, x.1))
Reads-map {A} {B} {P} {read} f r = record {
  sound = λ bytes y rest e.
      let b = bind_ok (read bytes) (λ x. Ok (f x.0, x.1)) (y, rest) e in
      let same : (f b.0.0, b.0.1) ≡ (y, rest) = ok_is (f b.0.0, b.0.1) (y, rest) b.2 in
      let found = r.sound bytes b.0.0 b.0.1 b.1 in
      record { front = found.front; whole = found.whole ∙ ap (λ (p : B × List ℕ). found.front ++ p.1) same; holds = (b.0.0, ap (λ (p : B × List ℕ). p.0) (sym same), found.holds) };
  complete = λ y front rest h. rw (r.complete h.0 front rest h.2, h.1) refl;
}

-- one after the other; the second may name all bytes, for the place of its faults
pub Reads-then : {A B : Type 0} {P : A → List ℕ → Type 0} {Q : A → B → List ℕ → Type 0} {read : List ℕ → Read A} {next : List ℕ → A → List ℕ → Read B} → Reads P read
    → ((whole : List ℕ) (x : A) → Reads (Q x) (next whole x))
    → Reads (λ y bytes. (x : A) × Joins (P x) (Q x y) bytes) (λ bytes. read bytes >>= λ x. next bytes x.0 x.1)
Reads-then {A} {B} {P} {Q} {read} {next} r s = record {
  sound = λ bytes y rest e.
      let b = bind_ok (read bytes) (λ x. next bytes x.0 x.1) (y, rest) e in
      let first = r.sound bytes b.0.0 b.0.1 b.1 in
      let second = (s bytes b.0.0).sound b.0.1 y rest b.2 in
      record {
        front = first.front ++ second.front;
        whole = first.whole ∙ ap (λ (more : List ℕ). first.front ++ more) second.whole ∙ sym (append_assoc first.front second.front rest);
        holds = (b.0.0, record { front = first.front; back = second.front; whole = refl; first = first.holds; second = second.holds });
      };
  complete = λ y front rest h.
      let j = h.1 in
      let regrouped : front ++ rest ≡ j.front ++ (j.back ++ rest) = ap (λ (bytes : List ℕ). bytes ++ rest) j.whole ∙ append_assoc j.front j.back rest in
      let one : (read (front ++ rest) >>= λ x. next (front ++ rest) x.0 x.1) ≡ next (front ++ rest) h.0 (j.back ++ rest) =
      ap (λ (r : Read A). r >>= λ x. next (front ++ rest) x.0 x.1) (ap read regrouped ∙ r.complete h.0 j.front (j.back ++ rest) j.first) in
      one ∙ (s (front ++ rest) h.0).complete y j.back rest j.second;
}
