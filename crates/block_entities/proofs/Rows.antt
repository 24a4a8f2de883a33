-- Well-formed rows of named tags in parts.
use Rattle.std.proofs.Common.{◌≡◌, ℕ, suc, cond, ◌+◌, ◌<◌, Bool, true, false, ◌||◌, List, [], ◌∷◌, ◌++◌, length, take, drop, Some, refl, sym, ap, ◌∙◌, subst, add-one}
use Rattle.std.specs.Prelude.{slice_get}
use Rattle.std.specs.List.{AllByRecursion, position_or_len, find, before_first, after_first}
use Rattle.std.specs.Str.{bytes_eq}
use Rattle.std.proofs.Math.Seq.{drop-cons}
use Rattle.std.proofs.lemmas.List.{take-append-drop, map-append}
use Rattle.std.proofs.lemmas.List.Folds.{find_at}
use Rattle.std.proofs.lemmas.Option.{slice_get_within, get_or_from_slice_get}
use Rattle.nbt_tags.specs.declared.tag.Tag.{Tag}
use Rattle.nbt_tags.specs.declared.tag.Named.{Named}
use Rattle.nbt_tags.specs.Spelling.{also, AreFresh, none_taken, name_of, names_of}
use Rattle.nbt_tags.specs.WellFormed.{IsSoundRow, IsSoundEntry}

-- ---- lists

pub each_front : {X : Type 0} (P : X → Type 0) (xs ys : List X) → AllByRecursion P (xs ++ ys) → AllByRecursion P xs
each_front P [] ys h = tt
each_front P (x ∷ xs) ys h = (h.0, each_front P xs ys h.1)

pub each_back : {X : Type 0} (P : X → Type 0) (xs ys : List X) → AllByRecursion P (xs ++ ys) → AllByRecursion P ys
each_back P [] ys h = h
each_back P (x ∷ xs) ys h = each_back P xs ys h.1

pub each_both : {X : Type 0} (P : X → Type 0) (xs ys : List X) → AllByRecursion P xs → AllByRecursion P ys → AllByRecursion P (xs ++ ys)
each_both P [] ys h k = k
each_both P (x ∷ xs) ys h k = (h.0, each_both P xs ys h.1 k)

-- a list is what stands before the first element that passes, that one, and what stands behind
pub split_at_first : {X : Type 0} (p : X → Bool) (xs : List X) (x : X) → find p xs ≡ Some x → xs ≡ before_first p xs ++ x ∷ after_first p xs
split_at_first p xs x h =
    let k : ℕ = position_or_len p xs in
    let found : slice_get xs k ≡ Some x = sym (find_at p xs) ∙ h in
    let within : k < length xs = slice_get_within xs k x found in
    let rest : drop k xs ≡ x ∷ drop (k + 1) xs =
    drop-cons xs k x within
    ∙ ap (λ (y : _). y ∷ drop (suc k) xs) (get_or_from_slice_get xs k x x found)
    ∙ ap (λ (n : ℕ). x ∷ drop n xs) (sym (add-one k)) in
    sym (take-append-drop k xs) ∙ ap (λ (ys : List _). take k xs ++ ys) rest

found_passes : {X : Type 0} (p : X → Bool) (y x : X) (xs : List X) (b : Bool) → p y ≡ b → (find p xs ≡ Some x → p x ≡ true) → cond b (Some y) (find p xs) ≡ Some x → p x ≡ true
found_passes p y x xs true is h e = let same : y ≡ x = cc in ap p (sym same) ∙ is
found_passes p y x xs false is h e = h e

pub find-passes : {X : Type 0} (p : X → Bool) (xs : List X) (x : X) → find p xs ≡ Some x → p x ≡ true
find-passes p [] x h = absurd cc
find-passes p (y ∷ xs) x h = found_passes p y x xs (p y) refl (find-passes p xs x) h

-- ---- names

or_less : (a b c : Bool) → (b ≡ false → c ≡ false) → (a || b) ≡ false → (a || c) ≡ false
or_less true b c f h = h
or_less false b c f h = f h

-- fewer names are taken
fresh_less : (t u : List ℕ → Bool) → ((name : List ℕ) → t name ≡ false → u name ≡ false) → (names : List (List ℕ)) → AreFresh t names → AreFresh u names
fresh_less t u less [] h = tt
fresh_less t u less (name ∷ names) h =
    (less name h.0, fresh_less (also name t) (also name u) (λ other. or_less (bytes_eq name other) (t other) (u other) (less other)) names h.1)

pub fresh_front : (taken : List ℕ → Bool) (xs ys : List (List ℕ)) → AreFresh taken (xs ++ ys) → AreFresh taken xs
fresh_front taken [] ys h = tt
fresh_front taken (x ∷ xs) ys h = (h.0, fresh_front (also x taken) xs ys h.1)

pub fresh_back : (taken : List ℕ → Bool) (xs ys : List (List ℕ)) → AreFresh taken (xs ++ ys) → AreFresh none_taken ys
fresh_back taken [] ys h = fresh_less taken none_taken (λ name e. refl) ys h
fresh_back taken (x ∷ xs) ys h = fresh_back (also x taken) xs ys h.1

-- ---- rows

pub names_of-append : (a b : List Named) → names_of (a ++ b) ≡ names_of a ++ names_of b
names_of-append a b = map-append name_of a b

pub IsSoundRow-front : (W : Tag → Type 0) (a b : List Named) → IsSoundRow W (a ++ b) → IsSoundRow W a
IsSoundRow-front W a b h = record {
  entries = each_front (IsSoundEntry W) a b h.entries;
  distinct = fresh_front none_taken (names_of a) (names_of b) (subst (AreFresh none_taken) (names_of-append a b) h.distinct);
}

pub IsSoundRow-back : (W : Tag → Type 0) (a b : List Named) → IsSoundRow W (a ++ b) → IsSoundRow W b
IsSoundRow-back W a b h = record {
  entries = each_back (IsSoundEntry W) a b h.entries;
  distinct = fresh_back none_taken (names_of a) (names_of b) (subst (AreFresh none_taken) (names_of-append a b) h.distinct);
}

-- another tag under the same name in the midst of a row
pub IsSoundRow-exchange : (W : Tag → Type 0) (a b : List Named) (m n : Named) → name_of m ≡ name_of n → IsSoundEntry W n → IsSoundRow W (a ++ m ∷ b) → IsSoundRow W (a ++ n ∷ b)
IsSoundRow-exchange W a b m n same sound h =
    let rest = each_back (IsSoundEntry W) a (m ∷ b) h.entries in
    let names : names_of (a ++ m ∷ b) ≡ names_of (a ++ n ∷ b) =
    names_of-append a (m ∷ b) ∙ ap (λ (name : List ℕ). names_of a ++ name ∷ names_of b) same ∙ sym (names_of-append a (n ∷ b)) in
    record {
      entries = each_both (IsSoundEntry W) a (n ∷ b) (each_front (IsSoundEntry W) a (m ∷ b) h.entries) (sound, rest.1);
      distinct = subst (AreFresh none_taken) names h.distinct;
    }
