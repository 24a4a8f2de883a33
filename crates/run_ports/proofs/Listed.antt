-- What a list of files stands for, by the place of the first entry of a name.
use mathlib.Core.Path.{fun_ext}
use Rattle.std.proofs.Common.{◌≡◌, ℕ, zero, suc, ◌+◌, ◌<◌, Bool, true, false, cond, List, [], ◌∷◌, length, get_or, set, Option, Some, None, refl, sym, ◌∙◌, ap, arith, IsSome, String, Vec}
use Rattle.std.specs.Global.{Global}
use Rattle.std.specs.String.{string_bytes}
use Rattle.std.specs.Str.{bytes_eq}
use Rattle.std.specs.Map.{lookup, set_value}
use Rattle.std.specs.List.{position, position_from}
use Rattle.std.proofs.lemmas.Bool.{cond-true, cond-false}
use Rattle.std.proofs.lemmas.Cmp.{nat_list_eq_equiv}
use Rattle.std.proofs.lemmas.Iterator.Adapters.{position_from-zero}
use Rattle.std.proofs.lemmas.List.Quantifiers.{position-Some}
use Rattle.std.proofs.lemmas.Map.{lookup-set_value}
use Rattle.run_ports.specs.Store.{with_file}
use Rattle.run_ports.specs.FileList.{listed, first_files}

module _ (test : List ℕ → Bool) where
  -- the entry at the first place that passes is the one that a look-up finds
  lookup_before : (files : List (String Global × Vec ℕ Global)) (i : ℕ) (d : String Global × Vec ℕ Global) → i < length files → test (string_bytes (get_or files i d).0) ≡ true → ((k : ℕ) → k < i → test (string_bytes (get_or files k d).0) ≡ false) → lookup test (listed files) ≡ Some (get_or files i d).1.items
  lookup_before [] i d h p before = absurd (omega arith)
  lookup_before (f ∷ fs) zero d h p before = cond-true _ _ _ p
  lookup_before (f ∷ fs) (suc i) d h p before =
      cond-false _ _ _ (before 0 (omega arith)) ∙ lookup_before fs i d (omega arith) p (λ k l. before (suc k) (omega arith))

  pub lookup_at : (files : List (String Global × Vec ℕ Global)) (i : ℕ) (d : String Global × Vec ℕ Global) → position (λ file. test (string_bytes file.0)) files ≡ Some i → lookup test (listed files) ≡ Some (get_or files i d).1.items
  lookup_at files i d e = let w = position-Some (λ file. test (string_bytes file.0)) files i d e in lookup_before files i d w.0 w.1 w.2

  -- a write at that place sets the value of the first entry that passes
  set_before : (files : List (String Global × Vec ℕ Global)) (i : ℕ) (d : String Global × Vec ℕ Global) (bytes : Vec ℕ Global) → i < length files → test (string_bytes (get_or files i d).0) ≡ true → ((k : ℕ) → k < i → test (string_bytes (get_or files k d).0) ≡ false) → listed (set files i ((get_or files i d).0, bytes)) ≡ set_value test (listed files) bytes.items
  set_before [] i d bytes h p before = absurd (omega arith)
  set_before (f ∷ fs) zero d bytes h p before = sym (cond-true _ _ _ p)
  set_before (f ∷ fs) (suc i) d bytes h p before =
      ap (λ rest. (string_bytes f.0, f.1.items) ∷ rest) (set_before fs i d bytes (omega arith) p (λ k l. before (suc k) (omega arith)))
      ∙ sym (cond-false _ _ _ (before 0 (omega arith)))

  pub listed-set : (files : List (String Global × Vec ℕ Global)) (i : ℕ) (d : String Global × Vec ℕ Global) (bytes : Vec ℕ Global) → position (λ file. test (string_bytes file.0)) files ≡ Some i → listed (set files i ((get_or files i d).0, bytes)) ≡ set_value test (listed files) bytes.items
  listed-set files i d bytes e = let w = position-Some (λ file. test (string_bytes file.0)) files i d e in set_before files i d bytes w.0 w.1 w.2

  skip : {X Y : Type 0} (b : Bool) (x : X) (y : Y) (o : Option X) (l : Option Y) → cond b (Some x) o ≡ None → (o ≡ None → l ≡ None) → cond b (Some y) l ≡ None
  skip true x y o l e k = cc
  skip false x y o l e k = k e

  lookup_none_from : (files : List (String Global × Vec ℕ Global)) (n : ℕ) → position_from (λ file. test (string_bytes file.0)) n files ≡ None → lookup test (listed files) ≡ None
  lookup_none_from [] n e = refl
  lookup_none_from (f ∷ fs) n e = skip (test (string_bytes f.0)) n f.1.items _ _ e (lookup_none_from fs (n + 1))

  -- where no name passes, a look-up finds nothing
  pub lookup_none : (files : List (String Global × Vec ℕ Global)) → position (λ file. test (string_bytes file.0)) files ≡ None → lookup test (listed files) ≡ None
  lookup_none files e = lookup_none_from files 0 (sym (position_from-zero (λ file. test (string_bytes file.0)) files) ∙ e)

  keep : (b : Bool) (x y : List ℕ × List ℕ) (v : List ℕ) (l m : List (List ℕ × List ℕ)) (o : Option (List ℕ)) → cond b (Some v) o ≡ None → (o ≡ None → m ≡ l) → cond b (y ∷ l) (x ∷ m) ≡ x ∷ l
  keep true x y v l m o e k = cc
  keep false x y v l m o e k = ap (λ rest. x ∷ rest) (k e)

  -- and there is nothing to set
  pub set_value_none : (list : List (List ℕ × List ℕ)) (w : List ℕ) → lookup test list ≡ None → set_value test list w ≡ list
  set_value_none [] w e = refl
  set_value_none (f ∷ fs) w e = keep (test f.0) f (f.0, w) f.1 fs _ _ e (set_value_none fs w)

-- setting the first entry of a name is writing that file
pub first_files-set_value : (list : List (List ℕ × List ℕ)) (name bytes : List ℕ) → IsSome (first_files list name) → first_files (set_value (bytes_eq name) list bytes) ≡ with_file name bytes (first_files list)
first_files-set_value list name bytes there = fun_ext (λ other.
    lookup-set_value nat_list_eq_equiv (bytes_eq name) (λ x y e. nat_list_eq_equiv.congr name x y e) other bytes list there)
