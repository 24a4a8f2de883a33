-- The entries of a pattern, one after the other.
use Rattle.std.proofs.Common.{◌≡◌, ℕ, ◌+◌, ◌*◌, ◌^◌, ◌<◌, ◌≤◌, Bool, true, false, cond, List, ◌∷◌, length, get_or, drop, sym, ap, ◌∙◌, subst, arith}
use Rattle.std.specs.Prelude.{suc, nat_lt, Some, None}
use Rattle.std.proofs.Math.Seq.{drop-cons}
use Rattle.std.proofs.lemmas.List.{drop_all}
use Rattle.edit_terms.specs.declared.pattern.Entry.{Entry}
use Rattle.edit_terms.specs.Pattern.{chosen_from}
use Rattle.plain_terms.specs.Choice.{IsUnchosen}

-- what is left begins with the next entry
one_left : (word total : ℕ) (entries : List Entry) (count sum : ℕ) (entry : Entry) → IsUnchosen word total entries count sum → count < length entries → entry ≡ get_or entries count entry
    → chosen_from word total 0 entries ≡ cond (nat_lt (word * total) ((sum + entry.weight) * 2 ^ 32)) (Some entry) (chosen_from word total (sum + entry.weight) (drop (suc count) entries))
one_left word total entries count sum entry left within is =
    left.same
    ∙ ap (chosen_from word total sum) (drop-cons entries count entry within)
    ∙ ap (λ (e : Entry). chosen_from word total sum (e ∷ drop (suc count) entries)) (sym is)

-- an entry that isn't reached is passed by
pub passed_by : (word total : ℕ) (entries : List Entry) (count sum : ℕ) (entry : Entry) → IsUnchosen word total entries count sum → count < length entries → entry ≡ get_or entries count entry
    → entry.weight ≤ 4294967295 → nat_lt (word * total) ((sum + entry.weight) * 2 ^ 32) ≡ false → IsUnchosen word total entries (count + 1) (sum + entry.weight)
passed_by word total entries count sum entry left within is light passed =
    let next : suc count ≡ count + 1 = omega arith in
    subst (λ (n : ℕ). IsUnchosen word total entries n (sum + entry.weight)) next (record {
      same = one_left word total entries count sum entry left within is
          ∙ ap (λ (b : Bool). cond b (Some entry) (chosen_from word total (sum + entry.weight) (drop (suc count) entries))) passed;
      small = omega (arith, left.small, light);
    })

-- and the first that is reached is chosen
pub chosen_here : (word total : ℕ) (entries : List Entry) (count sum : ℕ) (entry : Entry) → IsUnchosen word total entries count sum → count < length entries → entry ≡ get_or entries count entry
    → nat_lt (word * total) ((sum + entry.weight) * 2 ^ 32) ≡ true → chosen_from word total 0 entries ≡ Some entry
chosen_here word total entries count sum entry left within is reached =
    one_left word total entries count sum entry left within is
    ∙ ap (λ (b : Bool). cond b (Some entry) (chosen_from word total (sum + entry.weight) (drop (suc count) entries))) reached

-- after the last none is
pub none_chosen : (word total : ℕ) (entries : List Entry) (count sum : ℕ) → IsUnchosen word total entries count sum → count ≡ length entries → chosen_from word total 0 entries ≡ None
none_chosen word total entries count sum left all = left.same ∙ ap (chosen_from word total sum) (drop_all count entries (omega (arith, all)))
