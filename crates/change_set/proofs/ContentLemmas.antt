-- Contents keep their numbers as further ones get theirs, and runs by number go on standing for the same changes.
use Rattle.std.proofs.Common.{◌≡◌, ℕ, zero, suc, ◌+◌, ◌<◌, ◌≤◌, List, [], ◌∷◌, ◌++◌, length, take, map, get_or, Some, slice_get, set, refl, sym, ap, ◌∙◌, subst, arith, pos, true}
use Rattle.std.proofs.Math.Seq.{take-length}
use Rattle.std.proofs.lemmas.List.{get_or-take, length-take}
use Rattle.std.proofs.lemmas.Option.{get_or_from_slice_get}
use Rattle.edit_terms.specs.Same.{same_content, content_decides}
use Rattle.edit_terms.specs.World.{BlockContent, air_content}
use Rattle.block_palette.specs.Numbering.{IsNumberOf}
use Rattle.change_set.specs.declared.run.Run.{Run}
use Rattle.change_set.specs.ContentRun.{ContentRun, looked_up, all_looked_up, IsNumbered, AreNumbered, IsGrown, IsName, with_longer_end}
use Rattle.change_set.specs.Runs.{with_last_longer}

-- what stands behind the last run
abbrev pub no_run : Run
no_run = record { first = record { x = pos 0; y = pos 0; z = pos 0 }; start = 0; length = 0; before = 0; after = 0 }

pub grown_itself : (contents : List BlockContent) → IsGrown contents contents
grown_itself contents = take-length contents

-- there are no fewer contents
pub grown_length : (old new : List BlockContent) → IsGrown old new → length old ≤ length new
grown_length old new grown = omega (arith, length-take (length old) new, ap (λ (xs : List BlockContent). length xs) grown)

-- a number stands for what it stood for
pub grown_content : (old new : List BlockContent) → IsGrown old new → (n : ℕ) → n < length old → get_or new n air_content ≡ get_or old n air_content
grown_content old new grown n within =
    sym (get_or-take (length old) new n air_content within) ∙ ap (λ (xs : List BlockContent). get_or xs n air_content) grown

take_of_take : (n m : ℕ) (xs : List BlockContent) → n ≤ m → take n (take m xs) ≡ take n xs
take_of_take zero m xs less = refl
take_of_take (suc n) zero xs less = absurd (omega (arith, less))
take_of_take (suc n) (suc m) [] less = refl
take_of_take (suc n) (suc m) (x ∷ xs) less = ap (λ (ys : List BlockContent). x ∷ ys) (take_of_take n m xs (omega (arith, less)))

pub grown_again : (old middle new : List BlockContent) → IsGrown old middle → IsGrown middle new → IsGrown old new
grown_again old middle new first second =
    sym (take_of_take (length old) (length middle) new (grown_length old middle first)) ∙ ap (take (length old)) second ∙ first

slice_get-below : (contents : List BlockContent) (n : ℕ) (c : BlockContent) → slice_get contents n ≡ Some c → n < length contents
slice_get-below [] n c is = absurd cc
slice_get-below (k ∷ contents) zero c is = omega arith
slice_get-below (k ∷ contents) (suc n) c is = omega (arith, slice_get-below contents n c is)

-- the number that a palette gives stands for the content
pub named_by_palette : (contents : List BlockContent) (c : BlockContent) (n : ℕ) → IsNumberOf same_content contents c n → IsName contents n c
named_by_palette contents c n is = record {
  within = slice_get-below contents n is.entry is.there;
  is = get_or_from_slice_get contents n is.entry air_content is.there ∙ sym ((content_decides c is.entry).0 is.alike);
}

-- so does that of an equal entry
pub named_by_entry : (contents : List BlockContent) (c d : BlockContent) (n : ℕ) → slice_get contents n ≡ Some d → same_content d c ≡ true → IsName contents n c
named_by_entry contents c d n there same = record {
  within = slice_get-below contents n d there;
  is = get_or_from_slice_get contents n d air_content there ∙ (content_decides d c).0 same;
}

-- and goes on standing for it
pub name_stays : (old new : List BlockContent) (n : ℕ) (c : BlockContent) → IsGrown old new → IsName old n c → IsName new n c
name_stays old new n c grown name =
    let more = grown_length old new grown in
    record { within = omega (arith, more, name.within); is = grown_content old new grown n name.within ∙ name.is }

-- numbered runs stand for the same
run_stays : (old new : List BlockContent) (run : Run) → IsGrown old new → IsNumbered old run → looked_up new run ≡ looked_up old run
run_stays old new run grown is =
    let before = grown_content old new grown run.before is.before in
    let after = grown_content old new grown run.after is.after in
    λ i. record { first = run.first; start = run.start; length = run.length; before = before i; after = after i }

pub runs_stay : (old new : List BlockContent) (runs : List Run) → IsGrown old new → AreNumbered old runs → all_looked_up new runs ≡ all_looked_up old runs
runs_stay old new [] grown numbered = refl
runs_stay old new (run ∷ runs) grown numbered = λ i. run_stays old new run grown numbered.0 i ∷ runs_stay old new runs grown numbered.1 i

-- and stay numbered
pub numbered_stay : (old new : List BlockContent) (runs : List Run) → IsGrown old new → AreNumbered old runs → AreNumbered new runs
numbered_stay old new [] grown numbered = tt
numbered_stay old new (run ∷ runs) grown numbered =
    let more = grown_length old new grown in
    let is = numbered.0 in
    let before = is.before in
    let after = is.after in
    (record { before = omega (arith, more, before); after = omega (arith, more, after) }, numbered_stay old new runs grown numbered.1)

-- with a run more
pub numbered_behind : (contents : List BlockContent) (runs : List Run) (run : Run) → AreNumbered contents runs → IsNumbered contents run → AreNumbered contents (runs ++ run ∷ [])
numbered_behind contents [] run numbered is = (is, tt)
numbered_behind contents (r ∷ runs) run numbered is = (numbered.0, numbered_behind contents runs run numbered.1 is)

-- with a longer last run
pub numbered_longer : (contents : List BlockContent) (runs : List Run) (more : ℕ) → AreNumbered contents runs → AreNumbered contents (with_longer_end runs more)
numbered_longer contents [] more numbered = tt
numbered_longer contents (run ∷ []) more numbered = let is = numbered.0 in (record { before = is.before; after = is.after }, tt)
numbered_longer contents (run ∷ next ∷ runs) more numbered = (numbered.0, numbered_longer contents (next ∷ runs) more numbered.1)

pub longer_looked_up : (contents : List BlockContent) (runs : List Run) (more : ℕ) → all_looked_up contents (with_longer_end runs more) ≡ with_last_longer (all_looked_up contents runs) more
longer_looked_up contents [] more = refl
longer_looked_up contents (run ∷ []) more = refl
longer_looked_up contents (run ∷ next ∷ runs) more = ap (λ (rs : List ContentRun). looked_up contents run ∷ rs) (longer_looked_up contents (next ∷ runs) more)

-- the numbers of one of the runs
pub numbered_at : (contents : List BlockContent) (runs : List Run) (k : ℕ) (run : Run) → AreNumbered contents runs → slice_get runs k ≡ Some run → IsNumbered contents run
numbered_at contents [] k run numbered there = absurd cc
numbered_at contents (r ∷ runs) zero run numbered there = let same : r ≡ run = cc in subst (IsNumbered contents) same numbered.0
numbered_at contents (r ∷ runs) (suc k) run numbered there = numbered_at contents runs k run numbered.1 there

-- a last run that is made longer
pub set_last_run : (runs : List Run) (k more : ℕ) (run : Run) → k + 1 ≡ length runs → slice_get runs k ≡ Some run → set runs k (record run { length = run.length + more }) ≡ with_longer_end runs more
set_last_run [] k more run e there = absurd (omega (arith, e))
set_last_run (r ∷ []) zero more run e there = let same : run ≡ r = cc in ap (λ (s : Run). let t : Run = record s { length = s.length + more } in t ∷ []) same
set_last_run (r ∷ []) (suc k) more run e there = absurd (omega (arith, e))
set_last_run (r ∷ next ∷ runs) zero more run e there = absurd (omega (arith, e))
set_last_run (r ∷ next ∷ runs) (suc k) more run e there = ap (λ (rs : List Run). r ∷ rs) (set_last_run (next ∷ runs) k more run (omega (arith, e)) there)

-- the starts of runs are those of the runs that they stand for
pub starts_looked_up : (contents : List BlockContent) (runs : List Run) → map (λ (run : Run). run.start) runs ≡ map (λ (run : ContentRun). run.start) (all_looked_up contents runs)
starts_looked_up contents [] = refl
starts_looked_up contents (run ∷ runs) = ap (λ (ns : List ℕ). run.start ∷ ns) (starts_looked_up contents runs)
