-- What changes keep, contents and runs by their numbers, goes on being kept: with contents more, with a longer last run,
-- and with a run more.
use Rattle.std.proofs.Common.{◌≡◌, ℕ, ◌+◌, ◌<◌, List, [], ◌∷◌, ◌++◌, Option, Some, None, option_map, IfSome, sym, ap, ◌∙◌, subst}
use Rattle.std.specs.Prelude.{Result, Ok, Err, OnErr}
use Rattle.std.proofs.lemmas.List.{map-append}
use Rattle.edit_terms.specs.declared.pos.Pos.{Pos}
use Rattle.edit_terms.specs.Area.{Area}
use Rattle.edit_terms.specs.World.{BlockContent}
use Rattle.change_set.specs.declared.run.Run.{Run}
use Rattle.change_set.specs.ContentRun.{ContentRun, looked_up, all_looked_up, AreNumbered, IsGrown, IsName, with_longer_end}
use Rattle.change_set.specs.Changes.{ChangeList, changes_of}
use Rattle.change_set.specs.Runs.{AreKept, AreRunsKept, with_last_longer}
use Rattle.change_set.proofs.RunLemmas.{IsExtended}
use Rattle.change_set.proofs.ContentLemmas.{runs_stay, numbered_stay, numbered_behind, numbered_longer, longer_looked_up}

-- with contents more
pub kept_grown : (a : Area) (old new : List BlockContent) (runs : List Run) (count : ℕ) → IsGrown old new → AreRunsKept a old runs count → AreRunsKept a new runs count
kept_grown a old new runs count grown kept =
    let back = sym (runs_stay old new runs grown kept.numbered) in
    record {
      kept = subst (λ (rs : List ContentRun). AreKept a rs count) back kept.kept;
      numbered = numbered_stay old new runs grown kept.numbered;
    }

pub seen_grown : (a : Area) (old new : List BlockContent) (runs : List Run) (count : ℕ) (seen : ChangeList) → IsGrown old new → AreRunsKept a old runs count
    → record { area = a; list = changes_of a (all_looked_up old runs) } ≡ seen → record { area = a; list = changes_of a (all_looked_up new runs) } ≡ seen
seen_grown a old new runs count seen grown kept is =
    ap (λ (rs : List ContentRun). let s : ChangeList = record { area = a; list = changes_of a rs } in s) (runs_stay old new runs grown kept.numbered) ∙ is

-- with a longer last run
pub kept_longer : (a : Area) (contents : List BlockContent) (runs : List Run) (count : ℕ) (first : Pos) (n : ℕ) (b c : BlockContent) → AreRunsKept a contents runs count
    → IsExtended a (all_looked_up contents runs) count first n b c (with_last_longer (all_looked_up contents runs) n) → AreRunsKept a contents (with_longer_end runs n) (count + n)
kept_longer a contents runs count first n b c kept extended =
    let back = sym (longer_looked_up contents runs n) in
    let more = subst (λ (rs : List ContentRun). IsExtended a (all_looked_up contents runs) count first n b c rs) back extended in
    record {
      kept = more.kept;
      numbered = numbered_longer contents runs n kept.numbered;
    }

-- a run of these contents behind the others, looked up among contents that may be more
pub behind_looked_up : (old new : List BlockContent) (runs : List Run) (first : Pos) (start n i j : ℕ) (b c : BlockContent) (numbered : AreNumbered old runs) → IsGrown old new → IsName new i b → IsName new j c
    → all_looked_up new (runs ++ record { first = first; start = start; length = n; before = i; after = j } ∷ []) ≡ all_looked_up old runs ++ record { first = first; start = start; length = n; before = b; after = c } ∷ []
behind_looked_up old new runs first start n i j b c numbered grown before after =
    let is_before = before.is in
    let is_after = after.is in
    let stay = runs_stay old new runs grown numbered in
    map-append (looked_up new) runs (record { first = first; start = start; length = n; before = i; after = j } ∷ [])
    ∙ (λ t. stay t ++ record { first = first; start = start; length = n; before = is_before t; after = is_after t } ∷ [])

-- with a run more
pub kept_behind : (a : Area) (old new : List BlockContent) (runs : List Run) (count : ℕ) (first : Pos) (n i j : ℕ) (b c : BlockContent) → AreRunsKept a old runs count
    → IsGrown old new → IsName new i b → IsName new j c
    → IsExtended a (all_looked_up old runs) count first n b c (all_looked_up old runs ++ record { first = first; start = count; length = n; before = b; after = c } ∷ [])
    → AreRunsKept a new (runs ++ record { first = first; start = count; length = n; before = i; after = j } ∷ []) (count + n)
kept_behind a old new runs count first n i j b c kept grown before after extended =
    let run : Run = record { first = first; start = count; length = n; before = i; after = j } in
    let back = sym (behind_looked_up old new runs first count n i j b c kept.numbered grown before after) in
    let more = subst (λ (rs : List ContentRun). IsExtended a (all_looked_up old runs) count first n b c rs) back extended in
    record {
      kept = more.kept;
      numbered = numbered_behind new runs run (numbered_stay old new runs grown kept.numbered) (record { before = before.within; after = after.within });
    }

-- a last run that has room with its contents has room
pub room_of_run : (contents : List BlockContent) (o : Option Run) (more : ℕ) → IfSome (option_map (looked_up contents) o) (λ run. run.length + more < 4294967296) → IfSome o (λ run. run.length + more < 4294967296)
room_of_run contents None more h = tt
room_of_run contents (Some run) more h = h

-- what holds anyway holds at an error
pub holds_on_err : {T E P : Type 0} (r : Result T E) → P → OnErr r P
holds_on_err (Ok x) h = tt
holds_on_err (Err e) h = h
