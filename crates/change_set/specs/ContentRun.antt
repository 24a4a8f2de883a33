-- Runs of changes, and the contents that their numbers stand for.
use Rattle.std.specs.Prelude.{◌≡◌, ℕ, ◌+◌, ◌<◌, List, [], ◌∷◌, map, length, take, get_or}
use Rattle.edit_terms.specs.declared.pos.Pos.{Pos}
use Rattle.edit_terms.specs.World.{BlockContent, air_content}
use Rattle.change_set.specs.declared.run.Run.{Run}

-- a run with its contents in place of their numbers
pub record ContentRun : Type 0 where
  pub first : Pos
  pub start : ℕ
  pub length : ℕ
  pub before : BlockContent
  pub after : BlockContent

-- the run of these numbers, by the contents that they stand for
abbrev pub looked_up : List BlockContent → Run → ContentRun
looked_up contents run = record {
  first = run.first;
  start = run.start;
  length = run.length;
  before = get_or contents run.before air_content;
  after = get_or contents run.after air_content;
}

-- the run by its positions alone
abbrev pub as_run : Run → ContentRun
as_run run = looked_up [] run

abbrev pub all_looked_up : List BlockContent → List Run → List ContentRun
all_looked_up contents runs = map (looked_up contents) runs

-- a run's numbers stand for contents
pub record IsNumbered (contents : List BlockContent) (run : Run) : Type 0 where
  pub before : run.before < length contents
  pub after : run.after < length contents

abbrev pub AreNumbered : List BlockContent → List Run → Type 0
AreNumbered contents [] = Unit {0}
AreNumbered contents (run ∷ runs) = IsNumbered contents run × AreNumbered contents runs

-- contents keep their numbers; further ones may have got theirs
abbrev pub IsGrown : List BlockContent → List BlockContent → Type 0
IsGrown old new = take (length old) new ≡ old

-- the number stands for the content
pub record IsName (contents : List BlockContent) (n : ℕ) (content : BlockContent) : Type 0 where
  pub within : n < length contents
  pub is : get_or contents n air_content ≡ content

-- the runs with so many more cells in the last one
abbrev pub with_longer_end : List Run → ℕ → List Run
with_longer_end [] more = []
with_longer_end (run ∷ []) more = record run { length = run.length + more } ∷ []
with_longer_end (run ∷ next ∷ runs) more = run ∷ with_longer_end (next ∷ runs) more
