-- The chunks that a command writes with those that it takes.
use Rattle.std.proofs.Common.{◌≡◌, ℕ, ◌+◌, ◌*◌, ◌<◌, ◌≤◌, Bool, false, ◌||◌, List, [], ◌∷◌, length, get_or, sym, ◌∙◌, ap, arith}
use Rattle.std.specs.Prelude.{All, filter, sum_by}
use Rattle.std.specs.List.{range_with_len}
use Rattle.std.proofs.lemmas.List.{get_or_default}
use Rattle.std.proofs.lemmas.List.Sums.{sum_by-append, sum_by-cons}
use Rattle.edit_terms.specs.declared.step.Step.{Step}
use Rattle.edit_terms.specs.declared.step.Step.TheVariants.{Settled}
use Rattle.run_terms.specs.Fold.{edits_taken_by}
use Rattle.command_plan.specs.declared.footprint.Footprint.{Footprint}
use Rattle.command_plan.specs.declared.rectangle.ChunkGrid.{ChunkGrid}
use Rattle.command_plan.specs.ResolvedScripts.{footprint_at, is_written, marked, edits_at, writes_at, IsSound}
use Rattle.command_plan.specs.Rectangles.{is_in_set, chunks_with, chunks_over}
use Rattle.command_plan.proofs.RunLemmas.{filter_agrees, range_split}
use Rattle.command_plan.proofs.MarkLemmas.{or_end}

-- a command that takes none
pub alone : (grid : ChunkGrid) (fs : List Footprint) (n : ℕ) (taken : List ℕ) → length taken ≡ 0 → chunks_over grid (footprint_at fs n).writes ≡ chunks_with grid (is_written grid.columns fs (n ∷ taken))
alone grid fs n [] none = filter_agrees (is_in_set grid.columns (footprint_at fs n).writes) (is_written grid.columns fs (n ∷ [])) 0 (grid.columns * grid.rows) (λ k low high. sym (or_end (is_in_set grid.columns (footprint_at fs n).writes k)))
alone grid fs n (m ∷ taken) none = absurd (omega (arith, none))

-- marks that stand exactly where a test holds
pub marked_is : (grid : ChunkGrid) (marks : List Bool) (test : ℕ → Bool) → length marks ≡ grid.columns * grid.rows → ((k : ℕ) → get_or marks k false ≡ test k) → marked marks ≡ chunks_with grid test
marked_is grid marks test many each =
    ap (λ (n : ℕ). filter (λ k. get_or marks k false) (range_with_len 0 n)) many
    ∙ filter_agrees (λ k. get_or marks k false) test 0 (grid.columns * grid.rows) (λ k low high. each k)

-- the step that is read at a place
pub edits_read : (steps : List Step) (n : ℕ) (step : Step) → n < length steps → step ≡ get_or steps n step → edits_taken_by step ≡ edits_at steps n
edits_read steps n step within is = ap edits_taken_by (is ∙ get_or_default steps n step Settled within)

pub taken_known : (grid : ChunkGrid) (steps : List Step) (fs : List Footprint) (n : ℕ) → IsSound grid steps fs → n < length steps → All (λ e. e < length fs) (edits_at steps n)
taken_known grid steps fs n sound within k d below = let e = sound.earlier n within k d below in let many = sound.many in omega (arith, e, many, within)

-- a number of the range more
pub sum_more : (f : ℕ → ℕ) (n : ℕ) → sum_by f (range_with_len 0 (n + 1)) ≡ sum_by f (range_with_len 0 n) + f n
sum_more f n =
    ap (sum_by f) (range_split 0 n 1)
    ∙ sum_by-append f (range_with_len 0 n) (range_with_len (0 + n) 1)
    ∙ ap (λ (m : ℕ). sum_by f (range_with_len 0 n) + m) (sum_by-cons f (0 + n) [] ∙ last)
  where
    start : 0 + n ≡ n
    start = omega arith

    last : f (0 + n) + sum_by f [] ≡ f n
    last = ap (λ (k : ℕ). f k + 0) start ∙ omega arith

-- what a command writes, by the step that is read at its place
pub writes_read : (grid : ChunkGrid) (steps : List Step) (fs : List Footprint) (n : ℕ) (step : Step) → n < length steps → step ≡ get_or steps n step
    → length (chunks_with grid (is_written grid.columns fs (n ∷ edits_taken_by step))) ≡ length (writes_at grid steps fs n)
writes_read grid steps fs n step within is = ap (λ (es : List ℕ). length (chunks_with grid (is_written grid.columns fs (n ∷ es)))) (edits_read steps n step within is)
