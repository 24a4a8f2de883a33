-- A player's commands in order, each with the chunks that it reads and writes by itself.
use Rattle.std.specs.Prelude.{◌≡◌, ℕ, ◌+◌, ◌-◌, ◌<◌, false, Bool, ◌==◌, List, ◌∷◌, All, filter, get_or, length, map}
use Rattle.std.specs.List.{list_any, range_with_len}
use Rattle.edit_terms.specs.declared.script.Line.{Line}
use Rattle.edit_terms.specs.declared.step.Step.{Step}
use Rattle.edit_terms.specs.declared.step.Step.TheVariants.{Settled}
use Rattle.edit_terms.specs.Area.{Area}
use Rattle.run_terms.specs.Fold.{edits_taken_by}
use Rattle.run_terms.specs.Session.{step_of_line}
use Rattle.command_plan.specs.declared.footprint.Footprint.{Footprint}
use Rattle.command_plan.specs.declared.rectangle.ChunkGrid.{ChunkGrid}
use Rattle.command_plan.specs.declared.rectangle.Rectangle.{Rectangle}
use Rattle.command_plan.specs.Footprints.{IsFootprint}
use Rattle.command_plan.specs.Rectangles.{is_in_set, IsSetInside, chunks_with, chunks_over}

abbrev pub no_rectangle : Rectangle
no_rectangle = record { x = record { from = 0; to = 0 }; z = record { from = 0; to = 0 } }

abbrev pub no_footprint : Footprint
no_footprint = record { reads = record { first = no_rectangle; second = no_rectangle }; writes = record { first = no_rectangle; second = no_rectangle } }

abbrev pub footprint_at : List Footprint → ℕ → Footprint
footprint_at footprints n = get_or footprints n no_footprint

-- all rectangles lie inside
pub record AreInside (grid : ChunkGrid) (footprints : List Footprint) : Type 0 where
  pub reads : (n : ℕ) → n < length footprints → IsSetInside grid (footprint_at footprints n).reads
  pub writes : (n : ℕ) → n < length footprints → IsSetInside grid (footprint_at footprints n).writes

-- one of these commands writes the chunk by itself
abbrev pub is_written : ℕ → List Footprint → List ℕ → ℕ → Bool
is_written columns footprints commands chunk = list_any (λ n. is_in_set columns (footprint_at footprints n).writes chunk) commands

-- the places of the marks that are set
abbrev pub marked : List Bool → List ℕ
marked marks = filter (λ k. get_or marks k false) (range_with_len 0 (length marks))

-- ---- by the place of a command

abbrev pub step_at : List Step → ℕ → Step
step_at steps n = get_or steps n Settled

abbrev pub edits_at : List Step → ℕ → List ℕ
edits_at steps n = edits_taken_by (step_at steps n)

abbrev pub reads_at : ChunkGrid → List Footprint → ℕ → List ℕ
reads_at grid footprints n = chunks_over grid (footprint_at footprints n).reads

abbrev pub writes_at : ChunkGrid → List Step → List Footprint → ℕ → List ℕ
writes_at grid steps footprints n = chunks_with grid (is_written grid.columns footprints (n ∷ edits_at steps n))

abbrev pub jobs_at : ChunkGrid → List Step → List Footprint → ℕ → ℕ
jobs_at grid steps footprints n = length (reads_at grid footprints n) + length (writes_at grid steps footprints n)

-- a later command takes this one
abbrev pub keeps_at : List Step → ℕ → Bool
keeps_at steps n = list_any (λ m. list_any (λ edit. edit == n) (edits_at steps m)) (range_with_len (n + 1) (length steps - (n + 1)))

-- some command takes this one
abbrev pub is_taken : List Step → ℕ → Bool
is_taken steps n = list_any (λ step. list_any (λ edit. edit == n) (edits_taken_by step)) steps

-- each command takes earlier ones alone
abbrev pub AreOfEarlier : List Step → Type 0
AreOfEarlier steps = (n : ℕ) → n < length steps → All (λ edit. edit < n) (edits_at steps n)

-- each command has a footprint, and takes earlier ones alone
pub record IsSound (grid : ChunkGrid) (steps : List Step) (footprints : List Footprint) : Type 0 where
  pub many : length footprints ≡ length steps
  pub inside : AreInside grid footprints
  pub earlier : AreOfEarlier steps

-- the first commands of a script, as its session resolves them
pub record IsResolved (area : Area) (player depth : ℕ) (lines : List Line) (count : ℕ) (steps : List Step) (footprints : List Footprint) : Type 0 where
  pub steps_are : steps ≡ map (step_of_line player depth lines) (range_with_len 0 count)
  pub many : length footprints ≡ count
  pub each : (n : ℕ) → n < count → IsFootprint area (step_of_line player depth lines n) (footprint_at footprints n)
