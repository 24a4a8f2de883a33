-- Jobs whose effect is evaluated plainly, and what is asked of their commands.
use Rattle.std.specs.Prelude.{◌≡◌, ℕ, ◌≤◌, Bool, true, false, List, [], Option, None}
use Rattle.std.specs.Option.{option_map_or}
use Rattle.edit_terms.specs.declared.mask.Mask.{Mask}
use Rattle.edit_terms.specs.declared.step.Work.{Work}
use Rattle.edit_terms.specs.declared.step.Work.TheVariants.{Fill, Stack, Move, Undo, Redo}
use Rattle.edit_terms.specs.declared.step.Spec.{Spec}
use Rattle.edit_terms.specs.Clipboard.{clipboard_of, no_blocks}
use Rattle.edit_terms.specs.World.{World}
use Rattle.plain_terms.specs.Numbering.{mask_noise}
use Rattle.run_terms.specs.Change.{Change}
use Rattle.run_terms.specs.Effect.{Task}

-- A job: its resolved command, the run's seed, the ticket, and the world as it stood when the clipboard was copied.
pub record PlainJob : Type 0 where
  pub spec : Spec
  pub seed : ℕ
  pub ticket : ℕ
  pub earlier : World

-- what the job reads beside the world before it, with the changes that are taken
abbrev pub task_with : PlainJob → List (List Change) → Task
task_with job taken = record {
  spec = job.spec;
  seed = job.seed;
  ticket = job.ticket;
  copied = option_map_or (λ c. clipboard_of c job.earlier) job.spec.clip no_blocks;
  taken = taken;
}

-- the same of a job that takes none
abbrev pub own_task : PlainJob → Task
own_task job = task_with job []

-- what the work does follows from its command and the world before, and not from changes that were recorded
abbrev pub is_of_itself : Work → Bool
is_of_itself (Undo edits) = false
is_of_itself (Redo edits) = false
is_of_itself _ = true

abbrev pub IsOfItself : Work → Type 0
IsOfItself work = is_of_itself work ≡ true

-- the command's own mask
abbrev pub mask_of : Work → Option Mask
mask_of (Fill region mask pattern) = mask
mask_of _ = None

-- the noise leaves of the command's mask and of the global mask have words of their own
pub record HasFewNoise (spec : Spec) : Type 0 where
  pub mask : mask_noise (mask_of spec.work) ≤ 4
  pub global : mask_noise spec.global ≤ 4

-- how many copies a stack makes, or how many blocks on a move goes
abbrev pub copies_of : Work → ℕ
copies_of (Stack from count to) = count
copies_of (Move from count to) = count
copies_of _ = 0

abbrev pub HasFewCopies : Work → Type 0
HasFewCopies work = copies_of work ≤ 1000
