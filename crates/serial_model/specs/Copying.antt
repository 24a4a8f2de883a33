-- Which commands set the clipboard, and of which copy a clipboard is.
use Rattle.std.specs.Prelude.{◌≡◌, Bool, true, false, Some}
use Rattle.edit_terms.specs.declared.clip.Clip.{Clip}
use Rattle.edit_terms.specs.declared.step.Step.{Step}
use Rattle.edit_terms.specs.declared.step.Step.TheVariants.{Job}
use Rattle.edit_terms.specs.declared.step.Work.{Work}
use Rattle.edit_terms.specs.declared.step.Work.TheVariants.{Copy, Cut}
use Rattle.run_terms.specs.Session.{Session}

-- the work copies its selection to the clipboard
abbrev pub is_copying_work : Work → Bool
is_copying_work (Copy from) = true
is_copying_work (Cut from) = true
is_copying_work _ = false

-- so does the command
abbrev pub is_copying : Step → Bool
is_copying (Job spec) = is_copying_work spec.work
is_copying _ = false

-- the clipboard is of the same copy as the session's
pub record IsOfSameCopy (s : Session) (clip : Clip) : Type 0 where
  pub old : Clip
  pub is : s.clip ≡ Some old
  pub source : clip.source ≡ old.source

-- the clipboard behind a command: of this command where that copies, else of the same copy as before
abbrev pub IsOfCopy : Session → Bool → Clip → Type 0
IsOfCopy s true clip = clip.source ≡ record { player = s.player; step = s.number }
IsOfCopy s false clip = IsOfSameCopy s clip
