-- What a job's work reads of the world for later, and what it needs beside the world.
use Rattle.std.specs.Prelude.{Bool, true, false, Option, Some, None}
use Rattle.edit_terms.specs.declared.region.Selection.{Selection}
use Rattle.edit_terms.specs.declared.step.Work.{Work}
use Rattle.edit_terms.specs.declared.step.Work.TheVariants.{Fill, Stack, Move, Copy, Cut, Paste}
use Rattle.edit_terms.specs.declared.step.Step.{Step}
use Rattle.edit_terms.specs.declared.step.Step.TheVariants.{Job}
use Rattle.run_terms.specs.Commands.{names_clipboard}

-- The selection whose blocks a work reads: what it repeats, moves or copies. `boxes_read` gives the boxes round these.
abbrev pub selection_read : Work → Option Selection
selection_read (Stack from count to) = Some from
selection_read (Move from count to) = Some from
selection_read (Copy from) = Some from
selection_read (Cut from) = Some from
selection_read _ = None

abbrev pub selection_read_by : Step → Option Selection
selection_read_by (Job spec) = selection_read spec.work
selection_read_by _ = None

-- the work puts blocks of the clipboard: a paste, or a fill whose pattern names it
abbrev pub needs_clipboard : Work → Bool
needs_clipboard (Fill region mask pattern) = names_clipboard pattern
needs_clipboard (Paste place skip_air) = true
needs_clipboard _ = false
