-- Which mask a command sets.
use Rattle.std.specs.Prelude.{Option, None}
use Rattle.edit_terms.specs.declared.mask.Mask.{Mask}
use Rattle.edit_terms.specs.declared.script.Command.{Command}
use Rattle.edit_terms.specs.declared.script.Command.TheVariants.{Gmask}

-- the mask that a command makes the mask of all edits; none where it drops it, and of any other command
abbrev pub mask_set : Command → Option Mask
mask_set (Gmask mask) = mask
mask_set _ = None
