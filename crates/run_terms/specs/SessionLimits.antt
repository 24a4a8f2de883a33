-- What a session and a resolved command keep to, where the commands of its script keep the limits.
use Rattle.std.specs.Prelude.{Bool, true, ◌&&◌, IfSome, IsTrue, ⊤}
use Rattle.edit_terms.specs.declared.region.Selection.{Selection}
use Rattle.edit_terms.specs.declared.region.Region.{Region}
use Rattle.edit_terms.specs.declared.region.Region.TheVariants.{Selected, Walls, Faces, Ball, Tube}
use Rattle.edit_terms.specs.declared.clip.Clip.{Clip}
use Rattle.edit_terms.specs.declared.step.Spec.{Spec}
use Rattle.edit_terms.specs.declared.step.Step.{Step}
use Rattle.edit_terms.specs.declared.step.Step.TheVariants.{Job}
use Rattle.edit_terms.specs.declared.step.Work.{Work}
use Rattle.edit_terms.specs.declared.step.Work.TheVariants.{Fill, Stack, Move, Copy, Cut, Paste, Put, Undo, Redo}
use Rattle.edit_terms.specs.Area.{is_on_map, IsOnMap}
use Rattle.run_terms.specs.Limits.{is_count, is_radius, is_height, is_optional_mask_within, is_pattern_within}
use Rattle.run_terms.specs.Session.{Session}

-- both positions are on the map
abbrev pub is_selection_within : Selection → Bool
is_selection_within s = is_on_map s.first && is_on_map s.second

-- the selection, or the centre with the radius and the height
abbrev pub is_region_within : Region → Bool
is_region_within (Selected s) = is_selection_within s
is_region_within (Walls s) = is_selection_within s
is_region_within (Faces s) = is_selection_within s
is_region_within (Ball centre radius hollow) = is_on_map centre && is_radius radius
is_region_within (Tube centre radius height hollow) = is_on_map centre && is_radius radius && is_height height

-- the positions, the mask, the pattern and the count of a work
abbrev pub is_work_within : Work → Bool
is_work_within (Fill region mask pattern) = is_region_within region && is_optional_mask_within mask && is_pattern_within pattern
is_work_within (Stack from count to) = is_selection_within from && is_count count
is_work_within (Move from count to) = is_selection_within from && is_count count
is_work_within (Copy from) = is_selection_within from
is_work_within (Cut from) = is_selection_within from
is_work_within (Paste place skip_air) = is_on_map place
is_work_within (Put at state) = is_on_map at
is_work_within (Undo steps) = true
is_work_within (Redo steps) = true

-- the selection that was copied, and the placement position that it was copied from
pub record IsClipWithin (c : Clip) : Type 0 where
  pub from : IsTrue (is_selection_within c.from)
  pub origin : IsOnMap c.origin

-- the positions, the global mask and the clipboard of a session, as far as they are set
pub record IsSessionWithin (s : Session) : Type 0 where
  pub first : IfSome s.first IsOnMap
  pub second : IfSome s.second IsOnMap
  pub place : IfSome s.place IsOnMap
  pub global : IsTrue (is_optional_mask_within s.global)
  pub clip : IfSome s.clip IsClipWithin

-- the work of a resolved command, and the global mask, the selection and the clipboard before it
pub record IsSpecWithin (spec : Spec) : Type 0 where
  pub work : IsTrue (is_work_within spec.work)
  pub global : IsTrue (is_optional_mask_within spec.global)
  pub selection : IfSome spec.selection (λ s. IsTrue (is_selection_within s))
  pub clip : IfSome spec.clip IsClipWithin

-- a command that is refused or changes the session alone has none of them
abbrev pub IsStepWithin : Step → Type 0
IsStepWithin (Job spec) = IsSpecWithin spec
IsStepWithin _ = ⊤
