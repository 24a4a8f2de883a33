-- A work changes nothing outside the boxes that it writes.
use Rattle.std.proofs.Common.{◌≡◌, ℕ, zero, suc, ◌+◌, ◌*◌, ◌<◌, ◌≤◌, Bool, true, false, cond, not, ◌&&◌, ◌||◌, map, ℤ, pos, ◌+ℤ◌, ◌-ℤ◌, Option, Some, None, refl, sym, ap, ◌∙◌, subst, inl, inr, arith}
use Rattle.std.specs.Prelude.{neg_ℤ, is_some}
use Rattle.std.specs.List.{range_with_len, list_any, find}
use Rattle.std.specs.Option.{option_map_or, option_and_then}
use Rattle.std.specs.Ordering.{int_eq}
use Rattle.std.specs.Cmp.Derive.{both_true}
use Rattle.std.proofs.lemmas.Bool.{cases_lt}
use Rattle.std.proofs.lemmas.Int.{ints}
use Rattle.edit_terms.specs.declared.direction.Direction.{Direction}
use Rattle.edit_terms.specs.declared.direction.Direction.TheVariants.{North, South, East, West, Up, Down}
use Rattle.edit_terms.specs.declared.mask.Mask.{Mask}
use Rattle.edit_terms.specs.declared.pattern.Pattern.{Pattern}
use Rattle.edit_terms.specs.declared.pos.Pos.{Pos}
use Rattle.edit_terms.specs.declared.region.Region.{Region}
use Rattle.edit_terms.specs.declared.region.Region.TheVariants.{Selected}
use Rattle.edit_terms.specs.declared.region.Selection.{Selection}
use Rattle.edit_terms.specs.declared.clip.Clip.{Clip}
use Rattle.edit_terms.specs.declared.step.Work.{Work}
use Rattle.edit_terms.specs.declared.step.Work.TheVariants.{Fill, Stack, Move, Copy, Cut, Paste, Put, Undo, Redo}
use Rattle.edit_terms.specs.Area.{Area, is_from, holds, position_of}
use Rattle.edit_terms.specs.Clipboard.{CopiedBlocks, clip_box_of, relative_to, placed_at}
use Rattle.edit_terms.specs.Draw.{mask_use}
use Rattle.edit_terms.specs.Frame.{IsRegion, IsSelection, frame_of, frame_of_selection, size_along}
use Rattle.edit_terms.specs.Grid.{is_same_pos}
use Rattle.edit_terms.specs.Mask.{is_allowed}
use Rattle.edit_terms.specs.Neighbour.{away}
use Rattle.edit_terms.specs.Pattern.{pattern_value}
use Rattle.edit_terms.specs.Region.{is_inside, is_selected}
use Rattle.edit_terms.specs.StateText.{State, is_air}
use Rattle.edit_terms.specs.World.{BlockContent, World, air_content, content_at, without_entity}
use Rattle.edit_terms.proofs.AreaLemmas.{and_both}
use Rattle.edit_terms.proofs.RegionLemmas.{framed}
use Rattle.run_terms.specs.Change.{content_of}
use Rattle.run_terms.specs.Effect.{Task, scene_of, passes_global, filled, is_source, copy_source, stacked, moved, cut, pasted, put, effect_of}
use Rattle.run_terms.specs.Access.{moved_box, stacked_boxes, single_box, pasted_boxes, boxes_written}

-- what would make a false test true fails
pub contra : (a b : Bool) → (a ≡ true → b ≡ true) → b ≡ false → a ≡ false
contra false b h out = refl
contra true b h out = sym (h refl) ∙ out

pub or_parts : (a b : Bool) → (a || b) ≡ false → (a ≡ false) × (b ≡ false)
or_parts true b h = absurd cc
or_parts false b h = (refl, h)

none_found : {X : Type 0} (test : X → Bool) (f : ℕ → X) (a n : ℕ) → ((k : ℕ) → a ≤ k → k < a + n → test (f k) ≡ false) → find test (map f (range_with_len a n)) ≡ None
none_found test f a zero h = refl
none_found test f a (suc n) h = rw (h a (omega arith) (omega arith)) (none_found test f (a + 1) n (λ k low high. h k (omega (arith, low)) (omega (arith, high))))

none_of_range : {X : Type 0} (test : X → Bool) (f : ℕ → X) (a n k : ℕ) → a ≤ k → k < a + n → list_any test (map f (range_with_len a n)) ≡ false → test (f k) ≡ false
none_of_range test f a zero k low high out = absurd (omega (arith, low, high))
none_of_range test f a (suc n) k low high out =
    let parts = or_parts (test (f a)) (list_any test (map f (range_with_len (a + 1) n))) out in
    elim (cases_lt a k) [
      | inl below ↦ none_of_range test f (a + 1) n k (omega (arith, below)) (omega (arith, high)) parts.1
      | inr above ↦ let e : k ≡ a = omega (arith, low, above) in ap (λ (j : ℕ). test (f j)) e ∙ parts.0
    ]

-- ---- boxes that are moved

-- a position of a box is among the box's coordinates along each axis
record IsHeld (a : Area) (p : Pos) : Type 0 where
  x : is_from a.least.x a.width p.x ≡ true
  y : is_from a.least.y a.height p.y ≡ true
  z : is_from a.least.z a.length p.z ≡ true

held : (a : Area) (p : Pos) → holds a p ≡ true → IsHeld a p
held a p h =
    let first = and_both (is_from a.least.x a.width p.x && is_from a.least.y a.height p.y) (is_from a.least.z a.length p.z) h in
    let two = and_both (is_from a.least.x a.width p.x) (is_from a.least.y a.height p.y) first.0 in
    record { x = two.0; y = two.1; z = first.1 }

further_on : (low : ℤ) (size : ℕ) (v : ℤ) (n : ℕ) → is_from low size (v +ℤ neg_ℤ (pos n)) ≡ true → is_from (low +ℤ pos n) size v ≡ true
further_on low size v n h = grind (arith, ints)

further_back : (low : ℤ) (size : ℕ) (v : ℤ) (n : ℕ) → is_from low size (v -ℤ neg_ℤ (pos n)) ≡ true → is_from (low -ℤ pos n) size v ≡ true
further_back low size v n h = grind (arith, ints)

-- what comes from a box so many blocks back lies in the moved box
pub held_moved : (to : Direction) (n : ℕ) (a : Area) (p : Pos) → holds a (away to (neg_ℤ (pos n)) p) ≡ true → holds (moved_box to n a) p ≡ true
held_moved North n a p h = let s = held a (away North (neg_ℤ (pos n)) p) h in both_true (both_true s.x s.y) (further_back a.least.z a.length p.z n s.z)
held_moved South n a p h = let s = held a (away South (neg_ℤ (pos n)) p) h in both_true (both_true s.x s.y) (further_on a.least.z a.length p.z n s.z)
held_moved East n a p h = let s = held a (away East (neg_ℤ (pos n)) p) h in both_true (both_true (further_on a.least.x a.width p.x n s.x) s.y) s.z
held_moved West n a p h = let s = held a (away West (neg_ℤ (pos n)) p) h in both_true (both_true (further_back a.least.x a.width p.x n s.x) s.y) s.z
held_moved Up n a p h = let s = held a (away Up (neg_ℤ (pos n)) p) h in both_true (both_true s.x (further_on a.least.y a.height p.y n s.y)) s.z
held_moved Down n a p h = let s = held a (away Down (neg_ℤ (pos n)) p) h in both_true (both_true s.x (further_back a.least.y a.height p.y n s.y)) s.z

from_place : (place low : ℤ) (size : ℕ) (v : ℤ) → is_from low size (v -ℤ place) ≡ true → is_from (place +ℤ low) size v ≡ true
from_place place low size v h = grind (arith, ints)

-- a position of a box, counted from a place, lies in the box at that place
held_placed : (place : Pos) (a : Area) (p : Pos) → holds a (relative_to place p) ≡ true → holds (record a { least = placed_at place a.least }) p ≡ true
held_placed place a p h =
    let s = held a (relative_to place p) h in
    both_true (both_true (from_place place.x a.least.x a.width p.x s.x) (from_place place.y a.least.y a.height p.y s.y)) (from_place place.z a.least.z a.length p.z s.z)

from_itself : (u v : ℤ) → int_eq u v ≡ true → is_from u 1 v ≡ true
from_itself u v h = let e : u ≡ v = grind (arith, ints) in subst (λ (c : ℤ). is_from u 1 c ≡ true) e (own u)
  where
    own : (u : ℤ) → is_from u 1 u ≡ true
    own u = grind (arith, ints)

held_single : (at p : Pos) → is_same_pos at p ≡ true → holds (single_box at) p ≡ true
held_single at p h =
    let first = and_both (int_eq at.x p.x && int_eq at.y p.y) (int_eq at.z p.z) h in
    let two = and_both (int_eq at.x p.x) (int_eq at.y p.y) first.0 in
    both_true (both_true (from_itself at.x p.x two.0) (from_itself at.y p.y two.1)) (from_itself at.z p.z first.1)

-- ---- what a work needs

-- the positions of the work's selections fit 32 bits
abbrev pub HasPositions : Work → Type 0
HasPositions (Fill region mask pattern) = IsRegion region
HasPositions (Stack from count to) = IsSelection from
HasPositions (Move from count to) = IsSelection from
HasPositions (Copy from) = IsSelection from
HasPositions (Cut from) = IsSelection from
HasPositions _ = Unit {0}

-- the blocks of a clipboard lie in the bounds of this clip, if there is one
abbrev pub IsBounded : Area → Option Clip → CopiedBlocks → Type 0
IsBounded area clip copied = (r : Pos) → is_some (copied.at r) ≡ true → option_map_or (λ bounds. holds bounds r) (option_and_then (λ c. clip_box_of c area) clip) false ≡ true

-- the work takes no edits
abbrev pub IsOfItself : Work → Type 0
IsOfItself (Undo edits) = ⊥
IsOfItself (Redo edits) = ⊥
IsOfItself _ = Unit {0}

-- ---- each work

module _ (task : Task) (w : World) (index : ℕ) where
  abbrev p : Pos
  p = position_of w.area index

  abbrev old : BlockContent
  old = content_of w index

  either_way : (b : Bool) → cond b old old ≡ old
  either_way true = refl
  either_way false = refl

  outside : (region : Region) → IsRegion region → (holds (frame_of region) p || false) ≡ false → is_inside region p ≡ false
  outside region is out = contra (is_inside region p) (holds (frame_of region) p) (framed region is p) (or_parts (holds (frame_of region) p) false out).0

  fill_outside : (region : Region) (mask : Option Mask) (pattern : Pattern) → IsRegion region → (holds (frame_of region) p || false) ≡ false → filled region mask pattern task w index ≡ old
  fill_outside region mask pattern is out =
      ap (λ (b : Bool). cond (b && is_allowed mask mask_use (scene_of task w) p && passes_global task w p) (pattern_value pattern task.copied task.seed task.ticket p old) old) (outside region is out)

  cut_outside : (from : Selection) → IsSelection from → (holds (frame_of_selection from) p || false) ≡ false → cut from task w index ≡ old
  cut_outside from is out = ap (λ (b : Bool). cond (b && passes_global task w p) air_content old) (outside (Selected from) is out)

  stack_outside : (from : Selection) (count : ℕ) (to : Direction) → IsSelection from → list_any (λ box. holds box p) (stacked_boxes count to (frame_of_selection from)) ≡ false → stacked from count to task w index ≡ old
  stack_outside from count to is out =
      let frame = frame_of_selection from in
      let none = none_found (is_source from w) (copy_source from to p) 1 count (λ k low high.
      contra (is_source from w (copy_source from to p k)) (holds (moved_box to (k * size_along to frame) frame) p)
      (λ source. held_moved to (k * size_along to frame) frame p (framed (Selected from) is (copy_source from to p k) (and_both (is_selected from (copy_source from to p k)) (holds w.area (copy_source from to p k)) source).0))
      (none_of_range (λ box. holds box p) (λ i. moved_box to (i * size_along to frame) frame) 1 count k low high out)) in
      ap (λ (o : Option Pos). cond (passes_global task w p) (option_map_or (content_at w) o old) old) none ∙ either_way (passes_global task w p)

  move_outside : (from : Selection) (count : ℕ) (to : Direction) → IsSelection from
      → (holds (frame_of_selection from) p || (holds (moved_box to count (frame_of_selection from)) p || false)) ≡ false → moved from count to task w index ≡ old
  move_outside from count to is out =
      let frame = frame_of_selection from in
      let q = away to (neg_ℤ (pos count)) p in
      let parts = or_parts (holds frame p) (holds (moved_box to count frame) p || false) out in
      let there = (or_parts (holds (moved_box to count frame) p) false parts.1).0 in
      let comes = contra (is_source from w q) (holds (moved_box to count frame) p) (λ source. held_moved to count frame p (framed (Selected from) is q (and_both (is_selected from q) (holds w.area q) source).0)) there in
      let own = contra (is_selected from p) (holds frame p) (framed (Selected from) is p) parts.0 in
      ap (λ (b : Bool). cond (not (passes_global task w p)) old (cond b (content_at w q) (cond (is_selected from p) air_content old))) comes
      ∙ ap (λ (b : Bool). cond (not (passes_global task w p)) old (cond b air_content old)) own
      ∙ either_way (not (passes_global task w p))

  put_outside : (at : Pos) (state : State) → (holds (single_box at) p || false) ≡ false → put at state w index ≡ old
  put_outside at state out = ap (λ (b : Bool). cond b (without_entity state) old) (contra (is_same_pos at p) (holds (single_box at) p) (held_single at p) (or_parts (holds (single_box at) p) false out).0)

  paste_outside : (clip : Option Clip) (place : Pos) (skip_air : Bool) → IsBounded w.area clip task.copied
      → list_any (λ box. holds box p) (pasted_boxes place (option_and_then (λ c. clip_box_of c w.area) clip)) ≡ false → pasted place skip_air task w index ≡ old
  paste_outside clip place skip_air bounded out =
      let bounds = option_and_then (λ c. clip_box_of c w.area) clip in
      nothing (task.copied.at (relative_to place p)) (contra (is_some (task.copied.at (relative_to place p))) (list_any (λ box. holds box p) (pasted_boxes place bounds)) (λ some. by_bounds bounds (bounded (relative_to place p) some)) out)
    where
      by_bounds : (o : Option Area) → option_map_or (λ box. holds box (relative_to place p)) o false ≡ true → list_any (λ box. holds box p) (pasted_boxes place o) ≡ true
      by_bounds None h = h
      by_bounds (Some box) h = ap (λ (b : Bool). b || false) (held_placed place box p h)

      nothing : (o : Option BlockContent) → is_some o ≡ false → option_map_or (λ (c : BlockContent). cond (passes_global task w p && not (skip_air && is_air c.state)) c old) o old ≡ old
      nothing None h = refl
      nothing (Some c) h = absurd cc

  -- a work that takes no edits changes nothing outside its boxes
  pub stays_outside : (clip : Option Clip) (work : Work) → IsOfItself work → HasPositions work → IsBounded w.area clip task.copied → list_any (λ box. holds box p) (boxes_written w.area clip work) ≡ false
      → effect_of work task w index ≡ old
  stays_outside clip (Fill region mask pattern) own is bounded out = fill_outside region mask pattern is out
  stays_outside clip (Stack from count to) own is bounded out = stack_outside from count to is out
  stays_outside clip (Move from count to) own is bounded out = move_outside from count to is out
  stays_outside clip (Copy from) own is bounded out = refl
  stays_outside clip (Cut from) own is bounded out = cut_outside from is out
  stays_outside clip (Paste place skip_air) own is bounded out = paste_outside clip place skip_air bounded out
  stays_outside clip (Put at state) own is bounded out = put_outside at state out
  stays_outside clip (Undo edits) own is bounded out = absurd own
  stays_outside clip (Redo edits) own is bounded out = absurd own
