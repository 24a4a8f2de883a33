-- What a work makes of a place depends on the world only in the place's own column of blocks and in the selection that it
-- reads, and on the clipboard only where it needs one.
use Rattle.std.proofs.Common.{◌≡◌, ℕ, ◌+◌, ◌+ℤ◌, ◌-ℤ◌, Bool, true, false, cond, not, ◌&&◌, ◌||◌, List, [], ◌∷◌, ℤ, get_or, Option, Some, None, refl, sym, ap, ◌∙◌}
use Rattle.std.specs.Prelude.{IfSome, neg_ℤ, pos}
use Rattle.std.specs.List.{find, list_all, list_any}
use Rattle.std.specs.Option.{option_map_or}
use Rattle.edit_terms.specs.declared.direction.Direction.{Direction}
use Rattle.edit_terms.specs.declared.mask.Leaf.{Leaf}
use Rattle.edit_terms.specs.declared.mask.Leaf.TheVariants.{Noise, Existing, InSelection, Has, OneOf}
use Rattle.edit_terms.specs.declared.mask.Mask.{Mask}
use Rattle.edit_terms.specs.declared.mask.Sign.{Sign}
use Rattle.edit_terms.specs.declared.mask.Sign.TheVariants.{Not, Below, Above}
use Rattle.edit_terms.specs.declared.mask.Term.{Term}
use Rattle.edit_terms.specs.declared.pattern.Pattern.{Pattern}
use Rattle.edit_terms.specs.declared.pos.Pos.{Pos}
use Rattle.edit_terms.specs.declared.region.Region.{Region}
use Rattle.edit_terms.specs.declared.region.Region.TheVariants.{Selected}
use Rattle.edit_terms.specs.declared.region.Selection.{Selection}
use Rattle.edit_terms.specs.declared.step.Spec.{Spec}
use Rattle.edit_terms.specs.declared.step.Work.{Work}
use Rattle.edit_terms.specs.declared.step.Work.TheVariants.{Fill, Stack, Move, Copy, Cut, Paste, Put, Undo, Redo}
use Rattle.edit_terms.specs.Area.{Area, holds, index_of, position_of, chunk_of}
use Rattle.edit_terms.specs.Clipboard.{CopiedBlocks, relative_to}
use Rattle.edit_terms.specs.Draw.{draw_word, mask_use, global_mask_use}
use Rattle.edit_terms.specs.Grid.{is_same_pos}
use Rattle.edit_terms.specs.Mask.{Scene, is_by_chance, has_properties, is_like, leaf_holds, signs_hold, term_holds, noise_leaves, numbered, is_allowed}
use Rattle.edit_terms.specs.Neighbour.{away}
use Rattle.edit_terms.specs.Pattern.{pattern_value}
use Rattle.edit_terms.specs.Region.{is_inside, is_selected}
use Rattle.edit_terms.specs.StateText.{State, is_air}
use Rattle.edit_terms.specs.World.{BlockContent, World, air_content, content_at, state_at, without_entity}
use Rattle.edit_terms.proofs.AreaLemmas.{and_both, position_at_index, held_below}
use Rattle.edit_terms.proofs.RegionLemmas.{framed}
use Rattle.run_terms.specs.Change.{Change, content_of}
use Rattle.run_terms.specs.Effect.{Task, is_source, stacked_from, latest_change, effect_of}
use Rattle.run_terms.specs.Access.{boxes_read}
use Rattle.run_terms.specs.Commands.{names_clipboard}
use Rattle.run_terms.specs.Needs.{selection_read, needs_clipboard}
use Rattle.access_laws.specs.Locality.{is_among, is_in_chunks, AgreeIn}
use Rattle.access_laws.specs.Needs.{HaveSameSources}
use Rattle.access_laws.proofs.PatternNeeds.{pattern_value-same}
use Rattle.access_laws.proofs.Writes.{HasPositions}

-- ---- where random words are the same

-- the leaf draws the same words for two tickets, or none
abbrev pub DrawsAlike : ℕ → ℕ → ℕ → Leaf → Type 0
DrawsAlike seed s t (Noise chance) = (number : ℕ) (p : Pos) → draw_word seed s number p ≡ draw_word seed t number p
DrawsAlike seed s t _ = Unit {0}

abbrev pub TermsDrawAlike : ℕ → ℕ → ℕ → List Term → Type 0
TermsDrawAlike seed s t [] = Unit {0}
TermsDrawAlike seed s t (m ∷ terms) = DrawsAlike seed s t m.leaf × TermsDrawAlike seed s t terms

abbrev pub MaskDrawsAlike : ℕ → ℕ → ℕ → Option Mask → Type 0
MaskDrawsAlike seed s t None = Unit {0}
MaskDrawsAlike seed s t (Some mask) = TermsDrawAlike seed s t mask.terms

-- the pattern makes the same of each content for two tickets
abbrev pub PatternDrawsAlike : ℕ → ℕ → ℕ → Pattern → Type 0
PatternDrawsAlike seed s t pattern = (copied : CopiedBlocks) (p : Pos) (old : BlockContent) → pattern_value pattern copied seed s p old ≡ pattern_value pattern copied seed t p old

abbrev pub WorkDrawsAlike : ℕ → ℕ → ℕ → Work → Type 0
WorkDrawsAlike seed s t (Fill region mask pattern) = MaskDrawsAlike seed s t mask × PatternDrawsAlike seed s t pattern
WorkDrawsAlike seed s t _ = Unit {0}

-- the job draws the same for two tickets, or nothing
pub record JobDrawsAlike (seed s t : ℕ) (spec : Spec) : Type 0 where
  pub global : MaskDrawsAlike seed s t spec.global
  pub work : WorkDrawsAlike seed s t spec.work

leaf_alike : (seed t : ℕ) (leaf : Leaf) → DrawsAlike seed t t leaf
leaf_alike seed t (Noise chance) = λ number p. refl
leaf_alike seed t Existing = tt
leaf_alike seed t InSelection = tt
leaf_alike seed t (Has properties) = tt
leaf_alike seed t (OneOf states) = tt

terms_alike : (seed t : ℕ) (terms : List Term) → TermsDrawAlike seed t t terms
terms_alike seed t [] = tt
terms_alike seed t (m ∷ terms) = (leaf_alike seed t m.leaf, terms_alike seed t terms)

mask_alike : (seed t : ℕ) (mask : Option Mask) → MaskDrawsAlike seed t t mask
mask_alike seed t None = tt
mask_alike seed t (Some mask) = terms_alike seed t mask.terms

work_alike : (seed t : ℕ) (work : Work) → WorkDrawsAlike seed t t work
work_alike seed t (Fill region mask pattern) = (mask_alike seed t mask, λ copied p old. refl)
work_alike seed t (Stack from count to) = tt
work_alike seed t (Move from count to) = tt
work_alike seed t (Copy from) = tt
work_alike seed t (Cut from) = tt
work_alike seed t (Paste place skip_air) = tt
work_alike seed t (Put at state) = tt
work_alike seed t (Undo edits) = tt
work_alike seed t (Redo edits) = tt

-- with one ticket everything is drawn alike
pub draws_alike : (seed t : ℕ) (spec : Spec) → JobDrawsAlike seed t t spec
draws_alike seed t spec = record { global = mask_alike seed t spec.global; work = work_alike seed t spec.work }

-- ---- masks read in their own column of blocks

module _ (area : Area) (cs ds : List BlockContent) (seed s t : ℕ) (selection : Option Selection) where
  abbrev one : World
  one = record { area = area; contents = cs }

  abbrev other : World
  other = record { area = area; contents = ds }

  abbrev first_scene : Scene
  first_scene = record { world = one; selection = selection; seed = seed; ticket = s }

  abbrev second_scene : Scene
  second_scene = record { world = other; selection = selection; seed = seed; ticket = t }

  -- the worlds have the same states above and below a position
  abbrev IsSameColumn : Pos → Type 0
  IsSameColumn p = (y : ℤ) → state_at one (record p { y = y }) ≡ state_at other (record p { y = y })

  leaf_same : (leaf : Leaf) → DrawsAlike seed s t leaf → (number : ℕ) (p : Pos) → IsSameColumn p → leaf_holds leaf number first_scene p ≡ leaf_holds leaf number second_scene p
  leaf_same (Noise chance) alike number p same = ap (λ (word : ℕ). holds area p && is_by_chance chance word) (alike number p)
  leaf_same Existing alike number p same = ap (λ (state : State). not (is_air state)) (same p.y)
  leaf_same InSelection alike number p same = refl
  leaf_same (Has properties) alike number p same = ap (λ (state : State). has_properties state.properties properties) (same p.y)
  leaf_same (OneOf states) alike number p same = ap (λ (state : State). list_any (is_like state) states) (same p.y)

  signs_same : (signs : List Sign) (leaf : Leaf) → DrawsAlike seed s t leaf → (number : ℕ) (p : Pos) → IsSameColumn p → signs_hold signs leaf number first_scene p ≡ signs_hold signs leaf number second_scene p
  signs_same [] leaf alike number p same = leaf_same leaf alike number p same
  signs_same (Not ∷ signs) leaf alike number p same = ap not (signs_same signs leaf alike number p same)
  signs_same (Below ∷ signs) leaf alike number p same = signs_same signs leaf alike number (record p { y = p.y -ℤ pos 1 }) same
  signs_same (Above ∷ signs) leaf alike number p same = signs_same signs leaf alike number (record p { y = p.y +ℤ pos 1 }) same

  terms_same : (terms : List Term) → TermsDrawAlike seed s t terms → (first : ℕ) (p : Pos) → IsSameColumn p
      → list_all (λ n. term_holds n.1 n.0 first_scene p) (numbered first terms) ≡ list_all (λ n. term_holds n.1 n.0 second_scene p) (numbered first terms)
  terms_same [] alike first p same = refl
  terms_same (m ∷ terms) alike first p same =
      let here = signs_same m.signs m.leaf alike.0 first p same in
      let rest = terms_same terms alike.1 (first + noise_leaves m.leaf) p same in
      λ i. here i && rest i

  pub allowed_same : (mask : Option Mask) → MaskDrawsAlike seed s t mask → (first : ℕ) (p : Pos) → IsSameColumn p → is_allowed mask first first_scene p ≡ is_allowed mask first second_scene p
  allowed_same None alike first p same = refl
  allowed_same (Some mask) alike first p same = terms_same mask.terms alike first p same

-- ---- contents by position

module _ (area : Area) (cs ds : List BlockContent) (chunks : List ℕ) (agree : AgreeIn area chunks (record { area = area; contents = cs }) (record { area = area; contents = ds })) where
  -- a block of one of the chunks has the same content in both worlds
  pub content_same : (p : Pos) → is_among chunks (chunk_of area p) ≡ true → content_at (record { area = area; contents = cs }) p ≡ content_at (record { area = area; contents = ds }) p
  content_same p listed = by_test (holds area p) refl
    where
      by_test : (b : Bool) → holds area p ≡ b → content_at (record { area = area; contents = cs }) p ≡ content_at (record { area = area; contents = ds }) p
      by_test false is = ap (λ (b : Bool). cond b (get_or cs (index_of area p) air_content) air_content) is ∙ sym (ap (λ (b : Bool). cond b (get_or ds (index_of area p) air_content) air_content) is)
      by_test true is =
          let place : is_in_chunks area chunks (index_of area p) ≡ true = ap (λ (q : Pos). is_among chunks (chunk_of area q)) (position_at_index area p is) ∙ listed in
          let same = agree (index_of area p) (held_below area p is) place in
          λ i. cond (holds area p) (same i) air_content

-- the first item that passes a test does
pub find_passes : {X : Type 0} (test : X → Bool) (xs : List X) → IfSome (find test xs) (λ x. test x ≡ true)
find_passes test [] = tt
find_passes test (x ∷ xs) = by_head (find_passes test xs) (test x) refl
  where
    by_head : IfSome (find test xs) (λ y. test y ≡ true) → (b : Bool) → test x ≡ b → IfSome (cond b (Some x) (find test xs)) (λ y. test y ≡ true)
    by_head later true is = is
    by_head later false is = later

-- ---- each work

module _ (area : Area) (cs ds : List BlockContent) (seed s t : ℕ) (spec : Spec) (first second : CopiedBlocks)
    (before after : List (List Change)) (alike : JobDrawsAlike seed s t spec) (index : ℕ) (same_latest : latest_change before index ≡ latest_change after index)
    (same_content : content_of (record { area = area; contents = cs }) index ≡ content_of (record { area = area; contents = ds }) index)
    (same_column : (y : ℤ) → state_at (record { area = area; contents = cs }) (record (position_of area index) { y = y }) ≡ state_at (record { area = area; contents = ds }) (record (position_of area index) { y = y })) where
  abbrev w : World
  w = record { area = area; contents = cs }

  abbrev v : World
  v = record { area = area; contents = ds }

  abbrev left : Task
  left = record { spec = spec; seed = seed; ticket = s; copied = first; taken = before }

  abbrev right : Task
  right = record { spec = spec; seed = seed; ticket = t; copied = second; taken = after }

  abbrev p : Pos
  p = position_of area index

  passes_same : is_allowed spec.global global_mask_use (record { world = w; selection = spec.selection; seed = seed; ticket = s }) p ≡ is_allowed spec.global global_mask_use (record { world = v; selection = spec.selection; seed = seed; ticket = t }) p
  passes_same = allowed_same area cs ds seed s t spec.selection spec.global alike.global global_mask_use p same_column

  fill_same : (region : Region) (mask : Option Mask) (pattern : Pattern) → WorkDrawsAlike seed s t (Fill region mask pattern) → (names_clipboard pattern ≡ true → first ≡ second)
      → effect_of (Fill region mask pattern) left w index ≡ effect_of (Fill region mask pattern) right v index
  fill_same region mask pattern draws same_copied =
      let allowed = allowed_same area cs ds seed s t spec.selection mask draws.0 mask_use p same_column in
      let passes = passes_same in
      (λ i. cond (is_inside region p && allowed i && passes i) (pattern_value pattern first seed s p (same_content i)) (same_content i))
      ∙ ap (λ (c : BlockContent). cond (is_inside region p && is_allowed mask mask_use (record { world = v; selection = spec.selection; seed = seed; ticket = t }) p && is_allowed spec.global global_mask_use (record { world = v; selection = spec.selection; seed = seed; ticket = t }) p) c (content_of v index)) (draws.1 first p (content_of v index) ∙ pattern_value-same pattern first second same_copied seed t p (content_of v index))

  stack_same : (from : Selection) (count : ℕ) (to : Direction) → HaveSameSources from w v → effect_of (Stack from count to) left w index ≡ effect_of (Stack from count to) right v index
  stack_same from count to sources =
      let passes = passes_same in
      let found = by_found (find (is_source from w) (stacked_from from count to p)) (find_passes (is_source from w) (stacked_from from count to p)) in
      λ i. cond (passes i) (found i) (same_content i)
    where
      by_found : (o : Option Pos) → IfSome o (λ q. is_source from w q ≡ true) → option_map_or (content_at w) o (content_of w index) ≡ option_map_or (content_at v) o (content_of v index)
      by_found None is = same_content
      by_found (Some q) is = sources q is

  move_same : (from : Selection) (count : ℕ) (to : Direction) → HaveSameSources from w v → effect_of (Move from count to) left w index ≡ effect_of (Move from count to) right v index
  move_same from count to sources =
      let passes = passes_same in
      let brought = by_source (away to (neg_ℤ (pos count)) p) (is_source from w (away to (neg_ℤ (pos count)) p)) refl in
      λ i. cond (not (passes i)) (same_content i) (brought i)
    where
      by_source : (q : Pos) (b : Bool) → is_source from w q ≡ b
          → cond (is_source from w q) (content_at w q) (cond (is_selected from p) air_content (content_of w index)) ≡ cond (is_source from w q) (content_at v q) (cond (is_selected from p) air_content (content_of v index))
      by_source q true is = let same = sources q is in λ i. cond (is_source from w q) (same i) (cond (is_selected from p) air_content (same_content i))
      by_source q false is =
          ap (λ (b : Bool). cond b (content_at w q) (cond (is_selected from p) air_content (content_of w index))) is
          ∙ ap (λ (c : BlockContent). cond (is_selected from p) air_content c) same_content
          ∙ sym (ap (λ (b : Bool). cond b (content_at v q) (cond (is_selected from p) air_content (content_of v index))) is)

  paste_same : (place : Pos) (skip_air : Bool) → first ≡ second → effect_of (Paste place skip_air) left w index ≡ effect_of (Paste place skip_air) right v index
  paste_same place skip_air same_copied =
      let passes = passes_same in
      λ i. option_map_or (λ c. cond (passes i && not (skip_air && is_air c.state)) c (same_content i)) ((same_copied i).at (relative_to place p)) (same_content i)

  -- the effects of a work at a place are the same
  pub effect_same : (work : Work) → WorkDrawsAlike seed s t work → (needs_clipboard work ≡ true → first ≡ second) → IfSome (selection_read work) (λ from. HaveSameSources from w v)
      → effect_of work left w index ≡ effect_of work right v index
  effect_same (Fill region mask pattern) draws same_copied sources = fill_same region mask pattern draws same_copied
  effect_same (Stack from count to) draws same_copied sources = stack_same from count to sources
  effect_same (Move from count to) draws same_copied sources = move_same from count to sources
  effect_same (Copy from) draws same_copied sources = same_content
  effect_same (Cut from) draws same_copied sources = let passes = passes_same in λ i. cond (is_selected from p && passes i) air_content (same_content i)
  effect_same (Paste place skip_air) draws same_copied sources = paste_same place skip_air (same_copied refl)
  effect_same (Put at state) draws same_copied sources = λ i. cond (is_same_pos at p) (without_entity state) (same_content i)
  effect_same (Undo edits) draws same_copied sources = λ i. option_map_or (λ change. change.before) (same_latest i) (same_content i)
  effect_same (Redo edits) draws same_copied sources = λ i. option_map_or (λ change. change.after) (same_latest i) (same_content i)

-- where what is read of a work's boxes is the same, the blocks of its selection are
pub sources_same : (w v : World) (work : Work) → HasPositions work → ((q : Pos) → list_any (λ box. holds box q) (boxes_read work) ≡ true → content_at w q ≡ content_at v q)
    → IfSome (selection_read work) (λ from. HaveSameSources from w v)
sources_same w v (Fill region mask pattern) is reads = tt
sources_same w v (Stack from count to) is reads = λ q source. reads q (ap (λ (b : Bool). b || false) (framed (Selected from) is q (and_both (is_selected from q) (holds w.area q) source).0))
sources_same w v (Move from count to) is reads = λ q source. reads q (ap (λ (b : Bool). b || false) (framed (Selected from) is q (and_both (is_selected from q) (holds w.area q) source).0))
sources_same w v (Copy from) is reads = λ q source. reads q (ap (λ (b : Bool). b || false) (framed (Selected from) is q (and_both (is_selected from q) (holds w.area q) source).0))
sources_same w v (Cut from) is reads = λ q source. reads q (ap (λ (b : Bool). b || false) (framed (Selected from) is q (and_both (is_selected from q) (holds w.area q) source).0))
sources_same w v (Paste place skip_air) is reads = tt
sources_same w v (Put at state) is reads = tt
sources_same w v (Undo edits) is reads = tt
sources_same w v (Redo edits) is reads = tt
