-- What a paste puts at a position.
use Rattle.std.proofs.Common.{◌≡◌, ℕ, Bool, true, false, ◌&&◌, cond, ℤ, ◌+ℤ◌, ◌-ℤ◌, refl, sym, ap, ◌∙◌, arith}
use Rattle.std.proofs.lemmas.Int.{ints}
use Rattle.std.specs.Prelude.{Option, Some, None, not}
use Rattle.std.specs.Option.{option_map_or}
use Rattle.edit_terms.specs.declared.pos.Pos.{Pos}
use Rattle.edit_terms.specs.declared.transform.Transform.{Transform}
use Rattle.edit_terms.specs.declared.clip.Clip.{Clip}
use Rattle.edit_terms.specs.Area.{Area, is_from, holds, position_of, is_world_box}
use Rattle.edit_terms.specs.StateText.{is_air}
use Rattle.edit_terms.specs.Transform.{turned_position, source_position}
use Rattle.edit_terms.specs.Clipboard.{CopiedBlocks, clipboard_of, copied_content, relative_to, placed_at}
use Rattle.edit_terms.specs.World.{BlockContent, World}
use Rattle.clipboard_transform.specs.Bounds.{IsOnMap}
use Rattle.region_shapes.specs.declared.extent.Extent.{Extent}
use Rattle.region_shapes.specs.Extents.{extent_of, is_in_extent}
use Rattle.plain_terms.specs.Copies.{reach}
use Rattle.plain_terms.proofs.CopyLemmas.{unreachable_outside, original_outside, copied_nothing}
use Rattle.run_terms.specs.Change.{content_of}
use Rattle.run_terms.specs.Effect.{Task, passes_global, pasted}

-- what is put where the global mask holds or not, the clipboard's air is skipped or not, and the clipboard has this
abbrev put_there : Bool → Bool → Option BlockContent → BlockContent → BlockContent
put_there passes skip_air copied old = option_map_or (λ (c : BlockContent). cond (passes && not (skip_air && is_air c.state)) c old) copied old

at_position : (place : Pos) (skip_air : Bool) (task : Task) (w : World) (index : ℕ) (p : Pos) → p ≡ position_of w.area index
    → pasted place skip_air task w index ≡ put_there (passes_global task w p) skip_air (task.copied.at (relative_to place p)) (content_of w index)
at_position place skip_air task w index p is = ap (λ (q : Pos). put_there (passes_global task w q) skip_air (task.copied.at (relative_to place q)) (content_of w index)) (sym is)

pub pasted_nowhere : (place : Pos) (skip_air : Bool) (task : Task) (w : World) (index : ℕ) (p : Pos) → p ≡ position_of w.area index → passes_global task w p ≡ false
    → pasted place skip_air task w index ≡ content_of w index
pasted_nowhere place skip_air task w index p is stops =
    at_position place skip_air task w index p is
    ∙ ap (λ (b : Bool). put_there b skip_air (task.copied.at (relative_to place p)) (content_of w index)) stops
    ∙ none (task.copied.at (relative_to place p))
  where
    none : (copied : Option BlockContent) → put_there false skip_air copied (content_of w index) ≡ content_of w index
    none None = refl
    none (Some c) = refl

pub pasted_nothing : (place : Pos) (skip_air : Bool) (task : Task) (w : World) (index : ℕ) (p : Pos) → p ≡ position_of w.area index → task.copied.at (relative_to place p) ≡ None
    → pasted place skip_air task w index ≡ content_of w index
pasted_nothing place skip_air task w index p is nothing =
    at_position place skip_air task w index p is
    ∙ ap (λ (o : Option BlockContent). put_there (passes_global task w p) skip_air o (content_of w index)) nothing

-- a content that the clipboard has
copied_there : (place : Pos) (skip_air : Bool) (task : Task) (w : World) (index : ℕ) (p : Pos) (c : BlockContent) → p ≡ position_of w.area index → passes_global task w p ≡ true
    → task.copied.at (relative_to place p) ≡ Some c → pasted place skip_air task w index ≡ cond (not (skip_air && is_air c.state)) c (content_of w index)
copied_there place skip_air task w index p c is passes some =
    at_position place skip_air task w index p is
    ∙ ap (λ (b : Bool). put_there b skip_air (task.copied.at (relative_to place p)) (content_of w index)) passes
    ∙ ap (λ (o : Option BlockContent). put_there true skip_air o (content_of w index)) some

pub pasted_skipped : (place : Pos) (skip_air : Bool) (task : Task) (w : World) (index : ℕ) (p : Pos) (c : BlockContent) → p ≡ position_of w.area index → passes_global task w p ≡ true
    → task.copied.at (relative_to place p) ≡ Some c → (skip_air && is_air c.state) ≡ true → pasted place skip_air task w index ≡ content_of w index
pasted_skipped place skip_air task w index p c is passes some skips =
    copied_there place skip_air task w index p c is passes some ∙ ap (λ (b : Bool). cond (not b) c (content_of w index)) skips

pub pasted_found : (place : Pos) (skip_air : Bool) (task : Task) (w : World) (index : ℕ) (p : Pos) (c : BlockContent) → p ≡ position_of w.area index → passes_global task w p ≡ true
    → task.copied.at (relative_to place p) ≡ Some c → (skip_air && is_air c.state) ≡ false → pasted place skip_air task w index ≡ c
pasted_found place skip_air task w index p c is passes some keeps =
    copied_there place skip_air task w index p c is passes some ∙ ap (λ (b : Bool). cond (not b) c (content_of w index)) keeps

-- a position is in reach of a place where it lies among those around it
around : (place low : ℤ) (size : ℕ) (v : ℤ) → is_from (place +ℤ low) size v ≡ is_from low size (v -ℤ place)
around place low size v = grind (arith, ints)

held_around : (place : Pos) (a : Area) (p : Pos) → holds (record a { least = placed_at place a.least }) p ≡ holds a (relative_to place p)
held_around place a p = rw (around place.x a.least.x a.width p.x, around place.y a.least.y a.height p.y, around place.z a.least.z a.length p.z) refl

pub in_reach : (place p : Pos) (near : Extent) (b : Bool) → near ≡ extent_of (record reach { least = placed_at place reach.least }) → b ≡ is_in_extent near p → b ≡ holds reach (relative_to place p)
in_reach place p near b is test = test ∙ ap (λ (e : Extent). is_in_extent e p) is ∙ held_around place reach p

-- a clipboard has nothing at a relative position that no two positions of the map have
pub nothing_out_of_reach : (clip : Clip) (w : World) (r : Pos) → is_world_box w.area ≡ true → IsOnMap clip.origin → ((t : Transform) (s : Pos) → turned_position t (source_position t s) ≡ s)
    → holds reach r ≡ false → (clipboard_of clip w).at r ≡ None
nothing_out_of_reach clip w r fits from undone far = copied_nothing clip w r (original_outside clip w r (unreachable_outside clip w.area r fits from undone far))

-- what a clipboard has there is the content that it copied
pub had_there : (clip : Clip) (w : World) (copied : CopiedBlocks) (r q : Pos) (found : Option BlockContent) → copied ≡ clipboard_of clip w → r ≡ q → found ≡ copied.at r → found ≡ copied_content clip w q
had_there clip w copied r q found is same at = at ∙ ap (λ (blocks : CopiedBlocks). blocks.at r) is ∙ ap (copied_content clip w) same
