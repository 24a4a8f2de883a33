use Rattle.std.proofs.Common.{◌≡◌, Some, sym, ap, ◌∙◌, subst}
use Rattle.std.specs.Prelude.{option_map}
use Rattle.edit_terms.specs.declared.pos.Pos.{Pos}
use Rattle.edit_terms.specs.Area.{Area}
use Rattle.edit_terms.specs.Clipboard.{clip_box_of}
use Rattle.clipboard_transform.specs.Bounds.{corners}
use Rattle.plain_terms.proofs.TileLemmas.{some_tile, bounds_are_box}
use Rattle.plain_terms.proofs.clipboard.Clipboard.tile.Goals as goal

pub tile_in-requires : goal.tile_in-requires
tile_in-requires c =
    let clip = c.args.self.now.clip.now in
    let some : option_map corners (clip_box_of clip c.area.result.now) ≡ Some c.in-Some.bounds = sym c.clip_box.ensures ∙ c.in-Some.is in
    bounds_are_box clip c.area.result.now c.in-Some.bounds some

pub returns : goal.returns
returns c =
    let clip = c.args.self.now.clip.now in
    let some : option_map corners (clip_box_of clip c.area.result.now) ≡ Some c.in-Some.bounds = sym c.clip_box.ensures ∙ c.in-Some.is in
    let here = subst (λ (a : Area). option_map corners (clip_box_of clip a) ≡ Some c.in-Some.bounds) c.area.ensures some in
    ap (λ (q : Pos). Some q) c.tile_in.ensures ∙ sym (some_tile (clip_box_of clip c.args.self.now.blocks.now.area) c.args.p.now c.in-Some.bounds here)
