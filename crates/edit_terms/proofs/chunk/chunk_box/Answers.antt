use Rattle.std.proofs.Common.{ℕ, ℤ, true, false, ◌≡◌, ◌∙◌, ap}
use Rattle.edit_terms.specs.declared.pos.Pos.{Pos}
use Rattle.edit_terms.specs.Area.{is_world_box}
use Rattle.edit_terms.specs.Chunk.{first_in_column, count_in_column}
use Rattle.edit_terms.proofs.ChunkLemmas.{parts_make_box}
use Rattle.edit_terms.proofs.chunk.chunk_box.Goals as goal

-- the count along x of an equal corner and width
sized : {a b : Pos} {w v : ℕ} (x : ℤ) → a ≡ b → w ≡ v → count_in_column a.x w x ≡ count_in_column b.x v x
sized x e f = λ i. count_in_column (e i).x (f i) x

sized_z : {a b : Pos} {w v : ℕ} (z : ℤ) → a ≡ b → w ≡ v → count_in_column a.z w z ≡ count_in_column b.z v z
sized_z z e f = λ i. count_in_column (e i).z (f i) z

pub unreachable-requires : goal.unreachable-requires
unreachable-requires c =
    let a = c.args.area.now in
    let p = c.args.p.now in
    let least = c.least-least.ensures in
    let box : is_world_box (record { least = c.corner-corner.result; width = c.count_x-width.result; height = c.height.result; length = c.count_z-length.result }) ≡ true = parts_make_box a p c.corner-corner.result c.count_x-width.result c.height.result c.count_z-length.result c.well_formed-2.ensures c.requires
    (c.corner-corner.ensures.x ∙ ap (λ (q : Pos). first_in_column q.x p.x) least)
    (c.corner-corner.ensures.y ∙ ap (λ (q : Pos). q.y) least)
    (c.corner-corner.ensures.z ∙ ap (λ (q : Pos). first_in_column q.z p.z) least)
    (c.count_x-width.ensures.value ∙ sized p.x least c.width.ensures)
    c.height.ensures
    (c.count_z-length.ensures.value ∙ sized_z p.z least c.length.ensures) in
    let refused : is_world_box (record { least = c.corner-corner.result; width = c.count_x-width.result; height = c.height.result; length = c.count_z-length.result }) ≡ false = c.in-None.ensures in
    cc
