use Rattle.std.proofs.Common.{◌≡◌, true, false, ap}
use Rattle.edit_terms.specs.Area.{Area, holds}
use Rattle.edit_terms.specs.Chunk.{chunk_box}
use Rattle.edit_terms.proofs.ChunkLemmas.{part_held}
use Rattle.change_set.proofs.read.rest_of.Goals as goal

pub unreachable-requires : goal.unreachable-requires
unreachable-requires c =
    let held : holds (chunk_box c.args.area.now c.args.first.now) c.args.first.now ≡ true = part_held c.args.area.now c.args.first.now c.requires.held in
    let out = c.in_default.ensures in
    let outside : holds c.chunk_box-part.result c.args.first.now ≡ false = out.index in
    let same = ap (λ (part : Area). holds part c.args.first.now) c.chunk_box-part.ensures.part in
    cc (held, outside, same)
