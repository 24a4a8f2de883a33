use Rattle.std.proofs.Common.{◌≡◌, true, false}
use Rattle.edit_terms.specs.Area.{holds}
use Rattle.edit_terms.specs.Chunk.{chunk_box}
use Rattle.edit_terms.proofs.ChunkLemmas.{part_held}
use Rattle.change_set.proofs.grow.follows.Goals as goal

pub returns-in_default : goal.returns-in_default
returns-in_default c =
    let held : holds (chunk_box c.args.area.now c.args.first.now) c.args.first.now ≡ true = part_held c.args.area.now c.args.first.now c.requires.held in
    let out = c.in_default.ensures in
    let outside : holds c.chunk_box-part.result c.args.first.now ≡ false = out.index in
    absurd (cc (held, outside))
