use Rattle.std.proofs.Common.{ℕ, ◌+◌, ◌*◌, ◌++◌, List, sym, ◌∙◌, ap}
use Rattle.std.specs.List.{range_with_len}
use Rattle.region_shapes.proofs.ChunkLemmas.{chunk_rows_more}
use Rattle.region_shapes.proofs.chunk_index.chunk_rows.Goals as goal

pub loop-row-preserved : goal.loop-row-preserved
loop-row-preserved c =
    let x = c.args.x.now in
    let z = c.args.z.now in
    let row = c.loop-row.row in
    c.in_ok-push_run.ensures
    ∙ ap (λ (ns : List ℕ). ns ++ range_with_len (x.first + row * x.whole) x.count) c.loop-row.invariant
    ∙ sym (chunk_rows_more x.first x.count x.whole z.first row c.loop-row.auto.row)
