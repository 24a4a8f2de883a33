use Rattle.std.proofs.Common.{ℕ, ◌++◌, List, [], ◌∷◌, sym, ◌∙◌, ap}
use Rattle.region_shapes.proofs.RunLemmas.{range_more}
use Rattle.region_shapes.proofs.chunk_index.push_run.Goals as goal

pub loop-index-preserved : goal.loop-index-preserved
loop-index-preserved c =
    let i = c.loop-index.index in
    c.in_ok-push.ensures.items
    ∙ ap (λ (ns : List ℕ). ns ++ i ∷ []) c.loop-index.invariant
    ∙ sym (range_more c.args.chunks.now.items c.args.first i c.loop-index.auto.index)
