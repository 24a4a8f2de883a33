use Rattle.std.proofs.Common.{ℕ, ◌++◌, false, cond, List, [], ◌∷◌, get_or, sym, ap, ◌∙◌, arith}
use Rattle.command_plan.proofs.ListingLemmas.{filter_more}
use Rattle.command_plan.proofs.marks.marked_chunks.Goals as goal

pub loop-chunk-preserved : goal.loop-chunk-preserved
loop-chunk-preserved c =
    let marks = c.args.marks.now in
    let k = c.loop-chunk.chunk in
    c.in_ok-push_if.ensures
    ∙ ap (λ (ns : List ℕ). ns ++ cond (get_or marks k false) (k ∷ []) []) c.loop-chunk.invariant
    ∙ sym (filter_more (λ j. get_or marks j false) 0 k k (omega arith))
