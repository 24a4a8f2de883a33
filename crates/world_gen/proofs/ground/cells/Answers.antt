use Rattle.std.proofs.Common.{◌≡◌, ℕ, ◌∙◌, List, ◌++◌, ◌∷◌, [], ap, sym, arith, rules}
use Rattle.std.proofs.lemmas.List.FromFn.{map-range_with_len_more}
use Rattle.edit_terms.specs.Area.{position_of}
use Rattle.world_gen.specs.Ground.{ground_number}
use Rattle.world_gen.proofs.ground.cells.Goals as goal

pub loop-index-preserved : goal.loop-index-preserved
loop-index-preserved c =
    let area = c.args.area.now in
    let k = c.loop-index.index in
    let number : c.number_at.result ≡ ground_number (position_of area k) = search rules in
    c.in_ok-push.ensures.items
    ∙ ap (λ (n : ℕ). c.loop-index.cells.items ++ n ∷ []) number
    ∙ ap (λ (ns : List ℕ). ns ++ ground_number (position_of area k) ∷ []) c.loop-index.invariant
    ∙ sym (map-range_with_len_more (λ (index : ℕ). ground_number (position_of area index)) 0 k k (omega arith))
