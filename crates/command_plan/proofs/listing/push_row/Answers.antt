use Rattle.std.proofs.Common.{◌≡◌, ℕ, ◌+◌, ◌-◌, ◌*◌, ◌<◌, ◌++◌, Bool, cond, List, [], ◌∷◌, sym, ap, ◌∙◌, append_assoc, arith}
use Rattle.std.specs.Prelude.{filter}
use Rattle.std.specs.List.{range_with_len}
use Rattle.command_plan.specs.Rectangles.{is_in_set}
use Rattle.command_plan.proofs.ListingLemmas.{filter_more}
use Rattle.command_plan.proofs.listing.push_row.Goals as goal

pub loop-column-preserved : goal.loop-column-preserved
loop-column-preserved c =
    let wide = c.args.grid.now.columns in
    let test = λ (chunk : ℕ). is_in_set wide c.args.s.now chunk in
    let column = c.loop-column.column in
    let from = c.args.columns.now.from in
    let start = from + c.args.row * wide in
    let chunk = column + c.args.row * wide in
    let low = c.loop-column.auto.column in
    let inside : column < wide = omega (arith, c.requires.run.within, c.requires.run.order) in
    let size : column - from + 1 ≡ column + 1 - from = omega (arith, low) in
    let old = c.args.chunks.now.items in
    let earlier = filter test (range_with_len start (column - from)) in
    c.in_ok-push_if.ensures
    ∙ ap (λ (ns : List ℕ). ns ++ cond c.is_in_set-over.result (chunk ∷ []) []) c.loop-column.invariant
    ∙ ap (λ (b : Bool). old ++ earlier ++ cond b (chunk ∷ []) []) (c.is_in_set-over.ensures wide inside)
    ∙ append_assoc old earlier (cond (test chunk) (chunk ∷ []) [])
    ∙ ap (λ (ns : List ℕ). old ++ ns) (sym (filter_more test start (column - from) chunk (omega (arith, low))))
    ∙ ap (λ (n : ℕ). old ++ filter test (range_with_len start n)) size
