use Rattle.std.proofs.Common.{◌≡◌, ℕ, ◌+◌, ◌-◌, ◌*◌, ◌++◌, List, sym, ap, ◌∙◌, arith}
use Rattle.std.specs.Prelude.{filter}
use Rattle.std.specs.List.{range_with_len}
use Rattle.command_plan.specs.Rectangles.{is_in_set}
use Rattle.command_plan.proofs.ListingLemmas.{set_bounded, rows_start, next_row, rows_end}
use Rattle.command_plan.proofs.listing.listed_chunks.Goals as goal

pub loop-row-init : goal.loop-row-init
loop-row-init c =
    let grid = c.args.grid.now in let s = c.args.s.now in let whole = c.hull-whole.result in
    let inside = c.hull-whole.ensures.within grid c.requires.inside.first c.requires.inside.second in
    c.in_ok-chunks.ensures
    ∙ sym (rows_start grid whole (is_in_set grid.columns s) (set_bounded grid.columns s whole c.requires.grid.wide c.hull-whole.ensures.first c.hull-whole.ensures.second) inside)

pub push_row-requires-clause-run : goal.push_row-requires-clause-run
push_row-requires-clause-run c = (c.hull-whole.ensures.within c.args.grid.now c.requires.inside.first c.requires.inside.second).x

pub push_row-requires-clause-row : goal.push_row-requires-clause-row
push_row-requires-clause-row c =
    let inside = c.hull-whole.ensures.within c.args.grid.now c.requires.inside.first c.requires.inside.second in
    let few = inside.z.within in let order = inside.z.order in
    omega (arith, few, order)

pub loop-row-preserved : goal.loop-row-preserved
loop-row-preserved c =
    let grid = c.args.grid.now in let s = c.args.s.now in let whole = c.hull-whole.result in
    let inside = c.hull-whole.ensures.within grid c.requires.inside.first c.requires.inside.second in
    let row = c.loop-row.row in
    c.in_ok-push_row.ensures
    ∙ ap (λ (ns : List ℕ). ns ++ filter (is_in_set grid.columns s) (range_with_len (whole.x.from + row * grid.columns) (whole.x.to - whole.x.from))) c.loop-row.invariant
    ∙ sym (next_row grid whole (is_in_set grid.columns s) (set_bounded grid.columns s whole c.requires.grid.wide c.hull-whole.ensures.first c.hull-whole.ensures.second) inside row)

pub returns : goal.returns
returns c =
    let grid = c.args.grid.now in let s = c.args.s.now in let whole = c.hull-whole.result in
    let inside = c.hull-whole.ensures.within grid c.requires.inside.first c.requires.inside.second in
    let order = inside.z.order in
    let all : c.loop-row.row ≡ whole.z.to = omega (arith, order) in
    c.loop-row.invariant
    ∙ ap (λ (n : ℕ). filter (is_in_set grid.columns s) (range_with_len 0 (n * grid.columns))) all
    ∙ rows_end grid whole (is_in_set grid.columns s) (set_bounded grid.columns s whole c.requires.grid.wide c.hull-whole.ensures.first c.hull-whole.ensures.second) inside
