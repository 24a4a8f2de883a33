use Rattle.std.proofs.Common.{◌+◌, ◌*◌, ◌||◌, ◌&&◌, Bool, false, get_or, sym, ap, ◌∙◌}
use Rattle.std.specs.Prelude.{nat_le, nat_lt}
use Rattle.command_plan.specs.Rectangles.{covers}
use Rattle.command_plan.proofs.MarkLemmas.{or_again, row_more}
use Rattle.command_plan.proofs.marks.mark_rectangle.Goals as goal

pub loop-row-preserved : goal.loop-row-preserved
loop-row-preserved c = λ k.
    let wide = c.args.grid.now.columns in
    let r = c.args.r.now in
    let row = c.loop-row.row in
    let old = get_or c.args.marks.now k false in
    let run = nat_le (r.x.from + row * wide) k && nat_lt k (r.x.to + row * wide) in
    let before = covers wide (record { x = r.x; z = record { from = r.z.from; to = row } }) k in
    c.mark_run.ensures k
    ∙ ap (λ (b : Bool). b || run) (c.loop-row.invariant k)
    ∙ or_again old before run
    ∙ ap (λ (b : Bool). old || b) (sym (row_more wide r.x r.z.from row k c.requires.grid.wide c.requires.inside.x c.loop-row.auto.row))
