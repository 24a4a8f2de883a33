use Rattle.std.proofs.Common.{ℕ, ◌*◌, ◌++◌, List, ap, ◌∙◌}
use Rattle.std.specs.List.{range_with_len, filter}
use Rattle.plain_effects.specs.Sections.{is_in_section}
use Rattle.plain_effects.proofs.VisitLemmas.{rows_more}
use Rattle.plain_effects.proofs.visit.visited.Goals as goal

pub loop-row-preserved : goal.loop-row-preserved
loop-row-preserved c =
    let area = c.args.area.now in
    let section = c.args.section.now in
    let row = c.loop-row.row in
    c.in_ok-push_row.ensures
    ∙ ap (λ (ns : List ℕ). ns ++ filter (is_in_section area section) (range_with_len (row * area.width) area.width)) c.loop-row.invariant
    ∙ rows_more area section row
