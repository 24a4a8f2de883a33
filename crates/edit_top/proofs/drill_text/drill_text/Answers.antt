use Rattle.std.proofs.Common.{◌≤◌, ℕ, List, length, map, get_or, ap, sym, ◌∙◌, subst}
use Rattle.std.specs.List.{range_with_len}
use Rattle.run_terms.specs.Order.{turns_of}
use Rattle.run_terms.specs.Workload.{workload_of}
use Rattle.state_counts.specs.Counts.{listed}
use Rattle.edit_top.specs.RunText.{name_of}
use Rattle.edit_top.specs.DrillText.{drill_text}
use Rattle.edit_top.proofs.DrillCounts.{drill_printed, replies_count}
use Rattle.edit_top.proofs.drill_text.drill_text.Goals as goal

pub changed_by_players-requires-clause-replied : goal.changed_by_players-requires-clause-replied
changed_by_players-requires-clause-replied c = ap length c.as_slice.ensures ∙ replies_count (workload_of c.args.case.now) c.args.outcome.now c.requires.outcome ∙ ap length (sym c.as_slice-order.ensures)

pub changed_by_players-requires-clause-few : goal.changed_by_players-requires-clause-few
changed_by_players-requires-clause-few c = subst (λ (order : List ℕ). (player : ℕ) → turns_of player order ≤ 10000) (sym c.as_slice-order.ensures) c.requires.few

pub returns : goal.returns
returns c =
    let scripts = c.as_slice-scripts.result.now in
    let census = listed c.in_ok-counts.counts in
    let commands = length c.as_slice-order.result.now in
    drill_printed c.args.number (workload_of c.args.case.now) c.args.outcome.now scripts c.as_slice-order.result.now c.as_slice.result.now c.in_ok-changed.changed.items census c.in_ok-text.text.items
    c.requires.case c.requires.outcome c.as_slice-scripts.ensures c.as_slice-order.ensures c.as_slice.ensures c.in_ok-counts.ensures c.in_ok-changed.ensures.changed
    (c.in_ok-text.ensures ∙ ap (λ (changed : List ℕ). drill_text c.args.number (map (λ player. (name_of scripts player, get_or changed player 0)) (range_with_len 0 (length scripts))) census commands) c.deref.ensures.value)
