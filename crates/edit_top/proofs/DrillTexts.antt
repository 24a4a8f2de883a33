-- The text of a drill is one, whatever the order of the run that it tells of.
use Rattle.std.proofs.Common.{◌≡◌, ℕ, ◌<◌, List, length, sym, ap, ◌∙◌, subst, arith}
use Rattle.edit_terms.specs.World.{World}
use Rattle.run_terms.specs.Order.{lines_of}
use Rattle.run_terms.specs.Reply.{final_world}
use Rattle.run_terms.specs.Workload.{Workload}
use Rattle.run_terms.proofs.Lists.{map-range_agrees}
use Rattle.access_laws.specs.OrderFree.{HaveSameResults}
use Rattle.state_counts.specs.Counts.{IsCensus}
use Rattle.state_counts.proofs.Unique.{census_is_unique}
use Rattle.world_gen.specs.Drill.{drill_workload}
use Rattle.world_gen.proofs.ApartLemmas.{drill_order_is_free}
use Rattle.edit_top.specs.DrillText.{IsDrillText, changed_by, changed_by_command, changed_in, drill_text, players_changes}
use Rattle.edit_top.specs.RunText.{name_of}
use Rattle.edit_top.proofs.DrillCounts.{sum_agrees}
use Rattle.edit_top.proofs.WholeOrders.{length_of_whole}

-- orders with the same results tell the same changes
players_agree : (case : Workload) (first second : List ℕ) → HaveSameResults case first second → players_changes case first ≡ players_changes case second
players_agree case first second same =
    map-range_agrees (λ player. (name_of case.scripts player, changed_by case first player)) (λ player. (name_of case.scripts player, changed_by case second player)) 0 (length case.scripts) (length case.scripts) (omega arith)
    (λ player below. ap (λ (n : ℕ). (name_of case.scripts player, n)) (sum_agrees (changed_by_command case first player) (changed_by_command case second player) (length (lines_of case.scripts player)) (told player)))
  where
    told : (player step : ℕ) → step < length (lines_of case.scripts player) → changed_by_command case first player step ≡ changed_by_command case second player step
    told player step within = ap changed_in (same.replies (record { player = player; step = step }) within)

pub one_text : (number : ℕ) (a b : List ℕ) → IsDrillText number a → IsDrillText number b → a ≡ b
one_text number a b first second =
    let case : Workload = drill_workload number in
    let same : HaveSameResults case first.order second.order = drill_order_is_free number first.order second.order first.whole second.whole in
    let census : first.census ≡ second.census = census_is_unique (final_world case first.order) first.census second.census first.counts (subst (λ (w : World). IsCensus w second.census) (sym same.world) second.counts) in
    let commands : length first.order ≡ length second.order = length_of_whole case.scripts first.order first.whole ∙ sym (length_of_whole case.scripts second.order second.whole) in
    first.is
    ∙ ap (λ (players : List (List ℕ × ℕ)). drill_text number players first.census (length first.order)) (players_agree case first.order second.order same)
    ∙ ap (λ (states : List (List ℕ × ℕ)). drill_text number (players_changes case second.order) states (length first.order)) census
    ∙ ap (drill_text number (players_changes case second.order) second.census) commands
    ∙ sym second.is
