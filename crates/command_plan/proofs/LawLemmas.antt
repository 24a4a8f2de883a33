-- What is planned for a player, from the player's script.
use Rattle.std.proofs.Common.{◌≡◌, ℕ, ◌+◌, ◌-◌, eqb, List, ◌∷◌, length, map, refl, sym, ◌∙◌, ap}
use Rattle.std.specs.Prelude.{flat_map}
use Rattle.std.specs.List.{list_any, range_with_len}
use Rattle.edit_terms.specs.declared.script.Line.{Line}
use Rattle.edit_terms.specs.Area.{Area}
use Rattle.run_terms.specs.Access.{boxes_read_by, boxes_written_by, chunks_of_boxes}
use Rattle.run_terms.specs.Fold.{edits_taken_by}
use Rattle.run_terms.specs.Order.{lines_of}
use Rattle.run_terms.specs.Session.{step_of_line}
use Rattle.run_terms.specs.Workload.{Workload}
use Rattle.command_plan.specs.declared.planned.Planned.{Planned}
use Rattle.command_plan.specs.Plan.{planned_by, DependsOnTheScript}

abbrev planned_from : Area → ℕ → List Line → ℕ → List Planned
planned_from area depth lines player =
    map (λ n. record {
      step = step_of_line player depth lines n;
      reads = chunks_of_boxes area (boxes_read_by (step_of_line player depth lines n));
      writes = chunks_of_boxes area (flat_map (λ m. boxes_written_by area (step_of_line player depth lines m)) (n ∷ edits_taken_by (step_of_line player depth lines n)));
      keeps = list_any (λ m. list_any (λ edit. eqb edit n) (edits_taken_by (step_of_line player depth lines m))) (range_with_len (n + 1) (length lines - (n + 1)));
    }) (range_with_len 0 (length lines))

from_script : (case : Workload) (player : ℕ) → planned_by case player ≡ planned_from case.opening.area case.depth (lines_of case.scripts player) player
from_script case player = refl

pub depends_on_the_script : (a b : Workload) (player : ℕ) → DependsOnTheScript a b player
depends_on_the_script a b player area depth lines =
    from_script a player
    ∙ ap (λ (x : Area). planned_from x a.depth (lines_of a.scripts player) player) area
    ∙ ap (λ (d : ℕ). planned_from b.opening.area d (lines_of a.scripts player) player) depth
    ∙ ap (λ (ls : List Line). planned_from b.opening.area b.depth ls player) lines
    ∙ sym (from_script b player)
