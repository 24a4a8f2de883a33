use Rattle.std.proofs.Common.{◌∙◌, List, ap, sym, subst}
use Rattle.edit_terms.specs.declared.script.Script.{Script}
use Rattle.edit_terms.specs.World.{World}
use Rattle.run_terms.specs.Limits.{IsWithinLimits}
use Rattle.world_gen.specs.Drill.{drill_world}
use Rattle.world_gen.proofs.LimitLemmas.{drill_within}
use Rattle.world_gen.proofs.workload.drill_case.Goals as goal

pub returns-clause-case : goal.returns-clause-case
returns-clause-case c =
    ap (λ (w : World). record { opening = w; scripts = c.from_vec.result; seed = c.args.number; depth = 15 }) c.in_ok-drill_grid.ensures
    ∙ ap (λ (ss : List Script). record { opening = drill_world; scripts = ss; seed = c.args.number; depth = 15 }) (c.from_vec.ensures ∙ c.in_ok-scripts.ensures)

pub returns-clause-within : goal.returns-clause-within
returns-clause-within c = subst IsWithinLimits (sym (returns-clause-case c)) (drill_within c.args.number)
