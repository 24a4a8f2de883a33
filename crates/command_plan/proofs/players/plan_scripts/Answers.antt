use Rattle.std.proofs.Common.{◌≡◌, ℕ, ◌+◌, ◌∙◌, ◌++◌, List, [], ◌∷◌, length, map, sym, subst, ap, append_assoc, arith}
use Rattle.std.specs.List.{range_with_len}
use Rattle.std.specs.Vec.Iter.{into_iter_items}
use Rattle.std.proofs.lemmas.List.{length-append, map-append}
use Rattle.std.proofs.lemmas.List.FromFn.{map-range_with_len_more}
use Rattle.run_terms.specs.Workload.{workload_of}
use Rattle.run_terms.proofs.LimitLemmas.{few_lines}
use Rattle.command_plan.specs.declared.resolved_script.ResolvedScript.{ResolvedScript}
use Rattle.command_plan.specs.declared.planned.Planned.{Planned}
use Rattle.command_plan.specs.declared.rectangle.ChunkGrid.{ChunkGrid}
use Rattle.command_plan.specs.ResolvedScripts.{IsSound}
use Rattle.command_plan.specs.Plan.{planned_by}
use Rattle.command_plan.specs.PlannedScripts.{planned_at}
use Rattle.command_plan.proofs.PlanLemmas.{script_sound, script_count, script_planned, script_known}
use Rattle.command_plan.proofs.players.plan_scripts.Goals as goal

pub planned_script-requires-clause-sound : goal.planned_script-requires-clause-sound
planned_script-requires-clause-sound c =
    let case = workload_of c.args.case.now in
    let script = c.in-Some.script in
    let parts = sym c.loop-script.invariant.split ∙ ap (λ (cs : List ResolvedScript). c.loop-script.yielded ++ cs) c.in-Some.ensures.steps.0 in
    let known = script_known case (length case.scripts) c.args.scripts.items c.loop-script.yielded script (into_iter_items c.next.new.self) c.requires.scripts parts in
    subst (λ (f : ChunkGrid). IsSound f script.steps.items script.footprints.items) (sym c.requires.grid) (script_sound case (length c.loop-script.yielded) script known.is)

pub planned_script-requires-clause-few : goal.planned_script-requires-clause-few
planned_script-requires-clause-few c =
    let case = workload_of c.args.case.now in
    let script = c.in-Some.script in
    let parts = sym c.loop-script.invariant.split ∙ ap (λ (cs : List ResolvedScript). c.loop-script.yielded ++ cs) c.in-Some.ensures.steps.0 in
    let known = script_known case (length case.scripts) c.args.scripts.items c.loop-script.yielded script (into_iter_items c.next.new.self) c.requires.scripts parts in
    omega (arith, script_count case (length c.loop-script.yielded) script known.is, few_lines case.scripts c.requires.limits.each (length c.loop-script.yielded))

pub loop-script-preserved : goal.loop-script-preserved
loop-script-preserved c =
    let case = workload_of c.args.case.now in
    let script = c.in-Some.script in
    let yielded = c.loop-script.yielded in
    let rest = into_iter_items c.next.new.self in
    let k = length yielded in
    let parts = sym c.loop-script.invariant.split ∙ ap (λ (cs : List ResolvedScript). yielded ++ cs) c.in-Some.ensures.steps.0 in
    let known = script_known case (length case.scripts) c.args.scripts.items yielded script rest c.requires.scripts parts in
    let more : length (yielded ++ script ∷ []) ≡ k + 1 = length-append yielded (script ∷ []) in
    let own : c.in_ok-planned_script.field-0.items ≡ planned_by case k =
    c.in_ok-planned_script.ensures ∙ ap (λ (f : ChunkGrid). map (planned_at f script.steps.items script.footprints.items) (range_with_len 0 (length script.steps.items))) c.requires.grid ∙ script_planned case k script known.is in
    record {
      split = append_assoc yielded (script ∷ []) rest ∙ ap (λ (cs : List ResolvedScript). yielded ++ cs) (sym c.in-Some.ensures.steps.0) ∙ c.loop-script.invariant.split;
      planned = ap (map (λ commands. commands.items)) c.in_ok-push.ensures.items
          ∙ map-append (λ commands. commands.items) c.loop-script.players.items (c.in_ok-planned_script.field-0 ∷ [])
          ∙ ap (λ (ps : List (List Planned)). ps ++ c.in_ok-planned_script.field-0.items ∷ []) c.loop-script.invariant.planned
          ∙ ap (λ (p : List Planned). map (planned_by case) (range_with_len 0 k) ++ p ∷ []) own
          ∙ sym (map-range_with_len_more (planned_by case) 0 k k (omega arith))
          ∙ ap (λ (n : ℕ). map (planned_by case) (range_with_len 0 n)) (sym more);
    }
