use Rattle.std.proofs.Common.{◌≡◌, ◌<◌, ◌∙◌, length, sym, subst, ap, arith}
use Rattle.std.specs.Prelude.{sum_by}
use Rattle.std.specs.List.{range_with_len}
use Rattle.run_terms.specs.Access.{accesses_of_player}
use Rattle.run_terms.specs.Workload.{workload_of}
use Rattle.run_terms.proofs.LimitLemmas.{few_lines}
use Rattle.command_plan.specs.declared.resolved_script.ResolvedScript.{ResolvedScript}
use Rattle.command_plan.specs.declared.rectangle.ChunkGrid.{ChunkGrid}
use Rattle.command_plan.specs.ResolvedScripts.{IsSound, jobs_at}
use Rattle.command_plan.specs.Players.{IsResolvedScript}
use Rattle.command_plan.proofs.PlanLemmas.{script_sound, script_count, script_jobs}
use Rattle.command_plan.proofs.WriteLemmas.{sum_more}
use Rattle.command_plan.proofs.players.sum_of_accesses.Goals as goal

pub script_accesses-sum-requires-clause-sound : goal.script_accesses-sum-requires-clause-sound
script_accesses-sum-requires-clause-sound c =
    let case = workload_of c.args.case.now in
    let k = c.loop-script.script-index in
    let script = c.script-item.result in
    let many = c.requires.scripts.many in
    let known : k < length case.scripts = omega arith in
    let is : IsResolvedScript case k script = subst (λ (d : ResolvedScript). IsResolvedScript case k d) (sym c.script-item.is) (c.requires.scripts.each k script known) in
    subst (λ (f : ChunkGrid). IsSound f script.steps.items script.footprints.items) (sym c.requires.grid) (script_sound case k script is)

pub script_accesses-sum-requires-clause-few : goal.script_accesses-sum-requires-clause-few
script_accesses-sum-requires-clause-few c =
    let case = workload_of c.args.case.now in
    let k = c.loop-script.script-index in
    let script = c.script-item.result in
    let many = c.requires.scripts.many in
    let known : k < length case.scripts = omega arith in
    let is : IsResolvedScript case k script = subst (λ (d : ResolvedScript). IsResolvedScript case k d) (sym c.script-item.is) (c.requires.scripts.each k script known) in
    omega (arith, script_count case k script is, few_lines case.scripts c.requires.limits.each k)

pub loop-script-preserved : goal.loop-script-preserved
loop-script-preserved c =
    let case = workload_of c.args.case.now in
    let k = c.loop-script.script-index in
    let script = c.script-item.result in
    let many = c.requires.scripts.many in
    let known : k < length case.scripts = omega arith in
    let is : IsResolvedScript case k script = subst (λ (d : ResolvedScript). IsResolvedScript case k d) (sym c.script-item.is) (c.requires.scripts.each k script known) in
    let here : c.script_accesses-sum.result ≡ accesses_of_player case k =
    c.script_accesses-sum.ensures.value ∙ ap (λ (f : ChunkGrid). sum_by (jobs_at f script.steps.items script.footprints.items) (range_with_len 0 (length script.steps.items))) c.requires.grid ∙ script_jobs case k script is in
    let more = sum_more (accesses_of_player case) k in
    let before = c.loop-script.invariant.sum_is in
    let few = c.loop-script.invariant.small in
    let small = c.script_accesses-sum.ensures.small in
    record { sum_is = omega (arith, more, before, here); small = omega (arith, few, small) }
