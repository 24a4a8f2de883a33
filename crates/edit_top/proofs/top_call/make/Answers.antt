use Rattle.std.proofs.Common.{◌≡◌, ◌≤◌, ◌∷◌, [], List, ℕ, true, map, ap, sym, ◌∙◌, subst}
use Rattle.edit_terms.specs.declared.script.Case.{Case}
use Rattle.edit_terms.specs.Area.{Area, is_world_box}
use Rattle.edit_terms.specs.World.{World}
use Rattle.edit_terms.proofs.AreaLemmas.{limits}
use Rattle.run_terms.specs.Workload.{Workload, workload_of}
use Rattle.run_terms.specs.Access.{accesses_of}
use Rattle.run_terms.specs.Reply.{IsOutcome}
use Rattle.command_plan.specs.Plan.{most_jobs}
use Rattle.sponge_schematic.specs.File.{schematic_bytes}
use Rattle.sponge_schematic.specs.Read.{loaded_of, IsWritable}
use Rattle.edit_top.specs.Words.{asked_view}
use Rattle.edit_top.specs.Outputs.{output_view}
use Rattle.edit_top.specs.RunText.{run_text}
use Rattle.edit_top.specs.Ends.{workload}
use Rattle.edit_top.proofs.Writable.{grid_whole, writable_after}
use Rattle.edit_top.proofs.top_call.make.Goals as goal

pub write_world-requires : goal.write_world-requires
write_world-requires c =
    let outcome = c.in_ok-outcome.outcome in
    let start : Workload = workload (asked_view c.args.words.now) (loaded_of c.args.world) c.args.scripts.items in
    let is_start : workload_of c.case_of-case.result ≡ start = ap (λ (case : Case). workload_of case) c.case_of-case.ensures in
    let ran : IsOutcome start outcome = subst (λ (w : Workload). IsOutcome w outcome) is_start c.in_ok-outcome.ensures in
    let box : is_world_box c.args.world.grid.area ≡ true = subst (λ (a : Area). is_world_box a ≡ true) c.area.ensures c.well_formed-2.ensures in
    subst (λ (w : World). IsWritable c.args.world.carried w) (sym ran.world)
    (writable_after c.args.world.carried start outcome.order (grid_whole c.args.world.grid) (limits c.args.world.grid.area box).small c.requires.few c.requires.writable)

pub returns : goal.returns
returns c =
    let outcome = c.in_ok-outcome.outcome in
    let start : Workload = workload (asked_view c.args.words.now) (loaded_of c.args.world) c.args.scripts.items in
    let is_start : workload_of c.case_of-case.result ≡ start = ap (λ (case : Case). workload_of case) c.case_of-case.ensures in
    let ran : IsOutcome start outcome = subst (λ (w : Workload). IsOutcome w outcome) is_start c.in_ok-outcome.ensures in
    let listed : c.in_ok-outputs.outputs.items ≡ record { name = c.args.words.now.names.out; bytes = c.in_ok-bytes.bytes } ∷ [] = c.in_ok-outputs.ensures.items in
    record {
      made = record {
        few = subst (λ (w : Workload). accesses_of w ≤ most_jobs) is_start c.in_ok-plan.ensures.few;
        order = outcome.order;
        legal = ran.legal;
        whole = ran.whole;
        outputs = ap (map output_view) listed
            ∙ ap (λ (bytes : List ℕ). (c.args.words.now.names.out.now, bytes) ∷ []) (c.in_ok-bytes.ensures ∙ ap (schematic_bytes c.args.world.carried) ran.world);
        text = c.in_ok-text.ensures ∙ ap (λ (w : Workload). run_text w outcome.order) is_start;
      };
      cause = tt;
    }
