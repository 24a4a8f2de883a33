use Rattle.std.proofs.Common.{◌≡◌, ℕ, ◌+◌, ◌++◌, ◌<◌, Bool, false, List, [], ◌∷◌, length, get_or, sym, ap, ◌∙◌, append_assoc, arith}
use Rattle.std.specs.Vec.Iter.{into_iter_items}
use Rattle.std.proofs.Math.Seq.{get_or-append_seam}
use Rattle.std.proofs.lemmas.List.{length-append}
use Rattle.std.proofs.lemmas.List.FromFn.{map-range_with_len_more}
use Rattle.edit_terms.specs.declared.step.Step.{Step}
use Rattle.edit_terms.specs.declared.step.Step.TheVariants.{Settled}
use Rattle.command_plan.specs.declared.planned.Planned.{Planned}
use Rattle.command_plan.specs.ResolvedScripts.{step_at}
use Rattle.command_plan.specs.PlannedScripts.{planned_at, planned_with}
use Rattle.command_plan.proofs.planned.planned_steps.Goals as goal

pub loop-step-preserved : goal.loop-step-preserved
loop-step-preserved c =
    let inv = c.loop-step.invariant in
    let step = c.in-Some.step in
    let rest = into_iter_items c.next.new.self in
    let yielded = c.loop-step.yielded in
    let number = c.loop-step.number in
    let grid = c.args.grid.now in
    let fs = c.args.footprints.now in
    let keeps = c.args.keeps.now in
    let steps = c.args.steps.items in
    let each = λ (n : ℕ). planned_at grid steps fs n in
    let parts : steps ≡ yielded ++ (step ∷ rest) = sym inv.split ∙ ap (λ (ss : List Step). yielded ++ ss) c.in-Some.ensures.steps.0 in
    let at : step_at steps number ≡ step =
    ap (λ (ss : List Step). get_or ss number Settled) parts ∙ ap (λ (n : ℕ). get_or (yielded ++ step ∷ rest) n Settled) inv.number_is ∙ get_or-append_seam yielded step rest Settled in
    let more = length-append yielded (step ∷ []) in
    let before = inv.number_is in
    let long : length steps ≡ length yielded + length (step ∷ rest) = ap (λ (ss : List Step). length ss) parts ∙ length-append yielded (step ∷ rest) in
    let inside : number < length steps = omega (arith, long, before) in
    record {
      split = append_assoc yielded (step ∷ []) rest ∙ ap (λ (ss : List Step). yielded ++ ss) (sym c.in-Some.ensures.steps.0) ∙ inv.split;
      number_is = omega (arith, more, before);
      planned = c.in_ok-push.ensures.items
          ∙ ap (λ (p : Planned). c.loop-step.commands.items ++ p ∷ []) (c.in_ok-plan_command.ensures ∙ ap (λ (s : Step). planned_with grid fs number s (get_or keeps number false)) (sym at) ∙ ap (λ (b : Bool). planned_with grid fs number (step_at steps number) b) (c.requires.each number inside))
          ∙ ap (λ (ps : List Planned). ps ++ each number ∷ []) inv.planned
          ∙ sym (map-range_with_len_more each 0 number number (omega arith));
    }

pub bounds-keeps-number : goal.bounds-keeps-number
bounds-keeps-number c =
    let inv = c.loop-step.invariant in
    let parts = sym inv.split ∙ ap (λ (ss : List Step). c.loop-step.yielded ++ ss) c.in-Some.ensures.steps.0 in
    let long = ap (λ (ss : List Step). length ss) parts ∙ length-append c.loop-step.yielded (c.in-Some.step ∷ into_iter_items c.next.new.self) in
    omega (arith, long, inv.number_is, c.requires.keeps)
