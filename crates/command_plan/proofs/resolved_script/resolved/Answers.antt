use Rattle.std.proofs.Common.{◌≡◌, ℕ, ◌<◌, length, true, sym, subst, arith}
use Rattle.edit_terms.specs.declared.script.Line.{Line}
use Rattle.edit_terms.specs.declared.step.Step.{Step}
use Rattle.run_terms.specs.Limits.{is_command_within}
use Rattle.run_terms.specs.SessionLimits.{IsStepWithin}
use Rattle.run_terms.proofs.SessionLimitLemmas.{step_within}
use Rattle.command_plan.specs.ResolvedScripts.{IsResolved}
use Rattle.command_plan.proofs.ResolvedScriptLemmas.{took, taken_more}
use Rattle.command_plan.proofs.resolved_script.resolved.Goals as goal

pub next-requires : goal.next-requires
next-requires c =
    let k = c.loop-line.line-index in
    let lines = c.args.lines.now in
    let within : k < length lines = omega arith in
    omega (arith, within, took c.args.player c.args.depth lines k c.loop-line.session (omega (arith, within)) c.loop-line.invariant.session_is, c.requires.few)

pub footprint_of-requires : goal.footprint_of-requires
footprint_of-requires c =
    let k = c.loop-line.line-index in
    let lines = c.args.lines.now in
    let line = c.line-item.result in
    let within : k < length lines = omega arith in
    let limits : is_command_within line.command ≡ true = subst (λ (l : Line). is_command_within l.command ≡ true) (sym c.line-item.is) (c.requires.within k line within) in
    subst (λ (s : Step). IsStepWithin s) (sym c.in_ok-step.ensures.step) (step_within c.loop-line.session c.loop-line.invariant.within line.command limits)

pub loop-line-preserved : goal.loop-line-preserved
loop-line-preserved c =
    let k = c.loop-line.line-index in
    let lines = c.args.lines.now in
    let line = c.line-item.result in
    let within : k < length lines = omega arith in
    let limits : is_command_within line.command ≡ true = subst (λ (l : Line). is_command_within l.command ≡ true) (sym c.line-item.is) (c.requires.within k line within) in
    taken_more c.args.area.now c.args.player c.args.depth lines k line c.loop-line.session _ c.in_ok-step.step c.footprint_of.result _ _ _ _ within c.line-item.is limits c.loop-line.invariant
    c.in_ok-step.ensures.step c.in_ok-step.ensures.after c.footprint_of.ensures c.in_ok-push-2.ensures.items c.in_ok-push.ensures.items

pub returns : goal.returns
returns c =
    let all : c.loop-line.line-index ≡ length c.args.lines.now = omega arith in
    subst (λ (n : ℕ). IsResolved c.args.area.now c.args.player c.args.depth c.args.lines.now n c.loop-line.steps.items c.loop-line.footprints.items) all c.loop-line.invariant.resolved
