use Rattle.std.proofs.Common.{◌≡◌, ℕ, ◌<◌, ◌||◌, Bool, eqb, false, List, length, get_or, take, sym, subst, ap, ◌∙◌, arith}
use Rattle.std.specs.Prelude.{All}
use Rattle.std.specs.List.{list_any}
use Rattle.std.proofs.lemmas.List.Folds.{list_any_more}
use Rattle.edit_terms.specs.declared.step.Step.{Step}
use Rattle.run_terms.specs.Fold.{edits_taken_by}
use Rattle.command_plan.specs.ResolvedScripts.{edits_at, is_taken}
use Rattle.command_plan.proofs.MarkLemmas.{or_again}
use Rattle.command_plan.proofs.WriteLemmas.{edits_read}
use Rattle.command_plan.proofs.planned.keep_all.Goals as goal

pub keep_edits-requires : goal.keep_edits-requires
keep_edits-requires c = λ k d below.
    let steps = c.args.steps.now in
    let i = c.loop-step.step-index in
    let within : i < length steps = omega arith in
    let own : c.edits_of.result.now ≡ edits_at steps i = c.edits_of.ensures ∙ edits_read steps i c.step-item.result within c.step-item.is in
    let all : All (λ e. e < i) c.edits_of.result.now = subst (λ (es : List ℕ). All (λ e. e < i) es) (sym own) (c.requires.earlier i within) in
    omega (arith, all k d below, within, c.loop-step.auto.keeps, c.requires.many)

pub loop-step-preserved : goal.loop-step-preserved
loop-step-preserved c = λ k.
    let steps = c.args.steps.now in
    let i = c.loop-step.step-index in
    let step = c.step-item.result in
    let within : i < length steps = omega arith in
    let old = get_or c.args.keeps.now k false in
    let takes = λ (s : Step). list_any (λ e. eqb e k) (edits_taken_by s) in
    c.keep_edits.ensures k
    ∙ ap (λ (es : List ℕ). get_or c.loop-step.keeps k false || list_any (λ e. eqb e k) es) c.edits_of.ensures
    ∙ ap (λ (b : Bool). b || takes step) (c.loop-step.invariant k)
    ∙ or_again old (is_taken (take i steps) k) (takes step)
    ∙ ap (λ (s : Step). old || (is_taken (take i steps) k || takes s)) c.step-item.is
    ∙ ap (λ (b : Bool). old || b) (sym (list_any_more takes steps i step within))
