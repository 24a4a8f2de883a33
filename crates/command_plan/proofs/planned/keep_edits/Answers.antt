use Rattle.std.proofs.Common.{◌<◌, ◌||◌, Bool, eqb, false, length, get_or, take, sym, ap, ◌∙◌, arith}
use Rattle.std.specs.List.{list_any}
use Rattle.std.proofs.lemmas.List.Folds.{list_any_more}
use Rattle.command_plan.proofs.KeepLemmas.{kept_more}
use Rattle.command_plan.proofs.MarkLemmas.{or_again}
use Rattle.command_plan.proofs.planned.keep_edits.Goals as goal

pub loop-edit-preserved : goal.loop-edit-preserved
loop-edit-preserved c = λ k.
    let edits = c.args.edits.now in
    let i = c.loop-edit.edit-index in
    let edit = get_or edits i 0 in
    let within : i < length edits = omega arith in
    let keeps = c.loop-edit.keeps in
    let inside : edit < length keeps = omega (arith, c.requires i 0 within, c.loop-edit.auto.keeps) in
    let old = get_or c.args.keeps.now k false in
    let before = list_any (λ e. eqb e k) (take i edits) in
    kept_more keeps edit k inside
    ∙ ap (λ (b : Bool). b || eqb edit k) (c.loop-edit.invariant k)
    ∙ or_again old before (eqb edit k)
    ∙ ap (λ (b : Bool). old || b) (sym (list_any_more (λ e. eqb e k) edits i 0 within))
