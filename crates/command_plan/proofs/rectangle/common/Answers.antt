use Rattle.std.proofs.Common.{◌≡◌, ◌%◌, ◌/◌, Bool, true, false, ◌&&◌, refl, ap, ◌∙◌}
use Rattle.command_plan.specs.Rectangles.{is_among}
use Rattle.command_plan.proofs.rectangle.common.Goals as goal

across : (a b c d : Bool) → ((a && b) && (c && d)) ≡ ((a && c) && (b && d))
across true true true d = refl
across true true false d = refl
across true false true d = refl
across true false false d = refl
across false b c d = refl

pub returns-clause-within : goal.returns-clause-within
returns-clause-within c = λ grid first second. record { x = c.common_run.ensures.within grid.columns first.x second.x; z = c.common_run-2.ensures.within grid.rows first.z second.z }

pub returns-clause-exact : goal.returns-clause-exact
returns-clause-exact c = λ columns chunk.
    let a = c.args.a.now in let b = c.args.b.now in
    ap (λ (t : Bool). t && is_among c.common_run-2.result (chunk / columns)) (c.common_run.ensures.exact (chunk % columns))
    ∙ ap (λ (t : Bool). (is_among a.x (chunk % columns) && is_among b.x (chunk % columns)) && t) (c.common_run-2.ensures.exact (chunk / columns))
    ∙ across (is_among a.x (chunk % columns)) (is_among b.x (chunk % columns)) (is_among a.z (chunk / columns)) (is_among b.z (chunk / columns))
