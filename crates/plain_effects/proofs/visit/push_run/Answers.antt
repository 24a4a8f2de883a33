use Rattle.std.proofs.Common.{◌≡◌, ℕ, ◌-◌, ◌++◌, List, [], ◌∷◌, sym, ◌∙◌, ap, arith}
use Rattle.std.specs.List.{range_with_len}
use Rattle.plain_effects.proofs.Ranges.{run_more}
use Rattle.plain_effects.proofs.visit.push_run.Goals as goal

pub loop-place-preserved : goal.loop-place-preserved
loop-place-preserved c =
    let k = c.loop-place.place in
    record {
      appended = c.in_ok-push.ensures.items
          ∙ ap (λ (ns : List ℕ). ns ++ k ∷ []) c.loop-place.invariant.appended
          ∙ sym (run_more c.args.places.now.items c.args.from k c.loop-place.auto.place);
      within = omega (arith, c.loop-place.auto.place);
    }

pub returns : goal.returns
returns c =
    let all : c.loop-place.place - c.args.from ≡ c.args.to - c.args.from = omega (arith, c.loop-place.invariant.within) in
    c.loop-place.invariant.appended ∙ ap (λ (n : ℕ). c.args.places.now.items ++ range_with_len c.args.from n) all
