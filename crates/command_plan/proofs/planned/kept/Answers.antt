use Rattle.std.proofs.Common.{◌≡◌, ◌||◌, Bool, false, List, length, get_or, sym, ap, ◌∙◌}
use Rattle.std.specs.Vec.{with_items}
use Rattle.std.proofs.lemmas.List.{with_items_is}
use Rattle.command_plan.specs.ResolvedScripts.{is_taken}
use Rattle.command_plan.proofs.KeepLemmas.{taken_later}
use Rattle.command_plan.proofs.planned.kept.Goals as goal

pub returns : goal.returns
returns c =
    let keeps = c.in_ok-keeps.keeps in
    let old : c.deref_mut.result.now ≡ keeps.items = c.deref_mut.ensures.value in
    let items : (with_items keeps c.keep_all.new.keeps).items ≡ c.keep_all.new.keeps = with_items_is keeps c.keep_all.new.keeps (c.keep_all.auto.keeps ∙ ap (λ (bs : List Bool). length bs) old ∙ sym keeps.ok.0) in
    record {
      many = ap (λ (bs : List Bool). length bs) items ∙ c.keep_all.auto.keeps ∙ ap (λ (bs : List Bool). length bs) old ∙ c.in_ok-keeps.ensures.many;
      each = λ k below. ap (λ (bs : List Bool). get_or bs k false) items ∙ c.keep_all.ensures k ∙ ap (λ (bs : List Bool). get_or bs k false || is_taken c.args.steps.now k) old
          ∙ ap (λ (b : Bool). b || is_taken c.args.steps.now k) (c.in_ok-keeps.ensures.each k)
          ∙ taken_later c.args.steps.now k c.requires below;
    }
