use Rattle.std.proofs.Common.{sym, ap, ◌∙◌}
use Rattle.edit_terms.specs.StateText.{with_properties}
use Rattle.block_state.proofs.SortingLemmas.{with_properties-append}
use Rattle.block_state.proofs.sorting.with_properties.Goals as goal

pub loop-pair-preserved : goal.loop-pair-preserved
loop-pair-preserved c = ap (λ all. with_properties all c.pop.new.self.items) c.in_ok-put_property.ensures ∙ sym (with_properties-append c.loop-pair.all.items c.pop.new.self.items c.in-Some.pair) ∙ sym (ap (with_properties c.loop-pair.all.items) c.in-Some.ensures.items) ∙ c.loop-pair.invariant
