use Rattle.block_state.proofs.WritingLemmas.{written_behind}
use Rattle.block_state.proofs.writing.put_properties.Goals as goal

pub returns : goal.returns
returns c = rw c.in-Some.ensures.cases.0 (written_behind _ _ _ _ _ _ _ c.in_ok-push.ensures.items c.in_ok-put_property.ensures c.in_ok-put_further.ensures c.in_ok-push-2.ensures.items)
