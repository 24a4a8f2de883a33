use Rattle.world_gen.proofs.ApartLemmas.{drill_order_is_free}
use Rattle.world_gen.proofs.laws.drill_order_is_free.Goals as goal

pub returns : goal.returns
returns c = drill_order_is_free
