use Rattle.edit_terms.specs.Clipboard.{placed_at}
use Rattle.block_entities.proofs.Local.{not_held_z}
use Rattle.block_entities.proofs.entry.moved.Goals as goal

pub returns-in_default-sum-2 : goal.returns-in_default-sum-2
returns-in_default-sum-2 c = λ area box. not_held_z area (placed_at c.args.from.now c.args.by.now) c.in_default-sum-2.ensures box
