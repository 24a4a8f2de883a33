use Rattle.block_entities.proofs.WorldEntries.{held_at, entries-step, entries-end}
use Rattle.block_entities.proofs.spreading.put_entities.Goals as goal

pub entry_of-requires : goal.entry_of-requires
entry_of-requires c = held_at c.args.area.now c.args.list.now c.loop-placed.placed-index c.placed-item.result c.requires c.loop-placed-test.true c.placed-item.is

pub loop-placed-preserved : goal.loop-placed-preserved
loop-placed-preserved c =
    entries-step c.args.area.now c.args.entries.now.items c.loop-placed.entries.items c.push.new.self.items c.args.list.now c.loop-placed.placed-index c.placed-item.result c.in_ok-entry_of.field-0
    c.loop-placed-test.true c.placed-item.is c.loop-placed.invariant c.in_ok-entry_of.ensures c.in_ok-push.ensures.items

pub returns : goal.returns
returns c = entries-end c.args.area.now c.args.entries.now.items c.loop-placed.entries.items c.args.list.now c.loop-placed.placed-index c.loop-placed-test.false c.loop-placed.invariant
