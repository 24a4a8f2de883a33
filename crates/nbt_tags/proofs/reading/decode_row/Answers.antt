use Rattle.std.proofs.Common.{arith}
use Rattle.nbt_tags.proofs.Fits.{AreBytes-from_each}
use Rattle.nbt_tags.proofs.Whole.{decoded_row-found, decoded_row-full, decoded_row-only}
use Rattle.nbt_tags.proofs.reading.decode_row.Goals as goal

pub returns-clause-found : goal.returns-clause-found
returns-clause-found c = decoded_row-found c.args.depth c.args.bytes.now c.decoded_row.result c.decoded_row.ensures

pub returns-clause-full : goal.returns-clause-full
returns-clause-full c = decoded_row-full c.args.depth c.args.bytes.now c.decoded_row.result (AreBytes-from_each c.args.bytes.now (λ i. omega (arith, c.type_inv.bytes i))) c.decoded_row.ensures

pub returns-clause-only : goal.returns-clause-only
returns-clause-only c = λ row is. decoded_row-only c.args.depth c.args.bytes.now c.decoded_row.result row is c.decoded_row.ensures
