use Rattle.std.proofs.Common.{arith}
use Rattle.nbt_tags.proofs.Fits.{AreBytes-from_each}
use Rattle.nbt_tags.proofs.Whole.{decoded-found, decoded-full, decoded-only}
use Rattle.nbt_tags.proofs.reading.decode.Goals as goal

pub returns-clause-found : goal.returns-clause-found
returns-clause-found c = decoded-found c.args.bytes.now c.decoded.result c.decoded.ensures

pub returns-clause-full : goal.returns-clause-full
returns-clause-full c = decoded-full c.args.bytes.now c.decoded.result (AreBytes-from_each c.args.bytes.now (λ i. omega (arith, c.type_inv.bytes i))) c.decoded.ensures

pub returns-clause-only : goal.returns-clause-only
returns-clause-only c = λ named is. decoded-only c.args.bytes.now c.decoded.result named is c.decoded.ensures
