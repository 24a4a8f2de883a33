use Rattle.std.proofs.Common.{◌*◌, ◌-◌, drop, arith}
use Rattle.std.proofs.lemmas.List.{length-take}
use Rattle.chunk_sections.proofs.Digits.{digits_room}
use Rattle.chunk_sections.proofs.packing.word_of.Goals as goal

pub number_of-requires-clause-room : goal.number_of-requires-clause-room
number_of-requires-clause-room c =
    digits_room c.args.base c.args.per c.requires.some c.requires.room _
    (omega (arith, length-take (c.min-end.result - c.args.k * c.args.per) (drop (c.args.k * c.args.per) c.args.numbers.now)))
