use Rattle.edit_top.proofs.world_fault.print_world_fault.Goals as goal

pub returns-in-Compressed : goal.returns-in-Compressed
returns-in-Compressed g c = rw c.in-Compressed.is c.print_words.ensures

pub returns-in-OutOfRange : goal.returns-in-OutOfRange
returns-in-OutOfRange g c = rw c.in-OutOfRange.is c.print_words-in-OutOfRange.ensures

pub returns-in-ShortData : goal.returns-in-ShortData
returns-in-ShortData g c = rw c.in-ShortData.is c.print_counted.ensures

pub returns-in-LongData : goal.returns-in-LongData
returns-in-LongData g c = rw c.in-LongData.is c.print_counted-in-LongData.ensures

pub returns-in-BadVarint : goal.returns-in-BadVarint
returns-in-BadVarint g c = rw c.in-BadVarint.is c.print_place.ensures
