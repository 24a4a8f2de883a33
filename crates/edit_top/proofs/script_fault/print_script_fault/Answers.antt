use Rattle.edit_top.proofs.script_fault.print_script_fault.Goals as goal

pub returns-in-BadPlayer : goal.returns-in-BadPlayer
returns-in-BadPlayer g c = rw c.in-BadPlayer.is c.print_words-in-BadPlayer.ensures

pub returns-in-TooManyLines : goal.returns-in-TooManyLines
returns-in-TooManyLines g c = rw c.in-TooManyLines.is c.print_words-in-TooManyLines.ensures
