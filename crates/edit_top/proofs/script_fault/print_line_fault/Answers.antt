use Rattle.edit_top.proofs.script_fault.print_line_fault.Goals as goal

pub returns-in-ExtraWord : goal.returns-in-ExtraWord
returns-in-ExtraWord g c = rw c.in-ExtraWord.is c.print_line-in-ExtraWord.ensures

pub returns-in-BadNumber : goal.returns-in-BadNumber
returns-in-BadNumber g c = rw c.in-BadNumber.is c.print_line-in-BadNumber.ensures

pub returns-in-OutOfLimit : goal.returns-in-OutOfLimit
returns-in-OutOfLimit g c = rw c.in-OutOfLimit.is c.print_line-in-OutOfLimit.ensures
