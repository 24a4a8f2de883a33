use Rattle.edit_top.proofs.world_fault.print_nbt_fault.Goals as goal

pub returns-in-BadType : goal.returns-in-BadType
returns-in-BadType g c = rw c.in-BadType.is c.print_place-in-BadType.ensures

pub returns-in-Duplicate : goal.returns-in-Duplicate
returns-in-Duplicate g c = rw c.in-Duplicate.is c.print_place-in-Duplicate.ensures

pub returns-in-Deep : goal.returns-in-Deep
returns-in-Deep g c = rw c.in-Deep.is c.print_place-in-Deep.ensures
