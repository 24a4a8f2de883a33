-- Each clause is a part of the law on lists.
use Rattle.block_palette.proofs.Numbering.{length-distinct}
use Rattle.block_palette.proofs.FirstAppearance.{IsNumbering-distinct}
use Rattle.block_palette.proofs.first_appearance.numbering_law.Goals as goal

pub returns-clause-unique : goal.returns-clause-unique
returns-clause-unique g c = (IsNumbering-distinct g.met.S.Eq.laws c.args.items.now).unique

pub returns-clause-few : goal.returns-clause-few
returns-clause-few g c = length-distinct g.S.PartialEq.eq c.args.items.now

pub returns-clause-among : goal.returns-clause-among
returns-clause-among g c = (IsNumbering-distinct g.met.S.Eq.laws c.args.items.now).among

pub returns-clause-named : goal.returns-clause-named
returns-clause-named g c = (IsNumbering-distinct g.met.S.Eq.laws c.args.items.now).named

pub returns-clause-used : goal.returns-clause-used
returns-clause-used g c = (IsNumbering-distinct g.met.S.Eq.laws c.args.items.now).used

pub returns-clause-order : goal.returns-clause-order
returns-clause-order g c = (IsNumbering-distinct g.met.S.Eq.laws c.args.items.now).order
