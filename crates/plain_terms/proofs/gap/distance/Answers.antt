use Rattle.std.proofs.Common.{pos, ap, ◌∙◌, arith}
use Rattle.edit_terms.proofs.RegionLemmas.{squares}
use Rattle.plain_terms.specs.Places.{pos_of}
use Rattle.plain_terms.proofs.gap.distance.Goals as goal

pub returns-clause-value : goal.returns-clause-value
returns-clause-value c =
    squares c.args.a.now (pos_of c.args.b.now)
    ∙ ap pos (omega (arith, c.squared_x.ensures.value, c.squared_y.ensures.value, c.squared_z.ensures.value))
