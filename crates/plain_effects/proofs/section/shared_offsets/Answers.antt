use Rattle.std.proofs.Common.{rules}
use Rattle.plain_effects.proofs.SectionLemmas.{shared_in_span}
use Rattle.plain_effects.proofs.section.shared_offsets.Goals as goal

pub returns-clause-whole : goal.returns-clause-whole
returns-clause-whole c = shared_in_span c.args.interval.now c.args.own.now c.common-shared.result _ _ c.common-shared.ensures.value (search rules) (search rules)
