use Rattle.plain_effects.proofs.SectionLemmas.{has_extent, section_within}
use Rattle.plain_effects.proofs.section.section_of.Goals as goal

pub returns-clause-whole : goal.returns-clause-whole
returns-clause-whole c =
    has_extent c.args.area.now (record { x = c.shared_offsets.result; y = c.shared_offsets-2.result; z = c.shared_offsets-3.result }) c.args.extent.now c.extent_of-own.result
    c.well_formed-2.ensures c.extent_of-own.ensures.value c.shared_offsets.ensures.whole c.shared_offsets-2.ensures.whole c.shared_offsets-3.ensures.whole

pub returns-clause-within : goal.returns-clause-within
returns-clause-within c =
    section_within c.args.area.now c.extent_of-own.result c.shared_offsets.result c.shared_offsets-2.result c.shared_offsets-3.result c.extent_of-own.ensures.value
    c.shared_offsets.ensures.within c.shared_offsets-2.ensures.within c.shared_offsets-3.ensures.within
