use Rattle.std.proofs.Common.{ap, sym, ◌∙◌}
use Rattle.edit_terms.specs.StateText.{listed_before_end}
use Rattle.block_state.proofs.ListingLemmas.{text_behind_closing}
use Rattle.block_state.proofs.listing.before_closing.Goals as goal

pub returns-else-is_empty : goal.returns-else-is_empty
returns-else-is_empty c = ap listed_before_end c.in_ok-inside.ensures.cases ∙ text_behind_closing c.in_ok-inside.inside.now c.in_ok-inside.after.now (sym c.is_empty.ensures ∙ c.if-is_empty.false)
