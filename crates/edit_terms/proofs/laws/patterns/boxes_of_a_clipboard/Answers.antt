use Rattle.edit_terms.proofs.laws.patterns.boxes_of_a_clipboard.Goals as goal
use Rattle.edit_terms.proofs.ClipboardLemmas.{holds-turned, tile_held}

pub returns-clause-turned : goal.returns-clause-turned
returns-clause-turned c = holds-turned

pub returns-clause-tile : goal.returns-clause-tile
returns-clause-tile c = tile_held
