-- Proposals become changes of cells.
use Rattle.std.specs.Prelude.{◌≡◌, ℕ, ◌<◌, List, length, map, get_or, All}
use Rattle.edit_terms.specs.World.{BlockContent}
use Rattle.run_terms.specs.Change.{Change}
use Rattle.plain_terms.specs.Shown.{content_shown}
use Rattle.world_canvas.specs.declared.cell_change.CellChange.{CellChange}
use Rattle.world_canvas.specs.declared.proposals.NumberedProposal.{NumberedProposal}
use Rattle.world_canvas.specs.Changes.{AreChangesNamed, changes_shown}
use Rattle.world_canvas.specs.Proposals.{Proposal}

-- the change of a place from the number that it has to the one that a proposal's content has
abbrev pub cell_change : List ℕ → List ℕ → NumberedProposal → CellChange
cell_change cells numbers p = record { index = p.index; before = get_or cells p.index 0; after = get_or numbers p.number 0 }

-- the change of a place from the content that it has to the proposed one
abbrev pub proposed_change : (ℕ → BlockContent) → Proposal → Change
proposed_change from p = record { index = p.index; before = from p.index; after = p.content }

-- these are the changes that the proposals make of what the numbers show
pub record AreProposed (kinds new_kinds : List BlockContent) (cells : List ℕ) (ps : List Proposal) (recorded : List CellChange) : Type 0 where
  pub changes : changes_shown new_kinds recorded ≡ map (proposed_change (content_shown kinds cells)) ps
  pub named : AreChangesNamed new_kinds recorded
  pub within : All (λ (c : CellChange). c.index < length cells) recorded
