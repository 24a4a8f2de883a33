-- What is to stand in a world, by the places of the list of its blocks.
use Rattle.std.specs.Prelude.{ℕ, ◌<◌, if◌then◌else◌, List, map, get_or, length, All, Option, Some, None}
use Rattle.std.specs.List.{range_with_len, filter_map}
use Rattle.edit_terms.specs.Area.{volume}
use Rattle.edit_terms.specs.Same.{same_content}
use Rattle.edit_terms.specs.World.{BlockContent, World, air_content}
use Rattle.run_terms.specs.Change.{content_of}
use Rattle.world_canvas.specs.declared.proposals.NumberedProposal.{NumberedProposal}

-- a content that is to stand at a place of the list of a world's blocks
pub record Proposal : Type 0 where
  pub index : ℕ
  pub content : BlockContent

-- the proposal for a place, where its content is to become another
abbrev pub proposal_at : (ℕ → BlockContent) → World → ℕ → Option Proposal
proposal_at to w index =
    if same_content (content_of w index) (to index) then None
    else Some (record { index = index; content = to index })

-- the proposals, in index order, that make a world hold these contents
abbrev pub proposals_for : (ℕ → BlockContent) → World → List Proposal
proposals_for to w = filter_map (proposal_at to w) (range_with_len 0 (volume w.area))

-- a kept proposal has its content by number
abbrev pub proposal_shown : List BlockContent → NumberedProposal → Proposal
proposal_shown kinds p = record { index = p.index; content = get_or kinds p.number air_content }

abbrev pub proposals_shown : List BlockContent → List NumberedProposal → List Proposal
proposals_shown kinds ps = map (proposal_shown kinds) ps

-- each number names a content
abbrev pub AreNamed : List BlockContent → List NumberedProposal → Type 0
AreNamed kinds ps = All (λ p. p.number < length kinds) ps
