-- Proposals keep their contents while further ones are numbered.
use Rattle.std.proofs.Common.{◌≡◌, ℕ, ◌<◌, ◌≤◌, List, [], ◌∷◌, ◌++◌, length, take, get_or, refl, sym, ap, ◌∙◌, arith}
use Rattle.std.proofs.lemmas.List.{get_or-take, map-append, length-take}
use Rattle.std.proofs.lemmas.List.Elements.{All-nil, All-cons, All-head, All-tail, All-append, All-weaker}
use Rattle.std.proofs.lemmas.Option.{get_or_from_slice_get, slice_get_within}
use Rattle.block_palette.specs.Numbering.{IsNumberOf}
use Rattle.edit_terms.specs.Same.{same_content, content_decides}
use Rattle.edit_terms.specs.World.{BlockContent, air_content}
use Rattle.world_canvas.specs.declared.proposals.NumberedProposal.{NumberedProposal}
use Rattle.world_canvas.specs.Proposals.{Proposal, proposal_shown, proposals_shown, AreNamed}

module _ (old new : List BlockContent) (kept : take (length old) new ≡ old) where
  -- a number keeps its content
  pub content_stays : (n : ℕ) → n < length old → get_or new n air_content ≡ get_or old n air_content
  content_stays n within = sym (get_or-take (length old) new n air_content within) ∙ ap (λ (ks : List BlockContent). get_or ks n air_content) kept

  pub long_enough : length old ≤ length new
  long_enough = omega (arith, length-take (length old) new, ap (λ (ks : List BlockContent). length ks) kept)

  pub shown_stay : (ps : List NumberedProposal) → AreNamed old ps → proposals_shown new ps ≡ proposals_shown old ps
  shown_stay ps named = map_same ps named
    where
      map_same : (qs : List NumberedProposal) → AreNamed old qs → proposals_shown new qs ≡ proposals_shown old qs
      map_same [] all = refl
      map_same (q ∷ qs) all =
          ap (λ (c : BlockContent). record { index = q.index; content = c } ∷ proposals_shown new qs) (content_stays q.number (All-head (λ p. p.number < length old) q qs all))
          ∙ ap (λ (rest : List Proposal). proposal_shown old q ∷ rest) (map_same qs (All-tail (λ p. p.number < length old) q qs all))

  pub names_stay : (ps : List NumberedProposal) → AreNamed old ps → AreNamed new ps
  names_stay ps named = All-weaker (λ p. p.number < length old) (λ p. p.number < length new) (λ p below. omega (arith, below, long_enough)) ps named

-- the content of a number
pub content_named : (kinds : List BlockContent) (content : BlockContent) (n : ℕ) → IsNumberOf same_content kinds content n → get_or kinds n air_content ≡ content
content_named kinds content n is = get_or_from_slice_get kinds n is.entry air_content is.there ∙ sym ((content_decides content is.entry).0 is.alike)

pub number_within : (kinds : List BlockContent) (content : BlockContent) (n : ℕ) → IsNumberOf same_content kinds content n → n < length kinds
number_within kinds content n is = slice_get_within kinds n is.entry is.there

-- a proposal more is shown behind the others
pub pushed : (old new : List BlockContent) (ps : List NumberedProposal) (index n : ℕ) (content : BlockContent) → take (length old) new ≡ old → AreNamed old ps
    → IsNumberOf same_content new content n → proposals_shown new (ps ++ record { index = index; number = n } ∷ []) ≡ proposals_shown old ps ++ record { index = index; content = content } ∷ []
pushed old new ps index n content kept named is =
    map-append (proposal_shown new) ps (record { index = index; number = n } ∷ [])
    ∙ ap (λ (shown : List Proposal). shown ++ record { index = index; content = get_or new n air_content } ∷ []) (shown_stay old new kept ps named)
    ∙ ap (λ (c : BlockContent). proposals_shown old ps ++ record { index = index; content = c } ∷ []) (content_named new content n is)

-- and it is named
pub pushed_named : (old new : List BlockContent) (ps : List NumberedProposal) (index n : ℕ) (content : BlockContent) → take (length old) new ≡ old → AreNamed old ps
    → IsNumberOf same_content new content n → AreNamed new (ps ++ record { index = index; number = n } ∷ [])
pushed_named old new ps index n content kept named is =
    All-append (λ p. p.number < length new) ps (record { index = index; number = n } ∷ []) (names_stay old new kept ps named)
    (All-cons (λ (p : NumberedProposal). p.number < length new) (record { index = index; number = n }) [] (number_within new content n is) (All-nil (λ (p : NumberedProposal). p.number < length new)))
