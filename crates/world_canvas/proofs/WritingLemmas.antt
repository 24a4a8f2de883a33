-- Proposals that are written down are the changes to the world that they propose.
use Rattle.std.proofs.Common.{◌≡◌, ℕ, zero, suc, ◌+◌, ◌<◌, ◌≤◌, eqb, Bool, true, false, cond, List, [], ◌∷◌, length, map, get_or, Option, Some, None, refl, sym, ap, ◌∙◌, subst, arith}
use Rattle.std.specs.Prelude.{All, option_map}
use Rattle.std.specs.List.{range_with_len, filter_map, cons_option, find}
use Rattle.std.specs.Option.{option_map_or}
use Rattle.std.proofs.lemmas.List.{length-map, get_or-map}
use Rattle.std.proofs.lemmas.List.Elements.{All-head, All-tail, All-map}
use Rattle.std.proofs.lemmas.List.FromFn.{get_or-map-range_with_len}
use Rattle.edit_terms.specs.Area.{Area, volume}
use Rattle.edit_terms.specs.Same.{same_content, content_decides}
use Rattle.edit_terms.specs.World.{BlockContent, World, air_content}
use Rattle.run_terms.specs.Change.{Change, content_of, change_at, changes_between}
use Rattle.run_terms.proofs.ChangeLemmas.{find-changes_between}
use Rattle.run_terms.proofs.Lists.{map-range_agrees}
use Rattle.plain_terms.specs.Shown.{IsNumbered, content_shown, world_shown}
use Rattle.world_canvas.specs.declared.cell_change.CellChange.{CellChange}
use Rattle.world_canvas.specs.declared.proposals.NumberedProposal.{NumberedProposal}
use Rattle.world_canvas.specs.declared.restoring.Side.TheVariants.{After}
use Rattle.world_canvas.specs.Canvas.{IsGrown}
use Rattle.world_canvas.specs.Changes.{IsChangeNamed, IsRewritten, change_shown, changes_shown}
use Rattle.world_canvas.specs.Numbering.{AreNumbersOf}
use Rattle.world_canvas.specs.Proposals.{Proposal, AreNamed, proposal_at, proposals_for, proposal_shown, proposals_shown}
use Rattle.world_canvas.specs.Writing.{cell_change, proposed_change, AreProposed}
use Rattle.world_canvas.proofs.GrowthLemmas.{grown_content, grown_length}
use Rattle.world_canvas.proofs.Differences.{content_of-shown}
use Rattle.world_canvas.specs.Restoring.{number_written}
use Rattle.world_canvas.proofs.Finding.{content_written}

-- the world with these contents
abbrev world_to : (ℕ → BlockContent) → World → World
world_to to w = record w { contents = map to (range_with_len 0 (volume w.area)) }

content_of-world_to : (to : ℕ → BlockContent) (w : World) (i : ℕ) → i < volume w.area → content_of (world_to to w) i ≡ to i
content_of-world_to to w i within = get_or-map-range_with_len to 0 (volume w.area) i i air_content within (omega arith)

proposed_at : (to : ℕ → BlockContent) (w : World) (k : ℕ) → k < volume w.area → option_map (proposed_change (content_of w)) (proposal_at to w k) ≡ change_at w (world_to to w) k
proposed_at to w k within =
    by_test (same_content (content_of w k) (to k))
    ∙ ap (λ (c : BlockContent). cond (same_content (content_of w k) c) None (Some (record { index = k; before = content_of w k; after = c }))) (sym (content_of-world_to to w k within))
  where
    by_test : (b : Bool) → option_map (proposed_change (content_of w)) (cond b None (Some (record { index = k; content = to k }))) ≡ cond b None (Some (record { index = k; before = content_of w k; after = to k }))
    by_test true = refl
    by_test false = refl

-- the proposals for some contents are the changes to them
proposed_range : (to : ℕ → BlockContent) (w : World) (a n : ℕ) → a + n ≤ volume w.area → map (proposed_change (content_of w)) (filter_map (proposal_at to w) (range_with_len a n)) ≡ filter_map (change_at w (world_to to w)) (range_with_len a n)
proposed_range to w a zero fits = refl
proposed_range to w a (suc n) fits =
    by_first (proposal_at to w a)
    ∙ ap (λ (o : Option Change). cons_option o (map (proposed_change (content_of w)) (filter_map (proposal_at to w) (range_with_len (a + 1) n)))) (proposed_at to w a (omega (arith, fits)))
    ∙ ap (λ (cs : List Change). cons_option (change_at w (world_to to w) a) cs) (proposed_range to w (a + 1) n (omega (arith, fits)))
  where
    by_first : (o : Option Proposal) → map (proposed_change (content_of w)) (cons_option o (filter_map (proposal_at to w) (range_with_len (a + 1) n))) ≡ cons_option (option_map (proposed_change (content_of w)) o) (map (proposed_change (content_of w)) (filter_map (proposal_at to w) (range_with_len (a + 1) n)))
    by_first None = refl
    by_first (Some p) = refl

-- a content that becomes another one is that one afterwards
after_change : (to : ℕ → BlockContent) (w : World) (i : ℕ) → i < volume w.area → option_map_or (λ (change : Change). change.after) (change_at w (world_to to w) i) (content_of w i) ≡ to i
after_change to w i within =
    ap (λ (c : BlockContent). option_map_or (λ (change : Change). change.after) (cond (same_content (content_of w i) c) None (Some (record { index = i; before = content_of w i; after = c }))) (content_of w i)) (content_of-world_to to w i within)
    ∙ by_test (same_content (content_of w i) (to i)) refl
  where
    by_test : (b : Bool) → same_content (content_of w i) (to i) ≡ b → option_map_or (λ (change : Change). change.after) (cond b None (Some (record { index = i; before = content_of w i; after = to i }))) (content_of w i) ≡ to i
    by_test true e = (content_decides (content_of w i) (to i)).0 e
    by_test false e = refl

-- kept proposals are of the places that they show
pub kept_within : (n : ℕ) (contents : List BlockContent) (ps : List NumberedProposal) → All (λ (p : Proposal). p.index < n) (proposals_shown contents ps) → All (λ (p : NumberedProposal). p.index < n) ps
kept_within n contents ps within = λ k d inside.
    subst (λ (m : ℕ). m < n) (ap (λ (p : Proposal). p.index) (get_or-map (proposal_shown contents) ps k d (proposal_shown contents d) inside))
    (within k (proposal_shown contents d) (omega (arith, inside, length-map ps (proposal_shown contents))))

module _ (kinds new_kinds : List BlockContent) (cells numbers : List ℕ) (contents : List BlockContent) (grown : IsGrown kinds new_kinds) (numbered : All (λ n. n < length kinds) cells) (names : AreNumbersOf new_kinds contents numbers) where
  -- a proposal's cell change shows the change that it proposes
  change_proposed : (p : NumberedProposal) → p.index < length cells → p.number < length contents → change_shown new_kinds (cell_change cells numbers p) ≡ proposed_change (content_shown kinds cells) (proposal_shown contents p)
  change_proposed p within named =
      let before : get_or new_kinds (get_or cells p.index 0) air_content ≡ content_shown kinds cells p.index = grown_content kinds new_kinds grown (get_or cells p.index 0) (numbered p.index 0 within) in
      let after : get_or new_kinds (get_or numbers p.number 0) air_content ≡ get_or contents p.number air_content = (names.each p.number (omega (arith, named, names.long))).is in
      λ i. record { index = p.index; before = before i; after = after i }

  changes_proposed : (ps : List NumberedProposal) → All (λ (p : NumberedProposal). p.index < length cells) ps → AreNamed contents ps → changes_shown new_kinds (map (cell_change cells numbers) ps) ≡ map (proposed_change (content_shown kinds cells)) (proposals_shown contents ps)
  changes_proposed [] within named = refl
  changes_proposed (p ∷ ps) within named =
      let one = change_proposed p (All-head (λ (q : NumberedProposal). q.index < length cells) p ps within) (All-head (λ (q : NumberedProposal). q.number < length contents) p ps named) in
      let rest = changes_proposed ps (All-tail (λ (q : NumberedProposal). q.index < length cells) p ps within) (All-tail (λ (q : NumberedProposal). q.number < length contents) p ps named) in
      λ i. one i ∷ rest i

  change_named : (p : NumberedProposal) → p.index < length cells → p.number < length contents → IsChangeNamed new_kinds (cell_change cells numbers p)
  change_named p within named =
      let more = grown_length kinds new_kinds grown in
      record { before = omega (arith, more, numbered p.index 0 within); after = (names.each p.number (omega (arith, named, names.long))).within }

  -- the cell changes of kept proposals are the changes that they propose
  pub changes_made : (ps : List NumberedProposal) → All (λ (p : NumberedProposal). p.index < length cells) ps → AreNamed contents ps → AreProposed kinds new_kinds cells (proposals_shown contents ps) (map (cell_change cells numbers) ps)
  changes_made ps within named = record {
    changes = changes_proposed ps within named;
    named = All-map (λ c. IsChangeNamed new_kinds c) (cell_change cells numbers) ps (λ k d inside. change_named (get_or ps k d) (within k d inside) (named k d inside));
    within = All-map (λ (c : CellChange). c.index < length cells) (cell_change cells numbers) ps within;
  }

-- what the proposals make of the content that a place has, seen from the world
agrees_in_world : (area : Area) (kinds : List BlockContent) (cells : List ℕ) (to : ℕ → BlockContent) (a n : ℕ) → a + n ≤ volume area
    → map (proposed_change (content_shown kinds cells)) (filter_map (proposal_at to (world_shown area kinds cells)) (range_with_len a n)) ≡ map (proposed_change (content_of (world_shown area kinds cells))) (filter_map (proposal_at to (world_shown area kinds cells)) (range_with_len a n))
agrees_in_world area kinds cells to a zero fits = refl
agrees_in_world area kinds cells to a (suc n) fits =
    by_test (same_content (content_of (world_shown area kinds cells) a) (to a)) (agrees_in_world area kinds cells to (a + 1) n (omega (arith, fits)))
  where
    by_test : (b : Bool) → map (proposed_change (content_shown kinds cells)) (filter_map (proposal_at to (world_shown area kinds cells)) (range_with_len (a + 1) n)) ≡ map (proposed_change (content_of (world_shown area kinds cells))) (filter_map (proposal_at to (world_shown area kinds cells)) (range_with_len (a + 1) n))
        → map (proposed_change (content_shown kinds cells)) (cons_option (cond b None (Some (record { index = a; content = to a }))) (filter_map (proposal_at to (world_shown area kinds cells)) (range_with_len (a + 1) n)))
        ≡ map (proposed_change (content_of (world_shown area kinds cells))) (cons_option (cond b None (Some (record { index = a; content = to a }))) (filter_map (proposal_at to (world_shown area kinds cells)) (range_with_len (a + 1) n)))
    by_test true rest = rest
    by_test false rest =
        let own : content_shown kinds cells a ≡ content_of (world_shown area kinds cells) a = sym (content_of-shown area kinds cells a (omega (arith, fits))) in
        λ i. record { index = a; before = own i; after = to a } ∷ rest i

-- the canvas on which the proposals are written
pub written_down : (area : Area) (kinds new_kinds : List BlockContent) (cells new : List ℕ) (ps : List Proposal) (recorded : List CellChange) (to : ℕ → BlockContent) → IsGrown kinds new_kinds → IsNumbered area kinds cells
    → AreProposed kinds new_kinds cells ps recorded → ((i : ℕ) → i < length cells → get_or new i 0 ≡ number_written After recorded cells i) → ps ≡ proposals_for to (world_shown area kinds cells)
    → IsRewritten to (record { area = area; kinds = kinds; cells = cells }) (record { area = area; kinds = new_kinds; cells = new }) recorded
written_down area kinds new_kinds cells new ps recorded to grown numbered proposed written proposes =
    let w = world_shown area kinds cells in
    let changes : changes_shown new_kinds recorded ≡ changes_between w (world_to to w) =
    proposed.changes ∙ ap (map (proposed_change (content_shown kinds cells))) proposes ∙ agrees_in_world area kinds cells to 0 (volume area) (omega arith) ∙ proposed_range to w 0 (volume area) (omega arith) in
    let content : (i : ℕ) → i < volume area → content_shown new_kinds new i ≡ to i = λ i inside.
    let own : content_shown new_kinds cells i ≡ content_of w i = grown_content kinds new_kinds grown (get_or cells i 0) (numbered.within i 0 (omega (arith, inside, numbered.whole))) ∙ sym (content_of-shown area kinds cells i inside) in
    ap (λ (n : ℕ). get_or new_kinds n air_content) (written i (omega (arith, inside, numbered.whole)))
    ∙ content_written After new_kinds recorded cells i
    ∙ ap (λ (cs : List Change). option_map_or (λ (change : Change). change.after) (find (λ change. eqb change.index i) cs) (content_shown new_kinds cells i)) changes
    ∙ ap (λ (o : Option Change). option_map_or (λ (change : Change). change.after) o (content_shown new_kinds cells i)) (find-changes_between w (world_to to w) i inside)
    ∙ ap (λ (c : BlockContent). option_map_or (λ (change : Change). change.after) (change_at w (world_to to w) i) c) own
    ∙ after_change to w i inside in
    let world : world_shown area new_kinds new ≡ world_to to w =
    ap (λ (cs : List BlockContent). record { area = area; contents = cs }) (map-range_agrees (content_shown new_kinds new) to 0 (volume area) (volume area) (omega arith) content) in
    record {
      area = refl;
      grown = grown;
      world = world;
      changes = changes ∙ ap (changes_between w) (sym world);
      named = proposed.named;
      within = λ k d inside. omega (arith, proposed.within k d inside, numbered.whole);
    }
