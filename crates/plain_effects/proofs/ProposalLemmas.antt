-- What a job proposes at one place, and at all places of the box.
use Rattle.std.proofs.Common.{◌≡◌, ℕ, zero, suc, ◌+◌, ◌<◌, ◌≤◌, Bool, true, false, cond, List, [], ◌∷◌, ◌++◌, length, take, get_or, Some, None, refl, sym, ap, ◌∙◌, subst, arith}
use Rattle.std.specs.Prelude.{Option, All, IfSome}
use Rattle.std.specs.List.{range_with_len, filter, filter_map, cons_option}
use Rattle.std.specs.Option.{unwrap_or}
use Rattle.std.proofs.lemmas.List.{append-nil, take_more}
use Rattle.std.proofs.lemmas.List.Elements.{All-filter, filter_map-append}
use Rattle.std.proofs.lemmas.List.FromFn.{length-range_with_len, get_or-range_with_len}
use Rattle.edit_terms.specs.declared.step.Work.{Work}
use Rattle.edit_terms.specs.declared.step.Work.TheVariants.{Fill, Stack, Move, Copy, Cut, Paste, Put, Undo, Redo}
use Rattle.edit_terms.specs.Area.{Area, volume, position_of}
use Rattle.edit_terms.specs.Same.{same_content, content_decides}
use Rattle.edit_terms.specs.World.{BlockContent, World}
use Rattle.run_terms.specs.Change.{Change, content_of}
use Rattle.run_terms.specs.Effect.{effect_of, effect_at}
use Rattle.run_terms.proofs.Lists.{All-filter_map-range}
use Rattle.world_canvas.specs.Proposals.{Proposal, proposal_at, proposals_for}
use Rattle.region_shapes.specs.declared.extent.Extent.{Extent}
use Rattle.region_shapes.specs.Extents.{is_in_extent}
use Rattle.plain_effects.specs.declared.section.Section.{Section}
use Rattle.plain_effects.specs.Sections.{is_in_section, HasExtent, StaysOutside}
use Rattle.plain_effects.specs.Jobs.{PlainJob, task_with, own_task, is_of_itself, IsOfItself}

-- ---- one place

not_proposed : (to : ℕ → BlockContent) (w : World) (index : ℕ) → content_of w index ≡ to index → proposal_at to w index ≡ None
not_proposed to w index stays =
    ap (λ (b : Bool). cond b None (Some (record { index = index; content = to index }))) ((content_decides (content_of w index) (to index)).1 stays)

-- appending what is proposed there
appended : (to : ℕ → BlockContent) (w : World) (index : ℕ) (o : Option Proposal) (before : List Proposal) → proposal_at to w index ≡ o → before ++ cons_option o [] ≡ before ++ filter_map (proposal_at to w) (index ∷ [])
appended to w index o before is = ap (λ (p : Option Proposal). before ++ cons_option p []) (sym is)

-- a job with nothing new for a place
pub content_stays : (to : ℕ → BlockContent) (w : World) (index : ℕ) (before : List Proposal) → unwrap_or None (content_of w index) ≡ to index
    → before ≡ before ++ filter_map (proposal_at to w) (index ∷ [])
content_stays to w index before stays = sym (append-nil before) ∙ appended to w index None before (not_proposed to w index stays)

-- one with what stands there
pub same_content_proposed : (to : ℕ → BlockContent) (w : World) (index : ℕ) (content : BlockContent) (before : List Proposal) → unwrap_or (Some content) (content_of w index) ≡ to index
    → same_content (content_of w index) content ≡ true → before ≡ before ++ filter_map (proposal_at to w) (index ∷ [])
same_content_proposed to w index content before new same =
    sym (append-nil before) ∙ appended to w index None before (ap (λ (b : Bool). cond b None (Some (record { index = index; content = to index }))) (ap (same_content (content_of w index)) (sym new) ∙ same))

-- one with another content
pub other_content_proposed : (to : ℕ → BlockContent) (w : World) (index : ℕ) (content : BlockContent) (before after : List Proposal) → unwrap_or (Some content) (content_of w index) ≡ to index
    → same_content (content_of w index) content ≡ false → after ≡ before ++ record { index = index; content = content } ∷ [] → after ≡ before ++ filter_map (proposal_at to w) (index ∷ [])
other_content_proposed to w index content before after new other is =
    is
    ∙ ap (λ (c : BlockContent). before ++ record { index = index; content = c } ∷ []) new
    ∙ appended to w index (Some (record { index = index; content = to index })) before
    (ap (λ (b : Bool). cond b None (Some (record { index = index; content = to index }))) (ap (same_content (content_of w index)) (sym new) ∙ other))

-- ---- all places

filtered : (test : ℕ → Bool) (f : ℕ → Option Proposal) (a n end : ℕ) → a + n ≤ end → ((k : ℕ) → k < end → test k ≡ false → f k ≡ None)
    → filter_map f (filter test (range_with_len a n)) ≡ filter_map f (range_with_len a n)
filtered test f a zero end within gives = refl
filtered test f a (suc n) end within gives = by_test (test a) refl (filtered test f (a + 1) n end (omega (arith, within)) gives)
  where
    by_test : (b : Bool) → test a ≡ b → filter_map f (filter test (range_with_len (a + 1) n)) ≡ filter_map f (range_with_len (a + 1) n)
        → filter_map f (cond b (a ∷ filter test (range_with_len (a + 1) n)) (filter test (range_with_len (a + 1) n))) ≡ cons_option (f a) (filter_map f (range_with_len (a + 1) n))
    by_test true h rest = ap (cons_option (f a)) rest
    by_test false h rest = rest ∙ sym (ap (λ (o : Option Proposal). cons_option o (filter_map f (range_with_len (a + 1) n))) (gives a (omega (arith, within)) h))

-- the places that are visited are enough, where nothing changes at the others
pub visited_places : (test : ℕ → Bool) (to : ℕ → BlockContent) (w : World) → ((index : ℕ) → index < volume w.area → test index ≡ false → to index ≡ content_of w index)
    → filter_map (proposal_at to w) (filter test (range_with_len 0 (volume w.area))) ≡ proposals_for to w
visited_places test to w stays = filtered test (proposal_at to w) 0 (volume w.area) (volume w.area) (omega arith) (λ k below out. not_proposed to w k (sym (stays k below out)))

none_given : (f : ℕ → Option Proposal) (a n end : ℕ) → a + n ≤ end → ((k : ℕ) → k < end → f k ≡ None) → filter_map f (range_with_len a n) ≡ []
none_given f a zero end within gives = refl
none_given f a (suc n) end within gives = rw (gives a (omega (arith, within))) (none_given f (a + 1) n end (omega (arith, within)) gives)

-- nothing is proposed where nothing changes
pub nothing_changes : (to : ℕ → BlockContent) (w : World) → ((index : ℕ) → index < volume w.area → to index ≡ content_of w index) → [] ≡ proposals_for to w
nothing_changes to w stays = sym (none_given (proposal_at to w) 0 (volume w.area) (volume w.area) (omega arith) (λ k below. not_proposed to w k (sym (stays k below))))

-- each proposal is for a place of the box
pub within_box : (to : ℕ → BlockContent) (w : World) → All (λ (p : Proposal). p.index < volume w.area) (proposals_for to w)
within_box to w = All-filter_map-range (λ (p : Proposal). p.index < volume w.area) (proposal_at to w) 0 (volume w.area) (volume w.area) (omega arith) (λ k below. if_proposed (same_content (content_of w k) (to k)) k below)
  where
    if_proposed : (b : Bool) (k : ℕ) → k < volume w.area → IfSome (cond b None (Some (record { index = k; content = to k }))) (λ (p : Proposal). p.index < volume w.area)
    if_proposed true k below = tt
    if_proposed false k below = below

pub proposed_within : (to : ℕ → BlockContent) (w : World) (ps : List Proposal) → ps ≡ proposals_for to w → All (λ (p : Proposal). p.index < volume w.area) ps
proposed_within to w ps is = subst (λ (qs : List Proposal). All (λ (p : Proposal). p.index < volume w.area) qs) (sym is) (within_box to w)

-- ---- what is taken doesn't matter

same_effect : (work : Work) (job : PlainJob) (taken : List (List Change)) (w : World) (index : ℕ) → is_of_itself work ≡ true → effect_of work (own_task job) w index ≡ effect_of work (task_with job taken) w index
same_effect (Fill region mask pattern) job taken w index is = refl
same_effect (Stack from count to) job taken w index is = refl
same_effect (Move from count to) job taken w index is = refl
same_effect (Copy from) job taken w index is = refl
same_effect (Cut from) job taken w index is = refl
same_effect (Paste place skip_air) job taken w index is = refl
same_effect (Put at state) job taken w index is = refl
same_effect (Undo edits) job taken w index is = absurd cc
same_effect (Redo edits) job taken w index is = absurd cc

pub whatever_is_taken : (job : PlainJob) (w : World) (ps : List Proposal) → IsOfItself job.spec.work → ps ≡ proposals_for (effect_at (own_task job) w) w
    → (taken : List (List Change)) → ps ≡ proposals_for (effect_at (task_with job taken) w) w
whatever_is_taken job w ps of_itself is taken =
    let same : effect_at (own_task job) w ≡ effect_at (task_with job taken) w = λ i index. same_effect job.spec.work job taken w index of_itself i in
    is ∙ ap (λ (to : ℕ → BlockContent). proposals_for to w) same

-- ---- the places that are visited

-- one place more
pub listed_more : (f : ℕ → Option Proposal) (places : List ℕ) (i d : ℕ) (before after : List Proposal) → i < length places → before ≡ filter_map f (take i places)
    → after ≡ before ++ filter_map f (get_or places i d ∷ []) → after ≡ filter_map f (take (i + 1) places)
listed_more f places i d before after within is new =
    new
    ∙ ap (λ (ps : List Proposal). ps ++ filter_map f (get_or places i d ∷ [])) is
    ∙ sym (filter_map-append f (take i places) (get_or places i d ∷ []))
    ∙ ap (filter_map f) (sym (take_more places i d within))

all_below : (n : ℕ) → All (λ (k : ℕ). k < n) (range_with_len 0 n)
all_below n i d inside =
    let below : i < n = subst (λ (m : ℕ). i < m) (length-range_with_len 0 n) inside in
    omega (arith, below, get_or-range_with_len 0 n i d below)

-- they are places of the box
pub places_within : (a : Area) (s : Section) (w : World) (places : List ℕ) → a ≡ w.area → places ≡ filter (is_in_section a s) (range_with_len 0 (volume a)) → All (λ (index : ℕ). index < volume w.area) places
places_within a s w places same is =
    subst (λ (b : Area). All (λ (index : ℕ). index < volume b) places) same
    (subst (λ (ns : List ℕ). All (λ (index : ℕ). index < volume a) ns) (sym is) (All-filter (is_in_section a s) (λ (index : ℕ). index < volume a) (range_with_len 0 (volume a)) (all_below (volume a))))

-- and enough, where the section has the extent outside which nothing changes
pub all_visited : (a : Area) (s : Section) (e : Extent) (to : ℕ → BlockContent) (w : World) (places : List ℕ) → a ≡ w.area → HasExtent a s e → StaysOutside (Some e) to w
    → places ≡ filter (is_in_section a s) (range_with_len 0 (volume a)) → filter_map (proposal_at to w) places ≡ proposals_for to w
all_visited a s e to w places same has stays is =
    let here : HasExtent w.area s e = subst (λ (b : Area). HasExtent b s e) same has in
    ap (filter_map (proposal_at to w)) (is ∙ ap (λ (b : Area). filter (is_in_section b s) (range_with_len 0 (volume b))) same)
    ∙ visited_places (is_in_section w.area s) to w (λ index below out. stays index below (outside (is_in_extent e (position_of w.area index)) (is_in_section w.area s index) (here index below) out))
  where
    outside : (inside test : Bool) → (inside ≡ true → test ≡ true) → test ≡ false → inside ≡ false
    outside true test has_it out = sym (has_it refl) ∙ out
    outside false test has_it out = refl
