-- Each kind of step keeps the rule from any state that meets it.
use Rattle.std.proofs.Common.{◌≡◌, ◌≢◌, ℕ, zero, suc, ◌+◌, ◌%◌, ◌^◌, ◌<◌, Bool, true, false, true≢false, List, [], ◌∷◌, ◌++◌, length, get_or, set, replicate, if◌then◌else◌, refl, sym, ap, ◌∙◌, subst, ⊎_elim, arith, length-set, get_or-set_same}
use Rattle.std.proofs.lemmas.List.{length-replicate, get_or-set_other, get_or-replicate, set-get_or}
use mathlib.Core.Logic.{dite}
use mathlib.Core.List.{IsPrefix}
use mathlib.Core.Option.{none, some, some-injective, some-ne-none}
use native.Mathlib.Decide.{ℕ_discrete}
use lib.ListN.{get_elem?}
use Rattle.atomic_table.specs.Table.{Me, step, opening, keeps, Allows, Splits, Joins}
use Rattle.atomic_table.proofs.Lists.{at_set, set_else, set_again, at_longer, at_snoc}
use Rattle.edit_terms.specs.declared.script.Case.{Case}
use Rattle.run_terms.specs.Order.{turns_of, lines_of}
use Rattle.ticket_log.specs.declared.view.View.{View}
use Rattle.ticket_log.specs.Orders.{IsLoggable, longer}
use Rattle.ticket_log.specs.Views.{view_of, after_draw, copied, joined, spent, settled}
use Rattle.ticket_log.specs.Rule.{ArePrefixes, Fits, Kept, Drew, Learned}
use Rattle.ticket_log.proofs.Prefixes.{prefix_self, prefix_trans, prefix_append, longer_is_one, prefix_longer}
use Rattle.ticket_log.proofs.LegalOrders.{turns_of-same, turns_of-other, player_there, legal_more, lines_of-within}

-- where something is in a list, something else can be put
put_at : (views : List View) (i : ℕ) (v w : View) → get_elem? views i ≡ some v → get_elem? (set views i w) i ≡ some w
put_at [] i v w at = absurd (some-ne-none v (sym at))
put_at (x ∷ xs) zero v w at = refl
put_at (x ∷ xs) (suc i) v w at = put_at xs i v w at

-- a handle that doesn't draw fits wherever what it has seen is a prefix
fits_snapshot : (order seen : List ℕ) (drawer handle : ℕ) → IsPrefix seen order → Fits order drawer handle (view_of false seen)
fits_snapshot order seen drawer handle prefix = record { draws = λ no. absurd (true≢false (sym no)); seen = prefix; older = tt }

-- where one view is changed and fits, and the others fit, all fit
fits_set : (order : List ℕ) (drawer : ℕ) (views : List View) (handle : ℕ) (w : View)
    → ((j : ℕ) (u : View) → j ≢ handle → get_elem? views j ≡ some u → Fits order drawer j u) → Fits order drawer handle w
    → (j : ℕ) (u : View) → get_elem? (set views handle w) j ≡ some u → Fits order drawer j u
fits_set order drawer views handle w others mine j u at =
    ⊎_elim
    (λ (x : (j ≡ handle) × (w ≡ u)). subst (λ (y : ℕ × View). Fits order drawer y.0 y.1) (λ i. (sym x.0 i, x.1 i)) mine)
    (λ (x : (j ≢ handle) × (get_elem? views j ≡ some u)). others j u x.0 x.1)
    (at_set views handle j w u at)

-- The table is made: the empty order, and one handle, which draws.
pub begins : (case : Case) (words : List ℕ) → words ≡ replicate (length case.scripts) 0 → Kept case (opening words [] (view_of true []))
begins case words are = record {
  order = [];
  legal = record { players = λ k d within. absurd (omega (arith, within)); within = λ player. omega arith };
  words = ap length are ∙ length-replicate (length case.scripts) 0;
  counts = λ player there. ap (λ (ws : List ℕ). get_or ws player 0) are ∙ get_or-replicate (length case.scripts) player 0 0 there;
  drawer = 0;
  draws = (view_of true [], refl, refl);
  views = one;
}
  where
    one : (handle : ℕ) (v : View) → get_elem? (view_of true [] ∷ []) handle ≡ some v → Fits [] 0 handle v
    one zero v at = subst (Fits [] 0 0) (some-injective _ _ at) record { draws = λ yes. (refl, refl); seen = prefix_self []; older = tt }
    one (suc handle) v at = absurd (some-ne-none v (sym at))

-- the drawer is still there where a view is changed that draws as before
still_draws : (views : List View) (drawer handle : ℕ) (v w : View) → get_elem? views handle ≡ some v → w.draws ≡ v.draws
    → (u : View) × (get_elem? views drawer ≡ some u) × (u.draws ≡ true) → (u : View) × (get_elem? (set views handle w) drawer ≡ some u) × (u.draws ≡ true)
still_draws views drawer handle v w at same found = dite (ℕ_discrete drawer handle)
    (λ here.
    let there : get_elem? views handle ≡ some found.0 = subst (λ (k : ℕ). get_elem? views k ≡ some found.0) here found.1 in
    let is : v ≡ found.0 = some-injective _ _ (sym at ∙ there) in
    (w, subst (λ (k : ℕ). get_elem? (set views handle w) k ≡ some w) (sym here) (put_at views handle v w at), same ∙ (ap (λ (u : View). u.draws) is ∙ found.2)))
    (λ elsewhere. (found.0, set_else views handle drawer w elsewhere ∙ found.1, found.2))

prefixes_trans : (olds : List (List ℕ)) (xs ys : List ℕ) → ArePrefixes olds xs → IsPrefix xs ys → ArePrefixes olds ys
prefixes_trans [] xs ys are p = tt
prefixes_trans (o ∷ os) xs ys are p = (prefix_trans o xs ys are.0 p, prefixes_trans os xs ys are.1 p)

prefixes_both : (olds more : List (List ℕ)) (xs : List ℕ) → ArePrefixes olds xs → ArePrefixes more xs → ArePrefixes (olds ++ more) xs
prefixes_both [] more xs are too = too
prefixes_both (o ∷ os) more xs are too = (are.0, prefixes_both os more xs are.1 too)

-- Draw: a player who has commands left is appended, and its word grows by one.
pub draws : (case : Case) (slots id : ℕ) (me : Me (Unit {0}) View) (player : ℕ) → IsLoggable case → me.0.draws ≡ true → turns_of player me.0.order < length (lines_of case.scripts player)
    → Allows (Kept case) slots id me player (λ n. (n + 1) % 2 ^ 64) (Drew (step slots player 1 0 none) me)
draws case slots id me player loggable drawing left s kept _ at _ = (w, keeps, tt, after, record { view = refl; count = kept.counts player there ∙ ap (turns_of player) (sym mine.1) })
  where
    v : View
    v = me.0

    w : View
    w = after_draw player v

    fits : Fits kept.order kept.drawer id v
    fits = kept.views id v at

    mine : (id ≡ kept.drawer) × (v.order ≡ kept.order)
    mine = fits.draws drawing

    left_here : turns_of player kept.order < length (lines_of case.scripts player)
    left_here = subst (λ (o : List ℕ). turns_of player o < length (lines_of case.scripts player)) mine.1 left

    there : player < length case.scripts
    there = player_there case.scripts player (turns_of player kept.order) left_here

    word : ℕ
    word = (get_or s.words player 0 + 1) % 2 ^ 64

    word_is : word ≡ turns_of player (kept.order ++ player ∷ [])
    word_is = omega (arith, kept.counts player there, left_here, lines_of-within case loggable player, turns_of-same player kept.order)

    counts : (q : ℕ) → q < length case.scripts → get_or (set s.words player word) q 0 ≡ turns_of q (kept.order ++ player ∷ [])
    counts q in_range = dite (ℕ_discrete q player)
        (λ same. subst (λ (p : ℕ). get_or (set s.words player word) p 0 ≡ turns_of p (kept.order ++ player ∷ [])) (sym same)
        (get_or-set_same s.words player word 0 (omega (arith, kept.words, there)) ∙ word_is))
        (λ differ. get_or-set_other s.words player q word 0 differ ∙ (kept.counts q in_range ∙ sym (turns_of-other q player kept.order (λ e. differ (sym e)))))

    others : (j : ℕ) (u : View) → j ≢ id → get_elem? s.views j ≡ some u → Fits (kept.order ++ player ∷ []) kept.drawer j u
    others j u apart e =
        let f = kept.views j u e in
        record { draws = λ yes. absurd (apart ((f.draws yes).0 ∙ sym mine.0)); seen = prefix_append u.order kept.order (player ∷ []) f.seen; older = f.older }

    fits_now : Fits (kept.order ++ player ∷ []) kept.drawer id w
    fits_now = record {
      draws = λ _. (mine.0, ap (λ o. o ++ player ∷ []) mine.1);
      seen = subst (λ (o : List ℕ). IsPrefix (o ++ player ∷ []) (kept.order ++ player ∷ [])) (sym mine.1) (prefix_self (kept.order ++ player ∷ []));
      older = prefixes_trans v.older v.order (v.order ++ player ∷ []) fits.older (player ∷ [], refl);
    }

    after : Kept case record { words = set s.words player word; homes = s.homes; views = set s.views id w }
    after = record {
      order = kept.order ++ player ∷ [];
      legal = legal_more case.scripts player kept.order kept.legal left_here;
      words = length-set s.words player word ∙ kept.words;
      counts = counts;
      drawer = kept.drawer;
      draws = still_draws s.views kept.drawer id v w at refl kept.draws;
      views = fits_set (kept.order ++ player ∷ []) kept.drawer s.views id w others fits_now;
    }

-- Load: a handle learns that its older orders are prefixes of what it has seen, and drops them.
pub loads : (case : Case) (slots id : ℕ) (me : Me (Unit {0}) View) (word : ℕ) → Allows (Kept case) slots id me word (λ n. n) (Learned (step slots word 0 0 none) me)
loads case slots id me word s kept _ at _ = (settled me.0, keeps, tt, subst P (sym (set-get_or s.words word 0)) after, record { view = refl; prefixes = fits.older })
  where
    P : List ℕ → Type 0
    P words = Kept case record { words = words; homes = s.homes; views = set s.views id (settled me.0) }

    fits : Fits kept.order kept.drawer id me.0
    fits = kept.views id me.0 at

    after : P s.words
    after = record {
      order = kept.order;
      legal = kept.legal;
      words = kept.words;
      counts = kept.counts;
      drawer = kept.drawer;
      draws = still_draws s.views kept.drawer id me.0 (settled me.0) at refl kept.draws;
      views = fits_set kept.order kept.drawer s.views id (settled me.0) (λ j u _ e. kept.views j u e) record { draws = fits.draws; seen = fits.seen; older = tt };
    }

-- Split: a further handle has seen as much, and doesn't draw.
pub splits : (case : Case) (id : ℕ) (v : View) → Splits (Kept case) id v v (copied v)
splits case id v s kept at = record {
  order = kept.order;
  legal = kept.legal;
  words = kept.words;
  counts = kept.counts;
  drawer = kept.drawer;
  draws = (drawing.0, at_longer (set s.views id v) (copied v ∷ []) kept.drawer drawing.0 drawing.1, drawing.2);
  views = λ j u e. ⊎_elim
      (λ was. kept.views j u (subst (λ l. get_elem? l j ≡ some u) (set_again s.views id v at) was))
      (λ (same : copied v ≡ u). subst (Fits kept.order kept.drawer j) same (fits_snapshot kept.order v.order kept.drawer j (kept.views id v at).seen))
      (at_snoc (set s.views id v) (copied v) u j e);
}
  where
    drawing : (u : View) × (get_elem? (set s.views id v) kept.drawer ≡ some u) × (u.draws ≡ true)
    drawing = still_draws s.views kept.drawer id v v at refl kept.draws

-- of two handles that fit one order, the one that takes the other in fits it
joined_fits : (order : List ℕ) (drawer id other : ℕ) (v w : View) → Fits order drawer id v → Fits order drawer other w → Fits order drawer id (joined v w)
joined_fits order drawer id other v w fits theirs = by_draws v.draws refl
  where
    both : List (List ℕ)
    both = v.order ∷ w.order ∷ v.older ++ w.older

    by_draws : (draws : Bool) → v.draws ≡ draws → Fits order drawer id record { order = if draws then v.order else longer v.order w.order; older = both; draws = draws }
    by_draws true is =
        let whole = (fits.draws is).1 in
        let under : IsPrefix w.order v.order = subst (IsPrefix w.order) (sym whole) theirs.seen in record {
          draws = λ _. fits.draws is;
          seen = fits.seen;
          older = (prefix_self v.order, (under, prefixes_both v.older w.older v.order fits.older (prefixes_trans w.older w.order v.order theirs.older under)));
        }
    by_draws false is =
        let under = prefix_longer v.order w.order order fits.seen theirs.seen in
        let long : List ℕ = longer v.order w.order in record {
          draws = λ no. absurd (true≢false (sym no));
          seen = longer_is_one (λ o. IsPrefix o order) v.order w.order fits.seen theirs.seen;
          older = (under.first, (under.second, prefixes_both v.older w.older long (prefixes_trans v.older v.order long fits.older under.first) (prefixes_trans w.older w.order long theirs.older under.second)));
        }

-- Join: a handle takes in what one that doesn't draw has seen, and that one is spent.
pub joins : (case : Case) (id other : ℕ) (v w : View) → w.draws ≡ false → Joins (Kept case) id v other w (joined v w) spent
joins case id other v w out s kept at apart there = record {
  order = kept.order;
  legal = kept.legal;
  words = kept.words;
  counts = kept.counts;
  drawer = kept.drawer;
  draws = still_draws (set s.views id (joined v w)) kept.drawer other w spent there (sym out) (still_draws s.views kept.drawer id v (joined v w) at refl kept.draws);
  views = fits_set kept.order kept.drawer (set s.views id (joined v w)) other spent
      (λ j u _ e. fits_set kept.order kept.drawer s.views id (joined v w) (λ i y _ e'. kept.views i y e') fits_both j u e)
      (fits_snapshot kept.order [] kept.drawer other (kept.order, refl));
}
  where
    theirs : get_elem? s.views other ≡ some w
    theirs = ⊎_elim (λ (t : (other ≡ id) × (joined v w ≡ w)). absurd (apart t.0)) (λ (t : (other ≢ id) × (get_elem? s.views other ≡ some w)). t.1) (at_set s.views id other (joined v w) w there)

    fits_both : Fits kept.order kept.drawer id (joined v w)
    fits_both = joined_fits kept.order kept.drawer id other v w (kept.views id v at) (kept.views other w theirs)
