-- Rising positions, breaks and stretches of lists of changes.
use Rattle.std.proofs.Common.{◌≡◌, ℕ, zero, suc, ◌+◌, ◌<◌, ◌≤◌, Bool, true, false, ◌&&◌, cond, List, [], ◌∷◌, ◌++◌, map, length, filter, take, Some, slice_get, refl, sym, ap, ◌∙◌, subst, arith, append_assoc}
use Rattle.std.specs.Prelude.{nat_le, ◌==◌}
use Rattle.std.specs.List.{range_with_len, list_all}
use Rattle.std.specs.Cmp.Derive.{both_true}
use Rattle.std.proofs.lemmas.Bool.{leb-true, eq-eqb}
use Rattle.std.proofs.lemmas.List.{map-append, append-nil}
use Rattle.std.proofs.lemmas.List.FromFn.{length-map-range_with_len}
use Rattle.edit_terms.specs.declared.pos.Pos.{Pos}
use Rattle.edit_terms.specs.Area.{Area, holds, index_of, position_of, volume, is_world_box, IsBlockAt}
use Rattle.edit_terms.specs.World.{BlockContent}
use Rattle.edit_terms.specs.Same.{same_content, content_decides}
use Rattle.edit_terms.proofs.AreaLemmas.{and_both, block_at_place, held_below}
use Rattle.change_set.specs.declared.proposed.Proposed.{Proposed}
use Rattle.edit_terms.specs.Chunk.{chunk_box, is_next_cell}
use Rattle.change_set.specs.Changes.{positions, rises_from, rises, is_change, kept_change, goes_on, breaks_behind, breaks, goes_on_behind}
use Rattle.edit_terms.proofs.ChunkLemmas.{part_is_world_box, in_part, same_part, part_order}

-- what the test of a rising list says of its first position
pub record IsRisingFirst (a : Area) (least : ℕ) (p : Pos) (ps : List Pos) : Type 0 where
  pub held : holds a p ≡ true
  pub from : least ≤ index_of a p
  pub rest : rises_from a (index_of a p + 1) ps ≡ true

pub rising_first : (a : Area) (least : ℕ) (p : Pos) (ps : List Pos) → rises_from a least (p ∷ ps) ≡ true → IsRisingFirst a least p ps
rising_first a least p ps h =
    let two = and_both (holds a p && nat_le least (index_of a p)) (rises_from a (index_of a p + 1) ps) h in
    let first = and_both (holds a p) (nat_le least (index_of a p)) two.0 in
    record { held = first.0; from = leb-true least (index_of a p) first.1; rest = two.1 }

le_true : (m n : ℕ) → m ≤ n → nat_le m n ≡ true
le_true m n h = grind arith

pub rising_from_first : (a : Area) (least : ℕ) (p : Pos) (ps : List Pos) → IsRisingFirst a least p ps → rises_from a least (p ∷ ps) ≡ true
rising_from_first a least p ps h = both_true (both_true h.held (le_true least (index_of a p) h.from)) h.rest

-- what rises from a place on rises from a lower one on
pub rises_lower : (a : Area) (low least : ℕ) (ps : List Pos) → low ≤ least → rises_from a least ps ≡ true → rises_from a low ps ≡ true
rises_lower a low least [] le h = refl
rises_lower a low least (p ∷ ps) le h =
    let f = rising_first a least p ps h in
    rising_from_first a low p ps (record { held = f.held; from = omega (arith, f.from); rest = f.rest })

-- what rises up to a position, and on from it, rises in one
pub rises_join : (a : Area) (least : ℕ) (ps qs : List Pos) (p : Pos) → rises_from a least (ps ++ p ∷ []) ≡ true → rises_from a (index_of a p) (p ∷ qs) ≡ true
    → rises_from a least (ps ++ p ∷ qs) ≡ true
rises_join a least [] qs p h on =
    let f = rising_first a least p [] h in
    let g = rising_first a (index_of a p) p qs on in
    rising_from_first a least p qs (record { held = f.held; from = f.from; rest = g.rest })
rises_join a least (q ∷ ps) qs p h on =
    let f = rising_first a least q (ps ++ p ∷ []) h in
    rising_from_first a least q (ps ++ p ∷ qs) (record { held = f.held; from = f.from; rest = rises_join a (index_of a q + 1) ps qs p f.rest on })

-- there are no more rising positions than places left
pub rises_length : (a : Area) (least : ℕ) (ps : List Pos) → least ≤ volume a → rises_from a least ps ≡ true → least + length ps ≤ volume a
rises_length a least [] le h = omega (arith, le)
rises_length a least (p ∷ ps) le h =
    let f = rising_first a least p ps h in
    let below : index_of a p < volume a = held_below a p f.held in
    let rest : index_of a p + 1 + length ps ≤ volume a = rises_length a (index_of a p + 1) ps (omega (arith, below)) f.rest in
    omega (arith, rest, f.from)

-- the cells of a part from a place on, with one pair of contents
abbrev pub cell : Area → BlockContent → BlockContent → ℕ → Proposed
cell part before after place = record { at = position_of part place; before = before; after = after }

abbrev pub cells : Area → BlockContent → BlockContent → ℕ → ℕ → List Proposed
cells part before after place count = map (λ n. record { at = position_of part n; before = before; after = after }) (range_with_len place count)

pub length-cells : (part : Area) (b c : BlockContent) (place count : ℕ) → length (cells part b c place count) ≡ count
length-cells part b c place count = length-map-range_with_len (cell part b c) place count

pub cells-append : (part : Area) (b c : BlockContent) (place m n t : ℕ) → t ≡ m + n → cells part b c place t ≡ cells part b c place m ++ cells part b c (place + m) n
cells-append part b c place zero n t e = let e1 : t ≡ n = omega (arith, e) in let e2 : place + 0 ≡ place = omega arith in
    rw (e1, e2) refl
cells-append part b c place (suc m) n zero e = absurd (omega (arith, e))
cells-append part b c place (suc m) n (suc t) e =
    let e1 : t ≡ m + n = omega (arith, e) in
    let e2 : place + suc m ≡ place + 1 + m = omega arith in
    rw e2 (ap (λ (xs : List Proposed). cell part b c place ∷ xs) (cells-append part b c (place + 1) m n t e1))

-- the place of a part is that of a block of it
pub block_of_part : (a : Area) (p : Pos) (k : ℕ) → is_world_box a ≡ true → holds a p ≡ true → k < volume (chunk_box a p) → IsBlockAt (chunk_box a p) k (position_of (chunk_box a p) k)
block_of_part a p k box held below = block_at_place (chunk_box a p) k (part_is_world_box a p box held) below

-- the cells of a part rise
pub cells_rise : (a : Area) (p : Pos) (b c : BlockContent) (k n : ℕ) → is_world_box a ≡ true → holds a p ≡ true → k + suc n ≤ volume (chunk_box a p)
    → rises_from a (index_of a (position_of (chunk_box a p) k)) (positions (cells (chunk_box a p) b c k (suc n))) ≡ true
cells_rise a p b c k zero box held fits =
    let here = block_of_part a p k box held (omega (arith, fits)) in
    rising_from_first a (index_of a (position_of (chunk_box a p) k)) (position_of (chunk_box a p) k) [] (record { held = in_part a p (position_of (chunk_box a p) k) here.held; from = omega arith; rest = refl })
cells_rise a p b c k (suc n) box held fits =
    let part = chunk_box a p in
    let here = block_of_part a p k box held (omega (arith, fits)) in
    let next = block_of_part a p (k + 1) box held (omega (arith, fits)) in
    let order : index_of part (position_of part k) < index_of part (position_of part (k + 1)) = rw (here.place, next.place) (omega arith) in
    let above : index_of a (position_of part k) < index_of a (position_of part (k + 1)) = part_order a p (position_of part k) (position_of part (k + 1)) held here.held next.held order in
    let rest = cells_rise a p b c (k + 1) n box held (omega (arith, fits)) in
    rising_from_first a (index_of a (position_of part k)) (position_of part k) (positions (cells part b c (k + 1) (suc n)))
    (record { held = in_part a p (position_of part k) here.held; from = omega arith; rest = rises_lower a (index_of a (position_of part k) + 1) (index_of a (position_of part (k + 1))) (positions (cells part b c (k + 1) (suc n))) (omega (arith, above)) rest })

-- one block of a box stands behind another
abbrev pub is_next_in : Area → Pos → Pos → Bool
is_next_in part p q = holds part q && (index_of part q == index_of part p + 1)

next_in : (part : Area) (p q : Pos) → holds part q ≡ true → index_of part q ≡ index_of part p + 1 → is_next_in part p q ≡ true
next_in part p q held place = both_true held (eq-eqb (index_of part q) (index_of part p + 1) place)

-- each cell of a part goes on where the one before it ended
cell_goes_on : (a : Area) (p : Pos) (b c : BlockContent) (k : ℕ) → is_world_box a ≡ true → holds a p ≡ true → k + 1 < volume (chunk_box a p)
    → goes_on a (cell (chunk_box a p) b c k) (cell (chunk_box a p) b c (k + 1)) ≡ true
cell_goes_on a p b c k box held fits =
    let part = chunk_box a p in
    let here = block_of_part a p k box held (omega (arith, fits)) in
    let next = block_of_part a p (k + 1) box held fits in
    let same = same_part a p (position_of part k) here.held in
    let after : index_of part (position_of part (k + 1)) ≡ index_of part (position_of part k) + 1 = next.place ∙ sym (ap (λ (n : ℕ). n + 1) here.place) in
    let is_next : is_next_cell a (position_of part k) (position_of part (k + 1)) ≡ true =
    subst (λ (area : Area). is_next_in area (position_of part k) (position_of part (k + 1)) ≡ true) (sym same) (next_in part (position_of part k) (position_of part (k + 1)) next.held after) in
    both_true is_next (both_true ((content_decides b b).1 refl) ((content_decides c c).1 refl))

-- so no break stands inside the cells of a part
pub breaks_behind-cells : (a : Area) (p : Pos) (b c : BlockContent) (k n m : ℕ) → is_world_box a ≡ true → holds a p ≡ true → k + 1 + n ≤ volume (chunk_box a p)
    → breaks_behind a (cell (chunk_box a p) b c k) m (cells (chunk_box a p) b c (k + 1) n) ≡ []
breaks_behind-cells a p b c k zero m box held fits = refl
breaks_behind-cells a p b c k (suc n) m box held fits =
    let on = cell_goes_on a p b c k box held (omega (arith, fits)) in
    rw on (breaks_behind-cells a p b c (k + 1) n (m + 1) box held (omega (arith, fits)))

-- what goes on behind a list goes on behind its end
pub goes_on_behind-append : (a : Area) (xs : List Proposed) (y : Proposed) (ys : List Proposed) (d : Proposed) → goes_on_behind a (xs ++ y ∷ ys) d ≡ goes_on_behind a (y ∷ ys) d
goes_on_behind-append a [] y ys d = refl
goes_on_behind-append a (x ∷ []) y ys d = refl
goes_on_behind-append a (x ∷ z ∷ xs) y ys d = goes_on_behind-append a (z ∷ xs) y ys d

pub goes_on_behind-cells : (a part : Area) (b c : BlockContent) (k n t : ℕ) (d : Proposed) → t ≡ k + n → goes_on_behind a (cells part b c k (suc n)) d ≡ goes_on a (cell part b c t) d
goes_on_behind-cells a part b c k zero t d e = let e1 : t ≡ k = omega (arith, e) in rw e1 refl
goes_on_behind-cells a part b c k (suc n) t d e = goes_on_behind-cells a part b c (k + 1) n t d (omega (arith, e))

-- the breaks of a list with more behind it: one stands at the first of them, unless it goes on
breaks_behind-push : (a : Area) (c : Proposed) (n : ℕ) (cs : List Proposed) (d : Proposed) (ds : List Proposed)
    → breaks_behind a c n (cs ++ d ∷ ds) ≡ breaks_behind a c n cs ++ (cond (goes_on_behind a (c ∷ cs) d) [] ((n + length cs) ∷ []) ++ breaks_behind a d (n + length cs + 1) ds)
breaks_behind-push a c n [] d ds = let e : n + 0 ≡ n = omega arith in rw e refl
breaks_behind-push a c n (e ∷ cs) d ds =
    let more : n + suc (length cs) ≡ n + 1 + length cs = omega arith in
    rw (more, breaks_behind-push a e (n + 1) cs d ds) (sym (append_assoc (cond (goes_on a c e) [] (n ∷ [])) (breaks_behind a e (n + 1) cs) (cond (goes_on_behind a (e ∷ cs) d) [] ((n + 1 + length cs) ∷ []) ++ breaks_behind a d (n + 1 + length cs + 1) ds)))

pub breaks-push : (a : Area) (xs : List Proposed) (d : Proposed) (ds : List Proposed)
    → breaks a (xs ++ d ∷ ds) ≡ breaks a xs ++ (cond (goes_on_behind a xs d) [] (length xs ∷ []) ++ breaks_behind a d (length xs + 1) ds)
breaks-push a [] d ds = refl
breaks-push a (c ∷ cs) d ds =
    let e : suc (length cs) ≡ 1 + length cs = omega arith in
    rw e (ap (λ (ns : List ℕ). 0 ∷ ns) (breaks_behind-push a c 1 cs d ds))

-- the cells of one pair of unlike contents are all changes
pub cells_change : (part : Area) (b c : BlockContent) (k n : ℕ) → same_content b c ≡ false → list_all is_change (cells part b c k n) ≡ true
cells_change part b c k zero h = refl
cells_change part b c k (suc n) h = rw h (cells_change part b c (k + 1) n h)

-- some of rising positions rise, with what comes behind them
filter_step : (a : Area) (least : ℕ) (p : Proposed → Bool) (c : Proposed) (cs : List Proposed) (q : Pos) (t : Bool) → p c ≡ t → holds a c.at ≡ true → least ≤ index_of a c.at
    → rises_from a (index_of a c.at + 1) (positions (filter p cs) ++ q ∷ []) ≡ true → rises_from a least (positions (filter p (c ∷ cs)) ++ q ∷ []) ≡ true
filter_step a least p c cs q true e held from rest = rw e (rising_from_first a least c.at (positions (filter p cs) ++ q ∷ []) (record { held = held; from = from; rest = rest }))
filter_step a least p c cs q false e held from rest =
    let low : least ≤ index_of a c.at + 1 = omega (arith, from) in
    rw e (rises_lower a least (index_of a c.at + 1) (positions (filter p cs) ++ q ∷ []) low rest)

pub rises_filter : (a : Area) (least : ℕ) (p : Proposed → Bool) (cs : List Proposed) (q : Pos) → rises_from a least (positions cs ++ q ∷ []) ≡ true
    → rises_from a least (positions (filter p cs) ++ q ∷ []) ≡ true
rises_filter a least p [] q h = h
rises_filter a least p (c ∷ cs) q h =
    let f = rising_first a least c.at (positions cs ++ q ∷ []) h in
    filter_step a least p c cs q (p c) refl f.held f.from (rises_filter a (index_of a c.at + 1) p cs q f.rest)

-- what rises rises up to each of its positions
rises_up_to : (a : Area) (least : ℕ) (cs : List Proposed) (i : ℕ) (c : Proposed) → slice_get cs i ≡ Some c → rises_from a least (positions cs) ≡ true
    → rises_from a least (positions (take i cs) ++ c.at ∷ []) ≡ true
rises_up_to a least [] i c there h = absurd cc
rises_up_to a least (d ∷ cs) zero c there h =
    let same : d ≡ c = cc in
    let f = rising_first a least d.at (positions cs) h in
    subst (λ (e : Proposed). rises_from a least (e.at ∷ []) ≡ true) same (rising_from_first a least d.at [] (record { held = f.held; from = f.from; rest = refl }))
rises_up_to a least (d ∷ cs) (suc i) c there h =
    let f = rising_first a least d.at (positions cs) h in
    rising_from_first a least d.at (positions (take i cs) ++ c.at ∷ []) (record { held = f.held; from = f.from; rest = rises_up_to a (index_of a d.at + 1) cs i c there f.rest })

-- so do some of the changes before a place, with the position there
pub rises_kept : (a : Area) (p : Proposed → Bool) (cs : List Proposed) (i : ℕ) (c : Proposed) → slice_get cs i ≡ Some c → rises a (positions cs) ≡ true
    → rises a (positions (filter p (take i cs)) ++ c.at ∷ []) ≡ true
rises_kept a p cs i c there h = rises_filter a 0 p (take i cs) c.at (rises_up_to a 0 cs i c there h)

-- behind a position may come each one with a higher place
pub rises_two : (a : Area) (ps : List Pos) (p q : Pos) → rises a (ps ++ p ∷ []) ≡ true → holds a p ≡ true → holds a q ≡ true → index_of a p < index_of a q → rises a (ps ++ p ∷ q ∷ []) ≡ true
rises_two a ps p q h held_p held_q above =
    let two : rises_from a (index_of a p) (p ∷ q ∷ []) ≡ true =
    rising_from_first a (index_of a p) p (q ∷ []) (record { held = held_p; from = omega arith; rest = rising_from_first a (index_of a p + 1) q [] (record { held = held_q; from = omega (arith, above); rest = refl }) }) in
    rises_join a 0 ps (q ∷ []) p h two

-- behind a change may come each position with a higher place
pub follows_push : (a : Area) (list : List Proposed) (c : Proposed) (q : Pos) → rises a (positions list ++ c.at ∷ []) ≡ true → holds a c.at ≡ true → holds a q ≡ true → index_of a c.at < index_of a q
    → rises a (positions (list ++ c ∷ []) ++ q ∷ []) ≡ true
follows_push a list c q h held_c held above =
    let joined : rises a (positions list ++ c.at ∷ q ∷ []) ≡ true = rises_two a (positions list) c.at q h held_c held above in
    rw (map-append (λ (d : Proposed). d.at) list (c ∷ []), append_assoc (positions list) (c.at ∷ []) (q ∷ [])) joined

-- the positions of a list rise with one more
pub rises_push : (a : Area) (list : List Proposed) (c : Proposed) → rises a (positions list ++ c.at ∷ []) ≡ true → rises a (positions (list ++ c ∷ [])) ≡ true
rises_push a list c h = rw (map-append (λ (d : Proposed). d.at) list (c ∷ [])) h

-- the same where equal contents are left out
pub follows_kept : (a : Area) (list : List Proposed) (c : Proposed) (q : Pos) → rises a (positions list ++ c.at ∷ []) ≡ true → rises a (positions list ++ q ∷ []) ≡ true
    → holds a c.at ≡ true → holds a q ≡ true → index_of a c.at < index_of a q → rises a (positions (list ++ kept_change c) ++ q ∷ []) ≡ true
follows_kept a list c q h hq held_c held above = by (same_content c.before c.after)
  where
    by : (t : Bool) → rises a (positions (list ++ cond t [] (c ∷ [])) ++ q ∷ []) ≡ true
    by true = rw (append-nil list) hq
    by false = follows_push a list c q h held_c held above
