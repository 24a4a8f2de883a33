-- The changes between two worlds of one canvas, place by place.
use Rattle.std.proofs.Common.{◌≡◌, ℕ, zero, suc, ◌+◌, ◌<◌, true, cond, List, [], ◌∷◌, ◌++◌, get_or, Option, Some, None, sym, ap, ◌∙◌, arith}
use Rattle.std.specs.List.{range_with_len, filter_map, cons_option}
use Rattle.std.proofs.lemmas.List.{append-nil, map-append}
use Rattle.std.proofs.lemmas.List.Elements.{filter_map-append, All-append, All-cons, All-nil}
use Rattle.std.proofs.lemmas.List.FromFn.{get_or-map-range_with_len}
use Rattle.edit_terms.specs.Area.{Area, volume}
use Rattle.edit_terms.specs.Same.{same_content, content_decides}
use Rattle.edit_terms.specs.World.{BlockContent, air_content}
use Rattle.run_terms.specs.Change.{Change, change_at, content_of}
use Rattle.plain_terms.specs.Shown.{content_shown, world_shown}
use Rattle.world_canvas.specs.declared.cell_change.CellChange.{CellChange}
use Rattle.world_canvas.specs.Changes.{IsChangeNamed, AreChangesBelow, change_shown}

-- one number names one content
pub same_number : (kinds : List BlockContent) (m n : ℕ) → m ≡ n → same_content (get_or kinds m air_content) (get_or kinds n air_content) ≡ true
same_number kinds m n is = (content_decides (get_or kinds m air_content) (get_or kinds n air_content)).1 (ap (λ (k : ℕ). get_or kinds k air_content) is)

-- the content of a place of the world is that of its number
pub content_of-shown : (area : Area) (kinds : List BlockContent) (cells : List ℕ) (i : ℕ) → i < volume area → content_of (world_shown area kinds cells) i ≡ content_shown kinds cells i
content_of-shown area kinds cells i within = get_or-map-range_with_len (content_shown kinds cells) 0 (volume area) i i air_content within (omega arith)

-- the change of a place by its contents
abbrev pub change_from : ℕ → BlockContent → BlockContent → Option Change
change_from i before after = cond (same_content before after) None (Some (record { index = i; before = before; after = after }))

pub change_at-shown : (area : Area) (kinds : List BlockContent) (old new : List ℕ) (i : ℕ) → i < volume area
    → change_at (world_shown area kinds old) (world_shown area kinds new) i ≡ change_from i (content_shown kinds old i) (content_shown kinds new i)
change_at-shown area kinds old new i within =
    ap (λ (c : BlockContent). change_from i c (content_of (world_shown area kinds new) i)) (content_of-shown area kinds old i within)
    ∙ ap (λ (c : BlockContent). change_from i (content_shown kinds old i) c) (content_of-shown area kinds new i within)

range_more : (a n : ℕ) → range_with_len a (suc n) ≡ range_with_len a n ++ (a + n) ∷ []
range_more a zero = ap (λ (m : ℕ). m ∷ []) (omega arith)
range_more a (suc n) = ap (λ (t : List ℕ). a ∷ t) (range_more (a + 1) n ∙ ap (λ (m : ℕ). range_with_len (a + 1) n ++ m ∷ []) (omega arith))

-- one place more
pub filter_map-range_more : {X : Type 0} (f : ℕ → Option X) (k : ℕ) → filter_map f (range_with_len 0 (k + 1)) ≡ filter_map f (range_with_len 0 k) ++ cons_option (f k) []
filter_map-range_more f k =
    let next : k + 1 ≡ suc k = omega arith in
    let last : 0 + k ≡ k = omega arith in
    ap (λ (n : ℕ). filter_map f (range_with_len 0 n)) next
    ∙ ap (filter_map f) (range_more 0 k)
    ∙ filter_map-append f (range_with_len 0 k) ((0 + k) ∷ [])
    ∙ ap (λ (n : ℕ). filter_map f (range_with_len 0 k) ++ cons_option (f n) []) last

-- where a change is recorded, the changes are recorded for one place more
pub change_recorded : (area : Area) (kinds : List BlockContent) (old new : List ℕ) (k : ℕ) (recorded : List CellChange) (c : CellChange) → k < volume area
    → AreChangesBelow (world_shown area kinds old) (world_shown area kinds new) kinds k recorded
    → Some (change_shown kinds c) ≡ change_from k (content_shown kinds old k) (content_shown kinds new k) → IsChangeNamed kinds c → c.index ≡ k
    → AreChangesBelow (world_shown area kinds old) (world_shown area kinds new) kinds (k + 1) (recorded ++ c ∷ [])
change_recorded area kinds old new k recorded c within so_far is named place = record {
  changes = map-append (change_shown kinds) recorded (c ∷ [])
      ∙ ap (λ (cs : List Change). cs ++ change_shown kinds c ∷ []) so_far.changes
      ∙ ap (λ (o : Option Change). filter_map (change_at (world_shown area kinds old) (world_shown area kinds new)) (range_with_len 0 k) ++ cons_option o []) (is ∙ sym (change_at-shown area kinds old new k within))
      ∙ sym (filter_map-range_more (change_at (world_shown area kinds old) (world_shown area kinds new)) k);
  named = All-append (λ d. IsChangeNamed kinds d) recorded (c ∷ []) so_far.named (All-cons (λ d. IsChangeNamed kinds d) c [] named (All-nil (λ d. IsChangeNamed kinds d)));
  within = All-append (λ (d : CellChange). d.index < volume area) recorded (c ∷ []) so_far.within (All-cons (λ (d : CellChange). d.index < volume area) c [] (omega (arith, place, within)) (All-nil (λ (d : CellChange). d.index < volume area)));
}

-- where none is recorded, they are too if the contents are equal
pub no_change_recorded : (area : Area) (kinds : List BlockContent) (old new : List ℕ) (k : ℕ) (recorded : List CellChange) → k < volume area
    → AreChangesBelow (world_shown area kinds old) (world_shown area kinds new) kinds k recorded
    → None ≡ change_from k (content_shown kinds old k) (content_shown kinds new k)
    → AreChangesBelow (world_shown area kinds old) (world_shown area kinds new) kinds (k + 1) recorded
no_change_recorded area kinds old new k recorded within so_far is = record {
  changes = so_far.changes
      ∙ sym (append-nil (filter_map (change_at (world_shown area kinds old) (world_shown area kinds new)) (range_with_len 0 k)))
      ∙ ap (λ (o : Option Change). filter_map (change_at (world_shown area kinds old) (world_shown area kinds new)) (range_with_len 0 k) ++ cons_option o []) (is ∙ sym (change_at-shown area kinds old new k within))
      ∙ sym (filter_map-range_more (change_at (world_shown area kinds old) (world_shown area kinds new)) k);
  named = so_far.named;
  within = so_far.within;
}
