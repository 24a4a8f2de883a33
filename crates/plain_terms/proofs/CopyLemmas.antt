-- Where a clipboard finds its blocks.
use Rattle.std.proofs.Common.{◌≡◌, ℕ, zero, suc, ◌%◌, Bool, true, false, cond, ◌&&◌, negsuc, ◌+ℤ◌, refl, sym, ap, ◌∙◌, arith}
use Rattle.std.specs.Prelude.{Some, None, option_map}
use Rattle.std.proofs.lemmas.Int.{ints}
use Rattle.std.specs.Cmp.Derive.{both_true}
use Rattle.edit_terms.specs.declared.pos.Pos.{Pos}
use Rattle.edit_terms.specs.declared.direction.Direction.TheVariants.{East, Up}
use Rattle.edit_terms.specs.declared.transform.Transform.{Transform}
use Rattle.edit_terms.specs.declared.clip.Clip.{Clip}
use Rattle.edit_terms.specs.Area.{Area, holds, is_from, is_world_box}
use Rattle.edit_terms.specs.Region.{is_selected}
use Rattle.edit_terms.specs.World.{BlockContent, World, content_at}
use Rattle.edit_terms.specs.Transform.{times, turned_position, source_position, turned_content}
use Rattle.edit_terms.specs.Clipboard.{copied_from, copied_content, turned_area, quarter_turned_area, flipped_area}
use Rattle.edit_terms.proofs.AreaLemmas.{and_both}
use Rattle.edit_terms.proofs.ClipboardLemmas.{holds-turned}
use Rattle.clipboard_transform.specs.Bounds.{IsOnMap}
use Rattle.clipboard_transform.specs.Reach.{IsTurnable}
use Rattle.plain_terms.specs.Copies.{reach, original, IsCopiedFrom}
use Rattle.plain_terms.proofs.MapLemmas.{held_on_map}

-- ---- turns and flips keep the reach

fixed_times : {A : Type 0} (f : A → A) (a : A) → f a ≡ a → (n : ℕ) → times n f a ≡ a
fixed_times f a is zero = refl
fixed_times f a is (suc n) = ap f (fixed_times f a is n) ∙ is

fixed_if : {A : Type 0} (f : A → A) (a : A) → f a ≡ a → (b : Bool) → cond b (f a) a ≡ a
fixed_if f a is true = is
fixed_if f a is false = refl

turned_reach : (t : Transform) → turned_area t reach ≡ reach
turned_reach t =
    ap (λ (a : Area). times (t.turns % 4) quarter_turned_area (cond t.flip_y (flipped_area Up a) a)) (fixed_if (flipped_area East) reach refl t.flip_x)
    ∙ ap (times (t.turns % 4) quarter_turned_area) (fixed_if (flipped_area Up) reach refl t.flip_y)
    ∙ fixed_times quarter_turned_area reach refl (t.turns % 4)

-- a block that lies on the map lies in reach of each position there
in_reach : (o p : Pos) → IsOnMap o → IsOnMap (record { x = o.x +ℤ p.x; y = o.y +ℤ p.y; z = o.z +ℤ p.z }) → holds reach p ≡ true
in_reach o p from to =
    let x0 = from.least_x in let x1 = from.most_x in let y0 = from.least_y in let y1 = from.most_y in let z0 = from.least_z in let z1 = from.most_z in
    let x2 = to.least_x in let x3 = to.most_x in let y2 = to.least_y in let y3 = to.most_y in let z2 = to.least_z in let z3 = to.most_z in
    let x : is_from (negsuc 134217727) 268435457 p.x ≡ true = grind (arith, ints) in
    let y : is_from (negsuc 134217727) 268435457 p.y ≡ true = grind (arith, ints) in
    let z : is_from (negsuc 134217727) 268435457 p.z ≡ true = grind (arith, ints) in
    both_true (both_true x y) z

-- no block of the world is at a relative position that is farther out
pub unreachable_outside : (clip : Clip) (a : Area) (r : Pos) → is_world_box a ≡ true → IsOnMap clip.origin → ((t : Transform) (s : Pos) → turned_position t (source_position t s) ≡ s)
    → holds reach r ≡ false → holds a (copied_from clip r) ≡ false
unreachable_outside clip a r fits from undone far = by_test (holds a (copied_from clip r)) refl
  where
    by_test : (b : Bool) → holds a (copied_from clip r) ≡ b → b ≡ false
    by_test false h = refl
    by_test true h =
        let s = source_position clip.transform r in
        let near : holds reach s ≡ true = in_reach clip.origin s from (held_on_map a (copied_from clip r) fits h) in
        let turned : holds reach (turned_position clip.transform s) ≡ true = ap (λ (b : Area). holds b (turned_position clip.transform s)) (sym (turned_reach clip.transform)) ∙ holds-turned clip.transform reach s ∙ near in
        sym turned ∙ ap (holds reach) (undone clip.transform r) ∙ far

-- and those within reach can be turned
pub reachable_turnable : (r : Pos) → holds reach r ≡ true → IsTurnable r
reachable_turnable r h =
    let first = and_both (is_from (negsuc 134217727) 268435457 r.x && is_from (negsuc 134217727) 268435457 r.y) (is_from (negsuc 134217727) 268435457 r.z) h in
    let two = and_both (is_from (negsuc 134217727) 268435457 r.x) (is_from (negsuc 134217727) 268435457 r.y) first.0 in
    let x = two.0 in let y = two.1 in let z = first.1 in
    record { x = grind (arith, ints); y = grind (arith, ints); z = grind (arith, ints) }

-- ---- the content that is found

pub original_outside : (clip : Clip) (w : World) (r : Pos) → holds w.area (copied_from clip r) ≡ false → original clip w r ≡ None
original_outside clip w r out =
    ap (λ (h : Bool). cond (is_selected clip.from (copied_from clip r) && h) (Some (content_at w (copied_from clip r))) None) out
    ∙ none (is_selected clip.from (copied_from clip r))
  where
    none : (s : Bool) → cond (s && false) (Some (content_at w (copied_from clip r))) None ≡ None
    none true = refl
    none false = refl

pub original_unselected : (clip : Clip) (w : World) (r p : Pos) → IsCopiedFrom clip w.area r p → is_selected clip.from p ≡ false → original clip w r ≡ None
original_unselected clip w r p from out =
    let here : is_selected clip.from (copied_from clip r) ≡ false = ap (is_selected clip.from) (sym from.is) ∙ out in
    ap (λ (s : Bool). cond (s && holds w.area (copied_from clip r)) (Some (content_at w (copied_from clip r))) None) here

pub original_selected : (clip : Clip) (w : World) (r p : Pos) → IsCopiedFrom clip w.area r p → is_selected clip.from p ≡ true → original clip w r ≡ Some (content_at w p)
original_selected clip w r p from selected =
    let here : is_selected clip.from (copied_from clip r) ≡ true = ap (is_selected clip.from) (sym from.is) ∙ selected in
    let held : holds w.area (copied_from clip r) ≡ true = ap (holds w.area) (sym from.is) ∙ from.held in
    ap (λ (s : Bool). cond (s && holds w.area (copied_from clip r)) (Some (content_at w (copied_from clip r))) None) here
    ∙ ap (λ (s : Bool). cond s (Some (content_at w (copied_from clip r))) None) held
    ∙ ap (λ (q : Pos). Some (content_at w q)) (sym from.is)

-- ---- and turned

turned_original : (clip : Clip) (w : World) (r : Pos) → copied_content clip w r ≡ option_map (turned_content clip.transform) (original clip w r)
turned_original clip w r = by_test (is_selected clip.from (copied_from clip r) && holds w.area (copied_from clip r))
  where
    by_test : (b : Bool) → cond b (Some (turned_content clip.transform (content_at w (copied_from clip r)))) None ≡ option_map (turned_content clip.transform) (cond b (Some (content_at w (copied_from clip r))) None)
    by_test true = refl
    by_test false = refl

pub copied_nothing : (clip : Clip) (w : World) (r : Pos) → original clip w r ≡ None → copied_content clip w r ≡ None
copied_nothing clip w r none = turned_original clip w r ∙ ap (option_map (turned_content clip.transform)) none

pub copied_turned : (clip : Clip) (w : World) (r : Pos) (c : BlockContent) → original clip w r ≡ Some c → copied_content clip w r ≡ Some (turned_content clip.transform c)
copied_turned clip w r c some = turned_original clip w r ∙ ap (option_map (turned_content clip.transform)) some
