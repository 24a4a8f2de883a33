-- What a stack brings to a position.
use Rattle.std.proofs.Common.{◌≡◌, ℕ, ◌+◌, ◌*◌, ◌<◌, ◌≤◌, Bool, true, false, ◌&&◌, cond, ℤ, pos, ◌+ℤ◌, ◌-ℤ◌, Some, None, refl, sym, ap, ◌∙◌, subst, arith}
use Rattle.std.specs.Prelude.{Option, neg_ℤ, option_map}
use Rattle.std.specs.List.{find}
use Rattle.std.specs.Option.{option_map_or}
use Rattle.std.proofs.lemmas.Int.{ints}
use Rattle.edit_terms.specs.declared.pos.Pos.{Pos}
use Rattle.edit_terms.specs.declared.direction.Direction.{Direction}
use Rattle.edit_terms.specs.declared.direction.Direction.TheVariants.{North, South, East, West, Up, Down}
use Rattle.edit_terms.specs.declared.region.Selection.{Selection}
use Rattle.edit_terms.specs.Area.{Area, is_from, holds, position_of, is_world_box}
use Rattle.edit_terms.specs.Frame.{frame_of_selection, size_along}
use Rattle.edit_terms.specs.Neighbour.{away}
use Rattle.edit_terms.specs.Region.{is_selected}
use Rattle.edit_terms.specs.World.{BlockContent, World, content_at}
use Rattle.edit_terms.proofs.AreaLemmas.{limits}
use Rattle.run_terms.specs.Change.{content_of}
use Rattle.run_terms.specs.Effect.{Task, passes_global, is_source, copy_source, stacked, stacked_from}
use Rattle.plain_effects.specs.Sources.{StandsAtSource}
use Rattle.plain_effects.proofs.Boxes.{held}
use Rattle.plain_effects.proofs.Ranges.{find_none, find_first, fails_more}

-- ---- the content after a stack

abbrev brought : Bool → Option Pos → World → BlockContent → BlockContent
brought passes found w old = cond passes (option_map_or (content_at w) found old) old

at_position : (from : Selection) (count : ℕ) (to : Direction) (task : Task) (w : World) (index : ℕ) (p : Pos) → p ≡ position_of w.area index
    → stacked from count to task w index ≡ brought (passes_global task w p) (find (is_source from w) (stacked_from from count to p)) w (content_of w index)
at_position from count to task w index p is =
    ap (λ (q : Pos). brought (passes_global task w q) (find (is_source from w) (stacked_from from count to q)) w (content_of w index)) (sym is)

pub stacked_nowhere : (from : Selection) (count : ℕ) (to : Direction) (task : Task) (w : World) (index : ℕ) (p : Pos) → p ≡ position_of w.area index → passes_global task w p ≡ false
    → stacked from count to task w index ≡ content_of w index
stacked_nowhere from count to task w index p is stops =
    at_position from count to task w index p is ∙ ap (λ (b : Bool). brought b (find (is_source from w) (stacked_from from count to p)) w (content_of w index)) stops

passed : (from : Selection) (count : ℕ) (to : Direction) (task : Task) (w : World) (index : ℕ) (p : Pos) → p ≡ position_of w.area index → passes_global task w p ≡ true
    → stacked from count to task w index ≡ option_map_or (content_at w) (find (is_source from w) (stacked_from from count to p)) (content_of w index)
passed from count to task w index p is passes =
    at_position from count to task w index p is ∙ ap (λ (b : Bool). brought b (find (is_source from w) (stacked_from from count to p)) w (content_of w index)) passes

pub stacked_nothing : (from : Selection) (count : ℕ) (to : Direction) (task : Task) (w : World) (index : ℕ) (p : Pos) → p ≡ position_of w.area index → passes_global task w p ≡ true
    → option_map (content_at w) (find (is_source from w) (stacked_from from count to p)) ≡ None → stacked from count to task w index ≡ content_of w index
stacked_nothing from count to task w index p is passes none = passed from count to task w index p is passes ∙ by_found (find (is_source from w) (stacked_from from count to p)) none
  where
    by_found : (o : Option Pos) → option_map (content_at w) o ≡ None → option_map_or (content_at w) o (content_of w index) ≡ content_of w index
    by_found None h = refl
    by_found (Some q) h = absurd cc

pub stacked_here : (from : Selection) (count : ℕ) (to : Direction) (task : Task) (w : World) (index : ℕ) (p : Pos) (c : BlockContent) → p ≡ position_of w.area index → passes_global task w p ≡ true
    → option_map (content_at w) (find (is_source from w) (stacked_from from count to p)) ≡ Some c → stacked from count to task w index ≡ c
stacked_here from count to task w index p c is passes some = passed from count to task w index p is passes ∙ by_found (find (is_source from w) (stacked_from from count to p)) some
  where
    by_found : (o : Option Pos) → option_map (content_at w) o ≡ Some c → option_map_or (content_at w) o (content_of w index) ≡ c
    by_found None h = absurd cc
    by_found (Some q) h = cc

-- ---- the first copy that comes

pub first_found : (from : Selection) (count : ℕ) (to : Direction) (w : World) (p : Pos) (number : ℕ) (c : BlockContent) → 1 ≤ number → number < count + 1
    → ((k : ℕ) → 1 ≤ k → k < number → is_source from w (copy_source from to p k) ≡ false) → StandsAtSource from w (copy_source from to p number) c
    → Some c ≡ option_map (content_at w) (find (is_source from w) (stacked_from from count to p))
first_found from count to w p number c low high before stands =
    let found = find_first (is_source from w) (copy_source from to p) 1 count number low (omega (arith, high)) before stands.selected in
    ap (λ (d : BlockContent). Some d) stands.is ∙ sym (ap (option_map (content_at w)) found)

pub none_found : (from : Selection) (count : ℕ) (to : Direction) (w : World) (p : Pos) (number : ℕ) → count + 1 ≤ number
    → ((k : ℕ) → 1 ≤ k → k < number → is_source from w (copy_source from to p k) ≡ false) → option_map (content_at w) (find (is_source from w) (stacked_from from count to p)) ≡ None
none_found from count to w p number all before =
    ap (option_map (content_at w)) (find_none (is_source from w) (copy_source from to p) 1 count (λ k low high. before k low (omega (arith, high, all))))

pub none_so_far : (from : Selection) (to : Direction) (w : World) (p : Pos) (number : ℕ) → ((k : ℕ) → 1 ≤ k → k < number → is_source from w (copy_source from to p k) ≡ false)
    → is_source from w (copy_source from to p number) ≡ false → (k : ℕ) → 1 ≤ k → k < number + 1 → is_source from w (copy_source from to p k) ≡ false
none_so_far from to w p number before here = fails_more (λ k. is_source from w (copy_source from to p k)) 1 number before here

-- ---- copies that come from beyond the box

less_far : (low : ℤ) (size : ℕ) (v : ℤ) (far : ℕ) → size ≤ 65535 → 65535 < far → is_from low size v ≡ true → is_from low size (v +ℤ neg_ℤ (pos far)) ≡ false
less_far low size v far few beyond h = grind (arith, ints)

more_far : (low : ℤ) (size : ℕ) (v : ℤ) (far : ℕ) → size ≤ 65535 → 65535 < far → is_from low size v ≡ true → is_from low size (v -ℤ neg_ℤ (pos far)) ≡ false
more_far low size v far few beyond h = grind (arith, ints)

first_fails : (x y z : Bool) → x ≡ false → (x && y && z) ≡ false
first_fails x y z h = rw h refl

second_fails : (x y z : Bool) → y ≡ false → (x && y && z) ≡ false
second_fails true y z h = rw h refl
second_fails false y z h = refl

third_fails : (x y : Bool) (z : Bool) → z ≡ false → (x && y && z) ≡ false
third_fails true true z h = h
third_fails true false z h = refl
third_fails false y z h = refl

beyond : (a : Area) (to : Direction) (p : Pos) (far : ℕ) → is_world_box a ≡ true → holds a p ≡ true → 65535 < far → holds a (away to (neg_ℤ (pos far)) p) ≡ false
beyond a North p far fits h large = third_fails (is_from a.least.x a.width p.x) (is_from a.least.y a.height p.y) (is_from a.least.z a.length (p.z -ℤ neg_ℤ (pos far))) (more_far a.least.z a.length p.z far (limits a fits).short large (held a p h).z)
beyond a South p far fits h large = third_fails (is_from a.least.x a.width p.x) (is_from a.least.y a.height p.y) (is_from a.least.z a.length (p.z +ℤ neg_ℤ (pos far))) (less_far a.least.z a.length p.z far (limits a fits).short large (held a p h).z)
beyond a East p far fits h large = first_fails (is_from a.least.x a.width (p.x +ℤ neg_ℤ (pos far))) (is_from a.least.y a.height p.y) (is_from a.least.z a.length p.z) (less_far a.least.x a.width p.x far (limits a fits).narrow large (held a p h).x)
beyond a West p far fits h large = first_fails (is_from a.least.x a.width (p.x -ℤ neg_ℤ (pos far))) (is_from a.least.y a.height p.y) (is_from a.least.z a.length p.z) (more_far a.least.x a.width p.x far (limits a fits).narrow large (held a p h).x)
beyond a Up p far fits h large = second_fails (is_from a.least.x a.width p.x) (is_from a.least.y a.height (p.y +ℤ neg_ℤ (pos far))) (is_from a.least.z a.length p.z) (less_far a.least.y a.height p.y far (limits a fits).low large (held a p h).y)
beyond a Down p far fits h large = second_fails (is_from a.least.x a.width p.x) (is_from a.least.y a.height (p.y -ℤ neg_ℤ (pos far))) (is_from a.least.z a.length p.z) (more_far a.least.y a.height p.y far (limits a fits).low large (held a p h).y)

-- a copy whose number times the step is more than a box is long brings nothing
pub too_far : (from : Selection) (to : Direction) (w : World) (p : Pos) (number step : ℕ) → is_world_box w.area ≡ true → step ≡ size_along to (frame_of_selection from) → holds w.area p ≡ true → 65535 < number * step
    → is_source from w (copy_source from to p number) ≡ false
too_far from to w p number step fits is h large =
    let far : 65535 < number * size_along to (frame_of_selection from) = subst (λ (n : ℕ). 65535 < number * n) is large in
    none (is_selected from (copy_source from to p number)) (beyond w.area to p (number * size_along to (frame_of_selection from)) fits h far)
  where
    none : (selected : Bool) → holds w.area (copy_source from to p number) ≡ false → (selected && holds w.area (copy_source from to p number)) ≡ false
    none true out = out
    none false out = refl
