-- Contents keep their numbers as further ones get theirs.
use Rattle.std.proofs.Common.{◌≡◌, ℕ, zero, suc, ◌<◌, ◌≤◌, List, [], ◌∷◌, length, take, get_or, refl, sym, ap, ◌∙◌, arith}
use Rattle.std.proofs.Math.Seq.{take-length}
use Rattle.std.proofs.lemmas.List.{get_or-take, length-take}
use Rattle.std.proofs.lemmas.List.Elements.{All-head, All-tail}
use Rattle.edit_terms.specs.Area.{Area, volume}
use Rattle.edit_terms.specs.World.{BlockContent, air_content}
use Rattle.run_terms.proofs.Lists.{map-range_agrees}
use Rattle.plain_terms.specs.Shown.{IsNumbered, content_shown, world_shown}
use Rattle.world_canvas.specs.declared.cell_change.CellChange.{CellChange}
use Rattle.world_canvas.specs.Canvas.{IsGrown, IsSameWorld}
use Rattle.world_canvas.specs.Changes.{AreChangesNamed, IsChangeNamed, change_shown, changes_shown}

pub grown_itself : (kinds : List BlockContent) → IsGrown kinds kinds
grown_itself kinds = take-length kinds

-- there are no fewer contents
pub grown_length : (old new : List BlockContent) → IsGrown old new → length old ≤ length new
grown_length old new grown = omega (arith, length-take (length old) new, ap (λ (xs : List BlockContent). length xs) grown)

-- a number names what it named
pub grown_content : (old new : List BlockContent) → IsGrown old new → (n : ℕ) → n < length old → get_or new n air_content ≡ get_or old n air_content
grown_content old new grown n within =
    sym (get_or-take (length old) new n air_content within) ∙ ap (λ (xs : List BlockContent). get_or xs n air_content) grown

take_of_take : (n m : ℕ) (xs : List BlockContent) → n ≤ m → take n (take m xs) ≡ take n xs
take_of_take zero m xs less = refl
take_of_take (suc n) zero xs less = absurd (omega (arith, less))
take_of_take (suc n) (suc m) [] less = refl
take_of_take (suc n) (suc m) (x ∷ xs) less = ap (λ (ys : List BlockContent). x ∷ ys) (take_of_take n m xs (omega (arith, less)))

pub grown_again : (old middle new : List BlockContent) → IsGrown old middle → IsGrown middle new → IsGrown old new
grown_again old middle new first second =
    sym (take_of_take (length old) (length middle) new (grown_length old middle first)) ∙ ap (take (length old)) second ∙ first

pub grown_numbered : (area : Area) (old new : List BlockContent) (cells : List ℕ) → IsGrown old new → IsNumbered area old cells → IsNumbered area new cells
grown_numbered area old new cells grown numbered =
    let more = grown_length old new grown in
    record { whole = numbered.whole; within = λ k d inside. omega (arith, more, numbered.within k d inside) }

pub grown_world : (area : Area) (old new : List BlockContent) (cells : List ℕ) → IsGrown old new → IsNumbered area old cells → world_shown area new cells ≡ world_shown area old cells
grown_world area old new cells grown numbered =
    ap (λ (cs : List BlockContent). record { area = area; contents = cs })
    (map-range_agrees (content_shown new cells) (content_shown old cells) 0 (volume area) (volume area) (omega arith)
    (λ k within. grown_content old new grown (get_or cells k 0) (numbered.within k 0 (omega (arith, within, numbered.whole)))))

pub grown_named : (old new : List BlockContent) (cs : List CellChange) → IsGrown old new → AreChangesNamed old cs → AreChangesNamed new cs
grown_named old new cs grown named =
    let more = grown_length old new grown in
    λ k d inside. record { before = omega (arith, more, (named k d inside).before); after = omega (arith, more, (named k d inside).after) }

pub grown_changes : (old new : List BlockContent) (cs : List CellChange) → IsGrown old new → AreChangesNamed old cs → changes_shown new cs ≡ changes_shown old cs
grown_changes old new [] grown named = refl
grown_changes old new (c ∷ cs) grown named =
    let head : IsChangeNamed old c = All-head (λ d. IsChangeNamed old d) c cs named in
    let before = grown_content old new grown c.before head.before in
    let after = grown_content old new grown c.after head.after in
    let one : change_shown new c ≡ change_shown old c = λ i. record { index = c.index; before = before i; after = after i } in
    let rest = grown_changes old new cs grown (All-tail (λ d. IsChangeNamed old d) c cs named) in
    λ i. one i ∷ rest i

-- the world is the same while contents get numbers
pub same_world : (area : Area) (old new : List BlockContent) (cells : List ℕ) → IsGrown old new → IsNumbered area old cells
    → IsSameWorld (record { area = area; kinds = old; cells = cells }) (record { area = area; kinds = new; cells = cells })
same_world area old new cells grown numbered = record { area = refl; grown = grown; world = grown_world area old new cells grown numbered }
