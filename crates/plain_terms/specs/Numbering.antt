-- The noise leaves of a mask, and their numbers.
use Rattle.std.specs.Prelude.{◌≡◌, ℕ, ◌+◌, ◌≤◌, List, [], ◌∷◌, drop, Option}
use Rattle.std.specs.List.{list_all}
use Rattle.std.specs.Option.{option_map_or}
use Rattle.edit_terms.specs.declared.pos.Pos.{Pos}
use Rattle.edit_terms.specs.declared.mask.Term.{Term}
use Rattle.edit_terms.specs.declared.mask.Mask.{Mask}
use Rattle.edit_terms.specs.Mask.{Scene, noise_leaves, term_holds, numbered}

-- of all terms together
abbrev pub noise_count : List Term → ℕ
noise_count [] = 0
noise_count (t ∷ terms) = noise_leaves t.leaf + noise_count terms

-- of a mask that may be absent
abbrev pub mask_noise : Option Mask → ℕ
mask_noise mask = option_map_or (λ m. noise_count m.terms) mask 0

-- the first count of the terms hold, and the others are left, numbered from this number on
pub record IsLeft (terms : List Term) (first : ℕ) (scene : Scene) (p : Pos) (count number : ℕ) : Type 0 where
  pub same : list_all (λ n. term_holds n.1 n.0 scene p) (numbered first terms) ≡ list_all (λ n. term_holds n.1 n.0 scene p) (numbered number (drop count terms))
  pub few : number + noise_count (drop count terms) ≤ 16
