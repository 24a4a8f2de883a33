-- Where a mask holds (the masks of WorldEdit 7; what properties and chance mean in them are rules of this project).
use Rattle.std.specs.Prelude.{ℕ, ◌+◌, ◌*◌, ◌^◌, nat_lt, Bool, true, false, not, ◌&&◌, List, [], ◌∷◌, Option, bytes_eq}
use Rattle.std.specs.List.{list_all, list_any}
use Rattle.std.specs.Option.{option_map_or}
use Rattle.edit_terms.specs.declared.pos.Pos.{Pos}
use Rattle.edit_terms.specs.declared.direction.Direction.TheVariants.{Up, Down}
use Rattle.edit_terms.specs.declared.region.Selection.{Selection}
use Rattle.edit_terms.specs.declared.mask.Sign.{Sign}
use Rattle.edit_terms.specs.declared.mask.Sign.TheVariants.{Not, Below, Above}
use Rattle.edit_terms.specs.declared.mask.Leaf.{Leaf}
use Rattle.edit_terms.specs.declared.mask.Leaf.TheVariants.{Noise, Existing, InSelection, Has, OneOf}
use Rattle.edit_terms.specs.declared.mask.Term.{Term}
use Rattle.edit_terms.specs.declared.mask.Mask.{Mask}
use Rattle.edit_terms.specs.Area.{holds}
use Rattle.edit_terms.specs.StateText.{State, property_of, is_air}
use Rattle.edit_terms.specs.World.{World, state_at}
use Rattle.edit_terms.specs.Neighbour.{neighbour}
use Rattle.edit_terms.specs.Region.{is_selected}
use Rattle.edit_terms.specs.Draw.{draw_word}

-- What a mask reads: the world before the ticket, the player's selection then, the run's seed and the ticket.
pub record Scene : Type 0 where
  pub world : World
  pub selection : Option Selection
  pub seed : ℕ
  pub ticket : ℕ

-- the properties have this key with this value
abbrev pub has_property : List (List ℕ × List ℕ) → List ℕ × List ℕ → Bool
has_property properties listed = option_map_or (λ value. bytes_eq value listed.1) (property_of properties listed.0) false

-- the properties have all the listed ones
abbrev pub has_properties : List (List ℕ × List ℕ) → List (List ℕ × List ℕ) → Bool
has_properties properties listed = list_all (has_property properties) listed

-- the state has the name of the listed one and all properties that this one lists
abbrev pub is_like : State → State → Bool
is_like state listed = bytes_eq state.name listed.name && has_properties state.properties listed.properties

-- the random word falls among so many of 100 equal parts of the numbers below 2 ^ 32
abbrev pub is_by_chance : ℕ → ℕ → Bool
is_by_chance chance word = nat_lt (word * 100) (chance * 2 ^ 32)

-- What a term tests in the end, at a position; the number is that of its noise leaf, if it has one. Noise holds
-- in the box alone; the other tests read the state, which outside the box is air.
abbrev pub leaf_holds : Leaf → ℕ → Scene → Pos → Bool
leaf_holds (Noise chance) number s p = holds s.world.area p && is_by_chance chance (draw_word s.seed s.ticket number p)
leaf_holds Existing number s p = not (is_air (state_at s.world p))
leaf_holds InSelection number s p = option_map_or (λ selection. is_selected selection p) s.selection false
leaf_holds (Has properties) number s p = has_properties (state_at s.world p).properties properties
leaf_holds (OneOf states) number s p = list_any (is_like (state_at s.world p)) states

-- The signs before a leaf, the outermost first: not; at the block below; at the block above.
abbrev pub signs_hold : List Sign → Leaf → ℕ → Scene → Pos → Bool
signs_hold [] leaf number s p = leaf_holds leaf number s p
signs_hold (Not ∷ signs) leaf number s p = not (signs_hold signs leaf number s p)
signs_hold (Below ∷ signs) leaf number s p = signs_hold signs leaf number s (neighbour Down p)
signs_hold (Above ∷ signs) leaf number s p = signs_hold signs leaf number s (neighbour Up p)

abbrev pub term_holds : Term → ℕ → Scene → Pos → Bool
term_holds t number s p = signs_hold t.signs t.leaf number s p

-- how many noise leaves a leaf is
abbrev pub noise_leaves : Leaf → ℕ
noise_leaves (Noise chance) = 1
noise_leaves _ = 0

-- Noise leaves are numbered in order of appearance: each term with the number that its noise leaf has, or would have.
abbrev pub numbered : ℕ → List Term → List (ℕ × Term)
numbered first [] = []
numbered first (t ∷ terms) = (first, t) ∷ numbered (first + noise_leaves t.leaf) terms

-- All terms of the mask hold at the position; its noise leaves are numbered from this number on.
abbrev pub mask_holds : Mask → ℕ → Scene → Pos → Bool
mask_holds mask first s p = list_all (λ n. term_holds n.1 n.0 s p) (numbered first mask.terms)

-- the same of a mask that may be absent: without one every position is allowed
abbrev pub is_allowed : Option Mask → ℕ → Scene → Pos → Bool
is_allowed mask first s p = option_map_or (λ m. mask_holds m first s p) mask true

-- the leaf asks for the player's selection
abbrev pub is_of_selection : Leaf → Bool
is_of_selection InSelection = true
is_of_selection _ = false

-- the mask names the selection, so that it can't be used without one
abbrev pub names_selection : Mask → Bool
names_selection mask = list_any (λ (t : Term). is_of_selection t.leaf) mask.terms

-- the term with one more sign before it, which negates it
abbrev pub negated : Term → Term
negated t = record { signs = Not ∷ t.signs; leaf = t.leaf }
