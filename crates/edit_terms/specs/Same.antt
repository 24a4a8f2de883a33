-- The tests by which block states, entities and contents are told to be equal: byte by byte.
use Rattle.std.specs.Prelude.{◌≡◌, ℕ, Bool, true, false, ◌&&◌, ◌==◌, List, Option, Some, None, Decides}
use Rattle.std.specs.Cmp.Lexicographic.{pointwise, pointwise_decides, bytes_decides}
use Rattle.std.specs.Cmp.{IsEquivalence, decided}
use Rattle.std.proofs.lemmas.Bool.Decides.{Decides-and, Decides-like}
use Rattle.std.proofs.Common.{refl, ap}
use Rattle.edit_terms.specs.StateText.{State}
use Rattle.edit_terms.specs.World.{EntityTags, BlockContent}

-- the same key and value
abbrev pub same_property : List ℕ × List ℕ → List ℕ × List ℕ → Bool
same_property p q = pointwise ◌==◌ p.0 q.0 && pointwise ◌==◌ p.1 q.1

-- the same name and properties
abbrev pub same_state : State → State → Bool
same_state s t = pointwise ◌==◌ s.name t.name && pointwise same_property s.properties t.properties

-- the test of two properties is true exactly where they are equal
property_decides : (p q : List ℕ × List ℕ) → Decides (same_property p q) (p ≡ q)
property_decides p q =
    Decides-like (same_property p q) (λ h i. (h.0 i, h.1 i)) (λ e. (ap (λ (r : List ℕ × List ℕ). r.0) e, ap (λ (r : List ℕ × List ℕ). r.1) e)) (Decides-and (pointwise ◌==◌ p.0 q.0) (pointwise ◌==◌ p.1 q.1) (bytes_decides p.0 q.0) (bytes_decides p.1 q.1))

-- the test of two states is true exactly where they are equal
pub state_decides : (s t : State) → Decides (same_state s t) (s ≡ t)
state_decides s t =
    Decides-like (same_state s t) (λ h i. record { name = h.0 i; properties = h.1 i }) (λ e. (ap (λ (r : State). r.name) e, ap (λ (r : State). r.properties) e))
    (Decides-and (pointwise ◌==◌ s.name t.name) (pointwise same_property s.properties t.properties) (bytes_decides s.name t.name) (pointwise_decides property_decides s.properties t.properties))

-- the test of two states is an equivalence
pub state_equivalence : IsEquivalence same_state
state_equivalence = decided same_state state_decides

-- the same tags before and after
abbrev pub same_tags : EntityTags → EntityTags → Bool
same_tags a b = pointwise ◌==◌ a.before b.before && pointwise ◌==◌ a.after b.after

-- the test of two entities is true exactly where they are equal
pub tags_decides : (a b : EntityTags) → Decides (same_tags a b) (a ≡ b)
tags_decides a b =
    Decides-like (same_tags a b) (λ h i. record { before = h.0 i; after = h.1 i }) (λ e. (ap (λ (r : EntityTags). r.before) e, ap (λ (r : EntityTags). r.after) e))
    (Decides-and (pointwise ◌==◌ a.before b.before) (pointwise ◌==◌ a.after b.after) (bytes_decides a.before b.before) (bytes_decides a.after b.after))

-- the test of two entities is an equivalence
pub tags_equivalence : IsEquivalence same_tags
tags_equivalence = decided same_tags tags_decides

-- both none, or the same entity
abbrev pub same_entity : Option EntityTags → Option EntityTags → Bool
same_entity None None = true
same_entity (Some a) (Some b) = same_tags a b
same_entity _ _ = false

entity_decides : (a b : Option EntityTags) → Decides (same_entity a b) (a ≡ b)
entity_decides None None = (λ e. refl, λ e. refl)
entity_decides (Some a) (Some b) = Decides-like (same_tags a b) (λ e. ap Some e) (λ e. cc) (tags_decides a b)
entity_decides None (Some b) = (λ e. cc, λ e. cc)
entity_decides (Some a) None = (λ e. cc, λ e. cc)

-- the same state and the same entity
abbrev pub same_content : BlockContent → BlockContent → Bool
same_content a b = same_state a.state b.state && same_entity a.entity b.entity

-- the test of two contents is true exactly where they are equal
pub content_decides : (a b : BlockContent) → Decides (same_content a b) (a ≡ b)
content_decides a b =
    Decides-like (same_content a b) (λ h i. record { state = h.0 i; entity = h.1 i }) (λ e. (ap (λ (r : BlockContent). r.state) e, ap (λ (r : BlockContent). r.entity) e))
    (Decides-and (same_state a.state b.state) (same_entity a.entity b.entity) (state_decides a.state b.state) (entity_decides a.entity b.entity))

-- the test of two contents is an equivalence
pub content_equivalence : IsEquivalence same_content
content_equivalence = decided same_content content_decides
