-- Written properties: the first one, and behind it each further one with a comma before it.
use Rattle.std.proofs.Common.{◌≡◌, ℕ, List, [], ◌∷◌, ◌++◌, map, sym, ap, ◌∙◌, append_assoc, append-nil}
use Rattle.std.specs.List.{join_with_byte, flat_map}
use Rattle.edit_terms.specs.StateText.{opening, closing, comma, spelled_property, written_properties}

pub join_behind : (p : List ℕ × List ℕ) (ps : List (List ℕ × List ℕ)) → join_with_byte comma (map spelled_property (p ∷ ps)) ≡ spelled_property p ++ flat_map (λ q. comma ∷ spelled_property q) ps
join_behind p [] = sym (append-nil (spelled_property p))
join_behind p (q ∷ ps) = ap (λ (more : List ℕ). spelled_property p ++ comma ∷ more) (join_behind q ps)

-- what is put piece by piece is the written form
pub written_behind : (text0 text1 text2 text3 text4 : List ℕ) (p : List ℕ × List ℕ) (ps : List (List ℕ × List ℕ)) → text1 ≡ text0 ++ opening ∷ [] → text2 ≡ text1 ++ spelled_property p → text3 ≡ text2 ++ flat_map (λ q. comma ∷ spelled_property q) ps → text4 ≡ text3 ++ closing ∷ [] → text4 ≡ text0 ++ written_properties (p ∷ ps)
written_behind text0 text1 text2 text3 text4 p ps e1 e2 e3 e4 =
    let further : List ℕ = flat_map (λ q. comma ∷ spelled_property q) ps in
    let whole : List ℕ = join_with_byte comma (map spelled_property (p ∷ ps)) in
    e4 ∙ ap (λ (t : List ℕ). t ++ closing ∷ []) (e3 ∙ ap (λ (t : List ℕ). t ++ further) (e2 ∙ ap (λ (t : List ℕ). t ++ spelled_property p) e1))
    ∙ ap (λ (t : List ℕ). t ++ closing ∷ []) (append_assoc (text0 ++ opening ∷ []) (spelled_property p) further)
    ∙ ap (λ (t : List ℕ). ((text0 ++ opening ∷ []) ++ t) ++ closing ∷ []) (sym (join_behind p ps))
    ∙ append_assoc (text0 ++ opening ∷ []) whole (closing ∷ [])
    ∙ append_assoc text0 (opening ∷ []) (whole ++ closing ∷ [])
