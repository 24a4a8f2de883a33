-- A row of named tags that is taken from its end.
use Rattle.std.proofs.Common.{◌≡◌, ℕ, Bool, true, false, cond, not, List, [], ◌∷◌, ◌++◌, reverse, Option, None, Some, refl, sym, ap, ◌∙◌, append_assoc}
use Rattle.std.specs.Prelude.{find, option_map}
use Rattle.std.specs.Option.{option_or}
use Rattle.std.proofs.lemmas.List.{reverse-append, append-nil}
use Rattle.std.proofs.lemmas.List.Elements.{filter-append}
use Rattle.std.proofs.lemmas.List.Folds.{find-append}
use Rattle.nbt_tags.specs.declared.tag.Tag.{Tag}
use Rattle.nbt_tags.specs.declared.tag.Named.{Named}
use Rattle.nbt_tags.specs.Spelling.{name_of, tag_of}
use Rattle.sponge_schematic.specs.Fields.{has_name, tag_named}
use Rattle.sponge_schematic.specs.Schematic.{is_own_name, others_of}

-- the tag of a name in a row, or else a tag that stands behind the row
abbrev pub found_in : List ℕ → List Named → Option Tag → Option Tag
found_in name row behind = option_or (tag_named name row) behind

-- the row's other tags, and those behind it, which were taken from the end
abbrev pub others_in : List Named → List Named → List Named
others_in row behind = others_of row ++ reverse behind

-- the row's last tag is the one of the name, or what stands behind is
pub found-last : (name : List ℕ) (row : List Named) (entry : Named) (behind : Option Tag)
    → found_in name (row ++ entry ∷ []) behind ≡ found_in name row (cond (has_name name entry) (Some (tag_of entry)) behind)
found-last name row entry behind = ap (λ o. option_or (option_map tag_of o) behind) (find-append (has_name name) row (entry ∷ [])) ∙ by (find (has_name name) row) (has_name name entry)
  where
    by : (o : Option Named) (b : Bool) → option_or (option_map tag_of (option_or o (cond b (Some entry) None))) behind ≡ option_or (option_map tag_of o) (cond b (Some (tag_of entry)) behind)
    by (Some x) b = refl
    by None true = refl
    by None false = refl

pub others-last : (row : List Named) (entry : Named) (behind : List Named)
    → others_in (row ++ entry ∷ []) behind ≡ others_in row (cond (is_own_name (name_of entry)) behind (behind ++ entry ∷ []))
others-last row entry behind = ap (λ (front : List Named). front ++ reverse behind) (filter-append (λ tag. not (is_own_name (name_of tag))) row (entry ∷ [])) ∙ by (is_own_name (name_of entry))
  where
    by : (b : Bool) → (others_of row ++ cond (not b) (entry ∷ []) []) ++ reverse behind ≡ others_of row ++ reverse (cond b behind (behind ++ entry ∷ []))
    by true = ap (λ (front : List Named). front ++ reverse behind) (append-nil (others_of row))
    by false = append_assoc (others_of row) (entry ∷ []) (reverse behind) ∙ ap (λ (back : List Named). others_of row ++ back) (sym (reverse-append behind (entry ∷ [])))
