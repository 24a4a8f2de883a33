-- The chunks of one or two boxes that were cut.
use Rattle.std.proofs.Common.{◌≡◌, ℕ, ◌+◌, ◌%◌, ◌<◌, ◌≤◌, Bool, true, false, ◌&&◌, ◌||◌, List, [], ◌++◌, Option, Some, None, refl, sym, ◌∙◌, ap, arith}
use Rattle.std.specs.Prelude.{nat_le, nat_lt}
use Rattle.std.specs.List.{list_any}
use Rattle.std.proofs.lemmas.Bool.Decides.{nat_tests}
use Rattle.std.proofs.lemmas.List.Folds.{list_any-append}
use Rattle.edit_terms.specs.Area.{Area, columns}
use Rattle.run_terms.specs.Access.{is_chunk_of_box}
use Rattle.command_plan.specs.declared.rectangle.Rectangle.{Rectangle}
use Rattle.command_plan.specs.Rectangles.{covers, chunk_grid_of, IsInside}
use Rattle.command_plan.specs.Cuts.{IsCover, IsApart, IsCutOf, IsChunkSetOf}

abbrev empty : Rectangle
empty = record { x = record { from = 0; to = 0 }; z = record { from = 0; to = 0 } }

none_among : (k : ℕ) → (nat_le 0 k && nat_lt k 0) ≡ false
none_among k = grind (arith, nat_tests)

covers_none : (wide chunk : ℕ) → covers wide empty chunk ≡ false
covers_none wide chunk = rw (none_among (chunk % wide)) refl

empty_inside : (area : Area) → IsInside (chunk_grid_of area) empty
empty_inside area = record { x = record { order = omega arith; within = omega arith }; z = record { order = omega arith; within = omega arith } }

twice : (b : Bool) → (b || b) ≡ b
twice true = refl
twice false = refl

pub set_of_none : (area : Area) (boxes : List Area) → IsApart area boxes → IsChunkSetOf area boxes (record { first = empty; second = empty })
set_of_none area boxes none = record {
  inside = record { first = empty_inside area; second = empty_inside area };
  exact = λ chunk. none chunk ∙ sym (rw (covers_none (columns area.least.x area.width) chunk) refl);
}

pub set_of_nothing : (area : Area) → IsChunkSetOf area [] (record { first = empty; second = empty })
set_of_nothing area = set_of_none area [] (λ chunk. refl)

pub set_of_one : (area : Area) (boxes : List Area) (r : Rectangle) → IsCover area boxes r → IsChunkSetOf area boxes (record { first = r; second = r })
set_of_one area boxes r is = record {
  inside = record { first = is.inside; second = is.inside };
  exact = λ chunk. is.exact chunk ∙ sym (twice (covers (columns area.least.x area.width) r chunk));
}

pub set_of_two : (area : Area) (xs ys : List Area) (r s : Rectangle) → IsCover area xs r → IsCover area ys s → IsChunkSetOf area (xs ++ ys) (record { first = r; second = s })
set_of_two area xs ys r s is it = record {
  inside = record { first = is.inside; second = it.inside };
  exact = λ chunk. list_any-append (is_chunk_of_box area chunk) xs ys ∙ ap (λ (b : Bool). b || list_any (is_chunk_of_box area chunk) ys) (is.exact chunk)
      ∙ ap (λ (b : Bool). covers (columns area.least.x area.width) r chunk || b) (it.exact chunk);
}

or_false : (b c : Bool) → c ≡ false → (b || c) ≡ b
or_false true c fails = refl
or_false false c fails = fails

pub cut_with_apart : (area : Area) (xs ys : List Area) (r : Rectangle) → IsCover area xs r → IsApart area ys → IsCover area (xs ++ ys) r
cut_with_apart area xs ys r is none = record {
  inside = is.inside;
  exact = λ chunk. list_any-append (is_chunk_of_box area chunk) xs ys ∙ or_false _ _ (none chunk) ∙ is.exact chunk;
}

pub apart_with_cut : (area : Area) (xs ys : List Area) (cut : Option Rectangle) → IsApart area xs → IsCutOf area ys cut → IsCutOf area (xs ++ ys) cut
apart_with_cut area xs ys None none none_too = λ chunk. list_any-append (is_chunk_of_box area chunk) xs ys ∙ ap (λ (b : Bool). b || list_any (is_chunk_of_box area chunk) ys) (none chunk) ∙ none_too chunk
apart_with_cut area xs ys (Some r) none is = record {
  inside = is.inside;
  exact = λ chunk. list_any-append (is_chunk_of_box area chunk) xs ys ∙ ap (λ (b : Bool). b || list_any (is_chunk_of_box area chunk) ys) (none chunk) ∙ is.exact chunk;
}
