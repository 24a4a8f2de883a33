use Rattle.std.proofs.Common.{ℕ, ◌+◌, ◌<◌, ◌++◌, ◌∷◌, [], All, length, map, refl, sym, ap, subst, ◌∙◌, arith}
use Rattle.std.specs.List.{range_with_len}
use Rattle.std.proofs.lemmas.List.Elements.{All-push}
use Rattle.std.proofs.lemmas.List.FromFn.{map-range_with_len_more}
use Rattle.edit_terms.specs.Area.{position_of}
use Rattle.chunk_sections.specs.Column.{kind_at}
use Rattle.chunk_sections.proofs.opening.gather.Goals as goal

pub overflow_add-first : goal.overflow_add-first
overflow_add-first c = omega (arith, c.requires.part.small, c.requires.within)

pub loop-further-preserved : goal.loop-further-preserved
loop-further-preserved c =
    let f : ℕ → ℕ = λ i. kind_at c.args.grid.now (position_of c.args.part.now i) in
    let place : ℕ = c.args.first + c.loop-further.further in
    record {
      gathered =
          c.in_ok-push.ensures.items ∙ ap (λ ks. ks ++ c.kind_of.result ∷ []) c.loop-further.invariant.gathered
          ∙ ap (λ k. map f (range_with_len c.args.first c.loop-further.further) ++ k ∷ []) c.kind_of.ensures.value
          ∙ sym (map-range_with_len_more f c.args.first c.loop-further.further place refl);
      below = subst (All (λ kind. kind < length c.args.grid.now.kinds)) (sym c.in_ok-push.ensures.items)
          (All-push (λ kind. kind < length c.args.grid.now.kinds) c.loop-further.kinds.items c.kind_of.result c.loop-further.invariant.below c.kind_of.ensures.below);
    }
