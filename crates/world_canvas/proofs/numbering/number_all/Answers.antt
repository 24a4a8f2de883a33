use Rattle.std.proofs.Common.{◌≡◌, ◌<◌, ◌+◌, ◌∷◌, [], length, List, ℕ, sym, ap, subst, get_or, ◌∙◌, arith}
use Rattle.std.proofs.lemmas.List.{length-append, get_or_default}
use Rattle.edit_terms.specs.World.{BlockContent, air_content}
use Rattle.world_canvas.specs.Numbering.{IsName, AreNames}
use Rattle.world_canvas.proofs.GrowthLemmas.{grown_again}
use Rattle.world_canvas.proofs.Renumbering.{names_more}
use Rattle.world_canvas.proofs.numbering.number_all.Goals as goal

pub loop-content-preserved : goal.loop-content-preserved
loop-content-preserved c =
    let numbers = c.loop-content.numbers.items in
    let n = c.in_ok-number.field-0 in
    let kinds = c.number.new.kinds in
    let contents = c.args.contents.now in
    let i = c.loop-content.content-index in
    let inside : i < length contents = omega arith in
    let long : length numbers ≡ i = c.loop-content.invariant.long in
    let item : c.in_ok-copy.field-0 ≡ get_or contents (length numbers) air_content =
    c.in_ok-copy.ensures ∙ c.content-item.is ∙ get_or_default contents i c.content-item.result air_content inside ∙ ap (λ (j : ℕ). get_or contents j air_content) (sym long) in
    let name : IsName kinds n (get_or contents (length numbers) air_content) = subst (λ (k : BlockContent). IsName kinds n k) item c.in_ok-number.ensures.name in
    let names = names_more c.loop-content.kinds kinds numbers n contents c.number.ensures.grown c.loop-content.invariant.named name in
    record {
      grown = grown_again c.args.kinds.now c.loop-content.kinds kinds c.loop-content.invariant.grown c.number.ensures.grown;
      long = ap (λ (ns : List ℕ). length ns) c.in_ok-push.ensures.items ∙ length-append numbers (n ∷ []) ∙ ap (λ (m : ℕ). m + 1) long;
      named = subst (λ (ns : List ℕ). AreNames kinds ns contents) (sym c.in_ok-push.ensures.items) names;
    }
