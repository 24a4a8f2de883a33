use Rattle.std.proofs.Common.{◌≡◌, ℕ, ◌+◌, ◌*◌, ◌<◌, ◌≤◌, ◌++◌, ◌∷◌, [], List, length, map, sym, ap, ◌∙◌, arith}
use Rattle.std.specs.List.{range_with_len}
use Rattle.std.proofs.lemmas.List.FromFn.{length-map-range_with_len, map-range_with_len_more}
use Rattle.edit_terms.specs.Area.{volume, position_of}
use Rattle.edit_terms.specs.StateText.{State}
use Rattle.chunk_sections.specs.declared.cut.Cut.{Cut}
use Rattle.chunk_sections.specs.Cut.{cut_of, section_count, section_start, section_size}
use Rattle.chunk_sections.specs.Section.{states_of}
use Rattle.chunk_sections.specs.Column.{kind_at, grid_states}
use Rattle.chunk_sections.proofs.CutLemmas.{section_end, volume_layers}
use Rattle.chunk_sections.proofs.ColumnContents.{states_of_kinds}
use Rattle.chunk_sections.proofs.opening.sections_of.Goals as goal

pub gather-requires-clause-within : goal.gather-requires-clause-within
gather-requires-clause-within c =
    let there : c.loop-number.number < section_count c.of-cut.result = omega (arith, c.count-count.ensures.value, c.loop-number-test.true) in
    let end = section_end c.of-cut.result c.of-cut.ensures.fits c.loop-number.number there in
    let tall = volume_layers c.args.part.now in
    let same = ap (λ (k : Cut). k.layers * k.layer) c.of-cut.ensures.value in
    omega (arith, end, tall, same, c.start.ensures.value, c.size.ensures.value)

pub made-requires-clause-few : goal.made-requires-clause-few
made-requires-clause-few c =
    let long = ap length (c.deref.ensures.value ∙ c.in_ok-gather.ensures.kinds) ∙ length-map-range_with_len (λ i. kind_at c.args.grid.now (position_of c.args.part.now i)) c.start.result c.size.result in
    omega (arith, long, c.size.ensures.few)

pub loop-number-preserved : goal.loop-number-preserved
loop-number-preserved c =
    let g = c.args.grid.now in
    let part = c.args.part.now in
    let n = c.loop-number.number in
    let f : ℕ → List State = λ s. grid_states c.args.grid.now c.args.part.now (section_start (cut_of c.args.part.now) s) (section_size (cut_of c.args.part.now) s) in
    let there : c.loop-number.number < section_count c.of-cut.result = omega (arith, c.count-count.ensures.value, c.loop-number-test.true) in
    let end = section_end c.of-cut.result c.of-cut.ensures.fits c.loop-number.number there in
    let tall = volume_layers c.args.part.now in
    let same = ap (λ (k : Cut). k.layers * k.layer) c.of-cut.ensures.value in
    let within : c.start.result + c.size.result ≤ volume c.args.part.now = omega (arith, end, tall, same, c.start.ensures.value, c.size.ensures.value) in
    let start : c.start.result ≡ section_start (cut_of c.args.part.now) c.loop-number.number = c.start.ensures.value ∙ ap (λ (k : Cut). section_start k c.loop-number.number) c.of-cut.ensures.value in
    let size : c.size.result ≡ section_size (cut_of c.args.part.now) c.loop-number.number = c.size.ensures.value ∙ ap (λ (k : Cut). section_size k c.loop-number.number) c.of-cut.ensures.value in
    let section =
    c.in_ok-made.ensures
    ∙ ap (λ (ks : List State). states_of ks c.deref.result.now) c.kinds.ensures
    ∙ ap (states_of c.args.grid.now.kinds) (c.deref.ensures.value ∙ c.in_ok-gather.ensures.kinds)
    ∙ states_of_kinds g part c.requires c.start.result c.size.result within
    ∙ ap (λ k. grid_states c.args.grid.now c.args.part.now k c.size.result) start
    ∙ ap (λ k. grid_states c.args.grid.now c.args.part.now (section_start (cut_of c.args.part.now) c.loop-number.number) k) size in
    c.in_ok-push.ensures.items ∙ ap (λ (ss : List (List State)). ss ++ c.in_ok-made.field-0 ∷ []) c.loop-number.invariant
    ∙ ap (λ (x : List State). map f (range_with_len 0 c.loop-number.number) ++ x ∷ []) section
    ∙ sym (map-range_with_len_more f 0 c.loop-number.number c.loop-number.number (omega arith))
