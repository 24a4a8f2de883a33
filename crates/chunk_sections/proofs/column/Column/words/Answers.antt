use Rattle.std.proofs.Common.{ℕ, ◌+◌, List, length, map, sym, ap, ◌∙◌, arith}
use Rattle.std.specs.List.{range_with_len, sum_by}
use Rattle.std.proofs.lemmas.List.FromFn.{sum_by-map-range_with_len_more}
use Rattle.edit_terms.specs.StateText.{State}
use Rattle.chunk_sections.specs.Section.{section_words}
use Rattle.chunk_sections.specs.Column.{section_states}
use Rattle.chunk_sections.proofs.column.Column.words.Goals as goal

pub loop-number-preserved : goal.loop-number-preserved
loop-number-preserved c =
    let g : List State → ℕ = λ states. length (section_words states) in
    let more = sum_by-map-range_with_len_more g (section_states c.args.self.now) 0 c.loop-number.number c.loop-number.number (omega arith) in
    record {
      total =
          ap (λ k. k + c.words_of-words.result) c.loop-number.invariant.total
          ∙ ap (λ k. sum_by g (map (section_states c.args.self.now) (range_with_len 0 c.loop-number.number)) + k) c.words_of-words.ensures.words ∙ sym more;
      few = omega (arith, c.words_of-words.ensures.few, c.loop-number.invariant.few);
    }
