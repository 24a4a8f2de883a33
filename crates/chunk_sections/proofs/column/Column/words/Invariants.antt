use Rattle.std.proofs.Common.{◌≡◌, ◌*◌, ◌≤◌, length, map}
use Rattle.std.specs.List.{range_with_len, sum_by}
use Rattle.chunk_sections.specs.Section.{section_words}
use Rattle.chunk_sections.specs.Column.{section_states}
use Rattle.chunk_sections.proofs.column.Column.words.Given as goal

abbrev pub invariant-loop-number : goal.invariant-loop-number
invariant-loop-number l = record {
  total : l.words ≡ sum_by (λ states. length (section_words states)) (map (section_states l.self) (range_with_len 0 l.number));
  few : l.words ≤ 4096 * l.number;
}
