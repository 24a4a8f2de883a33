use Rattle.std.proofs.Common.{◌≡◌, Ok, map, sym, ap, ◌∙◌}
use Rattle.std.specs.List.{enumerate_from}
use Rattle.edit_terms.specs.StateText.{comma}
use Rattle.term_text.specs.Cursor.{piece_now}
use Rattle.term_text.specs.Pieces.{pieces_at}
use Rattle.term_text.specs.Verdict.{all_or_first}
use Rattle.pattern_syntax.specs.Pattern.{judged, entries_reading}
use Rattle.term_text.proofs.Joined.{joined, joined_next, joined_all}
use Rattle.pattern_syntax.proofs.Within.{one_within, pattern_within}
use Rattle.pattern_syntax.proofs.pattern.read_entries.Goals as goal

pub loop-piece-preserved : goal.loop-piece-preserved
loop-piece-preserved c =
    let put = c.in_ok-put_last.ensures.put in
    record {
      reads = rw put (sym (joined_next judged _ _ c.in_ok-entry.entry (piece_now c.in-Some.piece) c.next.new.self c.in_ok-entry.ensures.read)
          ∙ ap (λ pieces. joined c.loop-piece.entries.items (all_or_first (map judged (enumerate_from c.loop-piece.count pieces)))) (sym c.in-Some.ensures.cases)
          ∙ c.loop-piece.invariant.reads);
      within = rw put (one_within _ _ c.in_ok-entry.entry c.loop-piece.invariant.within c.in_ok-entry.ensures.few c.in_ok-entry.ensures.within);
    }

-- the entries that were read are all of them
pub returns-clause-within : goal.returns-clause-within
returns-clause-within c =
    let entries = c.loop-piece.entries.items in
    let read : entries_reading (pieces_at comma 0 c.args.text.now) ≡ Ok entries =
    sym c.loop-piece.invariant.reads
    ∙ ap (λ pieces. joined entries (all_or_first (map judged (enumerate_from c.loop-piece.count pieces)))) c.in_default.ensures.cases
    ∙ joined_all entries in
    pattern_within c.args.text.now entries c.loop-piece.count read c.loop-piece.invariant.within
