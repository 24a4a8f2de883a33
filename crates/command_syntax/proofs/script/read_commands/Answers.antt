use Rattle.std.proofs.Common.{map, sym, ap, ◌∙◌}
use Rattle.std.specs.List.{enumerate_from}
use Rattle.command_syntax.specs.Lines.{significant}
use Rattle.command_syntax.specs.Cursor.{line_now}
use Rattle.term_text.specs.Verdict.{all_or_first}
use Rattle.command_syntax.specs.Script.{judged}
use Rattle.term_text.proofs.Joined.{joined, joined_next}
use Rattle.command_syntax.proofs.Within.{one_within}
use Rattle.command_syntax.proofs.script.read_commands.Goals as goal

pub loop-line-preserved : goal.loop-line-preserved
loop-line-preserved c =
    let put = c.in_ok-put_last.ensures.put in
    record {
      reads = rw put (sym (joined_next judged _ _ c.in_ok-command.command (line_now c.in-Some.line) (significant c.next_significant.new.self) c.in_ok-command.ensures.read)
          ∙ ap (λ lines. joined c.loop-line.commands.items (all_or_first (map judged (enumerate_from c.loop-line.count lines)))) (sym c.in-Some.ensures.cases)
          ∙ c.loop-line.invariant.reads);
      within = rw put (one_within _ _ c.in_ok-command.command c.loop-line.invariant.within c.in_ok-command.ensures.few c.in_ok-command.ensures.within);
    }
