use Rattle.std.proofs.Common.{◌+◌, ◌*◌, List, length, ap, ◌∙◌, arith}
use Rattle.std.proofs.lemmas.List.{length-append}
use Rattle.edit_terms.specs.declared.script.Line.{Line}
use Rattle.world_gen.specs.Drill.{drill_word, group_commands, lines_from}
use Rattle.world_gen.proofs.LineLemmas.{lines_more}
use Rattle.world_gen.proofs.scripts.lines.Goals as goal

pub loop-group-preserved : goal.loop-group-preserved
loop-group-preserved c =
    let k = c.loop-group.group in
    let group = group_commands (drill_word c.args.number c.args.player k) c.args.player in
    record {
      lines = lines_more c.args.number c.args.player k c.loop-group.lines.items c.push_group.new.lines.items c.loop-group.invariant.lines c.loop-group.invariant.long c.in_ok-push_group.ensures;
      long = ap (λ (ls : List Line). length ls) c.in_ok-push_group.ensures ∙ omega (arith, length-append c.loop-group.lines.items (lines_from (3 * k + 2) group), c.loop-group.invariant.long);
    }
