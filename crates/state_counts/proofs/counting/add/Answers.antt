use Rattle.std.proofs.Common.{ap, ◌∙◌}
use Rattle.edit_terms.specs.StateText.{written_state}
use Rattle.state_counts.specs.Counts.{count_of}
use Rattle.state_counts.proofs.Census.{added_at_text}
use Rattle.state_counts.proofs.counting.add.Goals as goal

pub returns-clause-added : goal.returns-clause-added
returns-clause-added c =
    added_at_text c.args.counts.now c.insert.new.self c.in_ok-text.text (written_state c.args.state.now) c.args.blocks c.count_of-before.result c.in_ok-text.ensures.written (c.count_of-before.ensures ∙ ap (count_of c.args.counts.now) c.deref.ensures.value) c.in_ok-insert.ensures.updates
