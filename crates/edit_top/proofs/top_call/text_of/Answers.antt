use Rattle.std.proofs.Common.{List, length, ap, sym, ◌∙◌}
use Rattle.std.proofs.lemmas.List.FromFn.{length-map-range_with_len}
use Rattle.edit_terms.specs.declared.outcome.Reply.{Reply}
use Rattle.run_terms.specs.Workload.{workload_of}
use Rattle.run_terms.specs.Reply.{reply_of}
use Rattle.edit_top.proofs.top_call.text_of.Goals as goal

pub run_text-requires-clause-replied : goal.run_text-requires-clause-replied
run_text-requires-clause-replied c =
    ap (λ (rs : List Reply). length rs) (c.as_slice-replies.ensures ∙ c.requires.replies)
    ∙ length-map-range_with_len (reply_of (workload_of c.args.case.now) c.args.outcome.now.order) 0 (length c.args.outcome.now.order)
    ∙ ap length (sym c.as_slice-order.ensures)
