use Rattle.std.proofs.Common.{None, ◌∙◌, ap}
use Rattle.change_set.specs.Kept.{KeptChanges, kept_of}
use Rattle.change_set.proofs.KeptLemmas.{kept_by_order, kept_after}
use Rattle.change_set.proofs.kept.Kept.take.Goals as goal

pub returns-clause-taken : goal.returns-clause-taken
returns-clause-taken c =
    c.remove.ensures.value ∙ kept_by_order c.self.inside.changes.entries c.args.source ∙ ap (λ (kept : KeptChanges). kept_of kept c.args.source) c.self.view_is

pub returns-clause-others : goal.returns-clause-others
returns-clause-others c = λ s.
    kept_after c.self.inside.changes.entries c.remove.new.self.entries c.args.self.now c.args.source s None c.self.view_is (c.remove.ensures.updates.0 (s.player, s.step))
