use Rattle.std.proofs.Common.{Some}
use Rattle.change_set.proofs.KeptLemmas.{kept_after}
use Rattle.change_set.proofs.kept.Kept.put.Goals as goal

pub returns-clause-kept : goal.returns-clause-kept
returns-clause-kept c = λ s.
    let e = c.in_ok-insert.ensures in
    kept_after c.self.inside.changes.entries c.insert.new.self.entries c.args.self.now c.args.source s (Some c.args.changes) c.self.view_is (e.updates.0 (s.player, s.step))
