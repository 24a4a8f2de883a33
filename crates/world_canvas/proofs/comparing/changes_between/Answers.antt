use Rattle.std.proofs.Common.{◌<◌, arith}
use Rattle.edit_terms.specs.Area.{volume}
use Rattle.world_canvas.proofs.Differences.{change_recorded, no_change_recorded}
use Rattle.world_canvas.proofs.comparing.changes_between.Goals as goal
use Rattle.world_canvas.proofs.comparing.changes_between.Goals.{in-Some+in_ok-push, in_default}

pub loop-index-preserved : goal.loop-index-preserved
loop-index-preserved c =
    let area = c.args.area.now in
    let kinds = c.args.kinds.now in
    let old = c.args.old.now in
    let new = c.args.new.now in
    let k = c.loop-index.index in
    let within : k < volume area = omega arith in
    elim c.match-change_at.branch [
      | in-Some+in_ok-push w ↦
          let recorded = change_recorded area kinds old new k c.loop-index.changes.items w.in-Some.change within c.loop-index.invariant w.in-Some.ensures.shown w.in-Some.ensures.named w.in-Some.ensures.place in
          rw (w.changes-is, w.in_ok-push.ensures.items) recorded
      | in_default w ↦
          let recorded = no_change_recorded area kinds old new k c.loop-index.changes.items within c.loop-index.invariant w.in_default.ensures.shown in
          rw w.changes-is recorded
    ]
