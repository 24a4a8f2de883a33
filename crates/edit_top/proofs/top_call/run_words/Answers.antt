use Rattle.std.proofs.Common.{map, sym}
use Rattle.std.specs.String.{string_bytes}
use Rattle.edit_top.specs.Words.{asked_view}
use Rattle.edit_top.proofs.Endings.{ends_finished, ends_stopped}
use Rattle.edit_top.proofs.top_call.run_words.Goals as goal

pub returns-in-Ok : goal.returns-in-Ok
returns-in-Ok g c = record {
  ending = ends_finished (map string_bytes c.args.words.now) (asked_view c.in-Some.asked) (sym c.in-Some.ensures.words) (g.F.Shelf.seen c.args.shelf.now) (g.F.Shelf.seen c.prepare.new.shelf) (g.F.Shelf.seen c.finish.new.shelf)
      c.in-Ok.ensures.stays c.in-Ok.ensures.later (g.K.Sink.seen c.args.out.now) (g.K.Sink.seen c.finish.new.out) c.in-Ok.prepared c.in-Ok.ensures.prepared c.finish.result c.finish.ensures;
}

pub returns-in-Err : goal.returns-in-Err
returns-in-Err g c = record {
  ending = ends_stopped (map string_bytes c.args.words.now) (asked_view c.in-Some.asked) (g.F.Shelf.seen c.args.shelf.now) (g.F.Shelf.seen c.prepare.new.shelf) (g.K.Sink.seen c.args.out.now) (g.K.Sink.seen c.print_fault.new.out)
      c.in-Err.status (sym c.in-Some.ensures.words) c.in-Err.ensures.cause c.in-Err.ensures.stays c.print_fault.ensures;
}
