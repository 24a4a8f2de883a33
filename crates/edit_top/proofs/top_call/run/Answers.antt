use Rattle.std.proofs.Common.{map}
use Rattle.std.specs.String.{string_bytes}
use Rattle.edit_top.proofs.Completeness.{ends_well}
use Rattle.edit_top.proofs.top_call.run.Goals as goal

pub returns-clause-complete : goal.returns-clause-complete
returns-clause-complete g c good steady =
    ends_well (map string_bytes c.args.words.now) (g.F.Shelf.seen c.args.shelf.now) (g.F.Shelf.seen c.run_words.new.shelf) (g.K.Sink.seen c.args.out.now) (g.K.Sink.seen c.run_words.new.out) c.run_words.result c.run_words.ensures.ending good steady
