use Rattle.std.proofs.Common.{map}
use Rattle.std.specs.String.{string_bytes}
use Rattle.edit_top.proofs.CheckEndings.{check_ends_well, check_is_no_failure}
use Rattle.edit_top.proofs.checking.check.Goals as goal

pub returns-clause-complete : goal.returns-clause-complete
returns-clause-complete g c good steady =
    check_ends_well (map string_bytes c.args.words.now) (g.F.Shelf.seen c.args.shelf.now) (g.F.Shelf.seen c.check_words.new.shelf) (g.K.Sink.seen c.args.out.now) (g.K.Sink.seen c.check_words.new.out) c.check_words.result c.check_words.ensures good steady

pub returns-clause-faultless : goal.returns-clause-faultless
returns-clause-faultless g c steady =
    check_is_no_failure (map string_bytes c.args.words.now) (g.F.Shelf.seen c.args.shelf.now) (g.F.Shelf.seen c.check_words.new.shelf) (g.K.Sink.seen c.args.out.now) (g.K.Sink.seen c.check_words.new.out) c.check_words.result c.check_words.ensures steady
