use Rattle.std.proofs.Common.{map}
use Rattle.std.specs.String.{string_bytes}
use Rattle.edit_top.proofs.DrillEndings.{drill_ends_well, drill_is_no_failure}
use Rattle.edit_top.proofs.drilling.drill.Goals as goal

pub returns-clause-complete : goal.returns-clause-complete
returns-clause-complete g c good steady =
    drill_ends_well (map string_bytes c.args.words.now) (g.K.Sink.seen c.args.out.now) (g.K.Sink.seen c.drill_words.new.out) c.drill_words.result c.drill_words.ensures good steady

pub returns-clause-faultless : goal.returns-clause-faultless
returns-clause-faultless g c steady =
    drill_is_no_failure (map string_bytes c.args.words.now) (g.K.Sink.seen c.args.out.now) (g.K.Sink.seen c.drill_words.new.out) c.drill_words.result c.drill_words.ensures steady
