use Rattle.std.proofs.Common.{ℕ, List, map, sym, subst}
use Rattle.std.specs.String.{string_bytes}
use Rattle.edit_top.specs.CheckEnds.{Prints}
use Rattle.edit_top.proofs.DrillEndings.{drill_printed}
use Rattle.edit_top.proofs.drilling.drill_words.Goals as goal

pub returns-in_default : goal.returns-in_default
returns-in_default g c = record { words_are = sym c.in_default.ensures; message = c.print_drill_usage.ensures }

pub returns-in-Ok : goal.returns-in-Ok
returns-in-Ok g c =
    drill_printed (map string_bytes c.args.words.now) (g.K.Sink.seen c.args.out.now) (g.K.Sink.seen c.print.new.out) c.in-Ok.text.items c.print.result
    (record { number = c.in-Some.number; are = sym c.in-Some.ensures; tells = c.in-Ok.ensures })
    (subst (λ (t : List ℕ). Prints t (g.K.Sink.seen c.args.out.now) (g.K.Sink.seen c.print.new.out) c.print.result) c.deref.ensures.value c.print.ensures)

pub returns-in-Err : goal.returns-in-Err
returns-in-Err g c = record { number = c.in-Some.number; are = sym c.in-Some.ensures; message = c.print_memory.ensures }
