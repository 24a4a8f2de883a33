use Rattle.std.proofs.Common.{ℕ, List, map, refl, subst}
use Rattle.std.specs.String.{string_bytes}
use Rattle.edit_top.specs.CheckEnds.{Prints}
use Rattle.edit_top.specs.Words.{names_view}
use Rattle.edit_top.proofs.CheckEndings.{are_named, none_named, ends_printed, ends_refused}
use Rattle.edit_top.proofs.checking.check_words.Goals as goal

pub returns-in_default : goal.returns-in_default
returns-in_default g c = record { words_are = none_named (map string_bytes c.args.words.now) c.in_default.ensures; stays = refl; message = c.print_check_usage.ensures }

pub returns-in-Ok : goal.returns-in-Ok
returns-in-Ok g c =
    ends_printed (map string_bytes c.args.words.now) (names_view c.in-Some.names) (are_named (map string_bytes c.args.words.now) (names_view c.in-Some.names) c.in-Some.ensures) (g.F.Shelf.seen c.args.shelf.now) (g.F.Shelf.seen c.file_text.new.shelf)
    c.in-Ok.ensures.stays (g.K.Sink.seen c.args.out.now) (g.K.Sink.seen c.print.new.out) c.in-Ok.text.items c.in-Ok.ensures.text c.print.result
    (subst (λ (t : List ℕ). Prints t (g.K.Sink.seen c.args.out.now) (g.K.Sink.seen c.print.new.out) c.print.result) c.deref.ensures.value c.print.ensures)

pub returns-in-Err : goal.returns-in-Err
returns-in-Err g c =
    ends_refused (map string_bytes c.args.words.now) (names_view c.in-Some.names) (are_named (map string_bytes c.args.words.now) (names_view c.in-Some.names) c.in-Some.ensures) (g.F.Shelf.seen c.args.shelf.now) (g.F.Shelf.seen c.file_text.new.shelf)
    c.in-Err.ensures.stays (g.K.Sink.seen c.args.out.now) (g.K.Sink.seen c.print_fault.new.out) c.in-Err.status c.in-Err.ensures.cause c.print_fault.ensures
