use Rattle.std.proofs.Common.{ℕ, List, ◌++◌, codes, subst, ◌∙◌}
use Rattle.std.proofs.lemmas.List.{append-nil}
use Rattle.edit_top.specs.Ends.{IsPrinted}
use Rattle.edit_top.proofs.message.print_fault.Goals as goal

pub returns-in-DuplicatePlayer : goal.returns-in-DuplicatePlayer
returns-in-DuplicatePlayer g c =
    rw c.in-DuplicatePlayer.is
    (subst (λ (name : List ℕ). IsPrinted (g.K.Sink.seen c.args.out.now) (g.K.Sink.seen c.print_about-in-DuplicatePlayer.new.out) (codes "fault: script " ++ name ++ codes ": player already used\n")) c.file-name.ensures c.print_about-in-DuplicatePlayer.ensures)

pub returns-in-OutOfMemory : goal.returns-in-OutOfMemory
returns-in-OutOfMemory g c =
    rw c.in-OutOfMemory.is
    (subst (λ (text : List ℕ). IsPrinted (g.K.Sink.seen c.args.out.now) (g.K.Sink.seen c.print_message.new.out) text) (append-nil c.as_slice.result.now ∙ c.as_slice.ensures) c.print_message.ensures)
