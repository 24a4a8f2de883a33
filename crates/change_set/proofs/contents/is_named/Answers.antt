use Rattle.std.proofs.Common.{◌≡◌, sym, ◌∙◌}
use Rattle.change_set.proofs.ContentLemmas.{named_by_entry}
use Rattle.change_set.proofs.contents.is_named.Goals as goal

pub returns-in-Some : goal.returns-in-Some
returns-in-Some c = λ yes.
    let e = c.in-Some.ensures in
    named_by_entry c.args.contents.now c.args.content.now c.in-Some.there.now c.args.number (sym e.entry) (sym c.eq.ensures ∙ yes)
