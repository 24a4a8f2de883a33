use Rattle.std.proofs.Common.{◌++◌, List, ℕ, sym, ap, subst, ◌∙◌}
use Rattle.nbt_tags.specs.Spelling.{Spells}
use Rattle.nbt_tags.specs.Written.{written}
use Rattle.nbt_tags.proofs.Spelled.{written-spells}
use Rattle.nbt_tags.proofs.writing.encode.Goals as goal

pub returns-clause-spelled : goal.returns-clause-spelled
returns-clause-spelled c =
    let tag = c.args.tag.now in
    let is = c.in_ok-put_entry.ensures ∙ ap (λ (front : List ℕ). front ++ written tag) c.new-bytes.ensures.items in
    subst (λ (bytes : List ℕ). Spells tag bytes) (sym is) (written-spells tag c.requires)
