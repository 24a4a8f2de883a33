use Rattle.std.proofs.Common.{◌++◌, List, ℕ, sym, ap, subst, ◌∙◌}
use Rattle.nbt_tags.specs.Spelling.{SpellsRow}
use Rattle.nbt_tags.specs.Written.{written_row}
use Rattle.nbt_tags.proofs.Spelled.{written_row-spells}
use Rattle.nbt_tags.proofs.writing.encode_row.Goals as goal

pub returns-clause-spelled : goal.returns-clause-spelled
returns-clause-spelled c = λ depth fits.
    let row = c.args.row.now in
    let is = c.in_ok-put_row.ensures ∙ ap (λ (front : List ℕ). front ++ written_row row) c.new-bytes.ensures.items in
    subst (λ (bytes : List ℕ). SpellsRow depth row bytes) (sym is) (written_row-spells depth row fits)
