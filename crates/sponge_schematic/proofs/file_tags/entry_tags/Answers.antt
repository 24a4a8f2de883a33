use Rattle.std.proofs.Common.{sym, ap, ◌∙◌, ◌++◌, ◌∷◌, []}
use Rattle.nbt_tags.specs.declared.tag.Named.{Named}
use Rattle.sponge_schematic.proofs.PaletteTags.{entry-next}
use Rattle.sponge_schematic.proofs.file_tags.entry_tags.Goals as goal

pub loop-number-preserved : goal.loop-number-preserved
loop-number-preserved c =
    entry-next c.args.palette.now c.loop-number.number c.in-Some.state.now c.loop-number.out.items c.push.new.self.items (sym c.in-Some.ensures.entry)
    (c.in_ok-push.ensures.items ∙ ap (λ (x : Named). c.loop-number.out.items ++ x ∷ []) c.in_ok-entry_tag.ensures) ∙ c.loop-number.invariant
