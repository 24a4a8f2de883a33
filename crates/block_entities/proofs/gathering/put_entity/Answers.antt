use Rattle.std.proofs.Common.{◌<◌, ℕ, sym, ◌∙◌, subst, All}
use Rattle.std.specs.Ordering.{nat_cmp}
use Rattle.std.specs.Arc.{arc_value}
use Rattle.std.specs.Map.{keys_of, values_of}
use Rattle.std.specs.declared.sync.Arc.{Arc}
use Rattle.std.specs.declared.alloc.Global.{Global}
use Rattle.std.proofs.lemmas.Map.Views.{All-keys-insert_entry, All-values-insert_entry}
use Rattle.edit_terms.specs.Area.{volume}
use Rattle.edit_terms.specs.World.{EntityTags}
use Rattle.block_entities.specs.FileEntities.{IsFileEntity}
use Rattle.block_entities.proofs.GoodEntities.{tags_of_entry-good}
use Rattle.block_entities.proofs.gathering.put_entity.Goals as goal

pub returns-clause-below : goal.returns-clause-below
returns-clause-below c = λ all.
    let P : ℕ → Type 0 = λ index. index < volume c.args.area.now in
    subst (λ es. All P (keys_of es)) (sym c.in_ok-insert.ensures.entries)
    (All-keys-insert_entry nat_cmp c.in-Some.index c.in_ok-new.field-0 P c.args.found.now.entries all c.in-Some.ensures.below)

pub returns-clause-good : goal.returns-clause-good
returns-clause-good c = λ all.
    let P : Arc EntityTags Global → Type 0 = λ e. IsFileEntity (arc_value e) in
    let place = sym c.place_of.ensures.place ∙ c.in-Some.is in
    let good = tags_of_entry-good c.args.area.now c.args.entry.now c.in-Some.index c.requires place in
    let held = c.in_ok-new.ensures.ok ∙ c.in_ok-entity.ensures in
    subst (λ es. All P (values_of es)) (sym c.in_ok-insert.ensures.entries)
    (All-values-insert_entry nat_cmp c.in-Some.index c.in_ok-new.field-0 P c.args.found.now.entries all (subst IsFileEntity (sym held) good))
