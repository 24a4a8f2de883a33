-- A new number gets the entry's place.
use Rattle.std.proofs.Common.{sym, ap, ◌∙◌}
use Rattle.std.specs.Prelude.{is_some}
use Rattle.sponge_schematic.proofs.Chain.{OnOk-implied}
use Rattle.sponge_schematic.proofs.PlaceLemmas.{new-push}
use Rattle.sponge_schematic.proofs.places.put_first.Goals as goal

pub returns : goal.returns
returns c =
    OnOk-implied c.put_new.result
    (λ put numbers long h. new-push c.args.table.now numbers c.args.number.now c.in-Some.number (sym c.in-Some.ensures) h c.put_new.new.table c.args.place
    (sym (c.if-is_some.ensures ∙ ap is_some c.place_in.ensures)) long put)
    c.put_new.ensures
