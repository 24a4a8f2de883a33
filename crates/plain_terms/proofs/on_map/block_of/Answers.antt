use Rattle.std.proofs.Common.{rules, ◌≡◌, false, sym, ◌∙◌}
use Rattle.plain_terms.specs.Places.{pos_of}
use Rattle.plain_terms.proofs.MapLemmas.{off_any_map}
use Rattle.plain_terms.proofs.on_map.block_of.Goals as goal

pub returns-then-not-is_on_map : goal.returns-then-not-is_on_map
returns-then-not-is_on_map c =
    let off : c.is_on_map.result ≡ false = search rules in
    off_any_map c.args.area.now (pos_of c.args.place.now) c.well_formed-2.ensures (sym c.is_on_map.ensures ∙ off)
