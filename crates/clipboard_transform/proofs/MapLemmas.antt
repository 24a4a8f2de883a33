-- What a position of the map keeps to, coordinate by coordinate.
use Rattle.std.proofs.Common.{◌≡◌, true}
use Rattle.edit_terms.specs.declared.pos.Pos.{Pos}
use Rattle.edit_terms.specs.Area.{is_on_map}
use Rattle.edit_terms.proofs.AreaLemmas.{held_on_map}
use Rattle.clipboard_transform.specs.Bounds.{IsOnMap}

pub on_map : (p : Pos) → is_on_map p ≡ true → IsOnMap p
on_map p h =
    let at = held_on_map p h in
    record { least_x = at.least_x; most_x = at.most_x; least_y = at.least_y; most_y = at.most_y; least_z = at.least_z; most_z = at.most_z }
