use Rattle.std.proofs.Common.{◌≡◌, take}
use Rattle.std.specs.List.{filter}
use Rattle.edit_terms.specs.Area.{holds}
use Rattle.chunk_sections.specs.Column.{shown_entities}
use Rattle.chunk_sections.proofs.opening.entities_of.Given as goal

abbrev pub invariant-loop-placed : goal.invariant-loop-placed
invariant-loop-placed l =
    shown_entities l.list.items ≡ filter (λ e. holds l.part e.0) (take l.placed-index (shown_entities l.placed-items))
