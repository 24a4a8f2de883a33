-- The two forms of a list show the same: what it owns, or what it shares.
use Rattle.std.specs.Prelude.{List}
use Rattle.edit_terms.specs.declared.items.HeldItems.{HeldItems}
use Rattle.edit_terms.specs.declared.items.HeldItems.TheVariants.{Own, Shared}
use Rattle.std.specs.Arc.{arc_value}

abbrev pub items_held : {X : Type 0} → HeldItems X → List X
items_held (Own items) = items.items
items_held (Shared items) = (arc_value items).items
