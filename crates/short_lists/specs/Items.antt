-- Where a list holds its items.
use Rattle.std.specs.Prelude.{List, ℕ, length, ◌<◌}
use Rattle.std.specs.Arc.{arc_value}
use Rattle.short_lists.specs.declared.items.Items.{Items}
use Rattle.short_lists.specs.declared.items.Items.TheVariants.{Few, Own, Shared}

-- the items that a list holds, wherever it holds them
abbrev pub items_in : {T : Type 0} → Items T → List T
items_in (Few items) = items.items
items_in (Own items) = items.items
items_in (Shared items) = (arc_value items).items

-- one more item fits where the items are: in the list, which holds at most so many in itself, or
-- in memory of its own, which grows
abbrev pub HasRoom : {T : Type 0} → ℕ → Items T → Type 0
HasRoom few (Few items) = length items.items < few
HasRoom few (Own items) = Unit {0}
HasRoom few (Shared items) = ⊥
