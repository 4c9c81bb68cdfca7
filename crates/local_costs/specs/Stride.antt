-- The order of a table's cells.
use Rattle.std.specs.Prelude.{ℕ, List, [], ◌∷◌, ◌==◌, if◌then◌else◌}
use Rattle.dcop_base.specs.Table.{product}

-- how far apart the cells of a variable's neighbouring values are: the product of the sizes after the variable; 0 if it is not in the scope
abbrev pub stride : List ℕ → List ℕ → ℕ → ℕ
stride [] sizes v = 0
stride (u ∷ us) [] v = 0
stride (u ∷ us) (s ∷ ss) v = if u == v then product ss else stride us ss v
