-- The values of a cell of a table.
use Rattle.std.specs.Prelude.{ℕ, ◌/◌, ◌%◌, List, [], ◌∷◌}
use Rattle.dcop_base.specs.Table.{product}

-- the values of cell k of a table of these sizes; the last value varies fastest
abbrev pub values_of_cell : List ℕ → ℕ → List ℕ
values_of_cell [] k = []
values_of_cell (s ∷ ss) k = k / product ss ∷ values_of_cell ss (k % product ss)
