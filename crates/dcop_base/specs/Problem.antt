-- Problems, their assignments, and the cost of an assignment.
use Rattle.std.specs.Prelude.{ℕ, List}
use Rattle.std.specs.List.{sum_by}
use Rattle.dcop_base.specs.Table.{CostTable, AreWithin, cell_at}

-- a problem: the number of values of each variable, the cost tables, and the joints, which are pairs of variables that connect what the tables do not
pub record Dcop : Type 0 where
  pub sizes : List ℕ
  pub tables : List CostTable
  pub joints : List (ℕ × ℕ)

-- an assignment of a problem: one value for each variable, below its size
abbrev pub IsAssignment : Dcop → List ℕ → Type 0
IsAssignment p values = AreWithin p.sizes values

-- the cost of an assignment: the sum of the cells that it selects, one from each table
abbrev pub cost : Dcop → List ℕ → ℕ
cost p values = sum_by (λ t. cell_at t values) p.tables
