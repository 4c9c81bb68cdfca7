-- The turned problem: its least costs give the greatest sums of a problem.
use Rattle.std.specs.Prelude.{◌≡◌, ℕ, ◌+◌, ◌-◌, ◌≤◌, List, map}
use Rattle.dcop_base.specs.Table.{CostTable, greatest}
use Rattle.dcop_base.specs.Problem.{Dcop, IsAssignment, cost}
use Rattle.dcop_base.specs.Faults.{greatest_sum}
use Rattle.dcop_optimum.specs.Optimum.{IsOptimum}

-- a table with each cell replaced by the table's greatest cell minus the cell
abbrev pub turned_table : CostTable → CostTable
turned_table t = record { scope = t.scope; sizes = t.sizes; cells = map (λ cell. greatest t.cells - cell) t.cells }

-- a problem with each table turned
abbrev pub turned : Dcop → Dcop
turned p = record { sizes = p.sizes; tables = map turned_table p.tables; joints = p.joints }

-- the top sum of a problem: the sum of its tables' greatest cells
abbrev pub top_of : Dcop → ℕ
top_of p = greatest_sum p.tables

-- the greatest sum: some assignment costs this much, and none costs more
pub record IsGreatestSum (p : Dcop) (most : ℕ) : Type 0 where
  pub attained : (values : List ℕ) × IsAssignment p values × (cost p values ≡ most)
  pub highest : (values : List ℕ) → IsAssignment p values → cost p values ≤ most

-- the costs of an assignment in two problems always add up to the top sum of the first
abbrev pub SumToTop : Dcop → Dcop → Type 0
SumToTop p q = (values : List ℕ) → IsAssignment p values → cost p values + cost q values ≡ top_of p

-- the optimum of the second problem gives the greatest sum of the first: the top sum minus the optimum
abbrev pub TellsGreatest : Dcop → Dcop → Type 0
TellsGreatest p q = (least : ℕ) → IsOptimum q least → IsGreatestSum p (top_of p - least)
