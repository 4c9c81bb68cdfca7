-- What holds of every problem: its limits, its tables and its joints.
use Rattle.std.specs.Prelude.{◌≡◌, ℕ, ◌<◌, ◌≤◌, List, map, length, slice_index}
use Rattle.std.specs.List.{All}
use Rattle.dcop_base.specs.Table.{CostTable, IsTable}
use Rattle.dcop_base.specs.Problem.{Dcop}
use Rattle.dcop_base.specs.Faults.{cell_count, greatest_sum}
use Rattle.dcop_base.specs.Graph.{AreJoints}
use Rattle.dcop_base.specs.Limits.{amount_limit, variable_limit, size_limit, scope_limit, cost_limit, cell_limit}

-- a table of a problem with these sizes: it has one to four of the problem's variables, each with its size, and each cell is at most cost_limit
pub record IsTableOf (sizes : List ℕ) (t : CostTable) : Type 0 where
  pub whole : IsTable t
  pub some : 1 ≤ length t.scope
  pub few : length t.scope ≤ scope_limit
  pub within : All (λ v. v < length sizes) t.scope
  pub sized : t.sizes ≡ map (λ v. slice_index sizes v) t.scope
  pub cheap : All (λ c. c ≤ cost_limit) t.cells

-- a problem within the limits, with the joints that make it connected
pub record IsProblem (p : Dcop) : Type 0 where
  pub some : 1 ≤ length p.sizes
  pub few : length p.sizes ≤ variable_limit
  pub sizes : All (λ s. (1 ≤ s) × (s ≤ size_limit)) p.sizes
  pub tables : All (IsTableOf p.sizes) p.tables
  pub cells : cell_count p.tables ≤ cell_limit
  pub sums : greatest_sum p.tables ≤ amount_limit
  pub joints : AreJoints (length p.sizes) p.tables p.joints
