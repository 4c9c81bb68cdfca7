-- A problem file with its variables in another order.
use Rattle.std.specs.Prelude.{◌≡◌, ℕ, ◌<◌, List, [], map, length, slice_index, slice_index_or}
use Rattle.std.specs.List.{All, AllZip}
use Rattle.dcop_base.specs.Table.{CostTable}
use Rattle.problem_text.specs.File.{TextFile}
use Rattle.problem_order.specs.Order.{IsOrder}

-- a table after the problem's variables were put into this order: its scope names the same
-- variables, each at its old place in the scope, by its new number, which is its place in the
-- order; so the cells stay where they are
pub record IsTableFor (order : List ℕ) (old new : CostTable) : Type 0 where
  pub within : All (λ v. v < length order) new.scope
  pub scope : map (slice_index order) new.scope ≡ old.scope
  pub sizes : new.sizes ≡ old.sizes
  pub cells : new.cells ≡ old.cells

-- the same file with its variables in this order: variable `k` of the new file is the old file's
-- variable at place `k` of the order
pub record IsReordered (old : TextFile) (order : List ℕ) (new : TextFile) : Type 0 where
  pub is_order : IsOrder (length old.problem.sizes) order
  pub version : new.version ≡ old.version
  pub goal : new.goal ≡ old.goal
  pub names : new.names ≡ map (λ v. slice_index_or old.names v []) order
  pub labels : new.labels ≡ map (λ v. slice_index_or old.labels v []) order
  pub sizes : new.problem.sizes ≡ map (λ v. slice_index old.problem.sizes v) order
  pub tables : AllZip (IsTableFor order) old.problem.tables new.problem.tables
