-- Tables in lists by their depth.
use Rattle.std.specs.Prelude.{◌≡◌, ℕ, ◌+◌, ◌<◌, List, [], ◌++◌, length, slice_index_or}
use Rattle.std.specs.List.{All}
use Rattle.std.specs.List.Sorted.{IsPermutation}
use Rattle.dcop_base.specs.Table.{CostTable}
use Rattle.dcop_base.specs.Values.{cost_with}
use Rattle.shared_costs.specs.Tables.{IsTableOver, IsOfDepth, all_tables, depths_cost}

-- lists of tables, one for each depth; together with the tables that are left they are all these tables, and have the same sum at any values
pub record AreByDepth (sizes : List ℕ) (tables left : List CostTable) (depths : List (List CostTable)) : Type 0 where
  pub many : length depths ≡ length sizes
  pub each : (p : ℕ) → p < length sizes → All (λ t. IsTableOver sizes t × IsOfDepth p t) (slice_index_or depths p [])
  pub all : IsPermutation tables (left ++ all_tables depths)
  pub sums : (value : ℕ → ℕ) → depths_cost depths value + cost_with left value ≡ cost_with tables value
