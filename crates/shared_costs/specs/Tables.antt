-- Tables over the variables of a problem, and their depths. Variables are numbered in the order of the search.
use Rattle.std.specs.Prelude.{◌≡◌, ℕ, ◌<◌, ◌≤◌, true, List, [], map, length, slice_index}
use Rattle.std.specs.List.{All, flat_map, sum_by, slice_index_or}
use Rattle.dcop_base.specs.Limits.{amount_limit}
use Rattle.dcop_base.specs.Table.{CostTable, IsTable, has}
use Rattle.dcop_base.specs.Values.{cost_with}
use Rattle.shared_costs.specs.Values.{AreValues}

-- a table over some of the variables with these sizes
pub record IsTableOver (sizes : List ℕ) (t : CostTable) : Type 0 where
  pub whole : IsTable t
  pub within : All (λ v. v < length sizes) t.scope
  pub sized : t.sizes ≡ map (λ v. slice_index sizes v) t.scope

-- tables over the variables with these sizes; at any values their sum is at most the greatest amount, so no sum of some of them is capped
pub record AreTablesOver (sizes : List ℕ) (ts : List CostTable) : Type 0 where
  pub each : All (IsTableOver sizes) ts
  pub capped : (value : ℕ → ℕ) → AreValues sizes value → cost_with ts value ≤ amount_limit

-- a table of depth p: it names variable p and no later one
pub record IsOfDepth (p : ℕ) (t : CostTable) : Type 0 where
  pub names : has t.scope p ≡ true
  pub last : All (λ v. v ≤ p) t.scope

-- the sum, at these values, of tables that are listed by their depth
abbrev pub depths_cost : List (List CostTable) → (ℕ → ℕ) → ℕ
depths_cost depths value = sum_by (λ ts. cost_with ts value) depths

-- all tables of these lists, list by list
abbrev pub all_tables : List (List CostTable) → List CostTable
all_tables depths = flat_map (λ ts. ts) depths

-- the scope of each of these tables
abbrev pub scopes_of : List CostTable → List (List ℕ)
scopes_of ts = map (λ t. t.scope) ts

-- tables over the variables with these sizes, a list for each depth; no sum of some of them is capped
pub record AreDepths (sizes : List ℕ) (depths : List (List CostTable)) : Type 0 where
  pub many : length depths ≡ length sizes
  pub each : (p : ℕ) → p < length sizes → All (λ t. IsTableOver sizes t × IsOfDepth p t) (slice_index_or depths p [])
  pub capped : (value : ℕ → ℕ) → AreValues sizes value → depths_cost depths value ≤ amount_limit
