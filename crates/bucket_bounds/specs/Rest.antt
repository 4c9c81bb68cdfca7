-- What the tables from a depth on cost at least.
use Rattle.std.specs.Prelude.{◌≡◌, ℕ, ◌≤◌, List, drop}
use Rattle.dcop_base.specs.Table.{CostTable}
use Rattle.shared_costs.specs.Values.{AreValues, AgreeBelow}
use Rattle.shared_costs.specs.Tables.{depths_cost}

-- the sum of the tables of depth p and more at these values
abbrev pub deep_cost : ℕ → List (List CostTable) → (ℕ → ℕ) → ℕ
deep_cost p depths value = depths_cost (drop p depths) value

-- the rest at depth p when the first p variables have these values: the least sum of the tables of depth p and more, over all values of the others
pub record IsRest (sizes : List ℕ) (depths : List (List CostTable)) (p : ℕ) (value : ℕ → ℕ) (least : ℕ) : Type 0 where
  pub attained : (other : ℕ → ℕ) × AreValues sizes other × AgreeBelow p value other × (deep_cost p depths other ≡ least)
  pub lowest : (other : ℕ → ℕ) → AreValues sizes other → AgreeBelow p value other → least ≤ deep_cost p depths other
