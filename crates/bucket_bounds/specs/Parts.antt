-- The parts of a bucket: joined tables of its groups, with its variable shared among them.
use Rattle.std.specs.Prelude.{◌≡◌, ℕ, ◌≤◌, ◌⊎◌, List, length}
use Rattle.std.specs.List.{AllZip, flat_map}
use Rattle.std.specs.List.Sorted.{IsPermutation}
use Rattle.dcop_base.specs.Table.{CostTable}
use Rattle.dcop_base.specs.Values.{cell_with, cost_with}
use Rattle.shared_costs.specs.Sharing.{IsShare}
use Rattle.shared_costs.specs.Tables.{IsTableOver}
use Rattle.shared_costs.specs.Values.{AreValues}
use Rattle.bucket_bounds.specs.Parting.{IsScopeOf}

-- the joined table of a group of tables: it is over the variables that these name, and at any values it costs what they cost
pub record IsJoinOf (sizes : List ℕ) (group : List CostTable) (joined : CostTable) : Type 0 where
  pub some : 1 ≤ length group
  pub table : IsTableOver sizes joined
  pub scope : IsScopeOf group joined.scope
  pub cells : (value : ℕ → ℕ) → AreValues sizes value → cell_with joined value ≡ cost_with group value

-- a group of one table, or one whose joined table has at most `limit` cells
abbrev pub IsGroupNarrow : ℕ → List CostTable → CostTable → Type 0
IsGroupNarrow limit group joined = (length group ≡ 1) ⊎ (length joined.cells ≤ limit)

-- tables that were parted into groups, each of one table or not too wide, and joined group by group, with variable p shared among the joined tables
pub record AreGroupsJoined (sizes : List ℕ) (limit p : ℕ) (tables parts : List CostTable) : Type 0 where
  pub groups : List (List CostTable)
  pub parted : IsPermutation tables (flat_map (λ group. group) groups)
  pub joined : List CostTable
  pub joins : AllZip (IsJoinOf sizes) groups joined
  pub narrow : AllZip (IsGroupNarrow limit) groups joined
  pub shared : IsShare sizes p joined parts
