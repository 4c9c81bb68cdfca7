-- Groups of tables that are joined.
use Rattle.std.specs.Prelude.{◌≡◌, ℕ, ◌*◌, ◌≤◌, ◌⊎◌, min, List, [], ◌∷◌, ◌++◌, length}
use Rattle.std.specs.List.{All, flat_map}
use Rattle.std.specs.List.Sorted.{IsPermutation}
use Rattle.dcop_base.specs.Limits.{count_limit}
use Rattle.dcop_base.specs.Table.{CostTable}
use Rattle.shared_costs.specs.Tables.{IsTableOver}
use Rattle.bucket_bounds.specs.Parting.{IsScopeOf}
use Rattle.bucket_bounds.specs.Union.{cells_over, times_more, IsUnion}
use Rattle.bucket_bounds.specs.declared.group.Group.{Group}

-- a group of tables over variables with these sizes: one table, or joined cells within the limit
pub record IsGroup (sizes : List ℕ) (limit : ℕ) (g : Group) : Type 0 where
  pub some : 1 ≤ length g.tables.items
  pub tables : All (IsTableOver sizes) g.tables.items
  pub vars : IsScopeOf g.tables.items g.vars
  pub cells : g.cells ≡ cells_over sizes g.vars
  pub few : (length g.tables.items ≡ 1) ⊎ (g.cells ≤ limit)

-- the group of one table
pub record IsGroupOf (t : CostTable) (g : Group) : Type 0 where
  pub vars : IsUnion [] t.scope g.vars
  pub cells : g.cells ≡ length t.cells
  pub tables : g.tables.items ≡ t ∷ []

-- a group is within the limit together with a scope
abbrev pub FitsLimit : List ℕ → List ℕ → ℕ → Group → Type 0
FitsLimit sizes scope limit g = g.cells * times_more sizes g.vars scope ≤ limit

-- a group to which a table was added
pub record AddsTo (sizes : List ℕ) (old : Group) (t : CostTable) (new : Group) : Type 0 where
  pub vars : IsUnion old.vars t.scope new.vars
  pub cells : new.cells ≡ min (old.cells * times_more sizes old.vars t.scope) count_limit
  pub tables : new.tables.items ≡ old.tables.items ++ t ∷ []

-- the tables of groups, group by group
abbrev pub tables_of : List Group → List CostTable
tables_of groups = flat_map (λ g. g.tables.items) groups

-- groups into which tables were parted: each table is in exactly one of them
pub record AreGroups (sizes : List ℕ) (limit : ℕ) (ts : List CostTable) (groups : List Group) : Type 0 where
  pub each : All (IsGroup sizes limit) groups
  pub parted : IsPermutation ts (tables_of groups)
