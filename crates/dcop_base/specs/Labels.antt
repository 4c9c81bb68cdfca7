-- Labels of variables, which tell the components of the graph of tables apart.
use Rattle.std.specs.Prelude.{◌≡◌, ℕ, ◌<◌, ◌≤◌, Bool, true, List, map, length, ◌==◌, slice_index}
use Rattle.std.specs.List.{filter, range_with_len}
use Rattle.dcop_base.specs.Table.{CostTable, has}
use Rattle.dcop_base.specs.Graph.{share_table, AreConnected}

-- each variable is connected with the variable that its label names
abbrev pub AreReached : List CostTable → List ℕ → Type 0
AreReached tables labels = (v : ℕ) → v < length labels → AreConnected (share_table tables) (slice_index labels v) v

-- every two variables of the scope share a table
abbrev pub IsShared : List CostTable → List ℕ → Type 0
IsShared tables scope = (u v : ℕ) → has scope u ≡ true → has scope v ≡ true → share_table tables u v ≡ true

-- no label is above its variable, variables that share a table have the same label, and each variable is connected with the variable that its label names
pub record AreLabels (tables : List CostTable) (labels : List ℕ) : Type 0 where
  pub low : (v : ℕ) → slice_index labels v ≤ v
  pub same : (u v : ℕ) → share_table tables u v ≡ true → slice_index labels u ≡ slice_index labels v
  pub reached : AreReached tables labels

-- the variables of a scope have received one label: no label rose, variables with equal labels still have equal labels, and each variable is still connected with the one that its label names
pub record IsJoined (scope old new : List ℕ) : Type 0 where
  pub count : length new ≡ length old
  pub lower : (v : ℕ) → slice_index new v ≤ slice_index old v
  pub kept : (u v : ℕ) → slice_index old u ≡ slice_index old v → slice_index new u ≡ slice_index new v
  pub one : (u v : ℕ) → has scope u ≡ true → has scope v ≡ true → slice_index new u ≡ slice_index new v
  pub reached : (tables : List CostTable) → IsShared tables scope → AreReached tables old → AreReached tables new

-- whether a variable is its own label
abbrev pub is_own : List ℕ → ℕ → Bool
is_own labels v = slice_index labels v == v

-- the joints from variable 0 to those of the variables 1 to count that are their own labels, in ascending order
abbrev pub own_joints : List ℕ → ℕ → List (ℕ × ℕ)
own_joints labels count = map (λ v. (0, v)) (filter (is_own labels) (range_with_len 1 count))
