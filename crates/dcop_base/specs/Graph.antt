-- The graph of a problem: neighbours, paths, and the joints that make it connected.
use Rattle.std.specs.Prelude.{◌≡◌, ℕ, ◌<◌, Bool, true, not, ◌&&◌, ◌||◌, List, [], ◌∷◌, map, length, ◌==◌}
use Rattle.std.specs.List.{list_any, filter, range_with_len, Contains, All}
use Rattle.std.specs.List.Sorted.{IsStrictlyIncreasing}
use Rattle.dcop_base.specs.Table.{CostTable, has}
use Rattle.dcop_base.specs.Problem.{Dcop}

-- whether some table names both variables
abbrev pub share_table : List CostTable → ℕ → ℕ → Bool
share_table tables u v = list_any (λ t. has t.scope u && has t.scope v) tables

-- whether there is a joint of these two variables
abbrev pub are_joined : List (ℕ × ℕ) → ℕ → ℕ → Bool
are_joined joints u v = list_any (λ j. (j.0 == u && j.1 == v) || (j.0 == v && j.1 == u)) joints

-- whether two variables are neighbours: they are different and share a table or a joint
abbrev pub are_neighbours : Dcop → ℕ → ℕ → Bool
are_neighbours p u v = not (u == v) && (share_table p.tables u v || are_joined p.joints u v)

-- the neighbours of a variable, ascending
abbrev pub neighbours : Dcop → ℕ → List ℕ
neighbours p v = filter (are_neighbours p v) (range_with_len 0 (length p.sizes))

-- these steps lead from u to v, each along an edge
abbrev pub IsPath : (ℕ → ℕ → Bool) → ℕ → List ℕ → ℕ → Type 0
IsPath edge u [] v = u ≡ v
IsPath edge u (w ∷ ws) v = (edge u w ≡ true) × IsPath edge w ws v

-- there is a path from u to v
abbrev pub AreConnected : (ℕ → ℕ → Bool) → ℕ → ℕ → Type 0
AreConnected edge u v = (steps : List ℕ) × IsPath edge u steps v

-- a variable is the first of its component in the graph of tables: no lower variable is connected with it
abbrev pub IsFirst : List CostTable → ℕ → Type 0
IsFirst tables v = (u : ℕ) → u < v → ¬ AreConnected (share_table tables) u v

-- the joints are one from variable 0 to the first variable of each other component of the graph of tables, in ascending order
pub record AreJoints (count : ℕ) (tables : List CostTable) (joints : List (ℕ × ℕ)) : Type 0 where
  pub from_zero : All (λ j. j.0 ≡ 0) joints
  pub ascending : IsStrictlyIncreasing (0 ∷ map (λ j. j.1) joints)
  pub within : All (λ j. j.1 < count) joints
  pub first : All (λ j. IsFirst tables j.1) joints
  pub every : (v : ℕ) → v < count → (f : ℕ) × (Contains (0 ∷ map (λ j. j.1) joints) f) × (AreConnected (share_table tables) f v)

-- a problem is connected: tables and joints give a path from variable 0 to every other variable
abbrev pub IsConnected : Dcop → Type 0
IsConnected p = (v : ℕ) → v < length p.sizes → AreConnected (are_neighbours p) 0 v
