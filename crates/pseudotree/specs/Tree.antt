-- Rooted trees on the variables. A tree is the list of its paths.
use Rattle.std.specs.Prelude.{◌≡◌, ℕ, ◌-◌, ◌<◌, Bool, false, List, [], ◌∷◌, ◌++◌, length, Option, Some, None, ◌==◌, slice_get, slice_index_or}
use Rattle.std.specs.List.{filter, range_with_len}
use Rattle.dcop_base.specs.Table.{has}

-- the path of a variable: its proper ancestors, from the root down
abbrev pub path_of : List (List ℕ) → ℕ → List ℕ
path_of paths v = slice_index_or paths v []

-- the parent of a variable: the last one of its path; a root has none
abbrev pub parent_of : List (List ℕ) → ℕ → Option ℕ
parent_of paths v = slice_get (path_of paths v) (length (path_of paths v) - 1)

-- whether an optional variable is i
abbrev pub is_variable : ℕ → Option ℕ → Bool
is_variable i None = false
is_variable i (Some u) = u == i

-- the children of a variable, ascending
abbrev pub children_of : List (List ℕ) → ℕ → List ℕ
children_of paths i = filter (λ c. is_variable i (parent_of paths c)) (range_with_len 0 (length paths))

-- whether a is a proper ancestor of v
abbrev pub is_above : List (List ℕ) → ℕ → ℕ → Bool
is_above paths a v = has (path_of paths v) a

-- a variable of the tree whose path is empty
abbrev pub IsRoot : List (List ℕ) → ℕ → Type 0
IsRoot paths v = (v < length paths) × (path_of paths v ≡ [])

-- a rooted tree: it has exactly one root, and the path of each other variable is the path of its parent followed by the parent
pub record IsTree (paths : List (List ℕ)) : Type 0 where
  pub some_root : (root : ℕ) × IsRoot paths root
  pub one_root : (u v : ℕ) → IsRoot paths u → IsRoot paths v → u ≡ v
  pub nested : (v u : ℕ) → parent_of paths v ≡ Some u → (u < length paths) × (path_of paths v ≡ path_of paths u ++ (u ∷ []))
