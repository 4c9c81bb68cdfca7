-- The deepest variable of a table, to which the table belongs.
use Rattle.std.specs.Prelude.{◌≡◌, ℕ, true, List, [], ◌∷◌, length, Option, Some, None, nat_lt, if◌then◌else◌}
use Rattle.std.specs.List.{All}
use Rattle.dcop_base.specs.Table.{has}
use Rattle.dcop_base.specs.Problem.{Dcop}
use Rattle.dcop_base.specs.Whole.{IsProblem}
use Rattle.pseudotree.specs.Tree.{path_of}
use Rattle.pseudotree.specs.Pseudotree.{IsPseudotree, is_within}

-- the deeper of two variables: the one with the longer path, or the first if the paths are equally long
abbrev pub deeper : List (List ℕ) → ℕ → ℕ → ℕ
deeper paths v w = if nat_lt (length (path_of paths v)) (length (path_of paths w)) then w else v

-- the deepest of a variable and these variables
abbrev pub deepest : List (List ℕ) → ℕ → List ℕ → ℕ
deepest paths v [] = v
deepest paths v (w ∷ ws) = deepest paths (deeper paths v w) ws

-- the variable to which a table of this scope belongs: the deepest one; none for an empty scope
abbrev pub owner_of : List (List ℕ) → List ℕ → Option ℕ
owner_of paths [] = None
owner_of paths (v ∷ vs) = Some (deepest paths v vs)

-- v is the deepest variable of a scope: every other variable of the scope is an ancestor of v
pub record IsDeepest (paths : List (List ℕ)) (scope : List ℕ) (v : ℕ) : Type 0 where
  pub named : has scope v ≡ true
  pub others : (u : ℕ) → has scope u ≡ true → is_within paths u v ≡ true

-- a table belongs to exactly one variable, which is the only deepest one of its scope
pub record HasOneOwner (paths : List (List ℕ)) (scope : List ℕ) : Type 0 where
  pub owner : ℕ
  pub owns : owner_of paths scope ≡ Some owner
  pub is_deepest : IsDeepest paths scope owner
  pub only : (v : ℕ) → IsDeepest paths scope v → v ≡ owner

-- in a pseudotree of a problem, every table belongs to exactly one of its variables
abbrev pub TablesHaveOwners : Type 0
TablesHaveOwners = (p : Dcop) (paths : List (List ℕ)) → IsProblem p → IsPseudotree p paths → All (λ t. HasOneOwner paths t.scope) p.tables
