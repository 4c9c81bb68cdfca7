-- Marked pairs that are not ancestor and descendant.
use Rattle.std.specs.Prelude.{◌≡◌, ℕ, ◌<◌, ◌≤◌, true, false, List, length}
use Rattle.pseudotree.specs.Pseudotree.{are_in_line}
use Rattle.pseudotree.specs.Marks.{mark_at}

-- two marked variables, the lower one first, neither of which is an ancestor of the other
pub record AreApart (paths : List (List ℕ)) (marks : List ℕ) (u v : ℕ) : Type 0 where
  pub ordered : u < v
  pub within : v < length paths
  pub marked : mark_at (length paths) marks u v ≡ true
  pub apart : are_in_line paths u v ≡ false

-- no variable above u is apart from u
abbrev pub NoneApartFrom : List (List ℕ) → List ℕ → ℕ → Type 0
NoneApartFrom paths marks u = (v : ℕ) → ¬ AreApart paths marks u v

-- v is the lowest of the variables above u that are apart from u
pub record IsFirstApartFrom (paths : List (List ℕ)) (marks : List ℕ) (u v : ℕ) : Type 0 where
  pub apart : AreApart paths marks u v
  pub first : (w : ℕ) → AreApart paths marks u w → v ≤ w

-- no two variables are apart
abbrev pub NoneApart : List (List ℕ) → List ℕ → Type 0
NoneApart paths marks = (u : ℕ) → NoneApartFrom paths marks u

-- the least pair of variables that are apart: by the lower variable, and then by the higher one
pub record IsFirstApart (paths : List (List ℕ)) (marks : List ℕ) (pair : ℕ × ℕ) : Type 0 where
  pub second : IsFirstApartFrom paths marks pair.0 pair.1
  pub first : (u v : ℕ) → AreApart paths marks u v → pair.0 ≤ u
