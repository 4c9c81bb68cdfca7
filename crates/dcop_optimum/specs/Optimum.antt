-- The optimum of a problem, and its first optimal assignment.
use Rattle.std.specs.Prelude.{◌≡◌, ℕ, ◌<◌, ◌≤◌, ◌⊎◌, List, [], ◌∷◌}
use Rattle.dcop_base.specs.Table.{product}
use Rattle.dcop_base.specs.Problem.{Dcop, IsAssignment, cost}

-- the number of assignments of a problem
abbrev pub assignment_count : Dcop → ℕ
assignment_count p = product p.sizes

-- the optimum: some assignment costs this much, and none costs less
pub record IsOptimum (p : Dcop) (least : ℕ) : Type 0 where
  pub attained : (values : List ℕ) × IsAssignment p values × (cost p values ≡ least)
  pub lowest : (values : List ℕ) → IsAssignment p values → least ≤ cost p values

-- one list of values comes before another in lexicographic order
abbrev pub IsBefore : List ℕ → List ℕ → Type 0
IsBefore xs [] = ⊥
IsBefore [] (y ∷ ys) = Unit {0}
IsBefore (x ∷ xs) (y ∷ ys) = (x < y) ⊎ ((x ≡ y) × IsBefore xs ys)

-- the first optimal assignment in lexicographic order: it costs the optimum, and no assignment before it does
pub record IsFirstOptimum (p : Dcop) (values : List ℕ) : Type 0 where
  pub assignment : IsAssignment p values
  pub optimal : IsOptimum p (cost p values)
  pub first : (other : List ℕ) → IsAssignment p other → cost p other ≡ cost p values → ¬ IsBefore other values
