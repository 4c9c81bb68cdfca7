-- The turn that is kept, and the values of the answer.
use Rattle.std.specs.Prelude.{◌≡◌, ℕ, ◌<◌, ◌≤◌, List}
use Rattle.dcop_base.specs.Problem.{Dcop, IsAssignment, cost}
use Rattle.dcop_base.specs.Whole.{IsProblem}
use Rattle.cost_table.specs.Slices.{put_in}
use Rattle.pseudotree.specs.Pseudotree.{IsPseudotree}
use Rattle.dcop_optimum.specs.Optimum.{IsOptimum, IsBefore}
use Rattle.dcop_optimum.specs.TreeOptimum.{IsFirstOptimumOf}
use Rattle.run_laws.specs.Slice.{AreCut, AreCutValues, slice_of}

-- the first turn of least cost, and its cost: the optimum of its slice is at most that of any other
-- turn's slice, and less than that of any earlier turn's slice
pub record IsKeptTurn (p : Dcop) (cut turn : List ℕ) (least : ℕ) : Type 0 where
  pub within : AreCutValues p cut turn
  pub cost : IsOptimum (slice_of p cut turn) least
  pub lowest : (other : List ℕ) (c : ℕ) → AreCutValues p cut other → IsOptimum (slice_of p cut other) c → least ≤ c
  pub first : (other : List ℕ) (c : ℕ) → AreCutValues p cut other → IsBefore other turn → IsOptimum (slice_of p cut other) c → least < c

-- the answer of a cut on a tree: the cost of the kept turn, and the first optimum of its slice, with the turn's own values for the cut variables
pub record IsCutAnswer (p : Dcop) (paths : List (List ℕ)) (cut : List ℕ) (least : ℕ) (values : List ℕ) : Type 0 where
  pub turn : List ℕ
  pub kept : IsKeptTurn p cut turn least
  pub others : List ℕ
  pub first : IsFirstOptimumOf (slice_of p cut turn) paths others
  pub values_are : values ≡ put_in cut turn others

-- the cost is the optimum of the problem, and the values have this cost
pub record IsOptimal (p : Dcop) (least : ℕ) (values : List ℕ) : Type 0 where
  pub optimum : IsOptimum p least
  pub assignment : IsAssignment p values
  pub costs : cost p values ≡ least

-- every answer of a cut is optimal
abbrev pub CutAnswersAreOptimal : Type 0
CutAnswersAreOptimal = (p : Dcop) (paths : List (List ℕ)) (cut : List ℕ) (least : ℕ) (values : List ℕ) → IsProblem p → AreCut p cut
    → IsCutAnswer p paths cut least values → IsOptimal p least values

-- a cut has exactly one answer on a tree
pub record HasOneCutAnswer (p : Dcop) (paths : List (List ℕ)) (cut : List ℕ) : Type 0 where
  pub some : (least : ℕ) × (values : List ℕ) × IsCutAnswer p paths cut least values
  pub one : (c d : ℕ) (a b : List ℕ) → IsCutAnswer p paths cut c a → IsCutAnswer p paths cut d b → (c ≡ d) × (a ≡ b)

-- on every pseudotree of a problem, a cut has exactly one answer
abbrev pub CutAnswersAreOne : Type 0
CutAnswersAreOne = (p : Dcop) (paths : List (List ℕ)) (cut : List ℕ) → IsProblem p → IsPseudotree p paths → AreCut p cut → HasOneCutAnswer p paths cut
