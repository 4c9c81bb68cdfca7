-- The slicing law: the optimum of a problem is the least of its slices' optima.
use Rattle.std.specs.Prelude.{ℕ, ◌≤◌, ◌↔◌, List}
use Rattle.dcop_base.specs.Problem.{Dcop}
use Rattle.dcop_base.specs.Whole.{IsProblem}
use Rattle.dcop_optimum.specs.Optimum.{IsOptimum}
use Rattle.run_laws.specs.Slice.{AreCut, AreCutValues, slice_of}

-- the least of the slices' optima, over all lists of values of the cut variables
pub record IsLeastOfSlices (p : Dcop) (cut : List ℕ) (least : ℕ) : Type 0 where
  pub attained : (values : List ℕ) × AreCutValues p cut values × IsOptimum (slice_of p cut values) least
  pub lowest : (values : List ℕ) (c : ℕ) → AreCutValues p cut values → IsOptimum (slice_of p cut values) c → least ≤ c

-- the slicing law: the optimum of a problem is the least of its slices' optima, whatever variables
-- are cut
abbrev pub SlicingLaw : Type 0
SlicingLaw = (p : Dcop) (cut : List ℕ) → IsProblem p → AreCut p cut → (least : ℕ) → IsOptimum p least ↔ IsLeastOfSlices p cut least
