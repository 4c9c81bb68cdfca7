-- The slice of a problem: each cut variable keeps one value.
use Rattle.std.specs.Prelude.{◌≡◌, ℕ, ◌<◌, false, List, [], length, map}
use Rattle.std.specs.List.{All}
use Rattle.dcop_base.specs.Table.{CostTable, IsTable, has_repeat, AreWithin}
use Rattle.dcop_base.specs.Problem.{Dcop}
use Rattle.dcop_base.specs.Whole.{IsProblem}
use Rattle.cost_table.specs.Cells.{cell_of}
use Rattle.cost_table.specs.Slices.{put_in, ones_at, places_in, IsSliceOf}
use Rattle.pseudotree.specs.Place.{sizes_of}
use Rattle.protocol_steps.specs.Values.{choices}

-- variables that may be cut: different variables of the problem
pub record AreCut (p : Dcop) (cut : List ℕ) : Type 0 where
  pub apart : has_repeat cut ≡ false
  pub within : All (λ v. v < length p.sizes) cut

-- one value for each cut variable, below its size
abbrev pub AreCutValues : Dcop → List ℕ → List ℕ → Type 0
AreCutValues p cut values = AreWithin (sizes_of p cut) values

-- a table with the cut variables at these values: the same scope, size 1 for each of them, and the cells at these values
abbrev pub slice_table : List ℕ → List ℕ → CostTable → CostTable
slice_table cut values t =
    let places = places_in t.scope cut in
    record {
      scope = t.scope;
      sizes = ones_at places t.sizes;
      cells = map (λ others. cell_of t (put_in places values others)) (choices (ones_at places t.sizes));
    }

-- the slice of a problem with the cut variables at these values: they have size 1, each table keeps the cells at the values, and the joints are the same
abbrev pub slice_of : Dcop → List ℕ → List ℕ → Dcop
slice_of p cut values = record { sizes = ones_at cut p.sizes; tables = map (slice_table cut values) p.tables; joints = p.joints }

-- a slice is a problem
abbrev pub SlicesAreProblems : Type 0
SlicesAreProblems = (p : Dcop) (cut values : List ℕ) → IsProblem p → IsProblem (slice_of p cut values)

-- a problem that agrees with a slice cell by cell, and whose tables have no fault, is this slice
abbrev pub SlicesAreOne : Type 0
SlicesAreOne = (p : Dcop) (cut values : List ℕ) (slice : Dcop) → IsSliceOf p cut values slice → All IsTable slice.tables → slice ≡ slice_of p cut values

-- if nothing is cut, the slice is the problem itself
abbrev pub UncutSlicesAreWhole : Type 0
UncutSlicesAreWhole = (p : Dcop) → IsProblem p → slice_of p [] [] ≡ p
