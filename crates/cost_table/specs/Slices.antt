-- Slices of problems: each cut variable keeps one value.
use Rattle.std.specs.Prelude.{◌≡◌, ℕ, ◌<◌, List, [], ◌∷◌, map, length, set, slice_index}
use Rattle.std.specs.List.{AllZip, fold}
use Rattle.dcop_base.specs.Table.{CostTable}
use Rattle.dcop_base.specs.Problem.{Dcop, IsAssignment, cost}
use Rattle.dcop_base.specs.Whole.{IsTableOf}
use Rattle.cost_table.specs.Cells.{cell_of, place_in, IsTableBy}
use Rattle.cost_table.specs.Runs.{AreFewer}

-- a list in which these places have received these values: the first place the first value, the
-- second the second, and so on
abbrev pub put_in : List ℕ → List ℕ → List ℕ → List ℕ
put_in [] values xs = xs
put_in (p ∷ ps) [] xs = xs
put_in (p ∷ ps) (v ∷ vs) xs = set (put_in ps vs xs) p v

-- the sizes with 1 at these places
abbrev pub ones_at : List ℕ → List ℕ → List ℕ
ones_at places sizes = fold (λ ss p. set ss p 1) sizes places

-- the places of variables in a scope
abbrev pub places_in : List ℕ → List ℕ → List ℕ
places_in scope vars = map (λ v. place_in scope v) vars

-- a table with the cut variables at these values: it has the same scope, size 1 for each of them, and the cells at these values
abbrev pub IsCut : CostTable → List ℕ → List ℕ → CostTable → Type 0
IsCut t cut values slice =
    let places = places_in t.scope cut in
    IsTableBy t.scope (ones_at places t.sizes) (λ others. cell_of t (put_in places values others)) slice

-- the slice of a problem with the cut variables at these values: they have size 1, each table is cut, and the joints are the same
pub record IsSliceOf (p : Dcop) (cut values : List ℕ) (slice : Dcop) : Type 0 where
  pub sizes : slice.sizes ≡ ones_at cut p.sizes
  pub tables : AllZip (λ t s. IsCut t cut values s) p.tables slice.tables
  pub joints : slice.joints ≡ p.joints

-- every assignment of the slice becomes an assignment of the problem when the cut variables get their values, and it costs the same
pub record KeepsCosts (p : Dcop) (cut values : List ℕ) (slice : Dcop) : Type 0 where
  pub assignment : (others : List ℕ) → IsAssignment slice others → IsAssignment p (put_in cut values others)
  pub same_cost : (others : List ℕ) → IsAssignment slice others → cost slice others ≡ cost p (put_in cut values others)

-- taken in turn, each value is below the size at its place, if the sizes have that place, and that size then becomes 1
abbrev pub FitInTurn : List ℕ → List ℕ → List ℕ → Type 0
FitInTurn sizes [] [] = Unit {0}
FitInTurn sizes [] (v ∷ vs) = ⊥
FitInTurn sizes (p ∷ ps) [] = ⊥
FitInTurn sizes (p ∷ ps) (v ∷ vs) = (p < length sizes → v < slice_index sizes p) × FitInTurn (set sizes p 1) ps vs

-- cutting a table of a problem with these sizes gives a table of the slice, with no more cells and no greater ones
pub record IsCutOf (sizes cut values : List ℕ) (t slice : CostTable) : Type 0 where
  pub cut_at : IsCut t cut values slice
  pub table : IsTableOf (ones_at cut sizes) slice
  pub fewer : AreFewer t.cells slice.cells
