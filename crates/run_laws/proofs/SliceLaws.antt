-- Slices are problems, and each is what it is cell by cell.
use Rattle.std.proofs.Common.{◌≡◌, ℕ, ◌≤◌, List, [], ◌∷◌, length, get_or, set, map, refl, sym, ap, ap₂, ◌∙◌, inl, inr, arith}
use Rattle.std.specs.List.{All, AllZip}
use Rattle.std.proofs.lemmas.Bool.{cases_lt}
use Rattle.std.proofs.lemmas.List.{length-map, set_past, get_or_past}
use Rattle.std.proofs.lemmas.List.Elements.{All-head, All-tail, All-set, All-map, All-weaker}
use Rattle.dcop_base.specs.Table.{CostTable, IsTable, product, cell_place}
use Rattle.dcop_base.specs.Limits.{amount_limit}
use Rattle.dcop_base.specs.Problem.{Dcop}
use Rattle.dcop_base.specs.Whole.{IsTableOf, IsProblem}
use Rattle.dcop_base.proofs.TableLaws.{parts-of}
use Rattle.cost_table.specs.Cells.{cell_of}
use Rattle.cost_table.specs.Slices.{put_in, ones_at, places_in, IsCut, IsCutOf, KeepsCosts}
use Rattle.cost_table.proofs.SliceLaws.{faultless}
use Rattle.cost_table.proofs.CutLaws.{product-set, product-less, cut-none}
use Rattle.cost_table.proofs.ProblemCutLaws.{length-ones_at, All-ones_at, fits-of, cut-of, slice-whole, slice-costs}
use Rattle.protocol_steps.specs.Values.{choices}
use Rattle.protocol_steps.proofs.ValueLaws.{length-choices, made_cell}
use Rattle.run_laws.specs.Slice.{AreCut, AreCutValues, slice_table, slice_of, SlicesAreProblems, SlicesAreOne, UncutSlicesAreWhole}
use Rattle.run_laws.proofs.TurnLaws.{cells_by_choices}

-- sizes that become 1 make no greater product
product-ones : (ps ss : List ℕ) → All (λ s. 1 ≤ s) ss → product (ones_at ps ss) ≤ product ss
product-ones [] ss all = omega arith
product-ones (p ∷ ps) ss all =
    let rest = product-ones ps (set ss p 1) (All-set (λ s. 1 ≤ s) ss p 1 (omega arith) all) in
    elim (cases_lt p (length ss)) [
      | inl lt ↦ omega (arith, rest, product-set ss p lt, product-less ss p lt all)
      | inr past ↦ (let same = ap product (set_past ss p 1 past) in omega (arith, rest, same))
    ]

-- each cell of a slice is one of the table's, or 0
cell-bounded : (t : CostTable) (bound : ℕ) (values : List ℕ) → All (λ c. c ≤ bound) t.cells → cell_of t values ≤ bound
cell-bounded t bound values all =
    let place = cell_place t.sizes values in
    elim (cases_lt place (length t.cells)) [
      | inl lt ↦ all place 0 lt
      | inr past ↦ (let none = get_or_past t.cells place 0 past in omega (arith, none))
    ]

cells-bounded : (cut vs : List ℕ) (t : CostTable) (bound : ℕ) → All (λ c. c ≤ bound) t.cells → All (λ c. c ≤ bound) (slice_table cut vs t).cells
cells-bounded cut vs t bound all =
    let places = places_in t.scope cut in
    All-map (λ c. c ≤ bound) (λ others. cell_of t (put_in places vs others)) (choices (ones_at places t.sizes)) (λ k d lt. cell-bounded t bound (put_in places vs (get_or (choices (ones_at places t.sizes)) k d)) all)

-- a table of a problem, cut, is a table of the slice
cut-table : (sizes cut vs : List ℕ) (t : CostTable) → IsTableOf sizes t → IsCutOf sizes cut vs t (slice_table cut vs t)
cut-table sizes cut vs t of =
    let parts = parts-of t.scope t.sizes t.cells of.whole in
    let places = places_in t.scope cut in
    let less = ones_at places t.sizes in
    let f = λ (others : List ℕ). cell_of t (put_in places vs others) in
    let full : length (map f (choices less)) ≡ product less = length-map (choices less) f ∙ length-choices less in
    let few = product-ones places t.sizes parts.positive in
    let positive = parts.positive in
    let old = parts.full in
    let sized = parts.sized in
    cut-of sizes cut vs t (slice_table cut vs t) of
    (record { same_scope = refl; same_sizes = refl; cells = λ values w. made_cell f less values w })
    (faultless t.scope less (map f (choices less)) (record {
      apart = parts.apart;
      sized = length-ones_at places t.sizes ∙ sized;
      positive = All-ones_at (λ s. 1 ≤ s) places t.sizes (omega arith) positive;
      full = full;
      small = cells-bounded cut vs t amount_limit parts.small;
    }))
    (record { count = omega (arith, full, few, old); within = λ bound all. cells-bounded cut vs t bound all })

pub cut-tables : (sizes cut vs : List ℕ) (ts : List CostTable) → All (IsTableOf sizes) ts → AllZip (IsCutOf sizes cut vs) ts (map (slice_table cut vs) ts)
cut-tables sizes cut vs [] all = tt
cut-tables sizes cut vs (t ∷ ts) all =
    (cut-table sizes cut vs t (All-head (IsTableOf sizes) t ts all), cut-tables sizes cut vs ts (All-tail (IsTableOf sizes) t ts all))

pub slices_are_problems : SlicesAreProblems
slices_are_problems p cut vs h = slice-whole p cut vs (map (slice_table cut vs) p.tables) h (cut-tables p.sizes cut vs p.tables h.tables)

-- an assignment of a slice costs what it costs in the problem, with the cut variables at their values
pub costs-kept : (p : Dcop) (cut vs : List ℕ) → IsProblem p → AreCut p cut → AreCutValues p cut vs → KeepsCosts p cut vs (slice_of p cut vs)
costs-kept p cut vs h is w =
    slice-costs p cut vs (map (slice_table cut vs) p.tables) h (fits-of p.sizes cut vs is.apart w) (cut-tables p.sizes cut vs p.tables h.tables)

-- a table with the cells of a cut one is the cut one
same-table : (a b : CostTable) → a.scope ≡ b.scope → a.sizes ≡ b.sizes → a.cells ≡ b.cells → a ≡ b
same-table a b scope sizes cells =
    ap (λ (x : List ℕ). record { scope = x; sizes = a.sizes; cells = a.cells }) scope
    ∙ ap (λ (x : List ℕ). record { scope = b.scope; sizes = x; cells = a.cells }) sizes
    ∙ ap (λ (x : List ℕ). record { scope = b.scope; sizes = b.sizes; cells = x }) cells

table-one : (cut vs : List ℕ) (t s : CostTable) → IsCut t cut vs s → IsTable s → s ≡ slice_table cut vs t
table-one cut vs t s h whole =
    let parts = parts-of s.scope s.sizes s.cells whole in
    let places = places_in t.scope cut in
    let less = ones_at places t.sizes in
    let full : length s.cells ≡ product less = parts.full ∙ ap product h.same_sizes in
    same-table s (slice_table cut vs t) h.same_scope h.same_sizes
    (cells_by_choices less s.cells (λ others. cell_of t (put_in places vs others)) full (λ values w.
    ap (λ (ss : List ℕ). get_or s.cells (cell_place ss values) 0) (sym h.same_sizes) ∙ h.cells values w))

tables-one : (cut vs : List ℕ) (ts ss : List CostTable) → AllZip (λ t s. IsCut t cut vs s) ts ss → All IsTable ss → ss ≡ map (slice_table cut vs) ts
tables-one cut vs [] [] h all = refl
tables-one cut vs [] (s ∷ ss) h all = absurd h
tables-one cut vs (t ∷ ts) [] h all = absurd h
tables-one cut vs (t ∷ ts) (s ∷ ss) h all =
    ap₂ (λ (x : CostTable) (xs : List CostTable). x ∷ xs) (table-one cut vs t s h.0 (All-head IsTable s ss all)) (tables-one cut vs ts ss h.1 (All-tail IsTable s ss all))

pub slices_are_one : SlicesAreOne
slices_are_one p cut vs slice h whole =
    ap (λ (x : List ℕ). record { sizes = x; tables = slice.tables; joints = slice.joints }) h.sizes
    ∙ ap (λ (x : List CostTable). record { sizes = ones_at cut p.sizes; tables = x; joints = slice.joints }) (tables-one cut vs p.tables slice.tables h.tables whole)
    ∙ ap (λ (x : List (ℕ × ℕ)). record { sizes = ones_at cut p.sizes; tables = map (slice_table cut vs) p.tables; joints = x }) h.joints

pub uncut_slices_are_whole : UncutSlicesAreWhole
uncut_slices_are_whole p h =
    sym (slices_are_one p [] [] p (record { sizes = refl; tables = none-cut p.tables; joints = refl })
    (All-weaker (IsTableOf p.sizes) IsTable (λ t of. of.whole) p.tables h.tables))
  where
    none-cut : (ts : List CostTable) → AllZip (λ t s. IsCut t [] [] s) ts ts
    none-cut [] = tt
    none-cut (t ∷ ts) = (cut-none t, none-cut ts)
