-- Tables of subtree optima make a certificate, and no sum of them exceeds the cap.
use Rattle.std.proofs.Common.{◌≡◌, ℕ, suc, ◌<◌, ◌≤◌, Bool, cond, eqb, List, [], ◌∷◌, length, map, get_or, refl, sym, ap, subst, ◌∙◌, inl, inr, arith}
use Rattle.std.specs.List.{filter, AllPairs}
use Rattle.std.proofs.lemmas.Bool.{cases_eq, cases_lt, cond-true, cond-false, cond_both, eqb-true, eq-eqb, ne_eqb}
use Rattle.std.proofs.lemmas.List.{get_or_default, get_or_past, length-take-le, length-map}
use Rattle.std.proofs.lemmas.List.Elements.{length_all_zip}
use Rattle.std.proofs.lemmas.List.FromFn.{get_or-map-range_with_len}
use Rattle.std.proofs.lemmas.List.Folds.{Any-from_list_any}
use Rattle.std.proofs.lemmas.List.Kept.{AllPairs-filter}
use Rattle.dcop_base.specs.Table.{CostTable, AreWithin, product, cell_place, greatest}
use Rattle.dcop_base.specs.Problem.{Dcop, cost}
use Rattle.dcop_base.specs.Whole.{IsProblem}
use Rattle.dcop_base.specs.Limits.{amount_limit}
use Rattle.pseudotree.specs.Tree.{path_of, IsTree}
use Rattle.pseudotree.specs.Pseudotree.{IsPseudotree, touches, separator_of}
use Rattle.pseudotree.specs.Place.{sizes_of}
use Rattle.pseudotree.specs.Owner.{owner_of}
use Rattle.pseudotree.proofs.CheckLaws.{within_tree}
use Rattle.pseudotree.proofs.TreeLaws.{ancestor}
use Rattle.pseudotree.proofs.SpreadLaws.{above_parent}
use Rattle.dcop_base.specs.Values.{cell_with, cost_with, with_own}
use Rattle.dcop_optimum.specs.Subtree.{is_owner_within, own_tables_of, AreValuesAbove}
use Rattle.dcop_optimum.specs.Decomposition.{AreChildOptima}
use Rattle.dcop_optimum.specs.Certificate.{value_by, util_of, tables_on_path, AreLowerCells}
use Rattle.dcop_optimum.specs.OptimumTables.{AreOptimumTables, OptimaMakeCertificates, CostsAreWithinCap}
use Rattle.dcop_optimum.proofs.SumLaws.{sum_filter, sum_le}
use Rattle.dcop_optimum.proofs.OptimumLaws.{optimum_same}
use Rattle.dcop_optimum.proofs.TurnedTableLaws.{cells_below}
use Rattle.dcop_optimum.proofs.LineLaws.{within_cases}
use Rattle.dcop_optimum.proofs.OwnerLaws.{map_same}
use Rattle.dcop_optimum.proofs.JoinLaws.{size_some, own_here, own_else, above_in_problem}
use Rattle.dcop_optimum.proofs.DecompositionLaws.{attains_best, decomposes, none_above}
use Rattle.dcop_optimum.proofs.CertificateLaws.{tables_on_paths_are_own}

-- a cell is at most the greatest one of its table
cell_greatest : (t : CostTable) (value : ℕ → ℕ) → cell_with t value ≤ greatest t.cells
cell_greatest t value =
    let place : ℕ = cell_place t.sizes (map value t.scope) in
    elim (cases_lt place (length t.cells)) [
      | inl inside ↦ cells_below t.cells place 0 inside
      | inr past ↦ omega (arith, get_or_past t.cells place 0 past)
    ]

-- some of a problem's tables cost at most the cap
pub some_tables_within : (p : Dcop) → IsProblem p → (q : CostTable → Bool) (value : ℕ → ℕ) → cost_with (filter q p.tables) value ≤ amount_limit
some_tables_within p problem q value =
    let part = sum_filter (λ (t : CostTable). cell_with t value) q p.tables in
    let le = sum_le (λ (t : CostTable). cond (q t) (cell_with t value) 0) (λ (t : CostTable). greatest t.cells) p.tables (λ k d lt.
    let t : CostTable = get_or p.tables k d in
    cond_both (q t) (cell_with t value) 0 (λ x. x ≤ greatest t.cells) (λ h. cell_greatest t value) (λ h. omega arith)) in
    omega (arith, part, le, problem.sums)

pub costs_are_within_cap : CostsAreWithinCap
costs_are_within_cap p paths problem pseudo = record {
  subtree = λ i value. some_tables_within p problem (λ t. is_owner_within paths i (owner_of paths t.scope)) value;
  best = λ i value optima d in_tree below are inside.
      let some = attains_best p paths problem pseudo i value optima in_tree below are d inside in
      let within = some_tables_within p problem (λ t. is_owner_within paths i (owner_of paths t.scope)) (λ v. get_or some.0 v 0) in
      omega (arith, some.3, within);
}

-- the values of a scope whose variables are apart are those that each variable is given
value_by_values : (depth : ℕ → ℕ) (scope ds : List ℕ) → AllPairs (λ x y. depth x < depth y) scope → length ds ≡ length scope → map (value_by scope ds) scope ≡ ds
value_by_values depth [] [] apart long = refl
value_by_values depth [] (d ∷ ds) apart long = absurd (omega (arith, long))
value_by_values depth (u ∷ us) [] apart long = absurd (omega (arith, long))
value_by_values depth (u ∷ us) (d ∷ ds) apart long =
    let head : value_by (u ∷ us) (d ∷ ds) u ≡ d = cond-true (eqb u u) d (value_by us ds u) (eq-eqb u u refl) in
    let later : map (value_by (u ∷ us) (d ∷ ds)) us ≡ map (value_by us ds) us =
    map_same (value_by (u ∷ us) (d ∷ ds)) (value_by us ds) us (λ v h.
    let some = Any-from_list_any (λ y. eqb y v) us h in
    let less : depth u < depth (get_or us some.0 some.1) = apart 0 (suc some.0) some.1 (omega arith) (omega (arith, some.2)) in
    let at : get_or us some.0 some.1 ≡ v = some.3 ∙ eqb-true some.1 v some.4 in
    cond-false (eqb u v) d (value_by us ds v) (ne_eqb u v (λ (e : u ≡ v).
    let same : depth u ≡ depth (get_or us some.0 some.1) = ap depth (e ∙ sym at) in
    absurd (omega (arith, less, same))))) in
    let rest : map (value_by us ds) us ≡ ds = value_by_values depth us ds (λ i j e before inside. apart (suc i) (suc j) e (omega (arith, before)) (omega (arith, inside))) (omega (arith, long)) in
    let all : map (value_by (u ∷ us) (d ∷ ds)) us ≡ ds = later ∙ rest in
    cc

-- each value that is given is below its variable's size, and so is 0
value_by-lt : (p : Dcop) (scope ds : List ℕ) → AreWithin (sizes_of p scope) ds → (v : ℕ) → 0 < get_or p.sizes v 0 → value_by scope ds v < get_or p.sizes v 0
value_by-lt p [] ds within v some = some
value_by-lt p (u ∷ us) [] within v some = some
value_by-lt p (u ∷ us) (d ∷ ds) within v some =
    cond_both (eqb u v) d (value_by us ds v) (λ x. x < get_or p.sizes v 0)
    (λ same. subst (λ (x : ℕ). d < get_or p.sizes x 0) (eqb-true u v same) within.0)
    (λ other. value_by-lt p us ds within.1 v some)

-- a path goes down
path_apart : (paths : List (List ℕ)) → IsTree paths → (v : ℕ) → AllPairs (λ x y. length (path_of paths x) < length (path_of paths y)) (path_of paths v)
path_apart paths tree v i j d before inside =
    let depth : (k : ℕ) → k < length (path_of paths v) → length (path_of paths (get_or (path_of paths v) k d)) ≡ k = λ k lt.
    ap (λ (x : ℕ). length (path_of paths x)) (get_or_default (path_of paths v) k d 0 lt) ∙ ap length (ancestor paths tree v k lt).1 ∙ length-take-le k (path_of paths v) (omega arith) in
    omega (arith, before, depth i (omega (arith, before, inside)), depth j inside)

-- a list of one element
one_element : (xs : List ℕ) → length xs ≡ 1 → xs ≡ get_or xs 0 0 ∷ []
one_element [] e = absurd (omega (arith, e))
one_element (x ∷ []) e = refl
one_element (x ∷ y ∷ ys) e = absurd (omega (arith, e))

module _ (p : Dcop) (paths scopes cells : List (List ℕ)) (problem : IsProblem p) (pseudo : IsPseudotree p paths) (tables : AreOptimumTables p paths scopes cells) where
  -- the children's cells are their subtree optima
  children_optima : (i : ℕ) (value : ℕ → ℕ) → AreValuesAbove p paths i value → AreChildOptima p paths i value (λ d c. cell_with (util_of p scopes cells c) (with_own i d value))
  children_optima i value below d c inside parent =
      tables.cells_are c (with_own i d value) (within_tree paths c i parent) (λ v h.
      elim (cases_eq v i) [
        | inl same ↦ omega (arith, own_here i d value v same, inside, ap (λ (x : ℕ). get_or p.sizes x 0) same)
        | inr ne ↦
            elim (within_cases paths v i (above_parent paths pseudo.tree c i v parent h)) [
              | inl same ↦ absurd (ne (sym same))
              | inr above ↦ omega (arith, own_else i d value v ne, below v above)
            ]
      ])

  optimum_cells_lower : (i : ℕ) → i < length paths → AreLowerCells p paths scopes cells i
  optimum_cells_lower i lt ds d within inside =
      let scope : List ℕ = (util_of p scopes cells i).scope in
      let value : ℕ → ℕ = value_by scope ds in
      let scope_is : scope ≡ separator_of p paths i =
      ap (λ (xs : List (List ℕ)). get_or xs i []) tables.scopes_are ∙ get_or-map-range_with_len (separator_of p paths) 0 (length paths) i i [] lt (omega arith) in
      let apart : AllPairs (λ x y. length (path_of paths x) < length (path_of paths y)) scope =
      subst (λ (xs : List ℕ). AllPairs (λ x y. length (path_of paths x) < length (path_of paths y)) xs) (sym scope_is)
      (AllPairs-filter (λ x y. length (path_of paths x) < length (path_of paths y)) (touches p paths i) (path_of paths i) (path_apart paths pseudo.tree i)) in
      let long : length ds ≡ length scope = sym (length_all_zip (λ s v. v < s) (sizes_of p scope) ds within) ∙ length-map scope (get_or_zero p.sizes) in
      let cell : get_or (util_of p scopes cells i).cells (cell_place (sizes_of p scope) ds) 0 ≡ cell_with (util_of p scopes cells i) value =
      ap (λ (xs : List ℕ). get_or (util_of p scopes cells i).cells (cell_place (sizes_of p scope) xs) 0) (sym (value_by_values (λ x. length (path_of paths x)) scope ds apart long)) in
      let below : AreValuesAbove p paths i value = λ v h. value_by-lt p scope ds within v (size_some p problem v (above_in_problem p paths problem pseudo v i h)) in
      let count = pseudo.sized in
      let least = ((decomposes p paths problem pseudo).recursion i value (λ d c. cell_with (util_of p scopes cells c) (with_own i d value)) (omega (arith, lt, count)) below
      (children_optima i value below) (cell_with (util_of p scopes cells i) value)).0 (tables.cells_are i value lt below) in
      let own : cost_with (tables_on_path p paths i) (with_own i d value) ≡ cost_with (own_tables_of p paths i) (with_own i d value) =
      ap (λ (ts : List CostTable). cost_with ts (with_own i d value)) (tables_on_paths_are_own p paths problem pseudo i) in
      omega (arith, cell, least.lowest d inside, own)
    where
      get_or_zero : List ℕ → ℕ → ℕ
      get_or_zero xs v = get_or xs v 0

pub optima_make_certificates : OptimaMakeCertificates
optima_make_certificates p paths scopes cells values problem pseudo tables optimal = record {
  paths = paths;
  pseudotree = pseudo;
  parents_are = refl;
  tables = record {
    scopes_are = tables.scopes_are;
    cells_lower = optimum_cells_lower p paths scopes cells problem pseudo tables;
  };
  root_cost = λ root is.
      let scope_none : (util_of p scopes cells root).scope ≡ [] =
      ap (λ (xs : List (List ℕ)). get_or xs root []) tables.scopes_are ∙ get_or-map-range_with_len (separator_of p paths) 0 (length paths) root root [] is.0 (omega arith)
      ∙ ap (filter (touches p paths root)) is.1 in
      let one : length (get_or cells root []) ≡ 1 = tables.full root is.0 ∙ ap (λ (scope : List ℕ). product (sizes_of p scope)) scope_none in
      let cell : cell_with (util_of p scopes cells root) (λ v. 0) ≡ get_or (get_or cells root []) 0 0 =
      ap (λ (scope : List ℕ). get_or (get_or cells root []) (cell_place (sizes_of p scope) (map (λ (v : ℕ). 0) scope)) 0) scope_none in
      let best = tables.cells_are root (λ v. 0) is.0 (λ v h. absurd (none_above p paths problem pseudo root v is h)) in
      let optimum = ((decomposes p paths problem pseudo).at_root root (λ v. 0) is (cell_with (util_of p scopes cells root) (λ v. 0))).0 best in
      let costs = optimum_same p (cell_with (util_of p scopes cells root) (λ v. 0)) (cost p values) optimum optimal in
      one_element (get_or cells root []) one ∙ ap (λ (x : ℕ). x ∷ []) (sym cell ∙ costs);
}
