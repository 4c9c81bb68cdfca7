-- Where there is no difference the report holds, and its values are the best.
use Rattle.std.proofs.Common.{◌≡◌, ℕ, ◌+◌, ◌<◌, ◌≤◌, cond, ltb, List, [], ◌∷◌, length, get_or, map, None, Some, refl, sym, ap, subst, ◌∙◌, inl, inr, arith}
use Rattle.std.specs.List.{range_with_len, sum_by}
use Rattle.std.proofs.lemmas.Bool.{cases_Bool, cond-true, cond-false, ltb-false, le-ltb}
use Rattle.std.proofs.lemmas.Option.{none-some}
use Rattle.std.proofs.lemmas.List.{get_or_default}
use Rattle.std.proofs.lemmas.List.Sums.{sum_by-cons}
use Rattle.std.proofs.lemmas.List.FromFn.{get_or-map-range_with_len}
use Rattle.dcop_base.specs.Table.{CostTable, AreWithin, cell_place}
use Rattle.dcop_base.specs.Problem.{Dcop}
use Rattle.dcop_base.specs.Values.{cell_with, cost_with, with_own}
use Rattle.dcop_base.proofs.TableLaws.{cell_place-lt}
use Rattle.pseudotree.specs.Tree.{children_of}
use Rattle.pseudotree.specs.Pseudotree.{IsPseudotree, separator_of}
use Rattle.dcop_optimum.specs.Certificate.{value_by, util_of, tables_on_path, AreLowerCells}
use Rattle.dcop_optimum.proofs.SumLaws.{sum_same}
use Rattle.certificate_text.specs.declared.certificate.Util.{Util}
use Rattle.certificate_text.specs.declared.verdict.Differs.{Differs}
use Rattle.certificate_text.specs.declared.verdict.Differs.TheVariants.{Cell}
use Rattle.certificate_text.specs.Fits.{FitsTables}
use Rattle.minimised_problem.specs.Told.{told, variables, sized, scopes_told, cells_told}
use Rattle.minimised_problem.specs.Cells.{values_of_cell}
use Rattle.certificate_check.specs.Cells.{values_at_cell, sum_below, children_told}
use Rattle.certificate_check.specs.Differences.{first_of, scope_difference, value_difference, cell_difference, table_difference, cells_difference}
use Rattle.certificate_check.proofs.FirstLaws.{none_at, none_each}
use Rattle.certificate_check.proofs.PartLaws.{child_below}
use Rattle.certificate_check.proofs.CellLaws.{sizes_at}
use Rattle.minimised_problem.proofs.CellLaws.{values_of_place, place_of_values}
use Rattle.minimised_problem.proofs.TellingLaws.{map_same, table_is}
use Rattle.certificate_check.proofs.FitLaws.{told_fits, told_var}
use Rattle.certificate_check.proofs.RootLaws.{scope_same, same_scope}

-- a test that tells nothing, and back
pub not_over : (right left : ℕ) (x : Differs) → cond (ltb right left) (Some x) None ≡ None → left ≤ right
not_over right left x none =
    elim (cases_Bool (ltb right left)) [
      | inl over ↦ absurd (none-some x (sym none ∙ cond-true (ltb right left) (Some x) None over))
      | inr within ↦ ltb-false right left within
    ]

-- a sum over what is told of variables
pub sum_map : {X Y : Type 0} (f : Y → ℕ) (g : X → Y) (xs : List X) → sum_by f (map g xs) ≡ sum_by (λ x. f (g x)) xs
sum_map f g [] = refl
sum_map f g (x ∷ xs) =
    let rest = sum_map f g xs in
    omega (arith, rest, sum_by-cons f (g x) (map g xs), sum_by-cons (λ y. f (g y)) x xs)

module _ (p : Dcop) (paths : List (List ℕ)) (utils : List Util) (pseudo : IsPseudotree p paths) (fits : FitsTables p.sizes utils) where
  -- what a cell may not exceed, as a certificate says it and as it is compared
  pub bound_is : (i : ℕ) → i < length p.sizes → (value : ℕ → ℕ)
      → sum_below p.sizes (tables_on_path p paths i) (children_told paths utils i) value
      ≡ cost_with (tables_on_path p paths i) value + sum_by (λ c. cell_with (util_of p (scopes_told p utils) (cells_told p utils) c) value) (children_of paths i)
  bound_is i lt value =
      let children = sum_map (λ u. cell_with (sized p.sizes u) value) (told utils) (children_of paths i) in
      let same = sum_same (λ c. cell_with (sized p.sizes (told utils c)) value) (λ c. cell_with (util_of p (scopes_told p utils) (cells_told p utils) c) value) (children_of paths i) (λ k d l.
      let count = pseudo.sized in
      let c : ℕ = get_or (children_of paths i) k d in
      let below = child_below paths i k c l (get_or_default (children_of paths i) k d c l) in
      ap (λ (t : CostTable). cell_with t value) (sym (table_is p utils c (omega arith)))) in
      omega (arith, children, same)

  -- no cell of a table is too great
  abbrev Lower : ℕ → CostTable → Type 0
  Lower i t =
      (values : List ℕ) (d : ℕ) → AreWithin t.sizes values → d < get_or p.sizes i 0
      → get_or t.cells (cell_place t.sizes values) 0
      ≤ cost_with (tables_on_path p paths i) (with_own i d (value_by t.scope values))
      + sum_by (λ c. cell_with (util_of p (scopes_told p utils) (cells_told p utils) c) (with_own i d (value_by t.scope values))) (children_of paths i)

  -- the values of the cell at a place, with a value of the variable
  pub values_is : (i : ℕ) → i < length p.sizes → (values : List ℕ) (d : ℕ) → AreWithin (sizes_at p.sizes (told utils i).scope) values
      → values_at_cell p.sizes (told utils i) (cell_place (sizes_at p.sizes (told utils i).scope) values) d ≡ with_own i d (value_by (told utils i).scope values)
  values_is i lt values d within =
      ap (λ (v : ℕ). with_own v d (value_by (told utils i).scope (values_of_cell (sizes_at p.sizes (told utils i).scope) (cell_place (sizes_at p.sizes (told utils i).scope) values)))) (told_var p.sizes utils i fits lt)
      ∙ ap (λ (xs : List ℕ). with_own i d (value_by (told utils i).scope xs)) (values_of_place (sizes_at p.sizes (told utils i).scope) values within)

  -- where no cell differs, none is too great
  pub lower_cells : first_of (cells_difference p paths utils) (variables p) ≡ None → (i : ℕ) → i < length p.sizes → AreLowerCells p paths (scopes_told p utils) (cells_told p utils) i
  lower_cells none i lt =
      subst (Lower i) (sym (table_is p utils i lt)) (λ values d within below.
      let u : Util = told utils i in
      let own : List CostTable = tables_on_path p paths i in
      let children : List Util = children_told paths utils i in
      let k : ℕ = cell_place (sizes_at p.sizes u.scope) values in
      let inside = cell_place-lt (sizes_at p.sizes u.scope) values within in
      let full = (told_fits p.sizes utils i fits lt).many in
      let at_table : table_difference p.sizes own children u ≡ None = none_at (cells_difference p paths utils) (length p.sizes) i none lt in
      let at_cell : cell_difference p.sizes own children u k ≡ None = none_at (cell_difference p.sizes own children u) (length u.cells) k at_table (omega (arith, inside, full)) in
      let size : d < get_or p.sizes u.var 0 = subst (λ (v : ℕ). d < get_or p.sizes v 0) (sym (told_var p.sizes utils i fits lt)) below in
      let at_value : value_difference p.sizes own children u k d ≡ None = none_at (value_difference p.sizes own children u k) (get_or p.sizes u.var 0) d at_cell size in
      let le = not_over (sum_below p.sizes own children (values_at_cell p.sizes u k d)) (get_or u.cells k 0) (Cell u.var k d (get_or u.cells k 0) (sum_below p.sizes own children (values_at_cell p.sizes u k d))) at_value in
      let same : sum_below p.sizes own children (values_at_cell p.sizes u k d) ≡ sum_below p.sizes own children (with_own i d (value_by u.scope values)) = ap (sum_below p.sizes own children) (values_is i lt values d within) in
      let bound = bound_is i lt (with_own i d (value_by u.scope values)) in
      omega (arith, le, same, bound))

  -- and back
  pub no_cells : ((i : ℕ) → i < length p.sizes → AreLowerCells p paths (scopes_told p utils) (cells_told p utils) i) → first_of (cells_difference p paths utils) (variables p) ≡ None
  no_cells lower =
      none_each (cells_difference p paths utils) (length p.sizes) (λ i lt.
      let u : Util = told utils i in
      let own : List CostTable = tables_on_path p paths i in
      let children : List Util = children_told paths utils i in
      let ss : List ℕ = sizes_at p.sizes u.scope in
      let full = (told_fits p.sizes utils i fits lt).many in
      let all : Lower i (sized p.sizes u) = subst (Lower i) (table_is p utils i lt) (lower i lt) in
      none_each (cell_difference p.sizes own children u) (length u.cells) (λ k inside.
      none_each (value_difference p.sizes own children u k) (get_or p.sizes u.var 0) (λ d size.
      let at = place_of_values ss k (omega (arith, inside, full)) in
      let below : d < get_or p.sizes i 0 = subst (λ (v : ℕ). d < get_or p.sizes v 0) (told_var p.sizes utils i fits lt) size in
      let le = all (values_of_cell ss k) d at.0 below in
      let bound = bound_is i lt (with_own i d (value_by u.scope (values_of_cell ss k))) in
      let same : sum_below p.sizes own children (values_at_cell p.sizes u k d) ≡ sum_below p.sizes own children (with_own i d (value_by u.scope (values_of_cell ss k))) =
      ap (λ (v : ℕ). sum_below p.sizes own children (with_own v d (value_by u.scope (values_of_cell ss k)))) (told_var p.sizes utils i fits lt) in
      let cell = ap (λ (j : ℕ). get_or u.cells j 0) at.1 in
      cond-false (ltb (sum_below p.sizes own children (values_at_cell p.sizes u k d)) (get_or u.cells k 0)) (Some (Cell u.var k d (get_or u.cells k 0) (sum_below p.sizes own children (values_at_cell p.sizes u k d)))) None
      (le-ltb _ _ (omega (arith, le, bound, same, cell))))))

  -- where no scope differs, the scopes are the separators, and back
  pub separators : first_of (scope_difference p paths utils) (variables p) ≡ None → scopes_told p utils ≡ map (separator_of p paths) (range_with_len 0 (length paths))
  separators none =
      map_same (λ v. (told utils v).scope) (separator_of p paths) (length p.sizes) (λ i lt. scope_same p paths utils i (none_at (scope_difference p paths utils) (length p.sizes) i none lt))
      ∙ ap (λ (n : ℕ). map (separator_of p paths) (range_with_len 0 n)) (sym pseudo.sized)

  pub no_scopes : scopes_told p utils ≡ map (separator_of p paths) (range_with_len 0 (length paths)) → first_of (scope_difference p paths utils) (variables p) ≡ None
  no_scopes same =
      none_each (scope_difference p paths utils) (length p.sizes) (λ i lt.
      same_scope p paths utils i
      (sym (get_or-map-range_with_len (λ v. (told utils v).scope) 0 (length p.sizes) i i [] lt (omega arith))
      ∙ ap (λ (xs : List (List ℕ)). get_or xs i []) same
      ∙ get_or-map-range_with_len (separator_of p paths) 0 (length paths) i i [] (let e = pseudo.sized in omega arith) (omega arith)))
