-- The tables of all variables in preorder: they fit the problem, and show optimal values to be so.
use Rattle.std.proofs.Common.{◌≡◌, ℕ, ◌<◌, ◌≤◌, Bool, true, ◌||◌, cond, eqb, List, [], ◌∷◌, length, map, get_or, Option, Some, None, IfSome, refl, sym, ap, subst, ◌∙◌, inl, inr, arith, All}
use Rattle.std.specs.List.{AllZip, count_by, range_with_len}
use Rattle.std.proofs.lemmas.Bool.{cases_Bool, cond-true, cond-false, eqb-true}
use Rattle.std.proofs.lemmas.List.{get_or_default}
use Rattle.std.proofs.lemmas.List.Sums.{sum_by-cons}
use Rattle.std.proofs.lemmas.List.Elements.{All-nil, All-cons, All-head, All-tail, All-filter}
use Rattle.dcop_base.specs.Table.{CostTable, has, has_repeat, product, cell_place}
use Rattle.dcop_base.specs.Problem.{Dcop, cost}
use Rattle.dcop_base.specs.Whole.{IsProblem}
use Rattle.dcop_base.specs.Values.{cell_with}
use Rattle.dcop_base.specs.Limits.{amount_limit}
use Rattle.pseudotree.specs.Tree.{path_of, parent_of}
use Rattle.pseudotree.specs.Preorder.{preorder_of}
use Rattle.pseudotree.specs.Pseudotree.{IsPseudotree, touches, separator_of}
use Rattle.pseudotree.specs.Place.{sizes_of}
use Rattle.pseudotree.specs.Fault.{parents_of}
use Rattle.pseudotree.proofs.PlaceLaws.{path_below, all_sized}
use Rattle.dcop_optimum.specs.Optimum.{IsOptimum}
use Rattle.dcop_optimum.specs.Subtree.{AreValuesAbove, IsSubtreeOptimum}
use Rattle.dcop_optimum.specs.Certificate.{IsTableCertificate}
use Rattle.dcop_optimum.specs.OptimumTables.{AreOptimumTables}
use Rattle.dcop_optimum.proofs.PreorderLaws.{has_preorder, preorder_below}
use Rattle.dcop_optimum.proofs.OptimumTableLaws.{costs_are_within_cap, optima_make_certificates}
use Rattle.certificate_text.specs.declared.certificate.Util.{Util}
use Rattle.certificate_text.specs.Fits.{FitsUtil, FitsTables}
use Rattle.minimised_problem.specs.Told.{told, parents_told, scopes_told, cells_told}
use Rattle.minimised_problem.proofs.TellingLaws.{map_same, table_is}
use Rattle.run_laws.specs.DpopAgents.{IsOptimumTable}
use Rattle.minimised_problem.specs.Utils.{IsUtilOf}
use Rattle.minimised_problem.proofs.OnceLaws.{preorder_once}
use Rattle.minimised_problem.proofs.ScopeLaws.{separator_apart, values_at}

module _ (p : Dcop) (paths : List (List ℕ)) where
  -- the tables of these variables, each counted for its variable
  count_utils : (vs : List ℕ) (us : List Util) (i : ℕ) → AllZip (IsUtilOf p paths) vs us → count_by (λ u. eqb u.var i) us ≡ count_by (λ v. eqb v i) vs
  count_utils [] [] i are = refl
  count_utils [] (u ∷ us) i are = absurd are
  count_utils (v ∷ vs) [] i are = absurd are
  count_utils (v ∷ vs) (u ∷ us) i are =
      let here = ap (λ (w : ℕ). let n : ℕ = cond (eqb w i) 1 0 in n) are.0.var in
      omega (arith, here, count_utils vs us i are.1, sum_by-cons (λ x. cond (eqb x.var i) 1 0) u us, sum_by-cons (λ x. cond (eqb x i) 1 0) v vs)

  -- what is told of a variable among these is its table
  told_util : (vs : List ℕ) (us : List Util) (i : ℕ) → AllZip (IsUtilOf p paths) vs us → has vs i ≡ true → IsUtilOf p paths i (told us i)
  told_util [] us i are named = absurd (cc)
  told_util (v ∷ vs) [] i are named = absurd are
  told_util (v ∷ vs) (u ∷ us) i are named =
      elim (cases_Bool (eqb v i)) [
        | inl here ↦
            subst (IsUtilOf p paths i) (sym (cond-true (eqb u.var i) u (told us i) (ap (λ (w : ℕ). eqb w i) are.0.var ∙ here)))
            (subst (λ (w : ℕ). IsUtilOf p paths w u) (eqb-true v i here) are.0)
        | inr other ↦
            let later : has vs i ≡ true = sym (ap (λ (b : Bool). b || has vs i) other) ∙ named in
            subst (IsUtilOf p paths i) (sym (cond-false (eqb u.var i) u (told us i) (ap (λ (w : ℕ). eqb w i) are.0.var ∙ other)))
            (told_util vs us i are.1 later)
      ]

module _ (p : Dcop) (paths : List (List ℕ)) (problem : IsProblem p) (pseudo : IsPseudotree p paths) where
  -- each cell of a table is the subtree optimum at some values
  pub cell_optimum : (i : ℕ) (t : CostTable) → IsOptimumTable p paths i t → (k : ℕ) → k < length t.cells
      → (value : ℕ → ℕ) × AreValuesAbove p paths i value × (cell_place t.sizes (map value t.scope) ≡ k) × IsSubtreeOptimum p paths i value (get_or t.cells k 0)
  cell_optimum i t is k lt =
      let some = values_at p paths problem pseudo i t k is.scope is.sizes (omega (arith, lt, is.full)) in
      (some.0, some.1, some.2, subst (λ (j : ℕ). IsSubtreeOptimum p paths i some.0 (get_or t.cells j 0)) some.2 (is.cells some.0 some.1))

  cells_capped : (i : ℕ) (t : CostTable) → IsOptimumTable p paths i t → All (λ c. c ≤ amount_limit) t.cells
  cells_capped i t is k d lt =
      let best = (cell_optimum i t is k lt).3 in
      let within = (costs_are_within_cap p paths problem pseudo).subtree i (λ v. get_or best.attained.0 v 0) in
      let same = get_or_default t.cells k d 0 lt in
      omega (arith, within, same, best.attained.3)

  parent_named : (i : ℕ) (parent : Option ℕ) → parent ≡ parent_of paths i → IfSome parent (λ u. u < length p.sizes)
  parent_named i None is = tt
  parent_named i (Some u) is = let inside = (pseudo.tree.nested i u (sym is)).0 in let count = pseudo.sized in omega arith

  -- the table of a variable fits the problem
  util_fits : (i : ℕ) (u : Util) → i < length paths → IsUtilOf p paths i u → FitsUtil p.sizes u
  util_fits i u lt is = record {
    named = record {
      own = let var = is.var in let count = pseudo.sized in omega arith;
      parent = parent_named i u.parent is.parent;
      scope =
          subst (All (λ v. v < length p.sizes)) (sym is.table.scope)
          (all_sized (separator_of p paths i) (length paths) (length p.sizes) pseudo.sized
          (All-filter (touches p paths i) (λ u. u < length paths) (path_of paths i) (path_below paths pseudo.tree i)));
    };
    distinct = ap (λ (s : List ℕ). has_repeat s) is.table.scope ∙ separator_apart p paths pseudo.tree i;
    many = is.table.full;
    cells = cells_capped i (record { scope = u.scope; sizes = sizes_of p u.scope; cells = u.cells }) is.table;
  }

  utils_fit : (vs : List ℕ) (us : List Util) → All (λ v. v < length paths) vs → AllZip (IsUtilOf p paths) vs us → All (FitsUtil p.sizes) us
  utils_fit [] [] below are = All-nil (FitsUtil p.sizes)
  utils_fit [] (u ∷ us) below are = absurd are
  utils_fit (v ∷ vs) [] below are = absurd are
  utils_fit (v ∷ vs) (u ∷ us) below are =
      All-cons (FitsUtil p.sizes) u us (util_fits v u (All-head (λ w. w < length paths) v vs below) are.0)
      (utils_fit vs us (All-tail (λ w. w < length paths) v vs below) are.1)

  module _ (utils : List Util) (are : AllZip (IsUtilOf p paths) (preorder_of paths) utils) where
    -- so do all in preorder
    pub tables_fit : FitsTables p.sizes utils
    tables_fit = record {
      each = utils_fit (preorder_of paths) utils (preorder_below paths) are;
      one = λ i lt.
          let count = pseudo.sized in
          count_utils p paths (preorder_of paths) utils i are ∙ preorder_once p paths problem pseudo i (omega arith);
    }

    told_is : (i : ℕ) → i < length paths → IsUtilOf p paths i (told utils i)
    told_is i lt = told_util p paths (preorder_of paths) utils i are (has_preorder paths pseudo.tree i lt)

    told_tables : AreOptimumTables p paths (scopes_told p utils) (cells_told p utils)
    told_tables = record {
      scopes_are =
          map_same (λ v. (told utils v).scope) (separator_of p paths) (length p.sizes) (λ i lt. let count = pseudo.sized in (told_is i (omega arith)).table.scope)
          ∙ ap (λ (n : ℕ). map (separator_of p paths) (range_with_len 0 n)) (sym pseudo.sized);
      full = λ i lt.
          let count = pseudo.sized in
          subst (λ (t : CostTable). length t.cells ≡ product t.sizes) (sym (table_is p utils i (omega arith))) (told_is i lt).table.full;
      cells_are = λ i value lt above.
          let count = pseudo.sized in
          subst (λ (t : CostTable). IsSubtreeOptimum p paths i value (cell_with t value)) (sym (table_is p utils i (omega arith))) ((told_is i lt).table.cells value above);
    }

    -- their parents are those of the tree
    pub parents_are : parents_told p utils ≡ parents_of paths
    parents_are =
        map_same (λ v. (told utils v).parent) (parent_of paths) (length p.sizes) (λ i lt. let count = pseudo.sized in (told_is i (omega arith)).parent)
        ∙ ap (λ (n : ℕ). map (parent_of paths) (range_with_len 0 n)) (sym pseudo.sized)

    -- and with optimal values they are a certificate
    pub tables_show_on : (values : List ℕ) → IsOptimum p (cost p values) → IsTableCertificate p (parents_of paths) (scopes_told p utils) (cells_told p utils) values
    tables_show_on values optimal = optima_make_certificates p paths (scopes_told p utils) (cells_told p utils) values problem pseudo told_tables optimal

    pub tables_show : (values : List ℕ) → IsOptimum p (cost p values) → IsTableCertificate p (parents_told p utils) (scopes_told p utils) (cells_told p utils) values
    tables_show values optimal = subst (λ (ps : List (Option ℕ)). IsTableCertificate p ps (scopes_told p utils) (cells_told p utils) values) (sym parents_are) (tables_show_on values optimal)
