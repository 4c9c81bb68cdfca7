-- One report of DPOP belongs to a file, be it certified or not.
use Rattle.std.proofs.Common.{◌≡◌, ℕ, Bool, true, false, List, [], ◌∷◌, get_or, Option, Some, None, refl, sym, ap, subst, ◌∙◌, arith}
use Rattle.std.specs.List.{AllZip}
use Rattle.std.proofs.lemmas.List.{same_lists, get_or_default}
use Rattle.dcop_base.specs.Table.{CostTable}
use Rattle.dcop_base.specs.Problem.{Dcop, cost}
use Rattle.dcop_base.specs.Whole.{IsProblem}
use Rattle.pseudotree.specs.DepthFirst.{dfs, DepthFirstTreesAreLinked}
use Rattle.pseudotree.specs.Place.{sizes_of}
use Rattle.pseudotree.specs.Preorder.{preorder_of}
use Rattle.pseudotree.specs.Pseudotree.{IsPseudotree}
use Rattle.dcop_optimum.specs.Subtree.{IsSubtreeOptimum}
use Rattle.dcop_optimum.specs.TreeOptimum.{FirstOptimaOfTreesAreOne}
use Rattle.dcop_optimum.proofs.DecompositionLaws.{subtree_optimum_same}
use Rattle.problem_text.specs.File.{TextFile}
use Rattle.problem_text.specs.declared.file.Goal.{Goal}
use Rattle.certificate_text.specs.declared.certificate.Certificate.{Certificate}
use Rattle.certificate_text.specs.declared.certificate.Certificate.TheVariants.{Tables, Log, Cut}
use Rattle.certificate_text.specs.declared.certificate.Util.{Util}
use Rattle.certificate_text.specs.declared.report.Report.{Report}
use Rattle.certificate_text.specs.declared.report.Ending.{Ending}
use Rattle.certificate_text.specs.declared.report.Method.{Method}
use Rattle.minimised_problem.specs.Goal.{problem_solved}
use Rattle.run_laws.specs.DpopAgents.{IsOptimumTable}
use Rattle.minimised_problem.specs.Utils.{IsUtilOf}
use Rattle.solve_methods.specs.Certified.{IsCertifiedBy, IsCertified}
use Rattle.solve_methods.specs.Dpop.{IsDpopReport}
use Rattle.minimised_problem.proofs.SolvedLaws.{solved_problem}
use Rattle.minimised_problem.proofs.UtilLaws.{cell_optimum}

-- a table with these parts
util_with : ℕ → Option ℕ → List ℕ → List ℕ → Util
util_with var parent scope cells = record { var = var; parent = parent; scope = scope; cells = cells }

same_with : (v w : ℕ) (x y : Option ℕ) (s t a b : List ℕ) → v ≡ w → x ≡ y → s ≡ t → a ≡ b → util_with v x s a ≡ util_with w y t b
same_with v w x y s t a b ev ex es ea = cc

-- tables with the same parts are the same
same_parts : (u v : Util) → u.var ≡ v.var → u.parent ≡ v.parent → u.scope ≡ v.scope → u.cells ≡ v.cells → u ≡ v
unfolding util_with
same_parts u v = same_with u.var v.var u.parent v.parent u.scope v.scope u.cells v.cells

-- a table of a variable with this scope and these cells
abbrev table_with : Dcop → List ℕ → List ℕ → CostTable
table_with p scope cells = record { scope = scope; sizes = sizes_of p scope; cells = cells }

module _ (p : Dcop) (paths : List (List ℕ)) (problem : IsProblem p) (pseudo : IsPseudotree p paths) where
  -- the subtree optima of one variable over one scope are the same
  same_cells : (i : ℕ) (scope a b : List ℕ) → IsOptimumTable p paths i (table_with p scope a) → IsOptimumTable p paths i (table_with p scope b) → a ≡ b
  same_cells i scope a b of_a of_b =
      same_lists a b (of_a.full ∙ sym of_b.full) (λ k d lt.
      let some = cell_optimum p paths problem pseudo i (table_with p scope a) of_a k lt in
      let other : IsSubtreeOptimum p paths i some.0 (get_or b k 0) =
      subst (λ (j : ℕ). IsSubtreeOptimum p paths i some.0 (get_or b j 0)) some.2 (of_b.cells some.0 some.1) in
      let long = of_a.full ∙ sym of_b.full in
      get_or_default a k d 0 lt ∙ subtree_optimum_same p paths i some.0 (get_or a k 0) (get_or b k 0) some.3 other ∙ sym (get_or_default b k d 0 (omega (arith, lt, long))))

  -- so is the table of one variable
  same_util : (i : ℕ) (u v : Util) → IsUtilOf p paths i u → IsUtilOf p paths i v → u ≡ v
  same_util i u v of_u of_v =
      let scope : v.scope ≡ u.scope = of_v.table.scope ∙ sym of_u.table.scope in
      same_parts u v (of_u.var ∙ sym of_v.var) (of_u.parent ∙ sym of_v.parent) (sym scope)
      (same_cells i u.scope u.cells v.cells of_u.table (subst (λ (s : List ℕ). IsOptimumTable p paths i (table_with p s v.cells)) scope of_v.table))

  -- and so are those of all variables
  same_utils : (vs : List ℕ) (us ws : List Util) → AllZip (IsUtilOf p paths) vs us → AllZip (IsUtilOf p paths) vs ws → us ≡ ws
  same_utils [] [] [] of_us of_ws = refl
  same_utils [] [] (w ∷ ws) of_us of_ws = absurd of_ws
  same_utils [] (u ∷ us) ws of_us of_ws = absurd of_us
  same_utils (v ∷ vs) [] ws of_us of_ws = absurd of_us
  same_utils (v ∷ vs) (u ∷ us) [] of_us of_ws = absurd of_ws
  same_utils (v ∷ vs) (u ∷ us) (w ∷ ws) of_us of_ws =
      let here = same_util v u w of_us.0 of_ws.0 in
      let rest = same_utils vs us ws of_us.1 of_ws.1 in cc

-- a report with these parts
report_with : Ending → Method → Goal → ℕ → ℕ → ℕ → ℕ → ℕ → List ℕ → Option Certificate → Report
report_with status method goal error deliveries sum lower upper values certificate = record {
  status = status;
  method = method;
  goal = goal;
  error = error;
  deliveries = deliveries;
  cost = sum;
  lower = lower;
  upper = upper;
  values = values;
  certificate = certificate;
}

same_made : (s t : Ending) (m n : Method) (g h : Goal) (a a' b b' c c' d d' e e' : ℕ) (v w : List ℕ) (x y : Option Certificate)
    → s ≡ t → m ≡ n → g ≡ h → a ≡ a' → b ≡ b' → c ≡ c' → d ≡ d' → e ≡ e' → v ≡ w → x ≡ y → report_with s m g a b c d e v x ≡ report_with t n h a' b' c' d' e' w y
same_made s t m n g h a a' b b' c c' d d' e e' v w x y es em eg ea eb ec ed ee ev ex = cc

-- reports with the same parts are the same
same_report : (r s : Report) → r.status ≡ s.status → r.method ≡ s.method → r.goal ≡ s.goal → r.error ≡ s.error → r.deliveries ≡ s.deliveries → r.cost ≡ s.cost
    → r.lower ≡ s.lower → r.upper ≡ s.upper → r.values ≡ s.values → r.certificate ≡ s.certificate → r ≡ s
unfolding report_with
same_report r s =
    same_made r.status s.status r.method s.method r.goal s.goal r.error s.error r.deliveries s.deliveries r.cost s.cost r.lower s.lower r.upper s.upper r.values s.values r.certificate s.certificate

module _ (optima : FirstOptimaOfTreesAreOne) (trees : DepthFirstTreesAreLinked) (file : TextFile) (whole : IsProblem file.problem) where
  -- one certificate belongs to a file
  one_certificate_by : (r s : Report) (x y : Option Certificate) → IsCertifiedBy file r x → IsCertifiedBy file s y → x ≡ y
  one_certificate_by r s None y of_x of_y = absurd of_x
  one_certificate_by r s (Some (Log log)) y of_x of_y = absurd of_x
  one_certificate_by r s (Some (Cut cut turns)) y of_x of_y = absurd of_x
  one_certificate_by r s (Some (Tables us)) None of_x of_y = absurd of_y
  one_certificate_by r s (Some (Tables us)) (Some (Log log)) of_x of_y = absurd of_y
  one_certificate_by r s (Some (Tables us)) (Some (Cut cut turns)) of_x of_y = absurd of_y
  one_certificate_by r s (Some (Tables us)) (Some (Tables ws)) of_x of_y =
      let q : Dcop = problem_solved file in
      let whole_q = solved_problem file.goal file.problem whole in
      ap (λ (utils : List Util). Some (Tables utils)) (same_utils q (dfs q) whole_q (trees q whole_q).0 (preorder_of (dfs q)) us ws of_x.tables of_y.tables)

  one_certificate : (certified : Bool) (r s : Report) → IsCertified certified file r → IsCertified certified file s → r.certificate ≡ s.certificate
  one_certificate false r s of_r of_s = of_r ∙ sym of_s
  one_certificate true r s of_r of_s = one_certificate_by r s r.certificate s.certificate of_r of_s

  -- one report of DPOP belongs to a file
  pub one_report : (certified : Bool) (r s : Report) → IsDpopReport file certified r → IsDpopReport file certified s → r ≡ s
  one_report certified r s of_r of_s =
      let q : Dcop = problem_solved file in
      let whole_q = solved_problem file.goal file.problem whole in
      let values : r.values ≡ s.values = (optima q (dfs q) whole_q (trees q whole_q).0).one r.values s.values of_r.first of_s.first in
      let sum : r.cost ≡ s.cost = of_r.cost ∙ ap (cost file.problem) values ∙ sym of_s.cost in
      same_report r s (of_r.status ∙ sym of_s.status) (of_r.method ∙ sym of_s.method) (of_r.goal ∙ sym of_s.goal) (of_r.error ∙ sym of_s.error) (of_r.deliveries ∙ sym of_s.deliveries)
      sum (of_r.lower ∙ sum ∙ sym of_s.lower) (of_r.upper ∙ sum ∙ sym of_s.upper) values (one_certificate certified r s of_r.certificate of_s.certificate)
