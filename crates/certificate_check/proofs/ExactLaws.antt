-- A yes exactly where the report holds, and what it shows.
use Rattle.std.proofs.Common.{◌≡◌, ℕ, ◌*◌, ◌-◌, ◌<◌, eqb, List, [], ◌∷◌, length, get_or, map, Option, None, Some, refl, sym, ap, subst, ◌∙◌, inl, inr, arith}
use Rattle.std.specs.List.{filter, position_or_len}
use Rattle.std.specs.Option.{is_none}
use Rattle.std.proofs.lemmas.Bool.{cases_Bool, cond-true, cond-false, eqb-true, eq-eqb}
use Rattle.std.proofs.lemmas.Option.{none-some}
use Rattle.std.proofs.lemmas.List.FromFn.{get_or-map-range_with_len}
use Rattle.dcop_base.specs.Table.{product, AreWithin}
use Rattle.dcop_base.specs.Problem.{Dcop, IsAssignment, cost}
use Rattle.dcop_base.specs.Whole.{IsProblem}
use Rattle.pseudotree.specs.Tree.{IsRoot}
use Rattle.pseudotree.specs.Pseudotree.{touches}
use Rattle.dcop_optimum.specs.Optimum.{IsOptimum}
use Rattle.dcop_optimum.proofs.OptimumLaws.{optimum_same}
use Rattle.dcop_optimum.proofs.TurnLaws.{sum_to_top}
use Rattle.dcop_optimum.proofs.CertificateLaws.{certificates_show_optima}
use Rattle.problem_text.specs.File.{TextFile}
use Rattle.problem_text.specs.declared.file.Goal.{Goal}
use Rattle.problem_text.specs.declared.file.Goal.TheVariants.{Min, Max}
use Rattle.certificate_text.specs.declared.certificate.Util.{Util}
use Rattle.certificate_text.specs.declared.report.Report.{Report}
use Rattle.certificate_text.specs.declared.report.Ending.{Ending}
use Rattle.certificate_text.specs.declared.report.Ending.TheVariants.{Solved, Spent}
use Rattle.certificate_text.specs.declared.verdict.Differs.{Differs}
use Rattle.certificate_text.specs.declared.verdict.Differs.TheVariants.{Cost, Root, Lower, Upper, Error, Deliveries, Status}
use Rattle.certificate_text.specs.declared.verdict.Verdict.{Verdict}
use Rattle.certificate_text.specs.declared.verdict.Verdict.TheVariants.{Yes, No}
use Rattle.certificate_text.specs.Fits.{FitsTables}
use Rattle.minimised_problem.proofs.SolvedLaws.{solved_problem, solved_sizes}
use Rattle.minimised_problem.specs.Goal.{solved, problem_solved, IsBestSum, IsAtMostWorse}
use Rattle.minimised_problem.specs.Told.{told, variables, parents_told, scopes_told, cells_told}
use Rattle.certificate_check.specs.Cells.{root_told, root_cell}
use Rattle.certificate_check.specs.Differences.{first_of, scope_difference, cells_difference, unless_same, status_difference, dpop_deliveries, bound_difference, number_difference, difference_in}
use Rattle.minimised_problem.specs.Holds.{HoldsTables}
use Rattle.certificate_check.specs.Verdicts.{IsTreeOf, IsTablesVerdict, IsTablesExact}
use Rattle.minimised_problem.specs.Verdict.{ShowsBest}
use Rattle.certificate_check.proofs.FirstLaws.{none_at, or_parts, or_none}
use Rattle.certificate_check.proofs.FitLaws.{told_fits}
use Rattle.certificate_check.proofs.RootLaws.{root_is, scope_same}
use Rattle.certificate_check.proofs.HoldsLaws.{lower_cells, no_cells, separators, no_scopes}
use Rattle.certificate_check.proofs.TreeFactLaws.{one_tree, refuted}

-- numbers that do not differ are the same, and back
pub unless_none : (differs : ℕ → ℕ → Differs) (left right : ℕ) → unless_same differs left right ≡ None → left ≡ right
unless_none differs left right none =
    elim (cases_Bool (eqb left right)) [
      | inl same ↦ eqb-true left right same
      | inr other ↦ absurd (none-some (differs left right) (sym none ∙ cond-false (eqb left right) None (Some (differs left right)) other))
    ]

pub none_unless : (differs : ℕ → ℕ → Differs) (left right : ℕ) → left ≡ right → unless_same differs left right ≡ None
none_unless differs left right same = cond-true (eqb left right) None (Some (differs left right)) (eq-eqb left right same)

pub status_solved : (ending : Ending) → status_difference ending ≡ None → ending ≡ Solved
status_solved Solved none = refl
status_solved Spent none = absurd (none-some (Status Spent) (sym none))

pub single : (xs : List ℕ) → length xs ≡ 1 → xs ≡ get_or xs 0 0 ∷ []
single [] h = absurd (omega (arith, h))
single (x ∷ []) h = refl
single (x ∷ y ∷ ys) h = absurd (omega (arith, h))

module _ (f : TextFile) (r : Report) (utils : List Util) (fits : FitsTables (problem_solved f).sizes utils) where
  -- the variable that is told without a parent is the root
  root_told_is : (paths : List (List ℕ)) → IsTreeOf (problem_solved f) (parents_told (problem_solved f) utils) paths → IsRoot paths (root_told (problem_solved f) utils)
  root_told_is paths tree = subst (λ (ps : List (Option ℕ)). IsRoot paths (position_or_len is_none ps)) (sym tree.parents_are) (root_is paths tree.pseudotree.tree)

  cells_of : (paths : List (List ℕ)) → IsTreeOf (problem_solved f) (parents_told (problem_solved f) utils) paths → (root : ℕ) → IsRoot paths root
      → get_or (cells_told (problem_solved f) utils) root [] ≡ (told utils (root_told (problem_solved f) utils)).cells
  cells_of paths tree root is =
      let p : Dcop = problem_solved f in
      let count = tree.pseudotree.sized in
      let below = is.0 in
      get_or-map-range_with_len (λ v. (told utils v).cells) 0 (length p.sizes) root root [] (omega arith) (omega arith)
      ∙ ap (λ (v : ℕ). (told utils v).cells) (tree.pseudotree.tree.one_root root (root_told p utils) is (root_told_is paths tree))

  -- where there is no difference the report holds
  pub holds_of : (paths : List (List ℕ)) → IsTreeOf (problem_solved f) (parents_told (problem_solved f) utils) paths → difference_in f paths utils r ≡ None → HoldsTables f r utils
  holds_of paths tree none =
      let p : Dcop = problem_solved f in
      let pseudo = tree.pseudotree in
      let behind = or_parts (first_of (scope_difference p paths utils) (variables p)) _ none in
      let last = or_parts (first_of (cells_difference p paths utils) (variables p)) (number_difference f (root_cell p utils) (dpop_deliveries (length f.problem.sizes)) r) behind.1 in
      let first = or_parts (unless_same (λ left right. Cost left right) r.cost (cost f.problem r.values)) _ last.1 in
      let second = or_parts (unless_same (λ left right. Root left right) (root_cell p utils) (cost p r.values)) (bound_difference (dpop_deliveries (length f.problem.sizes)) r) first.1 in
      let third = or_parts (unless_same (λ left right. Lower left right) r.lower r.cost) _ second.1 in
      let fourth = or_parts (unless_same (λ left right. Upper left right) r.upper r.cost) _ third.1 in
      let fifth = or_parts (unless_same (λ left right. Error left right) r.error 0) _ fourth.1 in
      let sixth = or_parts (unless_same (λ left right. Deliveries left right) r.deliveries (2 * (length f.problem.sizes - 1))) (status_difference r.status) fifth.1 in
      let count = pseudo.sized in
      record {
        tables = record {
          paths = paths;
          pseudotree = pseudo;
          parents_are = tree.parents_are;
          tables = record {
            scopes_are = separators p paths utils pseudo fits behind.0;
            cells_lower = λ i lt. lower_cells p paths utils pseudo fits last.0 i (omega arith);
          };
          root_cost = λ root is.
              let here : ℕ = root_told p utils in
              let at = root_told_is paths tree in
              let below = at.0 in
              let inside : here < length p.sizes = omega arith in
              let scope : (told utils here).scope ≡ [] =
              scope_same p paths utils here (none_at (scope_difference p paths utils) (length p.sizes) here behind.0 inside) ∙ ap (filter (touches p paths here)) at.1 in
              let one : length (told utils here).cells ≡ 1 = (told_fits p.sizes utils here fits inside).many ∙ ap (λ (vs : List ℕ). product (map (λ v. get_or p.sizes v 0) vs)) scope in
              cells_of paths tree root is ∙ single (told utils here).cells one
              ∙ ap (λ (n : ℕ). n ∷ []) (unless_none (λ left right. Root left right) (root_cell p utils) (cost p r.values) second.0);
        };
        cost = unless_none (λ left right. Cost left right) r.cost (cost f.problem r.values) first.0;
        lower = unless_none (λ left right. Lower left right) r.lower r.cost third.0;
        upper = unless_none (λ left right. Upper left right) r.upper r.cost fourth.0;
        error = unless_none (λ left right. Error left right) r.error 0 fifth.0;
        deliveries = unless_none (λ left right. Deliveries left right) r.deliveries (2 * (length f.problem.sizes - 1)) sixth.0;
        status = status_solved r.status sixth.1;
      }

  -- and where it holds there is none
  pub none_of : (h : HoldsTables f r utils) → difference_in f h.tables.paths utils r ≡ None
  none_of h =
      let p : Dcop = problem_solved f in
      let paths : List (List ℕ) = h.tables.paths in
      let pseudo = h.tables.pseudotree in
      let tree : IsTreeOf p (parents_told p utils) paths = record { pseudotree = pseudo; parents_are = h.tables.parents_are } in
      let count = pseudo.sized in
      let root : root_cell p utils ≡ cost p r.values =
      ap (λ (xs : List ℕ). get_or xs 0 0) (sym (cells_of paths tree (root_told p utils) (root_told_is paths tree)) ∙ h.tables.root_cost (root_told p utils) (root_told_is paths tree)) in
      or_none (first_of (scope_difference p paths utils) (variables p)) _ (no_scopes p paths utils pseudo fits h.tables.tables.scopes_are)
      (or_none (first_of (cells_difference p paths utils) (variables p)) (number_difference f (root_cell p utils) (dpop_deliveries (length f.problem.sizes)) r)
      (no_cells p paths utils pseudo fits (λ i lt. h.tables.tables.cells_lower i (omega arith)))
      (or_none (unless_same (λ left right. Cost left right) r.cost (cost f.problem r.values)) _ (none_unless (λ left right. Cost left right) r.cost (cost f.problem r.values) h.cost)
      (or_none (unless_same (λ left right. Root left right) (root_cell p utils) (cost p r.values)) (bound_difference (dpop_deliveries (length f.problem.sizes)) r) (none_unless (λ left right. Root left right) (root_cell p utils) (cost p r.values) root)
      (or_none (unless_same (λ left right. Lower left right) r.lower r.cost) _ (none_unless (λ left right. Lower left right) r.lower r.cost h.lower)
      (or_none (unless_same (λ left right. Upper left right) r.upper r.cost) _ (none_unless (λ left right. Upper left right) r.upper r.cost h.upper)
      (or_none (unless_same (λ left right. Error left right) r.error 0) _ (none_unless (λ left right. Error left right) r.error 0 h.error)
      (or_none (unless_same (λ left right. Deliveries left right) r.deliveries (2 * (length f.problem.sizes - 1))) (status_difference r.status)
      (none_unless (λ left right. Deliveries left right) r.deliveries (2 * (length f.problem.sizes - 1)) h.deliveries) (ap status_difference h.status))))))))

  pub exact_of : (verdict : Verdict) → IsTablesVerdict f r utils verdict → IsTablesExact f r utils verdict
  exact_of (Yes cost error) found = holds_of found.0.0 found.0.1 found.0.2
  exact_of (No differs) first = λ h. elim first [
    | inl tree ↦ refuted (problem_solved f) h.tables.paths (parents_told (problem_solved f) utils) h.tables.pseudotree h.tables.parents_are differs tree
    | inr found ↦
        let same = one_tree found.0 h.tables.paths found.1.pseudotree.tree h.tables.pseudotree.tree (sym found.1.parents_are ∙ h.tables.parents_are) in
        none-some differs (sym (none_of h) ∙ ap (λ (ps : List (List ℕ)). difference_in f ps utils r) (sym same) ∙ found.2)
  ]

-- a sum that is the least or the greatest is no worse than the best
pub best_by : (goal : Goal) (p : Dcop) (values : List ℕ) (error best : ℕ) → IsProblem p → IsAssignment p values → IsOptimum (solved goal p) (cost (solved goal p) values) → IsBestSum goal p best → IsAtMostWorse goal error (cost p values) best
best_by Min p values error best problem is optimal h = let same = optimum_same p (cost p values) best optimal h in omega (arith, same)
best_by Max p values error best problem is optimal h =
    let other : List ℕ = h.attained.0 in
    let below = optimal.lowest other h.attained.1 in
    let top = sum_to_top p problem other h.attained.1 in
    let here = sum_to_top p problem values is in
    omega (arith, below, top, here, h.attained.2)

pub best_of : (f : TextFile) (r : Report) (utils : List Util) → FitsTables (problem_solved f).sizes utils → IsProblem f.problem → IsAssignment f.problem r.values
    → (verdict : Verdict) → IsTablesVerdict f r utils verdict → ShowsBest f verdict
best_of f r utils fits problem is (No differs) found = tt
best_of f r utils fits problem is (Yes printed error) found = λ best sum.
    let h = holds_of f r utils fits found.0.0 found.0.1 found.0.2 in
    let turned_is : IsAssignment (problem_solved f) r.values = subst (λ (ss : List ℕ). AreWithin ss r.values) (sym (solved_sizes f.goal f.problem)) is in
    let optimal = certificates_show_optima (problem_solved f) (parents_told (problem_solved f) utils) (scopes_told (problem_solved f) utils) (cells_told (problem_solved f) utils) r.values (solved_problem f.goal f.problem problem) turned_is h.tables in
    subst (λ (n : ℕ). IsAtMostWorse f.goal error n best) (sym (found.1 ∙ h.cost)) (best_by f.goal f.problem r.values error best problem is optimal sum)
