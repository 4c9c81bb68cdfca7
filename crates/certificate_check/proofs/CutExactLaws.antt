-- A yes on the turns of a cut exactly where the report holds, and what it shows.
use Rattle.std.proofs.Common.{◌≡◌, ℕ, ◌*◌, ◌-◌, ◌<◌, ◌≤◌, min, List, [], ◌∷◌, length, get_or, map, Option, None, sym, ap, subst, ◌∙◌, inl, inr, arith}
use Rattle.std.specs.List.{filter, position_or_len}
use Rattle.std.specs.Option.{is_none}
use Rattle.std.proofs.lemmas.Option.{none-some}
use Rattle.std.proofs.lemmas.List.FromFn.{get_or-map-range_with_len}
use Rattle.dcop_base.specs.Table.{product, AreWithin, cell_place}
use Rattle.dcop_base.specs.Problem.{Dcop, IsAssignment, cost}
use Rattle.dcop_base.specs.Whole.{IsProblem}
use Rattle.pseudotree.specs.Tree.{IsRoot}
use Rattle.pseudotree.specs.Pseudotree.{IsPseudotree, touches}
use Rattle.pseudotree.specs.Place.{sizes_of}
use Rattle.dcop_optimum.specs.Certificate.{AreLowerTables}
use Rattle.run_laws.specs.Slice.{AreCutValues, slice_of}
use Rattle.run_laws.specs.Certificate.{IsRootCell, IsLeastRootCell}
use Rattle.run_laws.proofs.TreeLaws.{slices_keep_trees}
use Rattle.run_laws.proofs.CertificateLaws.{cut_certificates_show_optima}
use Rattle.problem_text.specs.File.{TextFile}
use Rattle.certificate_text.specs.declared.certificate.Turn.{Turn}
use Rattle.certificate_text.specs.declared.certificate.Util.{Util}
use Rattle.certificate_text.specs.declared.report.Report.{Report}
use Rattle.certificate_text.specs.declared.report.Ending.TheVariants.{Solved}
use Rattle.certificate_text.specs.declared.verdict.Differs.TheVariants.{Cost, Root, Lower, Upper, Error, Deliveries}
use Rattle.certificate_text.specs.declared.verdict.Verdict.{Verdict}
use Rattle.certificate_text.specs.declared.verdict.Verdict.TheVariants.{Yes, No}
use Rattle.certificate_text.specs.Fits.{FitsCut}
use Rattle.certificate_text.specs.Turns.{first_tables}
use Rattle.minimised_problem.proofs.SolvedLaws.{solved_problem, solved_sizes}
use Rattle.minimised_problem.specs.Goal.{problem_solved, IsAtMostWorse}
use Rattle.minimised_problem.specs.Holds.{HoldsCut}
use Rattle.minimised_problem.specs.Told.{told, variables, parents_told, scopes_told, cells_told}
use Rattle.minimised_problem.specs.Turns.{turn_at, turn_by, turn_scopes, turn_cells}
use Rattle.minimised_problem.specs.Verdict.{ShowsBest}
use Rattle.certificate_check.specs.Cells.{root_told}
use Rattle.certificate_check.specs.Cuts.{scopes_in_turn, cells_in_turn, first_in_turns, least_cell, least_root_cell, cut_deliveries, cut_difference}
use Rattle.certificate_check.specs.Differences.{first_of, scope_difference, cells_difference, unless_same, status_difference, bound_difference, number_difference}
use Rattle.certificate_check.specs.Verdicts.{IsTreeOf, IsCutVerdict, IsCutExact}
use Rattle.certificate_check.proofs.ExactLaws.{unless_none, none_unless, status_solved, single, best_by}
use Rattle.certificate_check.proofs.FirstLaws.{none_at, none_each, or_parts, or_none}
use Rattle.certificate_check.proofs.FitLaws.{told_fits}
use Rattle.certificate_check.proofs.HoldsLaws.{lower_cells, no_cells, separators, no_scopes}
use Rattle.certificate_check.proofs.RootLaws.{root_is, scope_same}
use Rattle.certificate_check.proofs.TreeFactLaws.{one_tree, refuted}
use Rattle.certificate_check.proofs.TurnLaws.{none_in, in_none, turn_within, turn_place, place_below, turn_has, turn_fits, least_below, least_above, least_found}

-- the numbers of a report are right, where the root's cell and the deliveries are these
pub record AreRight (f : TextFile) (root deliveries : ℕ) (r : Report) : Type 0 where
  root_is : root ≡ cost (problem_solved f) r.values
  cost : r.cost ≡ cost f.problem r.values
  lower : r.lower ≡ r.cost
  upper : r.upper ≡ r.cost
  error : r.error ≡ 0
  deliveries_are : r.deliveries ≡ deliveries
  status : r.status ≡ Solved

numbers-right : (f : TextFile) (root deliveries : ℕ) (r : Report) → number_difference f root deliveries r ≡ None → AreRight f root deliveries r
numbers-right f root deliveries r none =
    let p : Dcop = problem_solved f in
    let first = or_parts (unless_same (λ left right. Cost left right) r.cost (cost f.problem r.values)) _ none in
    let second = or_parts (unless_same (λ left right. Root left right) root (cost p r.values)) (bound_difference deliveries r) first.1 in
    let third = or_parts (unless_same (λ left right. Lower left right) r.lower r.cost) _ second.1 in
    let fourth = or_parts (unless_same (λ left right. Upper left right) r.upper r.cost) _ third.1 in
    let fifth = or_parts (unless_same (λ left right. Error left right) r.error 0) _ fourth.1 in
    let sixth = or_parts (unless_same (λ left right. Deliveries left right) r.deliveries deliveries) (status_difference r.status) fifth.1 in
    record {
      cost = unless_none (λ left right. Cost left right) r.cost (cost f.problem r.values) first.0;
      root_is = unless_none (λ left right. Root left right) root (cost p r.values) second.0;
      lower = unless_none (λ left right. Lower left right) r.lower r.cost third.0;
      upper = unless_none (λ left right. Upper left right) r.upper r.cost fourth.0;
      error = unless_none (λ left right. Error left right) r.error 0 fifth.0;
      deliveries_are = unless_none (λ left right. Deliveries left right) r.deliveries deliveries sixth.0;
      status = status_solved r.status sixth.1;
    }

right-numbers : (f : TextFile) (root deliveries : ℕ) (r : Report) → AreRight f root deliveries r → number_difference f root deliveries r ≡ None
right-numbers f root deliveries r h =
    let p : Dcop = problem_solved f in
    or_none (unless_same (λ left right. Cost left right) r.cost (cost f.problem r.values)) _ (none_unless (λ left right. Cost left right) r.cost (cost f.problem r.values) h.cost)
    (or_none (unless_same (λ left right. Root left right) root (cost p r.values)) (bound_difference deliveries r) (none_unless (λ left right. Root left right) root (cost p r.values) h.root_is)
    (or_none (unless_same (λ left right. Lower left right) r.lower r.cost) _ (none_unless (λ left right. Lower left right) r.lower r.cost h.lower)
    (or_none (unless_same (λ left right. Upper left right) r.upper r.cost) _ (none_unless (λ left right. Upper left right) r.upper r.cost h.upper)
    (or_none (unless_same (λ left right. Error left right) r.error 0) _ (none_unless (λ left right. Error left right) r.error 0 h.error)
    (or_none (unless_same (λ left right. Deliveries left right) r.deliveries deliveries) (status_difference r.status)
    (none_unless (λ left right. Deliveries left right) r.deliveries deliveries h.deliveries_are) (ap status_difference h.status))))))

-- deliveries that a report can print are as they are told
told-count : (left right : ℕ) → left ≤ 4611686018427387904 → left ≡ min right 18446744073709551615 → left ≡ right
told-count left right few is = omega (arith, few, is)

count-told : (left right : ℕ) → left ≤ 4611686018427387904 → left ≡ right → left ≡ min right 18446744073709551615
count-told left right few is = omega (arith, few, is)

module _ (p : Dcop) (cut : List ℕ) (turns : List Turn) (paths : List (List ℕ)) (pseudo : IsPseudotree p paths) (fits : FitsCut p.sizes cut turns) where
  -- the slice of the turn with this number, and its tables
  abbrev slice : ℕ → Dcop
  slice k = slice_of p cut (turn_at turns k).values

  abbrev tables : ℕ → List Util
  tables k = (turn_at turns k).tables

  pseudo_in : (values : List ℕ) → IsPseudotree (slice_of p cut values) paths
  pseudo_in values = ((slices_keep_trees p cut values).pseudotree paths).0 pseudo

  scopes_at : first_in_turns (scopes_in_turn p paths cut turns) turns ≡ None → (k : ℕ) → k < length turns → first_of (scope_difference (slice k) paths (tables k)) (variables (slice k)) ≡ None
  scopes_at none k lt = none_in k _ (none_at (scopes_in_turn p paths cut turns) (length turns) k none lt)

  cells_at : first_in_turns (cells_in_turn p paths cut turns) turns ≡ None → (k : ℕ) → k < length turns → first_of (cells_difference (slice k) paths (tables k)) (variables (slice k)) ≡ None
  cells_at none k lt = none_in k _ (none_at (cells_in_turn p paths cut turns) (length turns) k none lt)

  -- tables of a slice, by the values of its turn
  abbrev LowerTables : List Util → List ℕ → Type 0
  LowerTables utils values = AreLowerTables (slice_of p cut values) paths (scopes_told (slice_of p cut values) utils) (cells_told (slice_of p cut values) utils)

  lower_at : first_in_turns (scopes_in_turn p paths cut turns) turns ≡ None → first_in_turns (cells_in_turn p paths cut turns) turns ≡ None → (k : ℕ) → k < length turns → LowerTables (tables k) (turn_at turns k).values
  lower_at scopes cells k lt =
      let at = pseudo_in (turn_at turns k).values in
      let count = at.sized in
      let fit = turn_fits p cut turns fits k lt in
      record {
        scopes_are = separators (slice k) paths (tables k) at fit (scopes_at scopes k lt);
        cells_lower = λ i below. lower_cells (slice k) paths (tables k) at fit (cells_at cells k lt) i (omega (arith, below, count));
      }

  -- where no scope and no cell differs, the tables of each turn are lower ones
  pub lower_in : first_in_turns (scopes_in_turn p paths cut turns) turns ≡ None → first_in_turns (cells_in_turn p paths cut turns) turns ≡ None
      → (values : List ℕ) → AreCutValues p cut values → AreLowerTables (slice_of p cut values) paths (turn_scopes p cut turns values) (turn_cells p cut turns values)
  lower_in scopes cells values within =
      let k : ℕ = cell_place (sizes_of p cut) values in
      subst (LowerTables (tables k)) (turn_has p cut turns fits values within) (lower_at scopes cells k (place_below p cut turns fits values within))

  -- and back
  at-number : ((values : List ℕ) → AreCutValues p cut values → AreLowerTables (slice_of p cut values) paths (turn_scopes p cut turns values) (turn_cells p cut turns values)) → (k : ℕ) → k < length turns → LowerTables (tables k) (turn_at turns k).values
  at-number all k lt =
      subst (λ (j : ℕ). LowerTables (tables j) (turn_at turns k).values) (turn_place p cut turns fits k lt) (all (turn_at turns k).values (turn_within p cut turns fits k lt))

  pub no_scope_in : ((values : List ℕ) → AreCutValues p cut values → AreLowerTables (slice_of p cut values) paths (turn_scopes p cut turns values) (turn_cells p cut turns values)) → first_in_turns (scopes_in_turn p paths cut turns) turns ≡ None
  no_scope_in all =
      none_each (scopes_in_turn p paths cut turns) (length turns) (λ k lt.
      in_none k _ (no_scopes (slice k) paths (tables k) (pseudo_in (turn_at turns k).values) (turn_fits p cut turns fits k lt) (at-number all k lt).scopes_are))

  pub no_cell_in : ((values : List ℕ) → AreCutValues p cut values → AreLowerTables (slice_of p cut values) paths (turn_scopes p cut turns values) (turn_cells p cut turns values)) → first_in_turns (cells_in_turn p paths cut turns) turns ≡ None
  no_cell_in all =
      none_each (cells_in_turn p paths cut turns) (length turns) (λ k lt.
      let at = pseudo_in (turn_at turns k).values in
      let count = at.sized in
      in_none k _ (no_cells (slice k) paths (tables k) at (turn_fits p cut turns fits k lt) (λ i below. (at-number all k lt).cells_lower i (omega (arith, below, count)))))

  -- the root's table in a turn
  module _ (root : ℕ) (is : IsRoot paths root) where
    -- the first cell in a turn
    abbrev pub cell : Turn → ℕ
    cell turn = get_or (told turn.tables root).cells 0 0

    told_cells : (values : List ℕ) (utils : List Util) → get_or (cells_told (slice_of p cut values) utils) root [] ≡ (told utils root).cells
    told_cells values utils =
        let count = (pseudo_in values).sized in
        let below = is.0 in
        get_or-map-range_with_len (λ v. (told utils v).cells) 0 (length (slice_of p cut values).sizes) root root [] (omega (arith, count, below)) (omega arith)

    -- a root's cell is the first one
    cell-is : (values : List ℕ) (c : ℕ) → IsRootCell (turn_cells p cut turns values) root c → cell (turn_by p cut turns values) ≡ c
    cell-is values c h = ap (λ (cs : List ℕ). get_or cs 0 0) (sym (told_cells values (turn_by p cut turns values).tables) ∙ h)

    module _ (scopes : first_in_turns (scopes_in_turn p paths cut turns) turns ≡ None) where
      -- where no scope differs there is one
      one_cell : (k : ℕ) → k < length turns → length (told (tables k) root).cells ≡ 1
      one_cell k lt =
          let at = pseudo_in (turn_at turns k).values in
          let count = at.sized in
          let below = is.0 in
          let inside : root < length (slice k).sizes = omega (arith, count, below) in
          let scope : (told (tables k) root).scope ≡ [] =
          scope_same (slice k) paths (tables k) root (none_at (scope_difference (slice k) paths (tables k)) (length (slice k).sizes) root (scopes_at scopes k lt) inside) ∙ ap (filter (touches (slice k) paths root)) is.1 in
          (told_fits (slice k).sizes (tables k) root (turn_fits p cut turns fits k lt) inside).many ∙ ap (λ (vs : List ℕ). product (map (λ v. get_or (slice k).sizes v 0) vs)) scope

      root_cell_at : (values : List ℕ) → AreCutValues p cut values → IsRootCell (turn_cells p cut turns values) root (cell (turn_by p cut turns values))
      root_cell_at values within =
          let k : ℕ = cell_place (sizes_of p cut) values in
          told_cells values (tables k) ∙ single (told (tables k) root).cells (one_cell k (place_below p cut turns fits values within))

      small_at : (k : ℕ) → k < length turns → cell (turn_at turns k) ≤ 4611686018427387904
      small_at k lt =
          let at = pseudo_in (turn_at turns k).values in
          let count = at.sized in
          let below = is.0 in
          let inside : root < length (slice k).sizes = omega (arith, count, below) in
          let one = one_cell k lt in
          (told_fits (slice k).sizes (tables k) root (turn_fits p cut turns fits k lt) inside).cells 0 0 (omega (arith, one))

      -- the least of the first cells is the least root cell
      attained_at : (some : 0 < length turns) → (k : ℕ) × (k < length turns) × (least_cell root turns ≡ cell (turn_at turns k))
      attained_at some =
          elim (least_found cell 4611686018427387904 turns (record { values = []; tables = [] })) [
            | inl top ↦
                let here = small_at 0 some in
                let low = least_below cell 4611686018427387904 turns 0 (record { values = []; tables = [] }) some in
                (0, some, omega (arith, top, here, low))
            | inr found ↦ found
          ]

      pub least_is : (some : 0 < length turns) (m : ℕ) → least_cell root turns ≡ m → IsLeastRootCell p cut (turn_cells p cut turns) root m
      least_is some m same =
          let found = attained_at some in
          let values : List ℕ = (turn_at turns found.0).values in
          let within = turn_within p cut turns fits found.0 found.1 in
          let cell_same : cell (turn_by p cut turns values) ≡ m = ap (λ (j : ℕ). cell (turn_at turns j)) (turn_place p cut turns fits found.0 found.1) ∙ sym found.2 ∙ same in
          record {
            attained = (values, within, root_cell_at values within ∙ ap (λ (c : ℕ). c ∷ []) cell_same);
            lowest = λ turn inside. (let low = least_below cell 4611686018427387904 turns (cell_place (sizes_of p cut) turn) (record { values = []; tables = [] }) (place_below p cut turns fits turn inside) in
                (cell (turn_by p cut turns turn), root_cell_at turn inside, omega (arith, low, same)));
          }

      pub is_least : (m : ℕ) → IsLeastRootCell p cut (turn_cells p cut turns) root m → least_cell root turns ≡ m
      is_least m least =
          let values : List ℕ = least.attained.0 in
          let k : ℕ = cell_place (sizes_of p cut) values in
          let lt = place_below p cut turns fits values least.attained.1 in
          let here : cell (turn_at turns k) ≡ m = cell-is values m least.attained.2 in
          let small = small_at k lt in
          let low = least_below cell 4611686018427387904 turns k (record { values = []; tables = [] }) lt in
          let high = least_above cell 4611686018427387904 m turns (record { values = []; tables = [] }) (omega (arith, here, small)) (λ j below.
          let at = least.lowest (turn_at turns j).values (turn_within p cut turns fits j below) in
          let own : cell (turn_at turns j) ≡ at.0 = ap (λ (i : ℕ). cell (turn_at turns i)) (sym (turn_place p cut turns fits j below)) ∙ cell-is (turn_at turns j).values at.0 at.1 in
          let le = at.2 in
          omega (arith, own, le)) in
          omega (arith, here, low, high)

module _ (f : TextFile) (r : Report) (cut : List ℕ) (turns : List Turn) (fits : FitsCut (problem_solved f).sizes cut turns) (few : r.deliveries ≤ 4611686018427387904) (some : 0 < length turns) where
  abbrev first_parents : List (Option ℕ)
  first_parents = parents_told (problem_solved f) (first_tables turns)

  root_first : (paths : List (List ℕ)) → IsTreeOf (problem_solved f) first_parents paths → IsRoot paths (root_told (problem_solved f) (first_tables turns))
  root_first paths tree = subst (λ (ps : List (Option ℕ)). IsRoot paths (position_or_len is_none ps)) (sym tree.parents_are) (root_is paths tree.pseudotree.tree)

  -- where there is no difference the report holds
  pub cut_holds_of : (paths : List (List ℕ)) → IsTreeOf (problem_solved f) first_parents paths → cut_difference f paths cut turns r ≡ None → HoldsCut f r cut turns
  cut_holds_of paths tree none =
      let p : Dcop = problem_solved f in
      let pseudo = tree.pseudotree in
      let behind = or_parts (first_in_turns (scopes_in_turn p paths cut turns) turns) _ none in
      let last = or_parts (first_in_turns (cells_in_turn p paths cut turns) turns) _ behind.1 in
      let numbers = numbers-right f (least_root_cell p turns) (cut_deliveries (length turns) (length f.problem.sizes)) r last.1 in
      record {
        tables = record {
          paths = paths;
          pseudotree = pseudo;
          parents_are = tree.parents_are;
          tables = lower_in p cut turns paths pseudo fits behind.0 last.0;
          root_cost = λ root is.
              let same : root ≡ root_told p (first_tables turns) = pseudo.tree.one_root root (root_told p (first_tables turns)) is (root_first paths tree) in
              least_is p cut turns paths pseudo fits root is behind.0 some (cost p r.values) (ap (λ (v : ℕ). least_cell v turns) same ∙ numbers.root_is);
        };
        cost = numbers.cost;
        lower = numbers.lower;
        upper = numbers.upper;
        error = numbers.error;
        deliveries = told-count r.deliveries (length turns * (2 * (length f.problem.sizes - 1))) few numbers.deliveries_are;
        status = numbers.status;
      }

  -- and where it holds there is none
  pub cut_none_of : (h : HoldsCut f r cut turns) → cut_difference f h.tables.paths cut turns r ≡ None
  cut_none_of h =
      let p : Dcop = problem_solved f in
      let paths : List (List ℕ) = h.tables.paths in
      let pseudo = h.tables.pseudotree in
      let tree : IsTreeOf p first_parents paths = record { pseudotree = pseudo; parents_are = h.tables.parents_are } in
      let scopes = no_scope_in p cut turns paths pseudo fits h.tables.tables in
      let top = root_first paths tree in
      let least = is_least p cut turns paths pseudo fits (root_told p (first_tables turns)) top scopes (cost p r.values) (h.tables.root_cost (root_told p (first_tables turns)) top) in
      or_none (first_in_turns (scopes_in_turn p paths cut turns) turns) _ scopes
      (or_none (first_in_turns (cells_in_turn p paths cut turns) turns) _ (no_cell_in p cut turns paths pseudo fits h.tables.tables)
      (right-numbers f (least_root_cell p turns) (cut_deliveries (length turns) (length f.problem.sizes)) r (record {
        cost = h.cost;
        root_is = least;
        lower = h.lower;
        upper = h.upper;
        error = h.error;
        deliveries_are = count-told r.deliveries (length turns * (2 * (length f.problem.sizes - 1))) few h.deliveries;
        status = h.status;
      })))

  pub cut_exact_of : (verdict : Verdict) → IsCutVerdict f r cut turns verdict → IsCutExact f r cut turns verdict
  cut_exact_of (Yes cost error) found = cut_holds_of found.0.0 found.0.1 found.0.2
  cut_exact_of (No differs) first = λ h. elim first [
    | inl tree ↦ refuted (problem_solved f) h.tables.paths first_parents h.tables.pseudotree h.tables.parents_are differs tree
    | inr found ↦
        let same = one_tree found.0 h.tables.paths found.1.pseudotree.tree h.tables.pseudotree.tree (sym found.1.parents_are ∙ h.tables.parents_are) in
        none-some differs (sym (cut_none_of h) ∙ ap (λ (ps : List (List ℕ)). cut_difference f ps cut turns r) (sym same) ∙ found.2)
  ]

  pub cut_best_of : IsProblem f.problem → IsAssignment f.problem r.values → (verdict : Verdict) → IsCutVerdict f r cut turns verdict → ShowsBest f verdict
  cut_best_of problem is (No differs) found = tt
  cut_best_of problem is (Yes printed error) found = λ best sum.
      let p : Dcop = problem_solved f in
      let h = cut_holds_of found.0.0 found.0.1 found.0.2 in
      let turned_is : IsAssignment p r.values = subst (λ (ss : List ℕ). AreWithin ss r.values) (sym (solved_sizes f.goal f.problem)) is in
      let optimal = cut_certificates_show_optima p first_parents cut (turn_scopes p cut turns) (turn_cells p cut turns) r.values (solved_problem f.goal f.problem problem) (record { apart = fits.distinct; within = fits.within }) turned_is h.tables in
      subst (λ (n : ℕ). IsAtMostWorse f.goal error n best) (sym (found.1 ∙ h.cost)) (best_by f.goal f.problem r.values error best problem is optimal sum)
