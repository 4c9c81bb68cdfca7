-- Each variable of which a verdict speaks is one of the file's.
use Rattle.std.proofs.Common.{◌≡◌, ℕ, zero, suc, ◌+◌, ◌<◌, Option, Some, None, List, length, get_or, nat_eq, sym, ap, ◌∙◌, subst, arith, inl, inr}
use Rattle.std.specs.Prelude.{IfSome, IsSomeAnd}
use Rattle.std.specs.List.{range_with_len}
use Rattle.std.specs.Option.{option_map}
use Rattle.std.specs.Str.{bytes_eq}
use Rattle.std.proofs.lemmas.List.FromFn.{length-map-range_with_len}
use Rattle.dcop_base.specs.Problem.{Dcop, cost}
use Rattle.dcop_base.specs.Table.{CostTable}
use Rattle.cost_table.specs.Slices.{ones_at}
use Rattle.cost_table.proofs.ProblemCutLaws.{length-ones_at}
use Rattle.pseudotree.specs.Pseudotree.{separator_of}
use Rattle.run_laws.specs.Slice.{slice_of}
use Rattle.dcop_optimum.specs.Certificate.{tables_on_path}
use Rattle.problem_text.specs.File.{TextFile}
use Rattle.certificate_text.specs.Fits.{FitsTables, FitsCut, FitsCertificate}
use Rattle.certificate_text.specs.Turns.{first_tables}
use Rattle.certificate_text.specs.declared.certificate.Certificate.{Certificate}
use Rattle.certificate_text.specs.declared.certificate.Certificate.TheVariants.{Tables, Log, Cut}
use Rattle.certificate_text.specs.declared.certificate.Turn.{Turn}
use Rattle.certificate_text.specs.declared.certificate.Util.{Util}
use Rattle.certificate_text.specs.declared.report.Report.{Report}
use Rattle.certificate_text.specs.declared.report.Ending.{Ending}
use Rattle.certificate_text.specs.declared.report.Ending.TheVariants.{Solved, Spent}
use Rattle.certificate_text.specs.declared.verdict.Verdict.{Verdict}
use Rattle.certificate_text.specs.declared.verdict.Verdict.TheVariants.{Yes, No}
use Rattle.certificate_text.specs.declared.verdict.Differs.{Differs}
use Rattle.certificate_text.specs.declared.verdict.Differs.TheVariants as differences
use Rattle.minimised_problem.specs.Goal.{problem_solved}
use Rattle.minimised_problem.specs.Verdict.{verdict_by}
use Rattle.minimised_problem.specs.Differences.{log_difference}
use Rattle.minimised_problem.specs.Told.{told, parents_told, variables}
use Rattle.minimised_problem.specs.Turns.{turn_at}
use Rattle.certificate_check.specs.Cells.{children_told, root_cell}
use Rattle.certificate_check.specs.Differences.{IsTreeDifference, first_of, scope_difference, value_difference, cell_difference, table_difference, cells_difference, unless_same, status_difference, dpop_deliveries, bound_difference, number_difference, difference_in}
use Rattle.certificate_check.specs.Cuts.{in_turn, scopes_in_turn, cells_in_turn, first_in_turns, least_root_cell, cut_deliveries, cut_difference}
use Rattle.certificate_check.specs.Verdicts.{IsTablesVerdict, IsCutVerdict, IsVerdictOn}
use Rattle.certificate_check.proofs.TurnLaws.{turn_fits}
use Rattle.certificate_check.proofs.FitLaws.{told_fits}
use Rattle.minimised_problem.proofs.SolvedLaws.{solved_sizes}
use Rattle.solve_report.specs.Verdict.{IsNamedDifference, IsNamedVerdict}
use Rattle.solve_printed.proofs.ToldNamedLaws.{AreNamed, or-named, if-named, then-named}
use Rattle.solve_printed.proofs.LogNamedLaws.{log-named}

from-named : (n : ℕ) (test : ℕ → Option Differs) (s k : ℕ) → ((i : ℕ) → i < s + k → AreNamed n (test i)) → AreNamed n (first_of test (range_with_len s k))
from-named n test s zero each = tt
from-named n test s (suc k) each =
    or-named n (test s) (first_of test (range_with_len (s + 1) k)) (each s (omega arith)) (from-named n test (s + 1) k (λ i lt. each i (omega (arith, lt))))

first-named : (n : ℕ) (test : ℕ → Option Differs) (k : ℕ) → ((i : ℕ) → i < k → AreNamed n (test i)) → AreNamed n (first_of test (range_with_len 0 k))
first-named n test k each = from-named n test 0 k (λ i lt. each i (omega (arith, lt)))

same-named : (n : ℕ) (differs : ℕ → ℕ → Differs) (left right : ℕ) → IsNamedDifference n (differs left right) → AreNamed n (unless_same differs left right)
same-named n differs left right h = if-named n (nat_eq left right) (differs left right) h

status-named : (n : ℕ) (ending : Ending) → AreNamed n (status_difference ending)
status-named n Solved = tt
status-named n Spent = tt

table-named : (n : ℕ) (sizes : List ℕ) (own : List CostTable) (children : List Util) (u : Util) → u.var < n → AreNamed n (table_difference sizes own children u)
table-named n sizes own children u lt =
    first-named n (cell_difference sizes own children u) (length u.cells)
    (λ k h. first-named n (value_difference sizes own children u k) (get_or sizes u.var 0) (λ d h. then-named n _ _ lt))

scopes-named : (p : Dcop) (paths : List (List ℕ)) (utils : List Util) → AreNamed (length p.sizes) (first_of (scope_difference p paths utils) (variables p))
scopes-named p paths utils =
    let n : ℕ = length p.sizes in
    first-named n (scope_difference p paths utils) n (λ i lt. if-named n (bytes_eq (told utils i).scope (separator_of p paths i)) (differences.Scope i) lt)

cells-named : (p : Dcop) (paths : List (List ℕ)) (utils : List Util) → FitsTables p.sizes utils → AreNamed (length p.sizes) (first_of (cells_difference p paths utils) (variables p))
cells-named p paths utils fits =
    let n : ℕ = length p.sizes in
    first-named n (cells_difference p paths utils) n (λ i lt. table-named n p.sizes (tables_on_path p paths i) (children_told paths utils i) (told utils i) (told_fits p.sizes utils i fits lt).named.own)

numbers-named : (n : ℕ) (f : TextFile) (root deliveries : ℕ) (r : Report) → AreNamed n (number_difference f root deliveries r)
numbers-named n f root deliveries r =
    let p : Dcop = problem_solved f in
    or-named n (unless_same (λ left right. differences.Cost left right) r.cost (cost f.problem r.values)) _ (same-named n (λ left right. differences.Cost left right) r.cost (cost f.problem r.values) tt)
    (or-named n (unless_same (λ left right. differences.Root left right) root (cost p r.values)) (bound_difference deliveries r) (same-named n (λ left right. differences.Root left right) root (cost p r.values) tt)
    (or-named n (unless_same (λ left right. differences.Lower left right) r.lower r.cost) _ (same-named n (λ left right. differences.Lower left right) r.lower r.cost tt)
    (or-named n (unless_same (λ left right. differences.Upper left right) r.upper r.cost) _ (same-named n (λ left right. differences.Upper left right) r.upper r.cost tt)
    (or-named n (unless_same (λ left right. differences.Error left right) r.error 0) _ (same-named n (λ left right. differences.Error left right) r.error 0 tt)
    (or-named n (unless_same (λ left right. differences.Deliveries left right) r.deliveries deliveries) (status_difference r.status)
    (same-named n (λ left right. differences.Deliveries left right) r.deliveries deliveries tt) (status-named n r.status))))))

behind-named : (f : TextFile) (r : Report) (utils : List Util) (paths : List (List ℕ)) → FitsTables (problem_solved f).sizes utils → AreNamed (length (problem_solved f).sizes) (difference_in f paths utils r)
behind-named f r utils paths fits =
    let p : Dcop = problem_solved f in
    let n : ℕ = length p.sizes in
    or-named n (first_of (scope_difference p paths utils) (variables p)) _ (scopes-named p paths utils)
    (or-named n (first_of (cells_difference p paths utils) (variables p)) _ (cells-named p paths utils fits)
    (numbers-named n f (root_cell p utils) (dpop_deliveries (length f.problem.sizes)) r))

-- the same of the turns of a cut
in-turn-named : (n number : ℕ) (differs : Differs) → IsNamedDifference n differs → IsNamedDifference n (in_turn number differs)
in-turn-named n number (differences.Scope var) h = h
in-turn-named n number (differences.Cell var cell value left right) h = h
in-turn-named n number (differences.TreeRoots count) h = h
in-turn-named n number (differences.TreeLoop var) h = h
in-turn-named n number (differences.TreePair one other) h = h
in-turn-named n number (differences.TurnScope turn var) h = h
in-turn-named n number (differences.TurnCell turn var cell value left right) h = h
in-turn-named n number (differences.Cost left right) h = h
in-turn-named n number (differences.Root left right) h = h
in-turn-named n number (differences.Lower left right) h = h
in-turn-named n number (differences.Upper left right) h = h
in-turn-named n number (differences.Error left right) h = h
in-turn-named n number (differences.Deliveries left right) h = h
in-turn-named n number (differences.Status ending) h = h
in-turn-named n number (differences.Event at fault) h = h
in-turn-named n number (differences.Stamp at left right) h = h
in-turn-named n number (differences.Value var) h = h

turn-named : (n number : ℕ) (o : Option Differs) → AreNamed n o → AreNamed n (option_map (in_turn number) o)
turn-named n number None h = tt
turn-named n number (Some differs) h = in-turn-named n number differs h

cut-named : (f : TextFile) (r : Report) (cut : List ℕ) (turns : List Turn) (paths : List (List ℕ)) → FitsCut (problem_solved f).sizes cut turns → AreNamed (length (problem_solved f).sizes) (cut_difference f paths cut turns r)
cut-named f r cut turns paths fits =
    let p : Dcop = problem_solved f in
    let n : ℕ = length p.sizes in
    let same : length (ones_at cut p.sizes) ≡ n = length-ones_at cut p.sizes in
    or-named n (first_in_turns (scopes_in_turn p paths cut turns) turns) _
    (first-named n (scopes_in_turn p paths cut turns) (length turns) (λ k lt.
    let q : Dcop = slice_of p cut (turn_at turns k).values in
    let utils : List Util = (turn_at turns k).tables in
    turn-named n k (first_of (scope_difference q paths utils) (variables q)) (subst (λ (m : ℕ). AreNamed m (first_of (scope_difference q paths utils) (variables q))) same (scopes-named q paths utils))))
    (or-named n (first_in_turns (cells_in_turn p paths cut turns) turns) _
    (first-named n (cells_in_turn p paths cut turns) (length turns) (λ k lt.
    let q : Dcop = slice_of p cut (turn_at turns k).values in
    let utils : List Util = (turn_at turns k).tables in
    turn-named n k (first_of (cells_difference q paths utils) (variables q)) (subst (λ (m : ℕ). AreNamed m (first_of (cells_difference q paths utils) (variables q))) same (cells-named q paths utils (turn_fits p cut turns fits k lt)))))
    (numbers-named n f (least_root_cell p turns) (cut_deliveries (length turns) (length f.problem.sizes)) r))

tree-named : (p : Dcop) (parents : List (Option ℕ)) (differs : Differs) → length parents ≡ length p.sizes → IsTreeDifference p parents differs → IsNamedDifference (length p.sizes) differs
tree-named p parents (differences.TreeRoots count) many is = tt
tree-named p parents (differences.TreeLoop var) many is = let lt = is.1.within in omega (arith, lt, many)
tree-named p parents (differences.TreePair one other) many is = let up = is.least.split.ordered in let lt = is.least.split.within in (omega (arith, up, lt), lt)
tree-named p parents (differences.Scope var) many is = absurd is
tree-named p parents (differences.Cell var cell value left right) many is = absurd is
tree-named p parents (differences.TurnScope turn var) many is = absurd is
tree-named p parents (differences.TurnCell turn var cell value left right) many is = absurd is
tree-named p parents (differences.Cost left right) many is = absurd is
tree-named p parents (differences.Root left right) many is = absurd is
tree-named p parents (differences.Lower left right) many is = absurd is
tree-named p parents (differences.Upper left right) many is = absurd is
tree-named p parents (differences.Error left right) many is = absurd is
tree-named p parents (differences.Deliveries left right) many is = absurd is
tree-named p parents (differences.Status ending) many is = absurd is
tree-named p parents (differences.Event at fault) many is = absurd is
tree-named p parents (differences.Stamp at left right) many is = absurd is
tree-named p parents (differences.Value var) many is = absurd is

tables-named : (f : TextFile) (r : Report) (utils : List Util) (verdict : Verdict) → FitsTables (problem_solved f).sizes utils → IsTablesVerdict f r utils verdict → IsNamedVerdict (length (problem_solved f).sizes) verdict
tables-named f r utils (Yes cost error) fits is = tt
tables-named f r utils (No differs) fits (inl tree) =
    let p : Dcop = problem_solved f in
    tree-named p (parents_told p utils) differs (length-map-range_with_len (λ v. (told utils v).parent) 0 (length p.sizes)) tree
tables-named f r utils (No differs) fits (inr behind) =
    subst (AreNamed (length (problem_solved f).sizes)) behind.2 (behind-named f r utils behind.0 fits)

cut-verdict-named : (f : TextFile) (r : Report) (cut : List ℕ) (turns : List Turn) (verdict : Verdict) → FitsCut (problem_solved f).sizes cut turns → IsCutVerdict f r cut turns verdict → IsNamedVerdict (length (problem_solved f).sizes) verdict
cut-verdict-named f r cut turns (Yes cost error) fits is = tt
cut-verdict-named f r cut turns (No differs) fits (inl tree) =
    let p : Dcop = problem_solved f in
    tree-named p (parents_told p (first_tables turns)) differs (length-map-range_with_len (λ v. (told (first_tables turns) v).parent) 0 (length p.sizes)) tree
cut-verdict-named f r cut turns (No differs) fits (inr behind) =
    subst (AreNamed (length (problem_solved f).sizes)) behind.2 (cut-named f r cut turns behind.0 fits)

-- the verdict by a difference that is named
by-named : (n : ℕ) (f : TextFile) (r : Report) (o : Option Differs) → AreNamed n o → IsNamedVerdict n (verdict_by f r o)
by-named n f r None named = tt
by-named n f r (Some differs) named = named

-- a verdict on a report that has a certificate and fits its file
pub verdict-named : (f : TextFile) (r : Report) (certificate : Option Certificate) (verdict : Verdict) → length f.names ≡ length f.problem.sizes → length r.values ≡ length f.problem.sizes → IfSome certificate (FitsCertificate f.problem.sizes r.method) → IsSomeAnd certificate (IsVerdictOn f r verdict) → IsNamedVerdict (length f.names) verdict
verdict-named f r None verdict many long fits is = absurd is
verdict-named f r (Some (Tables utils)) verdict many long fits is =
    let sizes = solved_sizes f.goal f.problem in
    let count : length (problem_solved f).sizes ≡ length f.names = ap length sizes ∙ sym many in
    subst (λ (n : ℕ). IsNamedVerdict n verdict) count
    (tables-named f r utils verdict (subst (λ (ss : List ℕ). FitsTables ss utils) (sym sizes) fits.1) is)
verdict-named f r (Some (Log log)) verdict many long fits is =
    let n : ℕ = length f.problem.sizes in
    let differs = log-named n f r log long fits.1 in
    let told : IsNamedVerdict n verdict = subst (IsNamedVerdict n) (sym is) (by-named n f r (log_difference f r log) differs) in
    subst (λ (n : ℕ). IsNamedVerdict n verdict) (sym many) told
verdict-named f r (Some (Cut cut turns)) verdict many long fits is =
    let sizes = solved_sizes f.goal f.problem in
    let count : length (problem_solved f).sizes ≡ length f.names = ap length sizes ∙ sym many in
    subst (λ (n : ℕ). IsNamedVerdict n verdict) count
    (cut-verdict-named f r cut turns verdict (subst (λ (ss : List ℕ). FitsCut ss cut turns) (sym sizes) fits.1) is)
