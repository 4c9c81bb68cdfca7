-- The verdict on a report: it holds, or it has a first difference.
use Rattle.std.specs.Prelude.{◌≡◌, ℕ, ◌⊎◌, List, Option, Some, None, IsSomeAnd}
use Rattle.dcop_base.specs.Problem.{Dcop}
use Rattle.pseudotree.specs.Pseudotree.{IsPseudotree}
use Rattle.pseudotree.specs.Fault.{parents_of}
use Rattle.problem_text.specs.File.{TextFile}
use Rattle.certificate_text.specs.declared.certificate.Certificate.{Certificate}
use Rattle.certificate_text.specs.declared.certificate.Certificate.TheVariants.{Tables, Log, Cut}
use Rattle.certificate_text.specs.declared.certificate.Turn.{Turn}
use Rattle.certificate_text.specs.declared.certificate.Util.{Util}
use Rattle.certificate_text.specs.declared.report.Report.{Report}
use Rattle.certificate_text.specs.declared.verdict.Differs.{Differs}
use Rattle.certificate_text.specs.declared.verdict.Verdict.{Verdict}
use Rattle.certificate_text.specs.declared.verdict.Verdict.TheVariants.{Yes, No}
use Rattle.minimised_problem.specs.Goal.{problem_solved}
use Rattle.minimised_problem.specs.Gap.{gap_of}
use Rattle.minimised_problem.specs.Told.{parents_told}
use Rattle.certificate_text.specs.Turns.{first_tables}
use Rattle.certificate_check.specs.Cuts.{cut_difference}
use Rattle.certificate_check.specs.Differences.{IsTreeDifference, difference_in}
use Rattle.minimised_problem.specs.Holds.{HoldsTables, HoldsCut}
use Rattle.minimised_problem.specs.LogVerdicts.{IsLogVerdict, IsLogExact}

-- the parents are those of this pseudotree of the problem
pub record IsTreeOf (p : Dcop) (parents : List (Option ℕ)) (paths : List (List ℕ)) : Type 0 where
  pub pseudotree : IsPseudotree p paths
  pub parents_are : parents ≡ parents_of paths

-- the parents are those of a pseudotree; then this is the first difference in the scopes, the cells
-- or the numbers (`difference_in`), or there is none
abbrev pub IsDifferenceIn : TextFile → Report → List Util → Option Differs → Type 0
IsDifferenceIn f r utils differs =
    (paths : List (List ℕ)) × IsTreeOf (problem_solved f) (parents_told (problem_solved f) utils) paths
    × (difference_in f paths utils r ≡ differs)

-- the first difference of a report: in the tree, or otherwise after it
abbrev pub IsReportDifference : TextFile → Report → List Util → Differs → Type 0
IsReportDifference f r utils differs =
    IsTreeDifference (problem_solved f) (parents_told (problem_solved f) utils) differs
    ⊎ IsDifferenceIn f r utils (Some differs)

-- the verdict: yes with the cost and the gap if there is no difference, and no with the first one
-- otherwise
abbrev pub IsTablesVerdict : TextFile → Report → List Util → Verdict → Type 0
IsTablesVerdict f r utils (Yes cost error) = IsDifferenceIn f r utils None × (cost ≡ r.cost) × (error ≡ gap_of f.goal r)
IsTablesVerdict f r utils (No differs) = IsReportDifference f r utils differs

-- the parents of the first turn are those of a pseudotree; then this is the first difference in the
-- scopes, the cells or the numbers (`cut_difference`), or there is none
abbrev pub IsCutDifferenceIn : TextFile → Report → List ℕ → List Turn → Option Differs → Type 0
IsCutDifferenceIn f r cut turns differs =
    (paths : List (List ℕ)) × IsTreeOf (problem_solved f) (parents_told (problem_solved f) (first_tables turns)) paths
    × (cut_difference f paths cut turns r ≡ differs)

-- the verdict: yes with the cost and the gap if the turns have no difference, and no with the first
-- one otherwise, in the tree or after it
abbrev pub IsCutVerdict : TextFile → Report → List ℕ → List Turn → Verdict → Type 0
IsCutVerdict f r cut turns (Yes cost error) = IsCutDifferenceIn f r cut turns None × (cost ≡ r.cost) × (error ≡ gap_of f.goal r)
IsCutVerdict f r cut turns (No differs) =
    IsTreeDifference (problem_solved f) (parents_told (problem_solved f) (first_tables turns)) differs
    ⊎ IsCutDifferenceIn f r cut turns (Some differs)

-- the verdict on a report with this certificate
abbrev pub IsVerdictOn : TextFile → Report → Verdict → Certificate → Type 0
IsVerdictOn f r verdict (Tables utils) = IsTablesVerdict f r utils verdict
IsVerdictOn f r verdict (Log log) = IsLogVerdict f r log verdict
IsVerdictOn f r verdict (Cut cut turns) = IsCutVerdict f r cut turns verdict

-- the verdict on a report with the certificate that it has
abbrev pub IsVerdict : TextFile → Report → Verdict → Type 0
IsVerdict f r verdict = IsSomeAnd r.certificate (IsVerdictOn f r verdict)

-- the verdict is yes exactly when the report holds with these tables
abbrev pub IsTablesExact : TextFile → Report → List Util → Verdict → Type 0
IsTablesExact f r utils (Yes cost error) = HoldsTables f r utils
IsTablesExact f r utils (No differs) = ¬ HoldsTables f r utils

-- the verdict is yes exactly when the report holds with these turns of a cut
abbrev pub IsCutExact : TextFile → Report → List ℕ → List Turn → Verdict → Type 0
IsCutExact f r cut turns (Yes cost error) = HoldsCut f r cut turns
IsCutExact f r cut turns (No differs) = ¬ HoldsCut f r cut turns

-- the verdict is yes exactly when the report holds with this certificate
abbrev pub IsExactOn : TextFile → Report → Verdict → Certificate → Type 0
IsExactOn f r verdict (Tables utils) = IsTablesExact f r utils verdict
IsExactOn f r verdict (Log log) = IsLogExact f r log verdict
IsExactOn f r verdict (Cut cut turns) = IsCutExact f r cut turns verdict

-- the verdict is yes exactly when the report holds with the certificate that it has
abbrev pub IsExact : TextFile → Report → Verdict → Type 0
IsExact f r verdict = IsSomeAnd r.certificate (IsExactOn f r verdict)

-- the verdict is no, with the first reason why the parents do not form a pseudotree
abbrev pub IsTreeVerdict : Dcop → List (Option ℕ) → Verdict → Type 0
IsTreeVerdict p parents (Yes cost error) = ⊥
IsTreeVerdict p parents (No differs) = IsTreeDifference p parents differs
