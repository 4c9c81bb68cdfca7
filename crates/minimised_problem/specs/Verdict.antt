-- The verdict on a report, whatever its certificate.
use Rattle.std.specs.Prelude.{ℕ, Option, Some, None}
use Rattle.problem_text.specs.File.{TextFile}
use Rattle.certificate_text.specs.declared.report.Report.{Report}
use Rattle.certificate_text.specs.declared.verdict.Differs.{Differs}
use Rattle.certificate_text.specs.declared.verdict.Verdict.{Verdict}
use Rattle.certificate_text.specs.declared.verdict.Verdict.TheVariants.{Yes, No}
use Rattle.minimised_problem.specs.Goal.{IsBestSum, IsAtMostWorse}
use Rattle.minimised_problem.specs.Gap.{gap_of}

-- the verdict: yes with the cost and the gap if there is no difference, and no with the difference
-- otherwise
abbrev pub verdict_by : TextFile → Report → Option Differs → Verdict
verdict_by f r None = Yes r.cost (gap_of f.goal r)
verdict_by f r (Some differs) = No differs

-- a verdict yes shows that the cost is worse than the best sum of the file by at most the error
abbrev pub ShowsBest : TextFile → Verdict → Type 0
ShowsBest f (Yes cost error) = (best : ℕ) → IsBestSum f.goal f.problem best → IsAtMostWorse f.goal error cost best
ShowsBest f (No differs) = Unit {0}
