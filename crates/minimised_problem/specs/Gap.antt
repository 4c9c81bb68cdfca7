-- The gap of a report: by how much, given its bounds, the best sum may be better than its cost.
use Rattle.std.specs.Prelude.{ℕ, ◌-◌}
use Rattle.problem_text.specs.declared.file.Goal.{Goal}
use Rattle.problem_text.specs.declared.file.Goal.TheVariants.{Min, Max}
use Rattle.certificate_text.specs.declared.report.Report.{Report}

-- the gap of a report: its cost minus its lower bound, or for goal max its upper bound minus its
-- cost
abbrev pub gap_of : Goal → Report → ℕ
gap_of Min report = report.cost - report.lower
gap_of Max report = report.upper - report.cost
