-- The answer of `drill` from the answer on the problem that it made.
use Rattle.std.specs.Prelude.{ℕ, ◌+◌, ◌*◌, List, [], ◌∷◌, length}
use Rattle.dcop_base.specs.Faults.{cell_count}
use Rattle.problem_text.specs.File.{TextFile}
use Rattle.certificate_text.specs.declared.report.Report.{Report}
use Rattle.solve_report.specs.declared.summary.Summary.{Summary}
use Rattle.solve_report.specs.declared.answer.Answer.{Answer}
use Rattle.solve_report.specs.declared.answer.Answer.TheVariants as answers

-- the sum of values, each multiplied by its position; the first one has this position
abbrev pub mark_from : ℕ → List ℕ → ℕ
mark_from place [] = 0
mark_from place (value ∷ values) = place * value + mark_from (place + 1) values

-- the mark of an assignment: the sum over all variables i of i + 1 times the value
abbrev pub mark_of : List ℕ → ℕ
mark_of values = mark_from 1 values

-- the summary of a report on the file that is made from a seed
abbrev pub summary_of : ℕ → TextFile → Report → Summary
summary_of seed file report = record {
  status = report.status;
  method = report.method;
  seed = seed;
  vars = length file.problem.sizes;
  tables = length file.problem.tables;
  cells = cell_count file.problem.tables;
  deliveries = report.deliveries;
  cost = report.cost;
  lower = report.lower;
  upper = report.upper;
  mark = mark_of report.values;
}

-- the answer of `drill`, given the answer of `solve` on the file that it made: the summary of a
-- report, and any other answer unchanged
abbrev pub drilled : ℕ → Answer → Answer
drilled seed (answers.Report report file) = answers.Drill (summary_of seed file report)
drilled seed answer = answer
