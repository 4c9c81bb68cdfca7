-- The outcome of a search on the problem solved, as a report on the problem.
use Rattle.std.specs.Prelude.{ℕ, ◌-◌, Bool, Option, None, option_map, if◌then◌else◌}
use Rattle.problem_text.specs.declared.file.Goal.{Goal}
use Rattle.problem_text.specs.declared.file.Goal.TheVariants.{Min, Max}
use Rattle.bound_search.specs.declared.known.Known.{Known}
use Rattle.search_stages.specs.declared.asked.Asked.{Asked}
use Rattle.search_stages.specs.declared.report.Found.{Found}
use Rattle.search_stages.specs.declared.report.SearchEnding.{SearchEnding}
use Rattle.search_stages.specs.declared.report.SearchEnding.TheVariants.{Solved, Spent, NoneBetter}
use Rattle.search_stages.specs.declared.report.SearchReport.{SearchReport}
use Rattle.search_stages.specs.declared.stages.Outcome.{Outcome}

-- a cost of the problem solved as a sum of the problem, and the other way round: for goal max the top sum less this, or 0 if this is greater
abbrev pub told_sum : Goal → ℕ → ℕ → ℕ
told_sum Min top cost = cost
told_sum Max top cost = top - cost

-- the assignment that was found, with its sum
abbrev pub found_told : Goal → ℕ → Known → Option Found
found_told goal top known =
    if known.found then option_map (λ best. record { cost = told_sum goal top best; values = known.values }) known.best else None

-- how a search ended, by whether it found an assignment and whether it is spent
abbrev pub ending_told : Bool → Bool → SearchEnding
ending_told found spent = if spent then Spent else (if found then Solved else NoneBetter)

-- the report of the outcome of stages, with the values in the order of the search
abbrev pub report_told : Goal → ℕ → Asked → Outcome → SearchReport
report_told goal top asked o = record {
  ending = ending_told o.known.found o.ended.spent;
  goal = goal;
  error = asked.error;
  nodes = o.known.nodes;
  bound = told_sum goal top o.ended.lower;
  found = found_told goal top o.known;
}
