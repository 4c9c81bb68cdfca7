-- When a report with a certificate of a log holds.
use Rattle.std.specs.Prelude.{◌≡◌, ℕ, ◌≤◌, List}
use Rattle.pseudotree.specs.DepthFirst.{dfs}
use Rattle.protocol_steps.specs.View.{View}
use Rattle.protocol_steps.specs.Network.{Network}
use Rattle.protocol_steps.specs.TreeAgents.{adopt_agents}
use Rattle.run_log.specs.declared.log.LogEvent.{LogEvent}
use Rattle.run_log.specs.Laws.{IsStampedRun}
use Rattle.problem_text.specs.File.{TextFile}
use Rattle.certificate_text.specs.declared.report.Report.{Report}
use Rattle.certificate_text.specs.declared.report.Ending.TheVariants.{Solved}
use Rattle.minimised_problem.specs.Goal.{problem_solved}
use Rattle.minimised_problem.specs.Gap.{gap_of}
use Rattle.minimised_problem.specs.LogEnds.{TellsEnd}

-- the ADOPT agents of the problem solved for a file, on its depth-first tree, for a requested error
abbrev pub agents_for : TextFile → ℕ → List View
agents_for f error = adopt_agents (problem_solved f) (dfs (problem_solved f)) error

-- a report with this log holds: the log is a run of these agents for the report's error, with right
-- stamps; the report describes the end of that run; and if it is solved, its gap is at most the
-- error
pub record HoldsLog (f : TextFile) (r : Report) (log : List LogEvent) : Type 0 where
  pub end : Network
  pub run : IsStampedRun (agents_for f r.error) log end
  pub told : TellsEnd f end r
  pub near : r.status ≡ Solved → gap_of f.goal r ≤ r.error
