-- What a report with a log shows where it holds, and that one of the end of a run of cells holds.
use Rattle.std.proofs.Common.{◌≡◌, ℕ, ◌+◌, ◌≤◌, List, true, sym, subst, ◌∙◌, arith}
use Rattle.dcop_base.specs.Problem.{Dcop, IsAssignment, cost}
use Rattle.dcop_base.specs.Whole.{IsProblem}
use Rattle.pseudotree.specs.DepthFirst.{dfs}
use Rattle.protocol_steps.specs.Network.{Network}
use Rattle.protocol_steps.specs.Effect.{has_ended}
use Rattle.protocol_steps.specs.AdoptBounds.{lower_bound}
use Rattle.run_laws.specs.TokenLaws.{TokenRuns}
use Rattle.run_laws.specs.AdoptRunLaws.{HoldsOfAdopt, AdoptBoundsEnclose}
use Rattle.run_laws.specs.AdoptEnd.{AdoptEnds, values_of}
use Rattle.run_log.specs.declared.log.LogEvent.{LogEvent}
use Rattle.run_log.specs.Logs.{events_of}
use Rattle.run_log.specs.Laws.{IsStampedRun, MergedStampsAreRight}
use Rattle.problem_text.specs.File.{TextFile}
use Rattle.certificate_text.specs.declared.report.Report.{Report}
use Rattle.certificate_text.specs.declared.report.Ending.TheVariants.{Solved}
use Rattle.minimised_problem.specs.Goal.{problem_solved, IsBestSum, IsAtMostWorse}
use Rattle.minimised_problem.specs.Gap.{gap_of}
use Rattle.minimised_problem.proofs.SolvedLaws.{solved_problem}
use Rattle.minimised_problem.specs.LogEnds.{TellsEnd, least_shown}
use Rattle.minimised_problem.specs.LogHolds.{agents_for}
use Rattle.minimised_problem.specs.LogLaws.{IsShown, LogsShow, MergedLogsHold}
use Rattle.minimised_problem.proofs.GoalLaws.{solved-assigned, right-bounds, solved-ended, gap-near, gap-below, gap-small}
use Rattle.minimised_problem.proofs.LogEndLaws.{agents-assigned, root-encloses, root-near}

module _ (tokens : TokenRuns) (bounds : AdoptBoundsEnclose) (f : TextFile) (r : Report) (log : List LogEvent) (end : Network) (whole : IsProblem f.problem) (ran : IsStampedRun (agents_for f r.error) log end) (told : TellsEnd f end r) where
  abbrev goal_problem : Dcop
  goal_problem = problem_solved f

  goal_whole : IsProblem goal_problem
  goal_whole = solved_problem f.goal f.problem whole

  holds : HoldsOfAdopt goal_problem (dfs goal_problem) r.error end
  holds = bounds goal_problem (dfs goal_problem) r.error goal_whole (tokens.pseudotree goal_problem goal_whole) (events_of log) end ran.leads

  end-assigned : IsAssignment goal_problem (values_of end)
  end-assigned = agents-assigned goal_problem r.error end.views holds.sized holds.agents

  assigned : IsAssignment goal_problem r.values
  assigned = subst (IsAssignment goal_problem) (sym told.values) end-assigned

  enclosed : (best : ℕ) → IsBestSum f.goal f.problem best → (r.lower ≤ best) × (best ≤ r.upper)
  enclosed best is =
      let both = right-bounds f.goal f.problem whole (lower_bound told.top) (least_shown goal_problem r.values told.top) (root-encloses goal_problem r.error end told.top holds told.is_top r.values assigned) best is in
      let low = told.lower in
      let high = told.upper in
      (omega (arith, both.0, low), omega (arith, both.1, high))

  near : (best : ℕ) → IsBestSum f.goal f.problem best → IsAtMostWorse f.goal (gap_of f.goal r) r.cost best
  near best is = let both = enclosed best is in gap-near f.goal r best both.0 both.1

  pub shown : (r.status ≡ Solved → gap_of f.goal r ≤ r.error) → IsShown f r
  shown small = record {
    assignment = solved-assigned f.goal f.problem r.values assigned;
    sum = told.sum;
    enclosed = enclosed;
    near = near;
    solved = λ ended best is. gap-below f.goal (gap_of f.goal r) r.error r.cost best (small ended) (near best is);
  }

  -- where the report is solved, its gap is at most the error
  pub small-gap : AdoptEnds → r.status ≡ Solved → gap_of f.goal r ≤ r.error
  small-gap ends ended =
      let over : has_ended end ≡ true = solved-ended (has_ended end) (sym told.status ∙ ended) in
      let at_end = ends goal_problem (dfs goal_problem) r.error goal_whole (tokens.pseudotree goal_problem goal_whole) (tokens.linked goal_problem goal_whole) (events_of log) end ran.leads over in
      let close : cost goal_problem r.values ≤ lower_bound told.top + r.error = subst (λ (vs : List ℕ). cost goal_problem vs ≤ lower_bound told.top + r.error) (sym told.values) (root-near goal_problem r.error end told.top at_end told.is_top) in
      gap-small f.goal f.problem whole r.values assigned (lower_bound told.top) (least_shown goal_problem r.values told.top) r.error close r told.sum told.lower told.upper

pub logs_show : TokenRuns → AdoptBoundsEnclose → LogsShow
logs_show tokens bounds f r log whole is = shown tokens bounds f r log is.end whole is.run is.told is.near

pub merged_logs_hold : TokenRuns → AdoptBoundsEnclose → AdoptEnds → MergedStampsAreRight → MergedLogsHold
merged_logs_hold tokens bounds ends stamps f r budget cells end log whole ran merged told =
    let run : IsStampedRun (agents_for f r.error) log end = stamps budget (agents_for f r.error) cells end log ran merged in
    record {
      end = end;
      run = run;
      told = told;
      near = small-gap tokens bounds f r log end whole run told ends;
    }
