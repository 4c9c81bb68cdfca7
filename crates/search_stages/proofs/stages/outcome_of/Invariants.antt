use Rattle.std.proofs.Common.{◌<◌, ◌≤◌}
use Rattle.dcop_base.specs.Limits.{joined_limit}
use Rattle.search_stages.specs.Outcomes.{IsSoFar}
use Rattle.search_stages.proofs.stages.outcome_of.Given as goal

abbrev pub invariant-loop-stage : goal.invariant-loop-stage
invariant-loop-stage l = (so_far : IsSoFar l.problem l.shared l.asked l.fn.best l.earlier l.outcome) × (l.earlier < l.widest) × (l.widest ≤ joined_limit)
