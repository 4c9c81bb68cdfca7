use Rattle.delivery_core.specs.Agents.{network_of}
use Rattle.log_replay.specs.Steps.{Replayed}
use Rattle.log_replay.proofs.replaying.replay_log.Given as goal

abbrev pub invariant-loop-at : goal.invariant-loop-at
invariant-loop-at l = Replayed l.problem (network_of l.problem l.start) l.log l.at l.core l.stamps l.before l.found
