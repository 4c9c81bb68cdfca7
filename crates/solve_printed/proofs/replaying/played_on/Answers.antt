use Rattle.std.proofs.Common.{List, ap, subst}
use Rattle.protocol_steps.specs.declared.event.Event.{Event}
use Rattle.protocol_steps.specs.Network.{Network, start_state}
use Rattle.run_log.specs.Logs.{events_of}
use Rattle.delivery_core.specs.Agents.{network_of}
use Rattle.delivery_core.specs.Faults.{Replays}
use Rattle.solve_printed.proofs.replaying.played_on.Goals as goal

pub returns-clause-end : goal.returns-clause-end
returns-clause-end c =
    subst (λ (net : Network). Replays net (events_of c.args.log.now) c.replay.result) (ap start_state c.in_ok-start.ensures.agents)
    (subst (λ (es : List Event). Replays (network_of c.args.problem.now c.in_ok-start.start) es c.replay.result) c.in_ok-events.ensures c.replay.ensures.end)
