use Rattle.dcop_base.specs.Problem.{Dcop}
use Rattle.protocol_steps.specs.Network.{Network}
use Rattle.delivery_core.specs.Shown.{IsCore}
use Rattle.delivery_turns.specs.CoreTurns.{Playing}
use Rattle.delivery_turns.proofs.turn.play_rounds.Given as goal

abbrev pub invariant-loop : goal.invariant-loop
invariant-loop l = (p : Dcop) (first : Network) → IsCore p first l.initial.state → Playing p l.budget first l.counter l.state l.events.items
