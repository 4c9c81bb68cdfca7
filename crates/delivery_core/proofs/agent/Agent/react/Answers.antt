use Rattle.std.proofs.Common.{subst}
use Rattle.std.specs.List.{All}
use Rattle.protocol_steps.specs.Adopt.{AdoptView}
use Rattle.protocol_steps.specs.View.{AdoptKind}
use Rattle.protocol_steps.specs.Machine.{IsToNeighbour}
use Rattle.delivery_core.specs.declared.agent.Kind.TheVariants.{Token, Dpop, Adopt}
use Rattle.delivery_core.proofs.KindLaws.{toward}
use Rattle.delivery_core.proofs.agent.Agent.react.Goals as goal
use Rattle.delivery_core.proofs.agent.Agent.react.Goals.{in-Token, in-Dpop, in-Adopt}

pub returns-clause-receivers : goal.returns-clause-receivers
returns-clause-receivers c = elim c.match-self.branch [
  | in-Token w ↦ toward c.args.self.now c.self.inside.kind (Token w.in-Token.agent) w.react.new.out c.match-self.out c.self.view_is w.in-Token.is w.out-is w.react.ensures.receivers
  | in-Dpop w ↦ toward c.args.self.now c.self.inside.kind (Dpop w.in-Dpop.agent) w.react-in-Dpop.new.out c.match-self.out c.self.view_is w.in-Dpop.is w.out-is w.react-in-Dpop.ensures.receivers
  | in-Adopt w ↦
      let reach = subst (λ (v : AdoptView). All (IsToNeighbour (AdoptKind v)) w.react-in-Adopt.new.out) w.deref_mut.ensures.value w.react-in-Adopt.ensures.receivers in
      toward c.args.self.now c.self.inside.kind (Adopt w.in-Adopt.agent) w.react-in-Adopt.new.out c.match-self.out c.self.view_is w.in-Adopt.is w.out-is reach
]
