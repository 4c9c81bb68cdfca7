use Rattle.std.proofs.Common.{ℕ, List, ap, ◌∙◌}
use Rattle.std.specs.List.{flat_map}
use Rattle.std.proofs.lemmas.List.{take_all}
use Rattle.protocol_steps.specs.AdoptStep.{messages_for}
use Rattle.adopt_agent.specs.Deed.{all_to}
use Rattle.adopt_agent.proofs.agent.AdoptAgent.tell_each.Goals as goal

pub returns : goal.returns
returns c =
    c.loop-to.invariant ∙ ap (λ (js : List ℕ). flat_map (λ j. all_to j (messages_for c.args.self.now j)) js) (take_all c.loop-to.to-index c.args.neighbours.now c.loop-to-test.false)
