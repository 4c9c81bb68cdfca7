use Rattle.std.proofs.Common.{◌≡◌, take}
use Rattle.std.specs.List.{flat_map}
use Rattle.protocol_steps.specs.AdoptStep.{messages_for}
use Rattle.adopt_agent.specs.Deed.{all_to}
use Rattle.adopt_agent.proofs.agent.AdoptAgent.tell_each.Given as goal

abbrev pub invariant-loop-to : goal.invariant-loop-to
invariant-loop-to l = l.parcels.items ≡ flat_map (λ j. all_to j (messages_for l.self j)) (take l.to-index l.neighbours)
