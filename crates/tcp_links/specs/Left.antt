-- What exchanges and faults leave of a plan.
use Rattle.std.specs.Prelude.{◌≡◌, ℕ, List, Result, Ok, Err}
use mathlib.Core.List.{IsPrefix}
use Rattle.fifo_links.specs.Link.{SameHead, SameTail, taken_from, sent_on}
use Rattle.worker_laws.specs.Cells.{EachAre}
use Rattle.worker_laws.specs.Wires.{Wire}
use Rattle.link_records.specs.Differences.{Differs as DifferKept}
use Rattle.link_records.specs.Left.{IsRenewed}
use Rattle.tcp_links.specs.declared.fault.Difference.{Difference}
use Rattle.tcp_links.specs.declared.fault.Difference.TheVariants.{Message, Bytes}
use Rattle.tcp_links.specs.declared.fault.NodeFault.{NodeFault}
use Rattle.tcp_links.specs.declared.fault.NodeFault.TheVariants.{Failed, Differs, NoMemory}
use Rattle.tcp_links.specs.declared.plan.InnerEnds.{InnerEnds}
use Rattle.tcp_links.specs.declared.plan.NodePlan.{NodePlan}
use Rattle.tcp_links.specs.Kept.{AreFedNoted, AreFedButOne}

-- if the difference is one of two envelopes, it was the first one of the lowest link that differs,
-- and this link has become a new one; else no link has changed
abbrev pub IsTakenOut : Difference → List Wire → List Wire → Type 0
IsTakenOut (Message from to at sent taken) before after = DifferKept before from to at sent taken × IsRenewed before from to after
IsTakenOut (Bytes round from_node to_node place sent taken) before after = after ≡ before

-- the inner ends of the same link, of which more may have been drained, and to which more may have
-- been fed
pub record AreSameEnds (before after : InnerEnds) : Type 0 where
  pub drain : SameHead before.drain after.drain
  pub feed : SameTail before.feed after.feed
  pub drained : IsPrefix (taken_from before.drain) (taken_from after.drain)
  pub fed : IsPrefix (sent_on before.feed) (sent_on after.feed)

-- after a run met this fault: on each link, what its passages say arrived is all that was fed to
-- its receiver; but after a difference of envelopes, or if memory ran out, on at most one link it
-- may be only a first part of that
abbrev pub AreNotedAfter : NodeFault → List Wire → List InnerEnds → Type 0
AreNotedAfter Failed ws es = AreFedNoted ws es
AreNotedAfter (Differs (Message from to at sent taken)) ws es = AreFedButOne ws es
AreNotedAfter (Differs (Bytes round from_node to_node place sent taken)) ws es = AreFedNoted ws es
AreNotedAfter NoMemory ws es = AreFedButOne ws es

-- the plan has the same agents, nodes and inner ends as before
pub record KeepsPlan {W : Type 0} (before after : NodePlan W) : Type 0 where
  pub agents : after.agents ≡ before.agents
  pub nodes : after.nodes ≡ before.nodes
  pub ends : EachAre AreSameEnds before.ends.items after.ends.items

-- how many pairs of wires a run with this result may have lost
abbrev pub pairs_lost_by : {T : Type 0} → Result T NodeFault → ℕ
pairs_lost_by (Ok value) = 0
pairs_lost_by (Err Failed) = 1
pairs_lost_by (Err (Differs d)) = 0
pairs_lost_by (Err NoMemory) = 1
