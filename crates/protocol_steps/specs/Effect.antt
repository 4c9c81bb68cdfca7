-- The effect of an event on a network, and the messages that are pending.
use Rattle.std.specs.Prelude.{◌≡◌, ℕ, ◌<◌, Bool, List, [], ◌++◌, length, Option, Some, None, if◌then◌else◌, slice_get}
use Rattle.std.specs.List.{list_all, sum_by, slice_set}
use Rattle.protocol_steps.specs.declared.message.Message.{Message}
use Rattle.protocol_steps.specs.declared.event.Take.{Take}
use Rattle.protocol_steps.specs.declared.event.Event.{Event}
use Rattle.protocol_steps.specs.View.{View, ended_of}
use Rattle.protocol_steps.specs.Step.{step_of}
use Rattle.protocol_steps.specs.Network.{Desk, Network, waiting, batch}

-- a desk, which is what one agent has sent and taken so far, after one more activation
abbrev pub desk_after : Desk → List (ℕ × Message) → List Take → Desk
desk_after x sends ts = record { sent = x.sent ++ sends; takes = x.takes ++ ts }

-- a network after an activation of an agent with this view and this desk on these letters
abbrev pub network_after : Network → Event → View → Desk → List (ℕ × Message) → Network
network_after net e v x ls = record {
  views = slice_set net.views e.agent (step_of v ls).view;
  desks = slice_set net.desks e.agent (desk_after x (step_of v ls).sends e.takes);
}

-- the effect of an event whose agent has this view and this desk; nothing changes if there is no such agent
abbrev pub effect_at : Network → Event → Option View → Option Desk → Network
effect_at net e (Some v) (Some x) = network_after net e v x (batch net.desks e.agent e.takes)
effect_at net e None x = net
effect_at net e (Some v) None = net

-- the effect of an event: the agent takes its batch, steps, and sends
abbrev pub effect : Network → Event → Network
effect net e = effect_at net e (slice_get net.views e.agent) (slice_get net.desks e.agent)

-- what an agent with this view sends in an event; nothing if there is no such agent
abbrev pub sends_by : Network → Event → Option View → List (ℕ × Message)
sends_by net e None = []
sends_by net e (Some v) = (step_of v (batch net.desks e.agent e.takes)).sends

-- what the agent of an event sends in it, in order
abbrev pub event_sends : Network → Event → List (ℕ × Message)
event_sends net e = sends_by net e (slice_get net.views e.agent)

-- the messages pending at agent i, which has this view, from agent j: those waiting, unless agent i has ended
abbrev pub pending_at : Network → ℕ → ℕ → Option View → List Message
pending_at net i j None = []
pending_at net i j (Some v) = if ended_of v then [] else waiting net.desks i j

-- what is pending at agent i from agent j
abbrev pub pending : Network → ℕ → ℕ → List Message
pending net i j = pending_at net i j (slice_get net.views i)

-- some message is pending at some agent
pub record SomePending (net : Network) : Type 0 where
  pub to : ℕ
  pub from : ℕ
  pub to_agent : to < length net.views
  pub from_agent : from < length net.views
  pub some : pending net to from ≡ [] → ⊥

-- whether a network has ended: all its agents have
abbrev pub has_ended : Network → Bool
has_ended net = list_all ended_of net.views

-- the deliveries: the number of all messages that were taken
abbrev pub deliveries : Network → ℕ
deliveries net = sum_by (λ x. sum_by (λ t. t.count) x.takes) net.desks
