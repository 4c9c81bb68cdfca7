-- Deeds are activations; these are the ones that an agent's own account allows.
use Rattle.std.specs.Prelude.{◌≡◌, ℕ, ◌+◌, ◌<◌, List, [], ◌∷◌, map, length, None, ◌==◌, if◌then◌else◌, max}
use Rattle.std.specs.List.{flat_map, fold}
use Rattle.protocol_steps.specs.declared.message.Message.{Message}
use Rattle.protocol_steps.specs.declared.event.Take.{Take}
use Rattle.protocol_steps.specs.declared.event.Event.{Event}
use Rattle.protocol_steps.specs.View.{ended_of}
use Rattle.protocol_steps.specs.Run.{form_fault}
use Rattle.protocol_steps.specs.Stamps.{Gain, Deed, Posted, Account, do_one}

-- the takes of an activation: for each sender the number of messages
abbrev pub takes_of : List Gain → List Take
takes_of gains = map (λ g. record { from = g.from; count = length g.envelopes }) gains

-- an activation as an event of a run: its agent, and its takes, which do not hold the messages
abbrev pub event_of : Deed → Event
event_of d = record { agent = d.agent; takes = takes_of d.gains }

-- the greatest of a number and the stamps of these messages
abbrev pub greatest_from : ℕ → List (ℕ × Message) → ℕ
greatest_from m es = fold (λ k e. max k e.0) m es

-- the greatest stamp of what is taken
abbrev pub greatest_of : List Gain → ℕ
greatest_of gains = fold (λ m g. greatest_from m g.envelopes) 0 gains

-- an activation that may come next for an agent with this account: it has the form of a lawful
-- event, and its stamp is 1 plus the greatest of the agent's last stamp and the stamps of what it
-- takes
pub record IsDeed (n : ℕ) (x : Account) (d : Deed) : Type 0 where
  pub known : d.agent < n
  pub form : form_fault n (ended_of x.view) (takes_of d.gains) ≡ None
  pub right : d.stamp ≡ max x.stamp (greatest_of d.gains) + 1

-- the same for several activations of one agent, one after another
abbrev pub AreDeeds : ℕ → Account → List Deed → Type 0
AreDeeds n x [] = Unit {0}
AreDeeds n x (d ∷ ds) = IsDeed n x d × AreDeeds n (do_one x d) ds

-- an activation as a list, if it is one of agent i
abbrev pub own_deed : ℕ → Deed → List Deed
own_deed i d = if d.agent == i then d ∷ [] else []

-- the activations of agent i, in order
abbrev pub deeds_of : ℕ → List Deed → List Deed
deeds_of i ds = flat_map (λ d. own_deed i d) ds

-- the accounts of all agents after these activations
abbrev pub after_all : (ℕ → Account) → List Deed → ℕ → Account
after_all now ds i = fold do_one (now i) (deeds_of i ds)

-- a sent message as a list, if it was sent to agent i
abbrev pub envelope_to : ℕ → Posted → List (ℕ × Message)
envelope_to i p = if p.to == i then p.envelope ∷ [] else []

-- the messages that were sent to agent i, with their stamps
abbrev pub posted_to : ℕ → List Posted → List (ℕ × Message)
posted_to i posted = flat_map (λ p. envelope_to i p) posted

-- the messages of a gain, which is what an activation takes from one sender, if this sender is
-- agent j; none otherwise
abbrev pub gain_from : ℕ → Gain → List (ℕ × Message)
gain_from j g = if g.from == j then g.envelopes else []

-- all messages that were taken from agent j, with their stamps
abbrev pub gained_from : ℕ → List Gain → List (ℕ × Message)
gained_from j gains = flat_map (λ g. gain_from j g) gains
