-- A round of play over the agents of a core state.
use Rattle.std.specs.Prelude.{◌≡◌, ℕ, ◌+◌, ◌-◌, ◌≤◌, Bool, ◌||◌, nat_le, List, ◌++◌, length, Some}
use Rattle.std.specs.List.{flat_map, list_all, range_with_len}
use Rattle.dcop_base.specs.Problem.{Dcop}
use Rattle.protocol_steps.specs.declared.event.Take.{Take}
use Rattle.protocol_steps.specs.declared.event.Event.{Event}
use Rattle.protocol_steps.specs.View.{ended_of}
use Rattle.protocol_steps.specs.Network.{Network}
use Rattle.protocol_steps.specs.Effect.{deliveries}
use Rattle.protocol_steps.specs.Run.{run}
use Rattle.protocol_steps.specs.Rounds.{TakeShares}
use Rattle.delivery_core.specs.State.{CoreView, views_of}
use Rattle.delivery_turns.specs.Turns.{event_with, turn, turns, round, after, PlaysTo, IsPlayed}
use Rattle.delivery_core.specs.Shown.{IsCore}

-- these events are a run from a network state to a core state; they take at least as many messages
-- as there are events, and each takes at most 64 messages from one sender
pub record LeadsCore (p : Dcop) (net : Network) (es : List Event) (mid : Network) (s : CoreView) : Type 0 where
  pub ran : run net es ≡ Some mid
  pub is : after net es ≡ mid
  pub core : IsCore p mid s
  pub more : deliveries net + length es ≤ deliveries mid
  pub bounded : TakeShares es

-- the turn of agent k, which makes these takes, leads from one core state to another
abbrev pub TakesTurn : ℕ → CoreView → CoreView → List Take → Type 0
TakesTurn k old new ts = (p : Dcop) (net : Network) → IsCore p net old → (mid : Network) × LeadsCore p net (turn net k) mid new × (turn net k ≡ event_with k ts)

-- the turn of agent k leads from one core state to another, and its event, if it has one, is
-- appended to the events
abbrev pub AddsTurn : ℕ → CoreView → List Event → CoreView → List Event → Type 0
AddsTurn k old before new events = (p : Dcop) (net : Network) → IsCore p net old → (mid : Network) × LeadsCore p net (turn net k) mid new × (events ≡ before ++ turn net k)

-- the turns of the first k agents of a round lead to this core state, with at most one event each;
-- the round has their events, followed by those of the turns that are left
pub record Turned (p : Dcop) (net : Network) (k : ℕ) (s : CoreView) : Type 0 where
  pub es : List Event
  pub mid : Network
  pub leads : LeadsCore p net es mid s
  pub few : length es ≤ k
  pub left : round net ≡ es ++ turns mid (range_with_len k (length p.sizes - k))

-- a round leads from one core state to another, and its events are appended to the events
abbrev pub PlaysRound : CoreView → List Event → CoreView → List Event → Type 0
PlaysRound old before new events = (p : Dcop) (net : Network) → IsCore p net old → (mid : Network) × LeadsCore p net (round net) mid new × (events ≡ before ++ round net)

-- the events of the rounds so far lead to this core state, with at least k deliveries; if further
-- rounds lead from there to a network at which playing stops, all rounds together lead there from
-- the first network
pub record Playing (p : Dcop) (budget : ℕ) (first : Network) (k : ℕ) (s : CoreView) (events : List Event) : Type 0 where
  pub pieces : List (List Event)
  pub mid : Network
  pub ran : run first events ≡ Some mid
  pub core : IsCore p mid s
  pub joined : events ≡ flat_map (λ es. es) pieces
  pub spent : k ≤ deliveries mid
  pub next : (rest : List (List Event)) (end : Network) → PlaysTo budget mid rest end → PlaysTo budget first (pieces ++ rest) end

-- whether no further round is played from this core state: all agents have ended, or the deliveries
-- are at least the budget
abbrev pub is_over : ℕ → CoreView → Bool
is_over budget s = list_all ended_of (views_of s.seats) || nat_le budget s.delivered

-- rounds with these events lead from one core state to another, at which playing stops
abbrev pub PlaysOut : ℕ → CoreView → CoreView → List Event → Type 0
PlaysOut budget old new events = (p : Dcop) (first : Network) → IsCore p first old → IsPlayed budget first events new × (length new.seats ≡ length p.sizes)
