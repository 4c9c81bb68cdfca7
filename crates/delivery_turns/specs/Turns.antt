-- Playing in rounds: which events a round has, and when playing stops.
use Rattle.std.specs.Prelude.{◌≡◌, ◌≢◌, ℕ, zero, suc, Bool, true, false, ◌||◌, List, [], ◌∷◌, ◌++◌, length, ◌==◌, nat_le, if◌then◌else◌, Some}
use Rattle.std.specs.List.{flat_map, fold, range_with_len}
use Rattle.protocol_steps.specs.declared.event.Take.{Take}
use Rattle.protocol_steps.specs.declared.event.Event.{Event}
use Rattle.protocol_steps.specs.Network.{Network}
use Rattle.protocol_steps.specs.Effect.{effect, pending, has_ended, deliveries}
use Rattle.protocol_steps.specs.Run.{run}
use Rattle.protocol_steps.specs.Rounds.{most_events}
use Rattle.letter_queues.specs.Takes.{take_some}
use Rattle.delivery_core.specs.State.{CoreView}
use Rattle.delivery_core.specs.NetworkState.{IsStateOf}

-- what agent i takes in its turn: from each sender what is pending, at most 64 messages
abbrev pub turn_takes : Network → ℕ → List Take
turn_takes net i = flat_map (λ j. take_some j (length (pending net i j))) (range_with_len 0 (length net.views))

-- the event of agent i with these takes; no event if it takes nothing
abbrev pub event_with : ℕ → List Take → List Event
event_with i ts = if length ts == 0 then [] else record { agent = i; takes = ts } ∷ []

-- the turn of agent i: one event, or none
abbrev pub turn : Network → ℕ → List Event
turn net i = event_with i (turn_takes net i)

-- the network after these events
abbrev pub after : Network → List Event → Network
after net es = fold effect net es

-- the events of these agents' turns, one after another
abbrev pub turns : Network → List ℕ → List Event
turns net [] = []
turns net (i ∷ is) = turn net i ++ turns (after net (turn net i)) is

-- the events of a round of one turn: each agent has its turn once, in ascending order
abbrev pub round : Network → List Event
round net = turns net (range_with_len 0 (length net.views))

-- playing stops if all agents have ended, the deliveries are at least the budget, or the round has
-- no event
abbrev pub stops : ℕ → Network → Bool
stops budget net = has_ended net || nat_le budget (deliveries net) || (length (round net) == 0)

-- the events of up to k turns of all agents; the first turn that has no event is the last one
abbrev pub sprint : Network → ℕ → List Event
sprint net zero = []
sprint net (suc k) = if length (round net) == 0 then [] else round net ++ sprint (after net (round net)) k

-- each of these rounds began while some agent had not ended, has an event, and has the events of up
-- to 32 turns of all agents
abbrev pub AreEventfulRounds : Network → List (List Event) → Type 0
AreEventfulRounds net [] = Unit {0}
AreEventfulRounds net (es ∷ rounds) = (has_ended net ≡ false) × (es ≢ []) × (es ≡ sprint net most_events) × AreEventfulRounds (after net es) rounds

-- these are the events of rounds, round by round, that lead from one network to another; playing
-- does not stop before any of them, and stops at the end
abbrev pub PlaysTo : ℕ → Network → List (List Event) → Network → Type 0
PlaysTo budget net [] end = (stops budget net ≡ true) × (net ≡ end)
PlaysTo budget net (es ∷ pieces) end = (stops budget net ≡ false) × (round net ≡ es) × PlaysTo budget (after net es) pieces end

-- what was played: the events of such rounds are a run, and the core state is the network state at
-- its end
pub record IsPlayed (budget : ℕ) (first : Network) (events : List Event) (state : CoreView) : Type 0 where
  pub end : Network
  pub pieces : List (List Event)
  pub plays : PlaysTo budget first pieces end
  pub joined : events ≡ flat_map (λ es. es) pieces
  pub leads : run first events ≡ Some end
  pub shows : IsStateOf end state
