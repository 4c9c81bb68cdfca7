-- Rounds: a run cut into pieces under a budget of deliveries.
use Rattle.std.specs.Prelude.{◌≡◌, ℕ, ◌<◌, ◌≤◌, false, List, [], ◌∷◌, map, length, Some, min, slice_get, slice_index_or}
use Rattle.std.specs.List.{All, flat_map}
use Rattle.protocol_steps.specs.declared.event.Take.{Take}
use Rattle.protocol_steps.specs.declared.event.Event.{Event}
use Rattle.protocol_steps.specs.declared.event.Entry.{Entry}
use Rattle.protocol_steps.specs.View.{View, ended_of}
use Rattle.protocol_steps.specs.Network.{Network, taken_from, start_state}
use Rattle.protocol_steps.specs.Effect.{pending, deliveries}
use Rattle.protocol_steps.specs.Run.{run, journal}

-- the most events of one agent in one round
abbrev pub most_events : ℕ
most_events = 32

-- how many messages are taken from one link at a time: an event takes at most this many, and a round takes at least this many from each link if as many are pending
abbrev pub link_share : ℕ
link_share = 64

-- how many messages agent i takes from agent j in these events
abbrev pub taken_in : ℕ → ℕ → List Event → ℕ
taken_in i j es = taken_from j (flat_map (λ ts. ts) (journal i es))

-- each of these takes is of at most 64 messages
abbrev pub AreShares : List Take → Type 0
AreShares ts = All (λ t. t.count ≤ link_share) ts

-- each of these events takes at most 64 messages from any one sender
abbrev pub TakeShares : List Event → Type 0
TakeShares es = All (λ e. AreShares e.takes) es

-- an agent that has not ended
abbrev pub HasNotEnded : Network → ℕ → Type 0
HasNotEnded net i = (v : View) × (slice_get net.views i ≡ Some v) × (ended_of v ≡ false)

-- one round: events that lead from one network state to another, at most 32 of each agent, each
-- with at most 64 messages from any one sender; on each link to an agent that has not ended
-- afterwards, they take at least 64 messages, or as many as were pending at the beginning if these
-- are fewer
pub record IsRound (before : Network) (es : List Event) (after : Network) : Type 0 where
  pub leads : run before es ≡ Some after
  pub few : (i : ℕ) → length (journal i es) ≤ most_events
  pub bounded : TakeShares es
  pub served : (i j : ℕ) → HasNotEnded after i → min link_share (length (pending before i j)) ≤ taken_in i j es

-- rounds under a budget lead from one network state to another: each begins with fewer deliveries than the budget
abbrev pub AreRounds : ℕ → Network → List (List Event) → Network → Type 0
AreRounds budget before [] after = before ≡ after
AreRounds budget before (es ∷ pieces) after = (deliveries before < budget) × ((middle : Network) × IsRound before es middle × AreRounds budget middle pieces after)

-- journals agree with a list of events: each is its agent's events, in order
abbrev pub AgreeWith : List (List Entry) → List Event → Type 0
AgreeWith journals es = (i : ℕ) → map (λ entry. entry.takes) (slice_index_or journals i []) ≡ journal i es

-- a family of journals, one for each agent made with these views, agrees with rounds under a budget from their start state to this end
pub record AreInRounds (budget : ℕ) (made : List View) (journals : List (List Entry)) (end : Network) : Type 0 where
  pub sized : length journals ≡ length made
  pub pieces : List (List Event)
  pub rounds : AreRounds budget (start_state made) pieces end
  pub agree : AgreeWith journals (flat_map (λ es. es) pieces)

-- rounds are a run, one round after another
abbrev pub RoundsAreARun : Type 0
RoundsAreARun = (budget : ℕ) (before after : Network) (pieces : List (List Event)) → AreRounds budget before pieces after → run before (flat_map (λ es. es) pieces) ≡ Some after
