-- Rounds of many turns over the agents of a core state.
use Rattle.std.specs.Prelude.{◌≡◌, ℕ, ◌+◌, ◌*◌, ◌-◌, ◌≤◌, Bool, ◌==◌, List, ◌++◌, length, Option}
use Rattle.std.specs.List.{flat_map}
use Rattle.dcop_base.specs.Limits.{variable_limit, amount_limit}
use Rattle.dcop_base.specs.Problem.{Dcop}
use Rattle.protocol_steps.specs.declared.event.Event.{Event}
use Rattle.protocol_steps.specs.declared.event.Take.{Take}
use Rattle.protocol_steps.specs.declared.run_end.RunEnd.{RunEnd}
use Rattle.protocol_steps.specs.View.{View}
use Rattle.protocol_steps.specs.Network.{Network}
use Rattle.protocol_steps.specs.Effect.{deliveries}
use Rattle.protocol_steps.specs.Run.{journal}
use Rattle.protocol_steps.specs.RunEnds.{IsRunEnd}
use Rattle.protocol_steps.specs.Rounds.{most_events, link_share, AreRounds}
use Rattle.delivery_core.specs.State.{CoreView}
use Rattle.delivery_turns.specs.Turns.{event_with, turn, round, sprint, AreEventfulRounds}
use Rattle.delivery_turns.specs.CoreTurns.{LeadsCore}
use Rattle.delivery_core.specs.Shown.{IsCore}
use Rattle.log_replay.specs.Notes.{NotesView, MayBeNotes, KeepNotes}

-- the most messages that one agent takes in a turn, and the most that all agents take
abbrev pub agent_share : ℕ
agent_share = link_share * variable_limit

abbrev pub turn_share : ℕ
turn_share = agent_share * variable_limit

-- whether there are no events
abbrev pub none_of : List Event → Bool
none_of es = length es == 0

-- a core state is a network that some run has reached, and these are the notes of that run, if notes
-- are kept; with `more` further events the run has at most amount_limit of them
abbrev pub IsSomeNoted : ℕ → CoreView → Option NotesView → Type 0
IsSomeNoted more s notes =
    (p : Dcop) × (net : Network) × (made : List View) × (before : List Event) × IsCore p net s × MayBeNotes p made before net notes × (length before + more ≤ amount_limit)

-- one more than the most messages that a round takes
abbrev pub round_room : ℕ
round_room = most_events * turn_share + 1

-- one more than the most messages that rounds under this budget take, and a round after them
abbrev pub run_room : ℕ → ℕ
run_room budget = budget + most_events * turn_share + round_room

-- the turn of agent k, which makes these takes, leads from one core state to another, and its
-- event, if it has one, is noted
abbrev pub NotesTurn : ℕ → CoreView → Option NotesView → CoreView → Option NotesView → List Take → Type 0
NotesTurn k old notes new noted ts =
    (p : Dcop) (net : Network) → IsCore p net old → (mid : Network) × LeadsCore p net (turn net k) mid new × (turn net k ≡ event_with k ts) × KeepNotes p net (turn net k) notes noted

-- the turns of all agents lead from one core state to another, and their events are noted; `still`
-- says whether they have no event
abbrev pub TakesAll : CoreView → Option NotesView → CoreView → Option NotesView → Bool → Type 0
TakesAll old notes new noted still =
    (p : Dcop) (net : Network) → IsCore p net old → (mid : Network) × LeadsCore p net (round net) mid new × (still ≡ none_of (round net)) × KeepNotes p net (round net) notes noted

-- the first k turns of a round lead from a network to this core state; the round has their events,
-- followed by those of the turns that are left
pub record Sprinting (p : Dcop) (net : Network) (k : ℕ) (s : CoreView) : Type 0 where
  pub events : List Event
  pub mid : Network
  pub leads : LeadsCore p net events mid s
  pub few : (i : ℕ) → length (journal i events) ≤ k
  pub counted : deliveries mid ≤ deliveries net + k * turn_share
  pub left : sprint net most_events ≡ events ++ sprint mid (most_events - k)

-- a round of at most 32 turns leads from one core state to another, and its events are noted;
-- `still` says whether it has no event
abbrev pub PlaysSprint : CoreView → Option NotesView → CoreView → Option NotesView → Bool → Type 0
PlaysSprint old notes new noted still =
    (p : Dcop) (net : Network) → IsCore p net old → (h : Sprinting p net most_events new) × (still ≡ none_of h.events) × KeepNotes p net h.events notes noted

-- k rounds under this budget lead from the first network to this core state, with at least k
-- deliveries; each began while some agent had not ended, and has an event
pub record Sprinted (p : Dcop) (budget : ℕ) (first : Network) (k : ℕ) (s : CoreView) : Type 0 where
  pub pieces : List (List Event)
  pub mid : Network
  pub are : AreRounds budget first pieces mid
  pub busy : AreEventfulRounds first pieces
  pub played : length pieces ≡ k
  pub few : k ≤ budget
  pub core : IsCore p mid s
  pub spent : k ≤ deliveries mid
  pub counted : deliveries mid ≤ deliveries first + budget + most_events * turn_share

-- at most `budget` busy rounds lead from one core state to another, at which the run has ended, and
-- their events are noted
abbrev pub PlaysSprints : ℕ → CoreView → Option NotesView → CoreView → Option NotesView → Type 0
PlaysSprints budget old notes new noted =
    (p : Dcop) (first : Network) → IsCore p first old
    → (pieces : List (List Event)) × (end : Network) × (how : RunEnd) × AreRounds budget first pieces end × IsRunEnd budget end how × IsCore p end new
    × (deliveries end ≤ deliveries first + budget + most_events * turn_share) × KeepNotes p first (flat_map (λ es. es) pieces) notes noted × AreEventfulRounds first pieces × (length pieces ≤ budget)
