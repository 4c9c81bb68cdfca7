-- Who is visited in the turns of a part: in a part that has all cells, whoever may find something.
use Rattle.std.specs.Prelude.{◌≡◌, ◌≢◌, ◌⊎◌, ℕ, zero, suc, ◌+◌, ◌<◌, ◌≤◌, ◌/◌, ◌%◌, Bool, true, false, not, ◌||◌, ◌==◌, List, ◌++◌, map, take, drop, length, Some, slice_get, slice_index}
use Rattle.std.specs.Int.{bit_at}
use Rattle.std.specs.declared.dyn_box.DynBox.{DynBox}
use Rattle.std.specs.declared.alloc.Global.{Global}
use Rattle.dcop_base.specs.Limits.{variable_limit}
use Rattle.protocol_steps.specs.declared.message.Message.{Message}
use Rattle.protocol_steps.specs.View.{View, ended_of}
use Rattle.protocol_steps.specs.Rounds.{most_events}
use Rattle.worker_laws.specs.Cells.{Lane, lane, known_from}
use Rattle.worker_laws.specs.CellRounds.{total}
use Rattle.worker_laws.specs.OneNode.{IsSettling}
use Rattle.agent_cells.specs.declared.cell.Cell.{Cell}
use Rattle.agent_cells.specs.State.{state_of, visits_in}
use Rattle.agent_workers.specs.Joined.{states_of}
use Rattle.agent_workers.specs.Turns.{HasTurned}

-- the cell at this place is not marked: its bit, one of 64 in each word, is not set
abbrev pub IsUnmarked : List ℕ → ℕ → Type 0
IsUnmarked words place = bit_at (slice_index words (place / 64)) (place % 64) ≡ 0

-- no cell from place `from` up to, but not including, place `to` is marked
abbrev pub AreCellsUnmarked : List ℕ → ℕ → ℕ → Type 0
AreCellsUnmarked words from to = (k : ℕ) → from ≤ k → k < to → IsUnmarked words k

-- the marks before and after the cell at a place had its turn, with what it had sent before and
-- after: no mark but its own is taken away, and each agent to which it sent something is marked
pub record MarksReceivers (place : ℕ) (old new : List ℕ) (before after : List Lane) : Type 0 where
  pub kept : (k : ℕ) → k ≢ place → IsUnmarked new k → IsUnmarked old k
  pub sent : (k : ℕ) → k < variable_limit → IsUnmarked new k → lane k after ≡ lane k before

-- whether the turn after this many turns goes to all cells of a part, marked or not: it is the
-- first one, or the part has not all cells
abbrev pub all_due : ℕ → Bool → Bool
all_due turns alone = turns == 0 || not alone

module _ {X : Type 0} {F : X → Type 0} where
  -- the turn of one cell: it was visited exactly once if it had not ended, and has not changed if it
  -- had
  pub record IsVisitedOnce (meaning : DynBox X Global F → View) (before after : Cell X F) : Type 0 where
    pub count : ℕ
    pub turn : HasTurned meaning count before after
    pub once : ended_of (state_of meaning before).view ≡ false → visits_in after ≡ visits_in before + 1

  -- the cell knows of no message that waits for it
  pub record KnowsOfNone (meaning : DynBox X Global F → View) (c : Cell X F) : Type 0 where
    pub none : (j : ℕ) → known_from j (state_of meaning c).known ≡ 0

  -- the cell has ended, or knows of no message that waits for it
  abbrev pub NeedsNoVisit : (DynBox X Global F → View) → Cell X F → Type 0
  NeedsNoVisit meaning c = (ended_of (state_of meaning c).view ≡ true) ⊎ KnowsOfNone meaning c

  -- none of the first `done` cells needs a visit, unless it is marked
  abbrev pub MarksKnowing : (DynBox X Global F → View) → List ℕ → ℕ → List (Cell X F) → Type 0
  MarksKnowing meaning words done cells = (i : ℕ) (c : Cell X F) → slice_get cells i ≡ Some c → i < done → IsUnmarked words i → NeedsNoVisit meaning c

  -- the cell at this place was visited once; or, if it knew all that waits for it (`known`), it was
  -- passed over: it was not marked and knew of nothing
  abbrev pub MayBePassed : (DynBox X Global F → View) → Bool → List ℕ → ℕ → Cell X F → Cell X F → Type 0
  MayBePassed meaning known words place before after =
      IsVisitedOnce meaning before after ⊎ ((known ≡ true) × (after ≡ before) × KnowsOfNone meaning before × IsUnmarked words place)

  -- what cells have sent to one agent, cell by cell
  abbrev pub sent_to : (DynBox X Global F → View) → ℕ → List (Cell X F) → List (List (ℕ × Message))
  sent_to meaning agent cells = map (λ c. lane agent (state_of meaning c).sent) cells

  -- the cells as a turn finds them at a place: those before the place have had their turn
  abbrev pub found_at : ℕ → List (Cell X F) → List (Cell X F) → List (Cell X F)
  found_at place before after = take place after ++ drop place before

  -- whoever was sent something since a turn came to its place is marked, among the first `done`
  -- cells, of which cell i is that of agent i
  pub record MarksWaiting (meaning : DynBox X Global F → View) (words : List ℕ) (done : ℕ) (before now : List (Cell X F)) : Type 0 where
    pub each : (i : ℕ) → i < done → IsUnmarked words i → sent_to meaning i now ≡ sent_to meaning i (found_at i before now)

  -- a turn with these marks at its beginning: each of the first `done` cells was visited once,
  -- unless it had ended; or it was passed over, and was sent nothing in the turn until its place was
  -- reached. A turn that goes to all cells passes over a cell only if the part is `alone` and the
  -- cell knew of nothing; another turn only if the cell was not marked.
  pub record PassesUnmarked (meaning : DynBox X Global F → View) (all alone : Bool) (words : List ℕ) (done : ℕ) (before now : List (Cell X F)) : Type 0 where
    pub each : (i : ℕ) (a b : Cell X F) → slice_get before i ≡ Some a → slice_get now i ≡ Some b → i < done
        → IsVisitedOnce meaning a b ⊎ ((b ≡ a) × (all ≡ true → (alone ≡ true) × KnowsOfNone meaning a) × (all ≡ false → IsUnmarked words i)
        × (sent_to meaning i (found_at i before now) ≡ sent_to meaning i before))

  -- a turn from `before` to `after`, which have as many cells. The turn before it, if there was
  -- one, led from `earlier` to `before`; otherwise `earlier` is `before`. Each cell was visited
  -- once, unless it had ended; or it was passed over and has not changed. A cell is passed over
  -- only under three conditions. The part is `alone`: it has all cells. The cell knew of no waiting
  -- message. And no cell of the part sent it anything between the moment when the turn before came
  -- to its place (in the first turn: when that turn began) and the moment when this turn came
  -- there.
  pub record PassesNone (meaning : DynBox X Global F → View) (alone : Bool) (earlier before after : List (Cell X F)) : Type 0 where
    pub size : length after ≡ length before
    pub each : (i : ℕ) (a b : Cell X F) → slice_get before i ≡ Some a → slice_get after i ≡ Some b
        → IsVisitedOnce meaning a b ⊎ ((alone ≡ true) × (b ≡ a) × KnowsOfNone meaning a
        × (sent_to meaning i (found_at i before after) ≡ sent_to meaning i (found_at i earlier before)))

  -- this many turns of a part, the last of which led from `earlier` to `now`; each turn but the last
  -- took something
  abbrev pub AreTurns : (DynBox X Global F → View) → Bool → ℕ → List (Cell X F) → List (Cell X F) → List (Cell X F) → Type 0
  AreTurns meaning alone zero first earlier now = (earlier ≡ first) × (now ≡ first)
  AreTurns meaning alone (suc turns) first earlier now = (before : List (Cell X F)) × AreTurns meaning alone turns first before earlier
      × (0 < turns → total (states_of meaning before) < total (states_of meaning earlier)) × PassesNone meaning alone before earlier now

  -- a part was played in turns, at most 32; each but the last took something, and if there are
  -- fewer than 32, the last took nothing. Each turn visits each cell that has not ended once. Only
  -- a part that has all cells passes over some: those that know of nothing, and were sent nothing
  -- since the turn before came to them (in the first turn: since that turn began).
  pub record IsPlayedInTurns (meaning : DynBox X Global F → View) (alone : Bool) (first last : List (Cell X F)) : Type 0 where
    pub turns : ℕ
    pub earlier : List (Cell X F)
    pub some : 0 < turns
    pub most : turns ≤ most_events
    pub are : AreTurns meaning alone turns first earlier last
    pub ends : turns < most_events → total (states_of meaning last) ≡ total (states_of meaning earlier)

  -- a round of one part: every link inside a node is settled, and then the part, which has all
  -- cells, is played in turns
  pub record IsTurnRound (meaning : DynBox X Global F → View) (node : ℕ → ℕ) (before after : List (Cell X F)) : Type 0 where
    pub middle : List (Cell X F)
    pub settling : IsSettling node (states_of meaning before) (states_of meaning middle)
    pub turns : IsPlayedInTurns meaning true middle after
