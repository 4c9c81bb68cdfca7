-- The run that cells have made.
use Rattle.std.specs.Prelude.{◌≡◌, ℕ, ◌<◌, ◌≤◌, true, false, Bool, List, map, length, Some, slice_get}
use Rattle.std.specs.List.{list_all, fold}
use Rattle.std.specs.Option.{option_map}
use Rattle.protocol_steps.specs.declared.message.Message.{Message}
use Rattle.protocol_steps.specs.declared.event.Entry.{Entry}
use Rattle.protocol_steps.specs.declared.run_end.RunEnd.{RunEnd}
use Rattle.protocol_steps.specs.declared.run_end.RunEnd.TheVariants.{AllEnded, Spent, Still}
use Rattle.protocol_steps.specs.declared.outcome.Outcome.{Outcome}
use Rattle.protocol_steps.specs.View.{View, ended_of, value_of, standing_of, table_of, place_of}
use Rattle.protocol_steps.specs.Network.{Network, start_state, link}
use Rattle.protocol_steps.specs.Effect.{deliveries}
use Rattle.protocol_steps.specs.Links.{taken_at}
use Rattle.protocol_steps.specs.Run.{run}
use Rattle.protocol_steps.specs.Rounds.{AreInRounds}
use Rattle.protocol_steps.specs.RunEnds.{IsRunEnd}
use Rattle.protocol_steps.specs.Stamps.{Account, do_one}
use Rattle.protocol_steps.specs.Deeds.{AreDeeds, posted_to}
use Rattle.protocol_steps.specs.StampLaw.{IsPrefix}
use Rattle.protocol_steps.specs.JournalStamps.{journal_at, deeds_from, AreEnough, AreStarts}
use Rattle.worker_laws.specs.Cells.{CellState, lane}
use Rattle.worker_laws.specs.CellRounds.{total}
use Rattle.worker_laws.specs.Merges.{AscendsAbove, IsMerge, events_in}

-- the journals of all cells
abbrev pub journals_of : List CellState → List (List Entry)
journals_of cells = map (λ c. c.journal) cells

-- messages without their stamps
abbrev pub plain : List (ℕ × Message) → List Message
plain es = map (λ e. e.1) es

-- the link from agent j to agent i, as the cells of both and the network show it: what was taken is
-- the first part of what was sent; and the network has the same messages on the link, and the same
-- number of them taken
pub record IsLinkIn (net : Network) (i j : ℕ) (to from : CellState) : Type 0 where
  pub prefix : IsPrefix (lane j to.taken) (lane i from.sent)
  pub sent : link net.desks j i ≡ plain (lane i from.sent)
  pub taken : taken_at net.desks i j ≡ length (lane j to.taken)

-- the stamps in the journals of agents made with these views are right: given what each cell took on its links, the activations that the journals give are allowed by the agents' accounts and send exactly what the cells sent, with the stamps; and the stamps of each journal ascend
pub record AreRightStamps (made : List View) (cells : List CellState) : Type 0 where
  pub now : ℕ → Account
  pub starts : AreStarts made now
  pub taken : ℕ → ℕ → List (ℕ × Message)
  pub lists : (i j : ℕ) (c : CellState) → slice_get cells i ≡ Some c → taken i j ≡ lane j c.taken
  pub enough : (i : ℕ) → AreEnough (taken i) (journal_at (journals_of cells) i)
  pub allowed : (i : ℕ) → AreDeeds (length made) (now i) (deeds_from i (taken i) (journal_at (journals_of cells) i))
  pub sent : (i j : ℕ) (c : CellState) → slice_get cells i ≡ Some c
      → lane j c.sent ≡ posted_to j (fold do_one (now i) (deeds_from i (taken i) (journal_at (journals_of cells) i))).posted
  pub ascend : (i : ℕ) → AscendsAbove 0 (journal_at (journals_of cells) i)

-- cells have made a run of agents made with these views, and it ends in this network: the network
-- has the cells' views and links, and as many deliveries as the cells have taken messages; the
-- journals' stamps are right; every merge of the journals is a run to this network; and the
-- journals are in rounds under the budget
pub record IsRunOfCells (budget : ℕ) (made : List View) (cells : List CellState) (end : Network) : Type 0 where
  pub views : end.views ≡ map (λ c. c.view) cells
  pub sized : length end.desks ≡ length cells
  pub links : (i j : ℕ) (to from : CellState) → slice_get cells i ≡ Some to → slice_get cells j ≡ Some from → IsLinkIn end i j to from
  pub delivered : deliveries end ≡ total cells
  pub right : AreRightStamps made cells
  pub merges : (log : List (ℕ × Entry)) → IsMerge (journals_of cells) log → run (start_state made) (events_in log) ≡ Some end
  pub in_rounds : AreInRounds budget made (journals_of cells) end

-- whether all agents of these cells have ended
abbrev pub all_ended : List CellState → Bool
all_ended cells = list_all (λ c. ended_of c.view) cells

-- nothing waits for an agent that has not ended
abbrev pub NothingWaits : List CellState → Type 0
NothingWaits cells = (i j : ℕ) (to from : CellState) → slice_get cells i ≡ Some to → slice_get cells j ≡ Some from → ended_of to.view ≡ false
    → lane j to.taken ≡ lane i from.sent

-- how cells ended under a budget: all agents have ended; or some have not, and the deliveries are at least the budget; or some have not, the deliveries are below the budget, and nothing waits
abbrev pub IsCellEnd : ℕ → List CellState → RunEnd → Type 0
IsCellEnd budget cells (AllEnded n) = (n ≡ total cells) × (all_ended cells ≡ true)
IsCellEnd budget cells (Spent n) = (n ≡ total cells) × (all_ended cells ≡ false) × (budget ≤ total cells)
IsCellEnd budget cells (Still n) = (n ≡ total cells) × (all_ended cells ≡ false) × (total cells < budget) × NothingWaits cells

-- cells have made a run of agents made with these views, under a budget, and the run ended in this way
abbrev pub MakesARun : ℕ → List View → List CellState → RunEnd → Type 0
MakesARun budget made cells answer = (end : Network) × IsRunOfCells budget made cells end × IsRunEnd budget end answer

-- the outcome is that of these cells: each agent's value, the tables that were made and the places that were found, the bounds and the threshold of agent 0, the number of messages taken, and whether all agents have ended
pub record IsCellOutcome (cells : List CellState) (outcome : Outcome) : Type 0 where
  pub values : outcome.values ≡ map (λ c. value_of c.view) cells
  pub tables : outcome.tables ≡ map (λ c. table_of c.view) cells
  pub places : outcome.places ≡ map (λ c. place_of c.view) cells
  pub top : option_map (λ c. standing_of c.view) (slice_get cells 0) ≡ Some outcome.top
  pub deliveries : outcome.deliveries ≡ total cells
  pub ended : outcome.ended ≡ all_ended cells
