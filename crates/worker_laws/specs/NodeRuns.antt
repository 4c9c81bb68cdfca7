-- Nodes make a run: what cells in several nodes have done, if in each exchange exactly what was sent arrived.
use Rattle.std.specs.Prelude.{◌≡◌, ℕ, ◌<◌, false, List, ◌∷◌}
use Rattle.std.specs.List.{All}
use Rattle.protocol_steps.specs.declared.run_end.RunEnd.{RunEnd}
use Rattle.protocol_steps.specs.declared.run_end.RunEnd.TheVariants.{Still}
use Rattle.protocol_steps.specs.View.{View}
use Rattle.protocol_steps.specs.Network.{Network}
use Rattle.worker_laws.specs.Cells.{CellState, EachAre}
use Rattle.worker_laws.specs.Visits.{IsQuiet}
use Rattle.worker_laws.specs.CellRounds.{AreSettled, AreStarted, AreCellRounds, total}
use Rattle.worker_laws.specs.CellRuns.{IsRunOfCells, all_ended, IsCellEnd, MakesARun}
use Rattle.worker_laws.specs.StampCounts.{ArePrefixes}
use Rattle.worker_laws.specs.Wires.{Wire, HaveHeld}
use Rattle.worker_laws.specs.NodeRounds.{IsNodeRound, AreNodeRounds, IsNodeEnd, ArePlayedOver}

-- cells have made a run in rounds; at the start and at the end of each round, what was taken on any link is the first part of what was sent on it
pub record IsRunInOrder (budget : ℕ) (made : List View) (cells last : List CellState) (rounds : List (List CellState)) : Type 0 where
  pub end : Network
  pub run : IsRunOfCells budget made last end
  pub in_order : All ArePrefixes (cells ∷ rounds)

-- cells in nodes that have started, and were played in rounds with an exchange before each and after the last, have made a run in order, if in each exchange exactly what was sent on each link arrived
abbrev pub NodesMakeARun : Type 0
NodesMakeARun = (node : ℕ → ℕ) (budget : ℕ) (made : List View) (cells after last : List CellState) (rounds : List (List CellState)) (begun wires more : List Wire)
    → AreStarted made cells → AreNodeRounds node budget begun cells rounds wires after → IsNodeEnd node wires more after last → HaveHeld more
    → IsRunInOrder budget made cells last rounds

-- the rounds are as in one node: in each of them every link is settled first (`AreCellRounds`);
-- after the last one nothing changes but what the cells know of their links, and then every link is
-- settled
pub record IsAsInOneNode (budget : ℕ) (cells after last : List CellState) (rounds : List (List CellState)) : Type 0 where
  pub rounds_are : AreCellRounds budget cells rounds after
  pub quiet : EachAre IsQuiet after last
  pub settled : AreSettled last

-- rounds in nodes are rounds as in one node, if in each exchange exactly what was sent on each link arrived
abbrev pub NodesAreOne : Type 0
NodesAreOne = (node : ℕ → ℕ) (budget : ℕ) (cells after last : List CellState) (rounds : List (List CellState)) (begun wires more : List Wire)
    → AreNodeRounds node budget begun cells rounds wires after → IsNodeEnd node wires more after last → HaveHeld more → IsAsInOneNode budget cells after last rounds

-- `ArePlayedOver` holds of cells in nodes before any round; and after one more round it still
-- holds, if the deliveries before that round were below the budget. If the cells had started and
-- all links have held, then cells of which it holds, after one more exchange and a last settling,
-- have made a run, which ended as they show. The run ended with nothing pending if the last round
-- took nothing and some agent has not ended
pub record PlayedNodesMakeRuns : Type 0 where
  pub none : (node : ℕ → ℕ) (budget : ℕ) (wires : List Wire) (cells : List CellState) → ArePlayedOver node budget wires cells wires cells
  pub more : (node : ℕ → ℕ) (budget : ℕ) (begun wires between : List Wire) (cells now next : List CellState) → ArePlayedOver node budget begun cells wires now → total now < budget
      → IsNodeRound node wires between now next → ArePlayedOver node budget begun cells between next
  pub ends : (node : ℕ → ℕ) (budget : ℕ) (made : List View) (begun wires more : List Wire) (cells now last : List CellState) (answer : RunEnd) → AreStarted made cells
      → ArePlayedOver node budget begun cells wires now → IsNodeEnd node wires more now last → HaveHeld more → IsCellEnd budget last answer → MakesARun budget made last answer
  pub rests : (node : ℕ → ℕ) (budget : ℕ) (made : List View) (begun wires between more : List Wire) (cells now next last : List CellState) → AreStarted made cells
      → ArePlayedOver node budget begun cells wires now → total now < budget → IsNodeRound node wires between now next → total next ≡ total now → IsNodeEnd node between more next last → HaveHeld more
      → all_ended last ≡ false → MakesARun budget made last (Still (total last))
