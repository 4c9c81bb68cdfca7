-- Rounds of cells in nodes, with an exchange between the nodes before each.
use Rattle.std.specs.Prelude.{◌≡◌, ℕ, ◌<◌, List, [], ◌∷◌}
use Rattle.worker_laws.specs.Cells.{CellState}
use Rattle.worker_laws.specs.CellRounds.{total}
use Rattle.worker_laws.specs.OneNode.{IsSettling, IsPartRound}
use Rattle.worker_laws.specs.Wires.{Wire}
use Rattle.worker_laws.specs.Exchanges.{IsExchange}

-- an exchange, and then a round that settles the links inside each node only
pub record IsNodeRound (node : ℕ → ℕ) (wires more : List Wire) (before after : List CellState) : Type 0 where
  pub ready : List CellState
  pub exchange : IsExchange node wires more before ready
  pub round : IsPartRound node ready after

-- such rounds under a budget of deliveries: each begins with fewer deliveries than the budget; the list has the cells after each round
abbrev pub AreNodeRounds : (ℕ → ℕ) → ℕ → List Wire → List CellState → List (List CellState) → List Wire → List CellState → Type 0
AreNodeRounds node budget wires before [] more after = (wires ≡ more) × (before ≡ after)
AreNodeRounds node budget wires before (next ∷ rounds) more after =
    (total before < budget) × ((between : List Wire) × IsNodeRound node wires between before next × AreNodeRounds node budget between next rounds more after)

-- the end: one more exchange, and then every link inside a node is settled once more
pub record IsNodeEnd (node : ℕ → ℕ) (wires more : List Wire) (before last : List CellState) : Type 0 where
  pub ready : List CellState
  pub exchange : IsExchange node wires more before ready
  pub settling : IsSettling node ready last

-- cells were played in rounds with an exchange before each, under a budget (`AreNodeRounds`); the
-- links between nodes were `begun` before these rounds and are `wires` after them
pub record ArePlayedOver (node : ℕ → ℕ) (budget : ℕ) (begun : List Wire) (started : List CellState) (wires : List Wire) (now : List CellState) : Type 0 where
  pub rounds : List (List CellState)
  pub are : AreNodeRounds node budget begun started rounds wires now
