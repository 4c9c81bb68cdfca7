-- Playing cells over a plan of nodes, exchange by exchange and round by round.
use Rattle.std.specs.Prelude.{◌≡◌, ℕ, ◌+◌, ◌*◌, ◌<◌, ◌≤◌, ◌⊎◌, true, false, List, ◌++◌, Option, Some, None, length, slice_get}
use Rattle.std.specs.List.{flat_map}
use Rattle.std.specs.declared.dyn_box.DynBox.{DynBox}
use Rattle.std.specs.declared.alloc.Global.{Global}
use Rattle.protocol_steps.specs.declared.run_end.RunEnd.{RunEnd}
use Rattle.protocol_steps.specs.declared.run_end.RunEnd.TheVariants.{AllEnded, Spent, Still}
use Rattle.protocol_steps.specs.View.{View}
use Rattle.worker_laws.specs.Cells.{CellState, lane, EachAre}
use Rattle.worker_laws.specs.CellRounds.{total}
use Rattle.worker_laws.specs.CellRuns.{all_ended}
use Rattle.worker_laws.specs.OneNode.{home}
use Rattle.worker_laws.specs.Wires.{Wire}
use Rattle.worker_laws.specs.Exchanges.{IsExchange}
use Rattle.worker_laws.specs.NodeRounds.{IsNodeRound, AreNodeRounds, ArePlayedOver}
use Rattle.worker_laws.specs.NodeStamps.{AreBrokenOver}
use Rattle.worker_laws.specs.StampCounts.{IsMoved}
use Rattle.agent_cells.specs.declared.cell.Cell.{Cell}
use Rattle.agent_cells.specs.State.{fault_in}
use Rattle.agent_cells.specs.declared.fault.VisitFault.TheVariants.{StampEnd, NoMemory as no_visit_memory}
use Rattle.agent_workers.specs.Joined.{states_of, EachIs}
use Rattle.agent_workers.specs.Turns.{sprint_limit, SomeFailed}
use Rattle.agent_workers.specs.Broken.{StandsOrFails, ArePartlyPlayed}
use Rattle.agent_workers.specs.Run.{AreDue, EndIdle, AtStill}
use Rattle.dcop_base.specs.Limits.{amount_limit}
use Rattle.tcp_links.specs.declared.plan.NodePlan.{NodePlan}
use Rattle.tcp_links.specs.declared.fault.Difference.{Difference}
use Rattle.tcp_links.specs.declared.fault.NodeFault.{NodeFault}
use Rattle.tcp_links.specs.declared.fault.NodeFault.TheVariants.{Failed, Differs, NoMemory}
use Rattle.tcp_links.specs.Plans.{IsPlan}
use Rattle.tcp_links.specs.Woven.{AreWoven, IsPassingOf, AreLinksIdle, SentWasDrained, FedWasTaken, HaveCaughtUp}
use Rattle.node_exchange.specs.Passings.{Passing}
use Rattle.tcp_links.specs.Faults.{IsByteFaultAfter}
use Rattle.tcp_links.specs.Broken.{IsPartExchange, IsLostExchange}

-- what an exchange drained of a link is all that the link's sender has sent, except what earlier
-- exchanges have drained already
pub record IsDrainedOf (node : ℕ → ℕ) (cells : List CellState) (w : Wire) (p : Passing) : Type 0 where
  pub link : IsPassingOf node w p
  pub drained : (from : CellState) → slice_get cells w.sender ≡ Some from → flat_map (λ q. q.drained) w.passages ++ p.drained ≡ lane w.receiver from.sent

module _ {X : Type 0} {F : X → Type 0} {W : Type 0} where
  -- the passings of a plan are empty; if a cell's journal is as long as was noted, all that it sent
  -- was drained, and if nothing waited for it, it has taken all that was fed
  pub record AreReadyToExchange (meaning : DynBox X Global F → View) (node : ℕ → ℕ) (p : NodePlan W) (cells : List (Cell X F)) : Type 0 where
    pub idle : AreLinksIdle node p.kept.items p.passings.items
    pub sent : SentWasDrained meaning p.seen.items p.kept.items p.ends.items cells
    pub fed : FedWasTaken meaning p.seen.items p.kept.items p.ends.items cells

  -- a plan with as many nodes and agents as another, whose links are woven with the cells, ready
  -- for an exchange
  pub record IsPlanOver (meaning : DynBox X Global F → View) (p q : NodePlan W) (cells : List (Cell X F)) : Type 0 where
    pub plan : IsPlan q
    pub nodes : q.nodes ≡ p.nodes
    pub agents : q.agents ≡ p.agents
    pub woven : AreWoven meaning q.nodes q.agents q.kept.items q.ends.items cells
    pub ready : AreReadyToExchange meaning (home q.nodes q.agents) q cells

  -- an exchange passed over a plan, which is then ready for the next one
  pub record HasExchanged (meaning : DynBox X Global F → View) (before : NodePlan W) (cells : List (Cell X F)) (after : NodePlan W) (ready : List (Cell X F)) : Type 0 where
    pub over : IsPlanOver meaning before after ready
    pub exchange : IsExchange (home before.nodes before.agents) before.kept.items after.kept.items (states_of meaning cells) (states_of meaning ready)
    pub told : HaveCaughtUp meaning after.seen.items after.kept.items after.ends.items ready

  -- an exchange found bytes that are not those of what it passed
  pub record HasPassedOther (meaning : DynBox X Global F → View) (round : ℕ) (p : NodePlan W) (cells : List (Cell X F)) (d : Difference) : Type 0 where
    pub passings : List Passing
    pub drained : EachAre (IsDrainedOf (home p.nodes p.agents) (states_of meaning cells)) p.kept.items passings
    pub fault : IsByteFaultAfter p.nodes round passings (Differs d)

  -- what an exchange that came to this fault has made: links have passed something only if memory
  -- ran out; a difference is one of the bytes that were passed
  abbrev pub IsExchangeFault : (DynBox X Global F → View) → ℕ → NodePlan W → List (Cell X F) → List Wire → List (Cell X F) → NodeFault → Type 0
  IsExchangeFault meaning round p cells left now Failed = IsLostExchange p.kept.items left (states_of meaning cells) (states_of meaning now)
  IsExchangeFault meaning round p cells left now (Differs d) = HasPassedOther meaning round p cells d × IsLostExchange p.kept.items left (states_of meaning cells) (states_of meaning now)
  IsExchangeFault meaning round p cells left now NoMemory = IsPartExchange p.kept.items left (states_of meaning cells) (states_of meaning now)

  -- an exchange over a plan, and then a part of a round, in which at most `workers` cells have
  -- failed because memory ran out
  pub record HasPartRound (meaning : DynBox X Global F → View) (workers : ℕ) (before : NodePlan W) (cells : List (Cell X F)) (left : List Wire) (now : List (Cell X F)) : Type 0 where
    pub ready : List CellState
    pub exchange : IsExchange (home before.nodes before.agents) before.kept.items left (states_of meaning cells) ready
    pub partly : ArePartlyPlayed meaning no_visit_memory IsMoved sprint_limit workers ready now

  -- what a round and the exchange before it have made when they came to this fault
  abbrev pub IsRoundFault : (DynBox X Global F → View) → ℕ → ℕ → NodePlan W → List (Cell X F) → List Wire → List (Cell X F) → NodeFault → Type 0
  IsRoundFault meaning workers round p cells left now Failed = IsExchangeFault meaning round p cells left now Failed
  IsRoundFault meaning workers round p cells left now (Differs d) = IsExchangeFault meaning round p cells left now (Differs d)
  IsRoundFault meaning workers round p cells left now NoMemory = IsExchangeFault meaning round p cells left now NoMemory ⊎ HasPartRound meaning workers p cells left now

-- from the start on, cells were played in `count` rounds of which `Such` holds, under a budget, and
-- this much has passed between the nodes
pub record ArePlayedSo (node : ℕ → ℕ) (budget : ℕ) (Such : List CellState → List (List CellState) → Type 0) (count : ℕ) (begun : List Wire) (started : List CellState) (wires : List Wire) (now : List CellState) : Type 0 where
  pub rounds : List (List CellState)
  pub are : AreNodeRounds node budget begun started rounds wires now
  pub such : Such started rounds
  pub counted : length rounds ≡ count

-- the last round began below the budget and took nothing
pub record IsIdleOver (node : ℕ → ℕ) (budget : ℕ) (begun : List Wire) (started : List CellState) (wires : List Wire) (now : List CellState) : Type 0 where
  pub before : List CellState
  pub passed : List Wire
  pub played : ArePlayedOver node budget begun started passed before
  pub less : total before < budget
  pub round : IsNodeRound node passed wires before now
  pub none : total now ≡ total before

-- how playing has ended, with the number of messages taken
abbrev pub HasStoppedOver : (ℕ → ℕ) → ℕ → List Wire → List CellState → List Wire → List CellState → RunEnd → Type 0
HasStoppedOver node budget begun started wires now (AllEnded n) = (n ≡ total now) × (all_ended now ≡ true)
HasStoppedOver node budget begun started wires now (Spent n) = (n ≡ total now) × (all_ended now ≡ false) × (budget ≤ total now)
HasStoppedOver node budget begun started wires now (Still n) = (n ≡ total now) × (all_ended now ≡ false) × IsIdleOver node budget begun started wires now

-- cells were played until they ended in this way; if the answer is `Still`, the last round took
-- nothing
pub record ArePlayedOutOver (node : ℕ → ℕ) (budget count : ℕ) (begun : List Wire) (started : List CellState) (wires : List Wire) (now : List CellState) (answer : RunEnd) : Type 0 where
  pub played : ArePlayedSo node budget AreDue count begun started wires now
  pub stopped : HasStoppedOver node budget begun started wires now answer
  pub idle : AtStill answer (EndIdle started played.rounds)

module _ {X : Type 0} {F : X → Type 0} where
  -- cells were played until the last of `count` rounds was broken off because stamps ran out
  pub record HasBrokenOver (meaning : DynBox X Global F → View) (node : ℕ → ℕ) (budget count : ℕ) (begun : List Wire) (started : List CellState) (wires : List Wire) (now : List (Cell X F)) : Type 0 where
    pub stood : List CellState
    pub broken : AreBrokenOver node budget begun started wires stood (states_of meaning now)
    pub counted : length broken.played.rounds + 1 ≡ count
    pub came : EachAre (StandsOrFails meaning StampEnd) stood now
    pub few : total stood < amount_limit
    pub failed : SomeFailed StampEnd now

  -- a round over a plan, in which `count` messages were taken and no cell failed
  pub record HasRoundOver {W : Type 0} (meaning : DynBox X Global F → View) (before : NodePlan W) (cells : List (Cell X F)) (after : NodePlan W) (now : List (Cell X F)) (count : ℕ) : Type 0 where
    pub round : IsNodeRound (home before.nodes before.agents) before.kept.items after.kept.items (states_of meaning cells) (states_of meaning now)
    pub counted : total (states_of meaning now) ≡ total (states_of meaning cells) + count
    pub most : count ≤ length cells * sprint_limit
    pub fine : EachIs (λ c. fault_in c ≡ None) now

  -- an exchange over a plan, and a round that was broken off because stamps ran out; and what a
  -- round did, by its answer
  pub record HasBrokenRound {W : Type 0} (meaning : DynBox X Global F → View) (before : NodePlan W) (cells : List (Cell X F)) (after : NodePlan W) (now : List (Cell X F)) : Type 0 where
    pub ready : List CellState
    pub exchange : IsExchange (home before.nodes before.agents) before.kept.items after.kept.items (states_of meaning cells) ready
    pub stood : List CellState
    pub moved : EachAre IsMoved ready stood
    pub most : total stood ≤ total ready + length ready * sprint_limit
    pub came : EachAre (StandsOrFails meaning StampEnd) stood now
    pub failed : SomeFailed StampEnd now

  abbrev pub IsRoundOver : {W : Type 0} → (DynBox X Global F → View) → NodePlan W → List (Cell X F) → NodePlan W → List (Cell X F) → Option ℕ → Type 0
  IsRoundOver meaning before cells after now (Some count) = HasRoundOver meaning before cells after now count
  IsRoundOver meaning before cells after now None = HasBrokenRound meaning before cells after now

  -- cells were played until the run ended, or until a round was broken off
  abbrev pub ArePlayedTo : (DynBox X Global F → View) → (ℕ → ℕ) → ℕ → List Wire → List CellState → List Wire → List (Cell X F) → ℕ → Option RunEnd → Type 0
  ArePlayedTo meaning node budget begun started wires now count (Some answer) = ArePlayedOutOver node budget count begun started wires (states_of meaning now) answer
  ArePlayedTo meaning node budget begun started wires now count None = HasBrokenOver meaning node budget count begun started wires now
