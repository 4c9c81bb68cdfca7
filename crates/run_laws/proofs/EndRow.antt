-- A worked row: one table of two variables, and a run of its ADOPT agents in which all end. So the law's premises are met.
use Rattle.std.proofs.Common.{◌≡◌, ℕ, zero, suc, ◌<◌, true, List, [], ◌∷◌, Option, Some, None, refl, arith}
use Rattle.std.specs.List.{All}
use Rattle.dcop_base.specs.Table.{CostTable, IsTable}
use Rattle.dcop_base.specs.Problem.{Dcop}
use Rattle.dcop_base.specs.Graph.{share_table, AreConnected, AreJoints}
use Rattle.dcop_base.specs.Whole.{IsProblem}
use Rattle.dcop_base.proofs.FirstLaws.{Contains-head}
use Rattle.dcop_base.proofs.PathLaws.{AreConnected-refl, AreConnected-edge}
use Rattle.dcop_base.proofs.ProblemLaws.{IsProblem-faultless}
use Rattle.pseudotree.specs.DepthFirst.{dfs}
use Rattle.pseudotree.specs.Pseudotree.{IsPseudotree, IsLinked}
use Rattle.pseudotree.proofs.SearchLaws.{depth_first_trees_are_linked}
use Rattle.protocol_steps.specs.declared.event.Take.{Take}
use Rattle.protocol_steps.specs.declared.event.Event.{Event}
use Rattle.protocol_steps.specs.Step.{start_of, step_of}
use Rattle.protocol_steps.specs.Network.{Network, start_state}
use Rattle.protocol_steps.specs.Effect.{has_ended}
use Rattle.protocol_steps.specs.Run.{run}
use Rattle.protocol_steps.specs.TreeAgents.{adopt_agents}
use Rattle.run_laws.specs.AdoptRun.{IsAdoptRun}
use Rattle.run_laws.specs.AdoptEnd.{values_of, HoldsAtEnd}
use Rattle.run_laws.proofs.WholeLaws.{adopt_ends}

abbrev table : CostTable
table = record { scope = 0 ∷ 1 ∷ []; sizes = 2 ∷ 2 ∷ []; cells = 5 ∷ 3 ∷ 2 ∷ 7 ∷ [] }

abbrev pair : Dcop
pair = record { sizes = 2 ∷ 2 ∷ []; tables = table ∷ []; joints = [] }

tables_whole : All IsTable (table ∷ [])
tables_whole zero d lt = refl
tables_whole (suc k) d lt = absurd (omega (arith, lt))

connected : (v : ℕ) → v < 2 → AreConnected (share_table (table ∷ [])) 0 v
connected zero lt = AreConnected-refl (share_table (table ∷ [])) 0
connected (suc zero) lt = AreConnected-edge (share_table (table ∷ [])) 0 1 refl
connected (suc (suc v)) lt = absurd (omega (arith, lt))

pair_joints : AreJoints 2 (table ∷ []) []
pair_joints = record {
  from_zero = λ k d lt. absurd (omega (arith, lt));
  ascending = λ k lt. absurd (omega (arith, lt));
  within = λ k d lt. absurd (omega (arith, lt));
  first = λ k d lt. absurd (omega (arith, lt));
  every = λ v lt. (0, Contains-head 0 [], connected v lt);
}

pair_problem : IsProblem pair
pair_problem = IsProblem-faultless (2 ∷ 2 ∷ []) (table ∷ []) [] refl tables_whole pair_joints

-- an event with one take
abbrev takes_one : ℕ → ℕ → ℕ → Event
takes_one agent from count =
    let t : Take = record { from = from; count = count } in
    record { agent = agent; takes = t ∷ [] }

abbrev events : List Event
events = takes_one 0 1 1 ∷ takes_one 1 0 4 ∷ takes_one 0 1 1 ∷ takes_one 1 0 2 ∷ takes_one 0 1 1 ∷ takes_one 1 0 3 ∷ []

-- the network that a run reaches
abbrev reached : Option Network → Network
reached None = record { views = []; desks = [] }
reached (Some net) = net

abbrev end : Network
end = reached (run (start_state (adopt_agents pair (dfs pair) 0)) events)

pair_run : IsAdoptRun pair (dfs pair) 0 events end
unfolding start_of step_of
pair_run = refl

pair_ended : has_ended end ≡ true
unfolding start_of step_of
pair_ended = refl

pub pair_values : values_of end ≡ 1 ∷ 0 ∷ []
unfolding start_of step_of
pair_values = refl

pub pair_at_end : HoldsAtEnd pair (dfs pair) 0 end
pair_at_end =
    let tree : IsPseudotree pair (dfs pair) × IsLinked pair (dfs pair) = depth_first_trees_are_linked pair pair_problem in
    adopt_ends pair (dfs pair) 0 pair_problem tree.0 tree.1 events end pair_run pair_ended
