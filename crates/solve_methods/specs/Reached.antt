-- What the ADOPT agents of a problem have reached.
use Rattle.std.specs.Prelude.{◌≡◌, ℕ, ◌+◌, ◌≤◌, Bool, true, false, IfSome, is_some}
use Rattle.dcop_base.specs.Problem.{Dcop, IsAssignment, cost}
use Rattle.dcop_optimum.specs.Optimum.{IsOptimum}
use Rattle.pseudotree.specs.DepthFirst.{dfs}
use Rattle.protocol_steps.specs.Network.{Network}
use Rattle.protocol_steps.specs.Effect.{has_ended, deliveries}
use Rattle.protocol_steps.specs.Adopt.{AdoptView}
use Rattle.protocol_steps.specs.AdoptBounds.{lower_bound}
use Rattle.protocol_steps.specs.TreeAgents.{adopt_agents}
use Rattle.run_laws.specs.AdoptEnd.{values_of}
use Rattle.minimised_problem.specs.LogEnds.{IsRootAgent, ending_of, least_shown}
use Rattle.solve_methods.specs.Adopt.{IsAdoptPlay}
use Rattle.solve_methods.specs.Kept.{IsLogOf}
use Rattle.solve_methods.specs.declared.adopt.Reached.{Reached}

-- what a run of ADOPT gave: the ending, the deliveries and the values of its end, and the bounds
-- that follow from those of the root's agent and from what the values cost. The values are an
-- assignment, and the bounds enclose the optimum. If all agents have ended, the values cost at most
-- the error more than the optimum. A log was kept exactly when one is requested, and it is the log
-- of exactly that run
pub record HaveReached (p : Dcop) (error budget : ℕ) (certified : Bool) (reached : Reached) : Type 0 where
  pub end : Network
  pub play : IsAdoptPlay p error budget end
  pub top : AdoptView
  pub is_top : IsRootAgent p end top
  pub ending : reached.ending ≡ ending_of end
  pub spent : has_ended end ≡ false → budget ≤ deliveries end
  pub delivered : reached.deliveries ≡ deliveries end
  pub values : reached.values ≡ values_of end
  pub lower : reached.lower ≡ lower_bound top
  pub upper : reached.upper ≡ least_shown p reached.values top
  pub assignment : IsAssignment p reached.values
  pub enclosed : (least : ℕ) → IsOptimum p least → (reached.lower ≤ least) × (least ≤ reached.upper)
  pub near : has_ended end ≡ true → (least : ℕ) → IsOptimum p least → cost p reached.values ≤ least + error
  pub asked : is_some reached.log ≡ certified
  pub logged : IfSome reached.log (IsLogOf (adopt_agents p (dfs p) error) play.rounds end)
