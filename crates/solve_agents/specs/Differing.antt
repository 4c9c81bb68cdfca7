-- A difference between what was sent and what was taken over the links between nodes.
use Rattle.std.specs.Prelude.{◌≡◌, ℕ, List, [], length}
use Rattle.std.specs.List.{All}
use Rattle.dcop_base.specs.Problem.{Dcop}
use Rattle.delivery_core.specs.declared.start.Start.{Start}
use Rattle.delivery_core.specs.Agents.{agents_of, IsStartFor}
use Rattle.worker_laws.specs.Cells.{CellState}
use Rattle.worker_laws.specs.CellRounds.{AreStarted}
use Rattle.worker_laws.specs.OneNode.{home}
use Rattle.worker_laws.specs.Wires.{Wire}
use Rattle.agent_links.specs.Links.{pairs_to}
use Rattle.agent_links.specs.Seats.{all_neighbours}
use Rattle.tcp_links.specs.declared.fault.Difference.{Difference}
use Rattle.tcp_links.specs.declared.plan.InnerEnds.{InnerEnds}
use Rattle.tcp_links.specs.Plans.{IsBetween, AreOrdered}
use Rattle.tcp_links.specs.Ends.{IsDifference}
use Rattle.node_seats.specs.Links.{KeepsPairs}

-- in some run of a phase of this kind, agents of a problem in this number of nodes found this
-- difference between what was sent and what was taken; it need not be the run that took place.
-- Before that run nothing had passed between the nodes. The links between them were exactly one
-- from each agent to each of its neighbours in another node, ordered by sender and then receiver
pub record HaveDiffered (p : Dcop) (is_phase : Start → ℕ → Type 0) (nodes : ℕ) (d : Difference) : Type 0 where
  pub start : Start
  pub fits : IsStartFor p start
  pub budget : ℕ
  pub phase : is_phase start budget
  pub links : List Wire
  pub between : All (IsBetween (length p.sizes) nodes) links
  pub ordered : AreOrdered links
  pub pairs : KeepsPairs (home nodes (length p.sizes)) links (pairs_to (all_neighbours p) (length (all_neighbours p)))
  pub fresh : All (λ (w : Wire). w.passages ≡ []) links
  pub started : List CellState
  pub starts : AreStarted (agents_of p start) started
  pub left : List Wire
  pub ends : List InnerEnds
  pub last : List CellState
  pub right : IsDifference nodes (home nodes (length p.sizes)) budget links started left ends last d
