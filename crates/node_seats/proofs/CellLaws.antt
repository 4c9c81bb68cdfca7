-- Cells made of the agents of a start in nodes are ready to be run over the plan.
use Rattle.std.proofs.Common.{◌≡◌, ℕ, ◌<◌, ◌≤◌, List, [], length, slice_get, slice_index_or, Some, sym, ap, subst, ◌∙◌, arith}
use Rattle.std.specs.List.{All, Contains}
use Rattle.std.proofs.lemmas.Option.{slice_get_within, get_or_from_slice_get}
use Rattle.std.specs.declared.dyn_box.DynBox.{DynBox}
use Rattle.std.specs.declared.alloc.Global.{Global}
use Rattle.dcop_base.specs.Limits.{variable_limit}
use Rattle.dcop_base.specs.Problem.{Dcop}
use Rattle.protocol_steps.specs.View.{View}
use Rattle.worker_laws.specs.Cells.{peers}
use Rattle.worker_laws.specs.OneNode.{home}
use Rattle.worker_laws.proofs.EachLaws.{there}
use Rattle.worker_laws.specs.Wires.{Wire}
use Rattle.delivery_core.specs.declared.start.Start.{Start}
use Rattle.delivery_core.specs.Agents.{agents_of}
use Rattle.agent_cells.specs.declared.cell.Cell.{Cell}
use Rattle.agent_cells.specs.Links.{Tail, Head, lanes_sent}
use Rattle.agent_cells.specs.Settled.{TailJoins, HeadJoins}
use Rattle.agent_cells.specs.State.{state_of}
use Rattle.agent_links.specs.Ready.{IsNewCell, AreReadyIn}
use Rattle.agent_links.proofs.ReadyLaws.{new_ready_in}
use Rattle.agent_links.specs.declared.seat.Seat.{Seat}
use Rattle.agent_links.specs.Seats.{all_neighbours}
use Rattle.agent_links.proofs.SeatLaws.{lists_size}
use Rattle.agent_links.proofs.CellLaws.{IsCellOf, all_beside, agents_size, seated_new}
use Rattle.tcp_links.specs.declared.plan.InnerEnds.{InnerEnds}
use Rattle.tcp_links.specs.declared.plan.NodePlan.{NodePlan}
use Rattle.tcp_links.specs.Plans.{IsBetween, IsNewPlan}
use Rattle.tcp_links.specs.Linked.{LeadsOver, AreLinkedOver}
use Rattle.node_seats.specs.Links.{node_in}
use Rattle.node_seats.specs.Seats.{IsSameFrame, AreSeatsOver}
use Rattle.node_seats.proofs.KeepLaws.{from_pairs, into_pairs}

module _ {W : Type 0} (p : Dcop) (start : Start) (before plan : NodePlan W) (seats : List Seat) (new : IsNewPlan (length p.sizes) before.nodes before) (frame : IsSameFrame before plan) where
  -- a plan has an agent for each variable
  pub plan_agents : plan.agents ≡ length p.sizes
  plan_agents = frame.agents ∙ new.agents_are

  -- and its links lead from node to node
  pub links_between : All (IsBetween (length p.sizes) plan.nodes) plan.kept.items
  links_between = subst (λ (m : ℕ). All (IsBetween m plan.nodes) plan.kept.items) plan_agents frame.plan.between

  -- where agents are seated over it, nothing has passed on a link
  pub links_fresh : AreSeatsOver p start plan seats → All (λ (w : Wire). w.passages ≡ []) plan.kept.items
  links_fresh are = λ k d lt.
      let alike = frame.plan.ends in
      let w = there plan.kept.items k lt in
      let e = there plan.ends.items k (omega (arith, lt, alike)) in
      subst (λ (v : Wire). v.passages ≡ []) (sym (get_or_from_slice_get plan.kept.items k w.0 d w.1)) (are.linked.leads.each k w.0 e.0 w.1 e.1).unpassed

module _ {X : Type 0} {F : X → Type 0} (M : DynBox X Global F → View) {W : Type 0} (p : Dcop) (start : Start) (before plan : NodePlan W) (seats : List Seat) (cells : List (Cell X F))
    (new : IsNewPlan (length p.sizes) before.nodes before) (frame : IsSameFrame before plan) (are : AreSeatsOver p start plan seats) (size : length cells ≡ length seats)
    (each : (k : ℕ) (s : Seat) (c : Cell X F) → k < length seats → IsCellOf M (slice_index_or seats k s) (slice_index_or cells k c)) where
  abbrev lists : List (List ℕ)
  lists = all_neighbours p

  agents_are : plan.agents ≡ length p.sizes
  agents_are = plan_agents p start before plan seats new frame

  as_lists : length cells ≡ length lists
  as_lists = size ∙ are.seated.size ∙ sym (lists_size p)

  as_agents : length cells ≡ plan.agents
  as_agents = size ∙ are.seated.size ∙ sym agents_are

  few : length lists ≤ variable_limit
  few = let all = as_lists in let own = as_agents in let limit = frame.plan.agents.1 in omega (arith, all, own, limit)

  cell_new : (i : ℕ) (v : View) (c : Cell X F) → slice_get (agents_of p start) i ≡ Some v → slice_get cells i ≡ Some c → IsNewCell M v i (slice_index_or are.tails i []) (slice_index_or are.heads i []) c
  cell_new = seated_new M p start are.tails are.heads seats cells are.seated size each

  in_lists : (i : ℕ) (c : Cell X F) → slice_get cells i ≡ Some c → i < length lists
  in_lists i c at = let lt = slice_get_within cells i c at in let all = as_lists in omega (arith, lt, all)

  new_at : (i : ℕ) (c : Cell X F) → slice_get cells i ≡ Some c → (v : View) × IsNewCell M v i (slice_index_or are.tails i []) (slice_index_or are.heads i []) c
  new_at i c at =
      let made = agents_size p start in
      let lt = in_lists i c at in
      let v = there (agents_of p start) i (omega (arith, lt, made)) in
      (v.0, cell_new i v.0 c v.1 at)

  -- they are ready, joined by the plan's nodes
  pub cells_ready : AreReadyIn M plan.nodes (agents_of p start) cells
  cells_ready = new_ready_in M lists (all_beside p) are.tails are.heads plan.nodes (node_in plan) are.linked.linked (agents_of p start) cells few (agents_size p start) as_lists cell_new
      (λ i j in_i in_j same. subst (λ (m : ℕ). home plan.nodes m i ≡ home plan.nodes m j) as_agents same)

  peers_at : (i : ℕ) (c : Cell X F) → slice_get cells i ≡ Some c → peers (state_of M c).sent ≡ slice_index_or lists i []
  peers_at i c at = ap (λ (ts : List Tail). peers (lanes_sent ts)) (new_at i c at).1.tails_are ∙ are.linked.linked.tail_peers i (in_lists i c at)

  leads_at : (k : ℕ) (w : Wire) (e : InnerEnds) (from to : Cell X F) → slice_get plan.kept.items k ≡ Some w → slice_get plan.ends.items k ≡ Some e → slice_get cells w.sender ≡ Some from → slice_get cells w.receiver ≡ Some to
      → LeadsOver from to w e
  leads_at k w e from to at_w at_e at_from at_to =
      let l = are.linked.leads.each k w e at_w at_e in
      record {
        drains = subst (λ (ts : List Tail). TailJoins ts w.receiver e.drain) (sym (new_at w.sender from at_from).1.tails_are) l.drains;
        feeds = subst (λ (hs : List Head). HeadJoins hs w.sender e.feed) (sym (new_at w.receiver to at_to).1.heads_are) l.feeds;
        unsent = l.unsent;
        untaken = l.untaken;
        unpassed = l.unpassed;
      }

  -- and the plan has their links between nodes, and no other
  pub cells_linked : AreLinkedOver M plan cells
  cells_linked = record {
    size = as_agents;
    leads = leads_at;
    peers_are = λ k w from at_w at_from. subst (λ (ns : List ℕ). Contains ns w.receiver) (sym (peers_at w.sender from at_from)) (from_pairs lists (length lists) w.sender w.receiver (are.linked.keeps.no_other k w at_w));
    every = λ i j from at_from has apart. are.linked.keeps.each i j (into_pairs lists (length lists) i j (in_lists i from at_from) (subst (λ (ns : List ℕ). Contains ns j) (peers_at i from at_from) has)) apart;
  }
