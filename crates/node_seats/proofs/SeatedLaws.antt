-- Agents seated over a plan, by what they know.
use Rattle.std.proofs.Common.{◌≡◌, ℕ, List, map, length, Result, Ok, Err, IfOk, sym, ap, subst, ◌∙◌}
use Rattle.std.specs.List.{range_with_len}
use Rattle.std.proofs.lemmas.List.FromFn.{length-map-range_with_len}
use Rattle.std.specs.declared.vec.Vec.{Vec}
use Rattle.std.specs.declared.alloc.Global.{Global}
use Rattle.dcop_base.specs.Problem.{Dcop}
use Rattle.dcop_base.specs.Knowledge.{private_of as known_by}
use Rattle.dcop_base.specs.declared.knowledge.Private.{Private}
use Rattle.dcop_base.specs.declared.memory.NoMemory.{NoMemory}
use Rattle.delivery_core.specs.declared.start.Start.{Start}
use Rattle.agent_cells.specs.Links.{Tail, Head}
use Rattle.agent_links.specs.Beside.{neighbours_in}
use Rattle.agent_links.specs.declared.seat.Seat.{Seat}
use Rattle.agent_links.specs.Seats.{all_neighbours, HaveEnds, AreSeated}
use Rattle.agent_links.proofs.SeatLaws.{known_lists}
use Rattle.agent_links.proofs.EndLaws.{links_end}
use Rattle.tcp_links.specs.declared.plan.NodePlan.{NodePlan}
use Rattle.tcp_links.specs.Plans.{IsNewPlan}
use Rattle.node_seats.specs.Links.{node_in, AreLinksOver}
use Rattle.node_seats.specs.Seats.{AreSeatsOver}

module _ {W : Type 0} (p : Dcop) (plan : NodePlan W) (known : List Private) (is : known ≡ map (known_by p) (range_with_len 0 (length p.sizes))) where
  -- a new plan for the variables is one for those who know them
  pub known_plan : IsNewPlan (length p.sizes) plan.nodes plan → IsNewPlan (length known) plan.nodes plan
  known_plan new = subst (λ (n : ℕ). IsNewPlan n plan.nodes plan) (sym (ap (λ (xs : List Private). length xs) is ∙ length-map-range_with_len (known_by p) 0 (length p.sizes))) new

  module _ (tails : List (List Tail)) (heads : List (List Head)) (linked : AreLinksOver (neighbours_in known) plan tails heads) where
    over : AreLinksOver (all_neighbours p) plan tails heads
    over = subst (λ (ls : List (List ℕ)). AreLinksOver ls plan tails heads) (known_lists p known is) linked

    -- agents linked over a plan have the ends of their links
    pub over_ends : HaveEnds (all_neighbours p) tails heads
    over_ends = links_end (node_in plan) (all_neighbours p) tails heads over.linked

    -- and where they are seated on these, they are seated over the plan
    pub seated_over : (start : Start) (r : Result (Vec Seat Global) NoMemory) → IfOk r (λ seats. AreSeated p start tails heads seats.items) → IfOk r (λ seats. AreSeatsOver p start plan seats.items)
    seated_over start (Ok seats) seated = record { tails = tails; heads = heads; linked = over; seated = seated }
    seated_over start (Err e) seated = tt
