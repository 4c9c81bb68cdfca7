-- How agents are joined, before and behind calls.
use Rattle.std.proofs.Common.{◌≡◌, ℕ, ◌-◌, ◌*◌, ◌<◌, ◌≤◌, List, [], ◌∷◌, length, Option, Result, Ok, Err, IfErr, refl, sym, ap, subst, ◌∙◌, arith}
use Rattle.std.proofs.lemmas.Nat.{le-div, mul-le}
use Rattle.std.proofs.lemmas.List.Elements.{All-head}
use Rattle.std.specs.List.{All}
use Rattle.std.specs.Result.{IsErrAnd}
use Rattle.std.specs.declared.dyn_box.DynBox.{DynBox}
use Rattle.std.specs.declared.alloc.Global.{Global}
use Rattle.dcop_base.specs.Problem.{Dcop}
use Rattle.dcop_edge.specs.Faults.{Rose}
use Rattle.pseudotree.specs.DepthFirst.{dfs}
use Rattle.pseudotree.specs.Width.{wide_of}
use Rattle.pseudotree.specs.declared.width.Wide.{Wide}
use Rattle.protocol_steps.specs.View.{View}
use Rattle.delivery_core.specs.declared.start.Start.{Start}
use Rattle.delivery_core.specs.Agents.{agents_of, IsStartFor}
use Rattle.worker_laws.specs.CellRounds.{AreStarted}
use Rattle.worker_laws.specs.OneNode.{home}
use Rattle.worker_laws.specs.Wires.{Wire}
use Rattle.agent_cells.specs.declared.cell.Cell.{Cell}
use Rattle.agent_workers.specs.Joined.{states_of}
use Rattle.agent_workers.specs.Run.{views_of}
use Rattle.agent_links.specs.Links.{pairs_to}
use Rattle.agent_links.specs.Seats.{all_neighbours}
use Rattle.wire_pump.specs.Wire.{Told}
use Rattle.wire_pump.specs.Dialer.{IsNew}
use Rattle.tcp_links.specs.declared.fault.Difference.{Difference}
use Rattle.tcp_links.specs.declared.fault.NodeFault.{NodeFault}
use Rattle.tcp_links.specs.declared.fault.NodeFault.TheVariants.{Failed, Differs, NoMemory}
use Rattle.tcp_links.specs.declared.plan.InnerEnds.{InnerEnds}
use Rattle.tcp_links.specs.declared.plan.NodePlan.{NodePlan}
use Rattle.tcp_links.specs.Plans.{pair_count, AreNewWires, IsBetween, AreOrdered, IsHonest, IsNewPlan}
use Rattle.tcp_links.specs.Ends.{IsDifference, HasComeTo, IsLeftBy}
use Rattle.tcp_links.specs.Faults.{IsOtherFault, HasNodeCause}
use Rattle.node_exchange.specs.Honest.{AreHonest}
use Rattle.node_seats.specs.Links.{node_in, KeepsPairs}
use Rattle.node_seats.specs.Seats.{IsSameFrame}
use Rattle.solve_methods.specs.Dpop.{wide_in}
use Rattle.solve_agents.specs.Differing.{HaveDiffered}
use Rattle.solve_agents.specs.Phases.{IsPhase}
use Rattle.solve_agents.specs.Wiring.{HasNewWire, IsNodesFaultOf, MayFail}

-- a difference that was come to in a phase of one kind, where that is one of another kind
differed_in : (p : Dcop) (is_phase is_phase' : Start → ℕ → Type 0) (nodes : ℕ) (d : Difference) → ((start : Start) (most : ℕ) → is_phase' start most → is_phase start most) → HaveDiffered p is_phase' nodes d → HaveDiffered p is_phase nodes d
differed_in p is_phase is_phase' nodes d kind h = record {
  start = h.start;
  fits = h.fits;
  budget = h.budget;
  phase = kind h.start h.budget h.phase;
  links = h.links;
  between = h.between;
  ordered = h.ordered;
  pairs = h.pairs;
  fresh = h.fresh;
  started = h.started;
  starts = h.starts;
  left = h.left;
  ends = h.ends;
  last = h.last;
  right = h.right;
}

-- a fault behind calls that left the dialer's count as it was, in as many nodes, untrusted where these were, in a phase that is of this kind
module _ (p : Dcop) (is_phase is_phase' : Start → ℕ → Type 0) (nodes nodes' : ℕ) (untrusted untrusted' : Type 0) (first old new : ℕ) where
  fault_behind : (e : NodeFault) → old ≡ first → nodes' ≡ nodes → (1 < nodes → untrusted' → untrusted) → ((start : Start) (most : ℕ) → is_phase' start most → is_phase start most) → IsNodesFaultOf p is_phase' nodes' untrusted' old new e → IsNodesFaultOf p is_phase nodes untrusted first new e
  fault_behind Failed still many so kind fails =
      subst (λ (k : ℕ). (1 < nodes) × (k ≤ new) × Rose k new) still (subst (λ (k : ℕ). 1 < k) many fails.0, fails.1, fails.2)
  fault_behind (Differs d) still many so kind fails = (
    subst (λ (k : ℕ). 1 < k) many fails.0,
    fails.1 ∙ still,
    so (subst (λ (k : ℕ). 1 < k) many fails.0) fails.2,
    subst (λ (k : ℕ). HaveDiffered p is_phase k d) many (differed_in p is_phase is_phase' nodes' d kind fails.3),
  )
  fault_behind NoMemory still many so kind fails = fails ∙ still

  -- so it is with a call
  pub fails_behind : {T : Type 0} (r : Result T NodeFault) → old ≡ first → nodes' ≡ nodes → (1 < nodes → untrusted' → untrusted) → ((start : Start) (most : ℕ) → is_phase' start most → is_phase start most)
      → MayFail {T = T} p is_phase' nodes' untrusted' old new r → MayFail {T = T} p is_phase nodes untrusted first new r
  fails_behind {T} (Ok value) still many so kind fails = fails ∙ still
  fails_behind {T} (Err e) still many so kind fails = fault_behind e still many so kind fails

  -- and with a fault that is handed on
  pub fails_on : {T : Type 0} (r : Result T NodeFault) (e : NodeFault) → IsErrAnd r (λ x. x ≡ e) → old ≡ first → nodes' ≡ nodes → (1 < nodes → untrusted' → untrusted) → ((start : Start) (most : ℕ) → is_phase' start most → is_phase start most)
      → IsNodesFaultOf p is_phase' nodes' untrusted' old new e → MayFail {T = T} p is_phase nodes untrusted first new r
  fails_on {T} (Ok value) e is still many so kind fails = absurd is
  fails_on {T} (Err x) e is still many so kind fails =
      subst (λ (f : NodeFault). IsNodesFaultOf p is_phase nodes untrusted first new f) (sym is) (fault_behind e still many so kind fails)

-- what is too wide in the tree that was found is so in the depth-first tree
pub wide_is : (p : Dcop) (paths : List (List ℕ)) (wide : Option Wide) → paths ≡ dfs p → wide ≡ wide_of p paths → wide_in p ≡ wide
wide_is p paths wide same is = sym (is ∙ ap (wide_of p) same)

-- a plan with the same wires is honest where the other is
pub frame_honest : {W : Type 0} (told : W → Told) (is_joined : W → W → Type 0) (before after : NodePlan W) → IsSameFrame before after → IsHonest told is_joined before → IsHonest told is_joined after
frame_honest {W} told is_joined before after frame honest = subst (λ (ws : List (W × W)). AreHonest told is_joined ws) (sym frame.wires) honest

-- what a run of nodes says of links: agents of a start were run so over a plan that a frame keeps, whose links were new
module _ {X : Type 0} {F : X → Type 0} (M : DynBox X Global F → View) {W : Type 0} (p : Dcop) (start : Start) (fits : IsStartFor p start) (workers budget : ℕ) (before plan : NodePlan W) (nodes_are : plan.nodes ≡ before.nodes) (agents_are : plan.agents ≡ length p.sizes)
    (between : All (IsBetween (length p.sizes) plan.nodes) plan.kept.items) (fresh : All (λ (w : Wire). w.passages ≡ []) plan.kept.items)
    (ordered : AreOrdered plan.kept.items) (pairs : KeepsPairs (node_in plan) plan.kept.items (pairs_to (all_neighbours p) (length (all_neighbours p))))
    (made last : List (Cell X F)) (are : views_of M made ≡ agents_of p start) (after : List Wire) (ends : List InnerEnds) where
  differed : (d : Difference) → HasComeTo M workers budget plan made after ends last (Differs d) → HaveDiffered p (IsPhase start budget) before.nodes d
  differed d h = record {
    start = start;
    fits = fits;
    budget = budget;
    phase = (refl, refl);
    links = plan.kept.items;
    between = subst (λ (k : ℕ). All (IsBetween (length p.sizes) k) plan.kept.items) nodes_are between;
    ordered = ordered;
    pairs =
        subst (λ (k : ℕ). KeepsPairs (home k (length p.sizes)) plan.kept.items (pairs_to (all_neighbours p) (length (all_neighbours p)))) nodes_are
        (subst (λ (n : ℕ). KeepsPairs (home plan.nodes n) plan.kept.items (pairs_to (all_neighbours p) (length (all_neighbours p)))) agents_are pairs);
    fresh = fresh;
    started = h.started;
    starts = subst (λ (vs : List View). AreStarted vs h.started) are h.starts;
    left = after;
    ends = ends;
    last = states_of M last;
    right =
        subst (λ (k : ℕ). IsDifference k (home k (length p.sizes)) budget plan.kept.items h.started after ends (states_of M last) d) nodes_are
        (subst (λ (n : ℕ). IsDifference plan.nodes (home plan.nodes n) budget plan.kept.items h.started after ends (states_of M last) d) agents_are h.fault);
  }

  pub ran_fails : {T : Type 0} (many : 1 < before.nodes) (honest : Type 0) (old new : ℕ) (r : Result T NodeFault) → HasNodeCause old new r → (honest → IfErr r IsOtherFault) → IfErr r (IsLeftBy M workers budget plan made after ends last)
      → MayFail {T = T} p (IsPhase start budget) before.nodes (¬ honest) old new r
  ran_fails many honest old new (Ok value) cause none left = cause
  ran_fails many honest old new (Err Failed) cause none left = (many, cause.0, cause.1)
  ran_fails many honest old new (Err (Differs d)) cause none left = (many, cause, (λ (h : honest). none h), differed d left)
  ran_fails many honest old new (Err NoMemory) cause none left = cause

-- a new plan of more than one node has a new wire
some_pairs : (nodes : ℕ) → 1 < nodes → 0 < pair_count nodes
some_pairs nodes many =
    le-div 1 (nodes * (nodes - 1)) 2 (omega arith) (mul-le 2 1 nodes (nodes - 1) (omega (arith, many)) (omega (arith, many)))

given_in : {W : Type 0} (told : W → Told) (pairs : List (W × W)) → AreNewWires told pairs → 0 < length pairs → HasNewWire told
given_in {W} told [] new some = absurd (omega (arith, some))
given_in {W} told (pair ∷ pairs) new some =
    record { wire = pair.0; new = (All-head (λ (p : W × W). IsNew (told p.0) × IsNew (told p.1)) pair pairs new).0 }

pub given_by : {W : Type 0} (told : W → Told) (plan : NodePlan W) (agents nodes : ℕ) → IsNewPlan agents nodes plan → AreNewWires told plan.wires.items → 1 < nodes → HasNewWire told
given_by {W} told plan agents nodes new wires many =
    let count : length plan.wires.items ≡ pair_count nodes = new.plan.wires ∙ ap pair_count new.nodes_are in
    given_in told plan.wires.items wires (omega (arith, count, some_pairs nodes many))
