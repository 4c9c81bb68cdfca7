-- What the wires of a plan carried, up to the end of a run.
use Rattle.std.proofs.Common.{◌≡◌, ℕ, List, [], ◌++◌, Option, Some, None, Result, Ok, Err, sym, ap, subst, ◌∙◌, arith}
use Rattle.std.specs.Prelude.{IsErrAnd}
use Rattle.std.specs.List.{slice_get, flat_map}
use Rattle.std.specs.declared.dyn_box.DynBox.{DynBox}
use Rattle.std.specs.declared.alloc.Global.{Global}
use Rattle.std.proofs.lemmas.Option.{slice_get_within, get_or_from_slice_get}
use Rattle.protocol_steps.specs.declared.message.Message.{Message}
use Rattle.protocol_steps.specs.declared.run_end.RunEnd.{RunEnd}
use Rattle.protocol_steps.specs.View.{View}
use Rattle.fifo_links.specs.Link.{taken_from}
use Rattle.worker_laws.specs.Cells.{CellState, lane}
use Rattle.worker_laws.specs.OneNode.{home}
use Rattle.worker_laws.specs.Wires.{Wire}
use Rattle.worker_laws.proofs.EachLaws.{there, each_on}
use Rattle.wire_pump.specs.Wire.{Told}
use Rattle.agent_cells.specs.declared.cell.Cell.{Cell}
use Rattle.agent_cells.specs.State.{state_of}
use Rattle.agent_workers.specs.Joined.{states_of, EachBecomes}
use Rattle.agent_workers.specs.Settled.{StaysQuiet}
use Rattle.agent_workers.proofs.ListLaws.{map_back}
use Rattle.node_exchange.specs.Turned.{loads, AreTurnedWith, HaveCarriedFirst}
use Rattle.tcp_links.specs.declared.fault.NodeFault.{NodeFault}
use Rattle.tcp_links.specs.declared.plan.InnerEnds.{InnerEnds}
use Rattle.tcp_links.specs.declared.plan.NodePlan.{NodePlan}
use Rattle.tcp_links.specs.Left.{AreSameEnds, KeepsPlan, pairs_lost_by}
use Rattle.tcp_links.specs.Plans.{IsBetween, IsPlan, IsSamePlan}
use Rattle.tcp_links.specs.Woven.{HaveCaughtUp}
use Rattle.tcp_links.specs.Linked.{AreLinkedOver}
use Rattle.tcp_links.specs.Over.{ArePlayedTo}
use Rattle.tcp_links.specs.Carried.{AreTaken, AreTakenFirst, AreSent, HaveCarriedOver, HaveCarriedTaken, HaveCarriedSent}
use Rattle.tcp_links.proofs.CarriedLaws.{HasSameAgents, AreSameLinks, links_then, links_passed, links_rounds, same_taken, WholeOf}

module _ {X : Type 0} {F : X → Type 0} (M : DynBox X Global F → View) where
  -- playing leaves the agents of links as they are
  pub links_played : (node : ℕ → ℕ) (budget : ℕ) (ws : List Wire) (started : List CellState) (vs : List Wire) (now : List (Cell X F)) (count : ℕ) (end : Option RunEnd) → ArePlayedTo M node budget ws started vs now count end → AreSameLinks ws vs
  links_played node budget ws started vs now count (Some answer) h = links_rounds node budget ws started h.played.rounds vs (states_of M now) h.played.are
  links_played node budget ws started vs now count None h =
      links_then ws h.broken.passed vs (links_rounds node budget ws started h.broken.played.rounds h.broken.passed h.broken.before h.broken.played.are) (links_passed h.broken.passed vs h.broken.exchange.passed)

  -- nothing was taken of links at the start
  untaken : {W : Type 0} (p : NodePlan W) (cells : List (Cell X F)) → IsPlan p → AreLinkedOver M p cells → (k : ℕ) (w : Wire) (e : InnerEnds) → slice_get p.kept.items k ≡ Some w → slice_get p.ends.items k ≡ Some e → taken_from e.drain ≡ []
  untaken p cells plan l k w e at_w at_e =
      let between : IsBetween p.agents p.nodes w = subst (λ (v : Wire). IsBetween p.agents p.nodes v) (get_or_from_slice_get p.kept.items k w w at_w) (plan.between k w (slice_get_within p.kept.items k w at_w)) in
      let from_in = between.sender in
      let to_in = between.receiver in
      let size = l.size in
      let from = there cells w.sender (omega (arith, from_in, size)) in
      let to = there cells w.receiver (omega (arith, to_in, size)) in
      (l.leads k w e from.0 to.0 at_w at_e from.1 to.1).untaken

  -- after a last exchange, what was taken of each link is all that was sent on it
  pub taken_sent : {W : Type 0} (p q : NodePlan W) (begun ready last : List (Cell X F)) (drained : ℕ → List (ℕ × Message)) → IsPlan p → AreLinkedOver M p begun → KeepsPlan p q → AreSameLinks p.kept.items q.kept.items
      → HaveCaughtUp M q.seen.items q.kept.items q.ends.items ready → EachBecomes (StaysQuiet M) ready last → AreTaken p.ends.items q.ends.items drained → AreSent p.kept.items (states_of M last) drained
  taken_sent p q begun ready last drained plan l keeps links told quiet h = λ k w from at_w at_from.
      let inside = slice_get_within p.kept.items k w at_w in
      let alike = plan.ends in
      let a = there p.ends.items k (omega (arith, inside, alike)) in
      let b = each_on AreSameEnds p.ends.items q.ends.items keeps.ends k a.0 a.1 in
      let v = each_on HasSameAgents p.kept.items q.kept.items links k w at_w in
      let c = map_back (state_of M) last w.sender from at_from in
      let within = slice_get_within last w.sender c.0 c.1 in
      let size = quiet.size in
      let d = there ready w.sender (omega (arith, within, size)) in
      ap (λ (xs : List (ℕ × Message)). xs ++ drained k) (sym (untaken p begun plan l k w a.0 at_w a.1))
      ∙ h k a.0 b.0 a.1 b.1
      ∙ told.sent k v.0 b.0 d.0 v.1 b.1 (ap (slice_get ready) v.2.sender ∙ d.1)
      ∙ ap (λ (n : ℕ). lane n (state_of M d.0).sent) v.2.receiver
      ∙ ap (lane w.receiver) (sym (quiet.each w.sender d.0 c.0 d.1 c.1).quiet.sent)
      ∙ ap (λ (s : CellState). lane w.receiver s.sent) c.2

module _ {W : Type 0} (told : W → Told) (is_joined : W → W → Type 0) where
  -- a fault that ends a run
  pub sent_on : {T : Type 0} (S : Type 0) (r : Result T NodeFault) (e : NodeFault) (p q : NodePlan W) (cells : List CellState) → IsErrAnd r (λ x. x ≡ e) → HaveCarriedTaken told is_joined {T = S} p q (Err e) → HaveCarriedSent told is_joined p q cells r
  sent_on S (Ok x) e p q cells h t = absurd h
  sent_on {T = T} S (Err x) e p q cells h t = subst (λ (f : NodeFault). HaveCarriedTaken told is_joined {T = T} p q (Err f)) (sym h) (same_taken told is_joined S T e p q t)

  -- the end of a run, after which the links are gone
  pub sent_last : (p q r : NodePlan W) (cells : List CellState) → r.wires.items ≡ q.wires.items → (h : WholeOf told is_joined p q) → ((drained : ℕ → List (ℕ × Message)) → AreTaken p.ends.items q.ends.items drained → AreSent p.kept.items cells drained)
      → HaveCarriedOver p.nodes (home p.nodes p.agents) p.kept.items (AreSent p.kept.items cells) (λ ls. AreTurnedWith told is_joined 0 ls p.wires.items r.wires.items)
  sent_last p q r cells wires h sent = record {
    exchanges = h.exchanges;
    links = h.links;
    drained = sent _ h.drained;
    carried = subst (λ (ws : List (W × W)). AreTurnedWith told is_joined 0 (flat_map (loads p.nodes) h.exchanges) p.wires.items ws) (sym wires) h.carried;
  }

  -- the same of a plan with the same links and wires
  over_same : (p q : NodePlan W) (Drained : (ℕ → List (ℕ × Message)) → Type 0) (Carried : List (List ℕ × List ℕ) → Type 0) → IsSamePlan p q → HaveCarriedOver q.nodes (home q.nodes q.agents) q.kept.items Drained Carried
      → HaveCarriedOver p.nodes (home p.nodes p.agents) p.kept.items Drained Carried
  over_same p q Drained Carried same h =
      subst (λ (n : ℕ). HaveCarriedOver n (home n p.agents) p.kept.items Drained Carried) same.nodes
      (subst (λ (n : ℕ). HaveCarriedOver q.nodes (home q.nodes n) p.kept.items Drained Carried) same.agents
      (subst (λ (ws : List Wire). HaveCarriedOver q.nodes (home q.nodes q.agents) ws Drained Carried) same.kept h))

  pub sent_same : {T : Type 0} (r : Result T NodeFault) (p q s : NodePlan W) (cells : List CellState) → IsSamePlan p q → HaveCarriedSent told is_joined q s cells r → HaveCarriedSent told is_joined p s cells r
  sent_same (Ok x) p q s cells same h =
      over_same p q (AreSent p.kept.items cells) (λ ls. AreTurnedWith told is_joined 0 ls p.wires.items s.wires.items) same
      (subst (λ (ws : List Wire). HaveCarriedOver q.nodes (home q.nodes q.agents) q.kept.items (AreSent ws cells) (λ ls. AreTurnedWith told is_joined 0 ls p.wires.items s.wires.items)) same.kept
      (subst (λ (xs : List (W × W)). HaveCarriedOver q.nodes (home q.nodes q.agents) q.kept.items (AreSent q.kept.items cells) (λ ls. AreTurnedWith told is_joined 0 ls xs s.wires.items)) same.wires h))
  sent_same {T = T} (Err e) p q s cells same h =
      over_same p q (AreTakenFirst p.ends.items s.ends.items) (λ ls. HaveCarriedFirst told is_joined (pairs_lost_by {T = T} (Err e)) ls p.wires.items s.wires.items) same
      (subst (λ (es : List InnerEnds). HaveCarriedOver q.nodes (home q.nodes q.agents) q.kept.items (AreTakenFirst es s.ends.items) (λ ls. HaveCarriedFirst told is_joined (pairs_lost_by {T = T} (Err e)) ls p.wires.items s.wires.items)) same.ends
      (subst (λ (xs : List (W × W)). HaveCarriedOver q.nodes (home q.nodes q.agents) q.kept.items (AreTakenFirst q.ends.items s.ends.items) (λ ls. HaveCarriedFirst told is_joined (pairs_lost_by {T = T} (Err e)) ls xs s.wires.items)) same.wires h))
