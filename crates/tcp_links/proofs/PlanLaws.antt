-- Plans of nodes: one link more, and the wires of an honest dialer.
use Rattle.std.proofs.Common.{◌≡◌, ◌≢◌, ℕ, zero, suc, ◌+◌, ◌<◌, ◌≤◌, List, [], ◌∷◌, length, refl, sym, ap, subst, ◌∙◌, arith}
use Rattle.std.specs.List.{All, insert, remove}
use Rattle.std.proofs.lemmas.List.Edits.{length-insert}
use Rattle.protocol_steps.specs.declared.message.Message.{Message}
use Rattle.worker_laws.specs.OneNode.{home}
use Rattle.worker_laws.specs.Wires.{Passage, Wire, AreApart}
use Rattle.fifo_links.specs.declared.ends.LinkTail.{LinkTail}
use Rattle.fifo_links.specs.declared.ends.LinkHead.{LinkHead}
use Rattle.fifo_links.specs.Link.{AreEnds, sent_on, taken_from}
use Rattle.link_records.specs.Left.{fresh_link}
use Rattle.wire_pump.specs.Wire.{Told}
use Rattle.wire_pump.specs.Dialer.{TellsNothing}
use Rattle.wire_pump.specs.Pump.{HaveAll}
use Rattle.tcp_links.specs.declared.plan.InnerEnds.{InnerEnds}
use Rattle.tcp_links.specs.declared.plan.NodePlan.{NodePlan}
use Rattle.tcp_links.specs.Plans.{pair_count, IsBetween, AreOrdered, BelongsAt, IsPlan, IsNewLink}
use Rattle.tcp_links.proofs.OrderLaws.{all_insert, ordered_insert, apart_ordered}

-- an item that was inserted is taken out again
pub remove_insert : {X : Type 0} (xs : List X) (i : ℕ) (x : X) → i ≤ length xs → remove (insert xs i x) i ≡ xs
remove_insert [] zero x le = refl
remove_insert (y ∷ ys) zero x le = refl
remove_insert [] (suc i) x le = absurd (omega (arith, le))
remove_insert (y ∷ ys) (suc i) x le = ap (λ (zs : List _). y ∷ zs) (remove_insert ys i x (omega (arith, le)))

-- wires on which nothing was sent have received all
pub nothing_all : (a b : Told) → TellsNothing a → TellsNothing b → HaveAll a b
nothing_all a b s t = record {
  there = record { text = []; sent = s.sent; received = t.received };
  back = record { text = []; sent = t.sent; received = s.received };
}

same_wire : (w : Wire) (from to : ℕ) → w.sender ≡ from → w.receiver ≡ to → w.passages ≡ [] → w ≡ record { receiver = to; sender = from; passages = [] }
same_wire w from to s r p =
    ap (λ (k : ℕ). let v : Wire = record { receiver = k; sender = w.sender; passages = w.passages } in v) r
    ∙ ap (λ (k : ℕ). let v : Wire = record { receiver = to; sender = k; passages = w.passages } in v) s
    ∙ ap (λ (ps : List Passage). let v : Wire = record { receiver = to; sender = from; passages = ps } in v) p

-- a plan that is the same in all its parts
pub same_plan : {W : Type 0} (p q : NodePlan W) → IsPlan p → q.kept.items ≡ p.kept.items → q.ends.items ≡ p.ends.items → q.agents ≡ p.agents → q.nodes ≡ p.nodes → q.wires.items ≡ p.wires.items → IsPlan q
same_plan p q plan kept ends agents nodes wires = record {
  agents = subst (λ (n : ℕ). (0 < n) × (n ≤ 1000)) (sym agents) plan.agents;
  nodes = subst (λ (n : ℕ). (0 < n) × (n ≤ 8)) (sym nodes) plan.nodes;
  wires = ap length wires ∙ plan.wires ∙ ap pair_count (sym nodes);
  ends = ap length ends ∙ plan.ends ∙ ap length (sym kept);
  between = subst (λ (ws : List Wire). All (IsBetween q.agents q.nodes) ws) (sym kept)
      (subst (λ (n : ℕ). All (IsBetween n q.nodes) p.kept.items) (sym agents) (subst (λ (n : ℕ). All (IsBetween p.agents n) p.kept.items) (sym nodes) plan.between));
  apart = subst (λ (ws : List Wire). AreApart ws) (sym kept) plan.apart;
  ordered = subst (λ (ws : List Wire). AreOrdered ws) (sym kept) plan.ordered;
}

module _ {W : Type 0} (p q : NodePlan W) (from to place : ℕ) (w : Wire) (inner : InnerEnds) (sender : w.sender ≡ from) (receiver : w.receiver ≡ to) (fresh : w.passages ≡ []) (at : BelongsAt p.kept.items from to place)
    (kept : q.kept.items ≡ insert p.kept.items place w) (ends : q.ends.items ≡ insert p.ends.items place inner) (agents : q.agents ≡ p.agents) (nodes : q.nodes ≡ p.nodes) (wires : q.wires.items ≡ p.wires.items) where
  kept_fresh : q.kept.items ≡ insert p.kept.items place (fresh_link from to)
  kept_fresh = kept ∙ ap (λ (v : Wire). insert p.kept.items place v) (same_wire w from to sender receiver fresh)

  pub linked_plan : IsPlan p → (from < p.agents) × (to < p.agents) → home p.nodes p.agents from ≢ home p.nodes p.agents to → IsPlan q
  linked_plan plan inside apart =
      let between : IsBetween p.agents p.nodes (fresh_link from to) = record { sender = inside.0; receiver = inside.1; apart = apart } in
      let all : All (IsBetween p.agents p.nodes) q.kept.items = subst (λ (ws : List Wire). All (IsBetween p.agents p.nodes) ws) (sym kept_fresh) (all_insert (IsBetween p.agents p.nodes) p.kept.items place (fresh_link from to) plan.between between) in
      let ordered : AreOrdered q.kept.items = subst (λ (ws : List Wire). AreOrdered ws) (sym kept_fresh) (ordered_insert p.kept.items from to place plan.ordered at) in
      let alike = plan.ends in
      let in_kept = at.inside in
      let long : length q.kept.items ≡ length p.kept.items + 1 = ap length kept ∙ length-insert p.kept.items place w in_kept in
      let longer : length q.ends.items ≡ length p.ends.items + 1 = ap length ends ∙ length-insert p.ends.items place inner (omega (arith, in_kept, alike)) in
      record {
        agents = subst (λ (n : ℕ). (0 < n) × (n ≤ 1000)) (sym agents) plan.agents;
        nodes = subst (λ (n : ℕ). (0 < n) × (n ≤ 8)) (sym nodes) plan.nodes;
        wires = ap length wires ∙ plan.wires ∙ ap pair_count (sym nodes);
        ends = omega (arith, alike, long, longer);
        between = subst (λ (n : ℕ). All (IsBetween n q.nodes) q.kept.items) (sym agents) (subst (λ (n : ℕ). All (IsBetween p.agents n) q.kept.items) (sym nodes) all);
        apart = apart_ordered q.kept.items ordered;
        ordered = ordered;
      }

  pub new_link : (tail : LinkTail (ℕ × Message)) (head : LinkHead (ℕ × Message)) → AreEnds tail inner.drain → AreEnds inner.feed head
      → (sent_on tail ≡ []) × (sent_on inner.feed ≡ []) → (taken_from inner.drain ≡ []) × (taken_from head ≡ []) → IsNewLink p from to tail head q
  new_link tail head drains feeds unsent untaken = record {
    place = place;
    ends = inner;
    at = at;
    kept_is = kept_fresh;
    ends_is = ends;
    drains = drains;
    feeds = feeds;
    unsent = unsent;
    untaken = untaken;
    same = (agents, nodes, wires);
  }
