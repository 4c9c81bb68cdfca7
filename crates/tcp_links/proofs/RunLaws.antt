-- A run of nodes, by its start, its rounds and its end.
use Rattle.std.proofs.Common.{◌≡◌, ℕ, ◌&&◌, Bool, Result, Ok, Err, Option, Some, None, List, [], ◌∷◌, length, get_or, slice_get, refl, sym, ap, ap₂, subst, ◌∙◌, inl, inr, arith}
use Rattle.std.specs.Prelude.{IfErr}
use Rattle.std.specs.List.{All, Contains, flat_map}
use Rattle.std.specs.declared.dyn_box.DynBox.{DynBox}
use Rattle.std.specs.declared.alloc.Global.{Global}
use Rattle.std.proofs.lemmas.Option.{none-some, slice_get_within, slice_get-get_or, get_or_from_slice_get}
use Rattle.std.proofs.lemmas.List.{length-map}
use Rattle.std.proofs.lemmas.List.Elements.{All-nil}
use Rattle.protocol_steps.specs.declared.message.Message.{Message as Sent}
use Rattle.protocol_steps.specs.declared.run_end.RunEnd.{RunEnd}
use Rattle.protocol_steps.specs.declared.run_end.RunEnd.TheVariants.{AllEnded, Spent, Still}
use Rattle.protocol_steps.specs.View.{View, ended_of}
use Rattle.worker_laws.specs.Cells.{CellState, IsWired, EachAre}
use Rattle.worker_laws.specs.Visits.{IsStarted, IsQuiet}
use Rattle.worker_laws.specs.CellRounds.{AreStarted, total}
use Rattle.worker_laws.specs.CellRuns.{all_ended, MakesARun}
use Rattle.worker_laws.specs.OneNode.{home}
use Rattle.worker_laws.proofs.EachLaws.{there, each_back}
use Rattle.worker_laws.proofs.VisitLaws.{totals_add}
use Rattle.worker_laws.specs.Wires.{Passage, Wire, IsSame, HasHeld, HaveHeld}
use Rattle.worker_laws.specs.Exchanges.{IsExchange}
use Rattle.worker_laws.specs.NodeRounds.{IsNodeEnd, ArePlayedOver}
use Rattle.worker_laws.specs.NodeRuns.{IsAsInOneNode}
use Rattle.worker_laws.proofs.RunLaws.{nodes_are_one, played_nodes_make_runs}
use Rattle.worker_laws.proofs.StampLaws.{node_stamps_are_few}
use Rattle.agent_cells.specs.declared.cell.Cell.{Cell}
use Rattle.agent_cells.specs.declared.fault.VisitFault.TheVariants.{StampEnd}
use Rattle.agent_cells.specs.State.{state_of}
use Rattle.agent_workers.specs.Joined.{states_of, EachBecomes, IsSameCell, AreCellsJoined}
use Rattle.agent_workers.specs.Settled.{HaveSettled}
use Rattle.agent_workers.specs.Broken.{StandsOrFails}
use Rattle.agent_workers.specs.Run.{views_of, HasStarted, AreDulyPlayed, RestsAtStill}
use Rattle.agent_workers.proofs.ListLaws.{map_back, each_are}
use Rattle.agent_workers.proofs.JoinLaws.{joined_still}
use Rattle.agent_workers.proofs.SettleLaws.{settling}
use Rattle.agent_workers.proofs.RunLaws.{none_taken}
use Rattle.tcp_links.specs.Kept.{AreFedNoted}
use Rattle.tcp_links.proofs.ExchangeLaws.{woven_kept}
use Rattle.tcp_links.proofs.NotedLaws.{all_kept_fed}
use Rattle.tcp_links.specs.declared.fault.Difference.{Difference}
use Rattle.tcp_links.specs.declared.fault.Difference.TheVariants.{Message, Bytes}
use Rattle.tcp_links.specs.declared.fault.NodeFault.{NodeFault}
use Rattle.tcp_links.specs.declared.fault.NodeFault.TheVariants.{Failed, Differs, NoMemory}
use Rattle.tcp_links.specs.declared.plan.NodePlan.{NodePlan}
use Rattle.tcp_links.specs.Plans.{IsPlan, IsNewPlan}
use Rattle.tcp_links.specs.Faults.{IsKeptDifference}
use Rattle.tcp_links.specs.Left.{IsTakenOut}
use Rattle.tcp_links.specs.Linked.{AreLinkedOver}
use Rattle.tcp_links.specs.declared.plan.InnerEnds.{InnerEnds}
use Rattle.tcp_links.specs.Woven.{AreLinksIdle, AreWoven}
use Rattle.tcp_links.specs.Over.{IsPlanOver, HasExchanged, IsExchangeFault, ArePlayedOutOver, HasBrokenOver, ArePlayedTo}
use Rattle.tcp_links.specs.Ends.{AreThere, IsFaultOver, HasHeldOver, HasComeTo, IsLeftBy}
use Rattle.tcp_links.proofs.OverLaws.{map_at, woven_still, ready_unseen, exchange_over}

-- what stands at a place of a list that is so throughout
all_at : {A : Type 0} (P : A → Type 0) (xs : List A) (i : ℕ) (x : A) → All P xs → slice_get xs i ≡ Some x → P x
all_at P xs i x all is = subst P (get_or_from_slice_get xs i x x is) (all i x (slice_get_within xs i x is))

-- what follows of a fault
pub on_err : {T : Type 0} (P Q : NodeFault → Type 0) (r : Result T NodeFault) → ((e : NodeFault) → P e → Q e) → IfErr r P → IfErr r Q
on_err P Q (Ok x) f h = tt
on_err P Q (Err e) f h = f e h

-- a new plan of as many agents and nodes
pub new_as : {W : Type 0} (agents as_many nodes as_few : ℕ) (p : NodePlan W) → as_many ≡ agents → as_few ≡ nodes → IsNewPlan as_many as_few p → IsNewPlan agents nodes p
new_as agents as_many nodes as_few p same alike n = record { plan = n.plan; agents_are = n.agents_are ∙ same; nodes_are = n.nodes_are ∙ alike; no_link = n.no_link }

-- what is told of the same links
pub held_in : (vs ws : List Wire) → vs ≡ ws → HaveHeld vs → HaveHeld ws
held_in vs ws same held = subst HaveHeld same held

pub differs_in : (vs ws : List Wire) (d : Difference) → vs ≡ ws → IsKeptDifference vs d → IsKeptDifference ws d
differs_in vs ws d same differs = subst (λ (xs : List Wire). IsKeptDifference xs d) same differs

-- links that have held do not differ
pub never_differ : (ws : List Wire) (e : Difference) → HaveHeld ws → IsKeptDifference ws e → ⊥
never_differ ws (Bytes round from_node to_node place sent taken) held d = d
never_differ ws (Message from to at sent taken) held d =
    let first = d.first.first in
    let on : HasHeld d.first.wire = all_at HasHeld ws d.link d.first.wire held d.first.is in
    let same : IsSame first.passage = all_at IsSame d.first.wire.passages d.number first.passage on first.is in
    first.differ.differ (ap (λ (es : List (ℕ × Sent)). slice_get es d.place) same)

-- cells that stay quiet end as they ended
still_ended : (now last : List CellState) → EachAre IsQuiet now last → all_ended last ≡ all_ended now
still_ended [] [] q = refl
still_ended [] (y ∷ ys) q = absurd q
still_ended (x ∷ xs) [] q = absurd q
still_ended (x ∷ xs) (y ∷ ys) q = ap₂ (λ (v : View) (b : Bool). ended_of v && b) q.0.viewed (still_ended xs ys q.1)

-- playing that came to its end, with an exchange more and every link inside a node settled once more, where each exchange took just what it sent
module _ (node : ℕ → ℕ) (budget count : ℕ) (made : List View) (begun wires more : List Wire) (started now last : List CellState) (starts : AreStarted made started)
    (end : IsNodeEnd node wires more now last) (held : HaveHeld more) where
  pub duly_over : (answer : RunEnd) → ArePlayedOutOver node budget count begun started wires now answer → AreDulyPlayed budget made last
  duly_over answer p =
      let one : IsAsInOneNode budget started now last p.played.rounds = nodes_are_one node budget started now last p.played.rounds begun wires more p.played.are end held in
      record {
        started = started;
        played = now;
        starts = starts;
        rounds = record { rounds = p.played.rounds; are = one.rounds_are; such = p.played.such };
        quiet = one.quiet;
        settled = one.settled;
      }

  pub still_over : (answer : RunEnd) → ArePlayedOutOver node budget count begun started wires now answer → RestsAtStill budget made last answer
  still_over (AllEnded n) p = record { rest = tt }
  still_over (Spent n) p = record { rest = tt }
  still_over (Still n) p =
      let one : IsAsInOneNode budget started now last p.played.rounds = nodes_are_one node budget started now last p.played.rounds begun wires more p.played.are end held in
      record {
        rest = record {
          duly = record {
            started = started;
            played = now;
            starts = starts;
            rounds = record { rounds = p.played.rounds; are = one.rounds_are; such = p.played.such };
            quiet = one.quiet;
            settled = one.settled;
          };
          idle = p.idle;
          awake = still_ended now last one.quiet ∙ p.stopped.1;
        };
      }

  pub run_over : (answer : RunEnd) → ArePlayedOutOver node budget count begun started wires now answer → MakesARun budget made last answer
  run_over (AllEnded n) p =
      let one : IsAsInOneNode budget started now last p.played.rounds = nodes_are_one node budget started now last p.played.rounds begun wires more p.played.are end held in
      let still = totals_add.quiet now last one.quiet in
      played_nodes_make_runs.ends node budget made begun wires more started now last (AllEnded n) starts (record { rounds = p.played.rounds; are = p.played.are }) end held
      (p.stopped.0 ∙ sym still, still_ended now last one.quiet ∙ p.stopped.1)
  run_over (Spent n) p =
      let one : IsAsInOneNode budget started now last p.played.rounds = nodes_are_one node budget started now last p.played.rounds begun wires more p.played.are end held in
      let still = totals_add.quiet now last one.quiet in
      let spent = p.stopped.2 in
      played_nodes_make_runs.ends node budget made begun wires more started now last (Spent n) starts (record { rounds = p.played.rounds; are = p.played.are }) end held
      (p.stopped.0 ∙ sym still, still_ended now last one.quiet ∙ p.stopped.1, omega (arith, still, spent))
  run_over (Still n) p =
      let one : IsAsInOneNode budget started now last p.played.rounds = nodes_are_one node budget started now last p.played.rounds begun wires more p.played.are end held in
      let still = totals_add.quiet now last one.quiet in
      let idle = p.stopped.2 in
      subst (λ (k : ℕ). MakesARun budget made last (Still k)) (still ∙ sym p.stopped.0)
      (played_nodes_make_runs.rests node budget made begun idle.passed wires more started idle.before now last starts idle.played idle.less idle.round idle.none end held
      (still_ended now last one.quiet ∙ p.stopped.1))

module _ {X : Type 0} {F : X → Type 0} (M : DynBox X Global F → View) where
  same_started : (before after : List (Cell X F)) → EachBecomes (HasStarted M) before after → EachBecomes IsSameCell before after
  same_started before after s = record { size = s.size; each = λ i a b e f. (s.each i a b e f).same }

  -- what has started, as plain values
  pub starts_over : (nodes : ℕ) (before after : List (Cell X F)) → AreCellsJoined M nodes before → EachBecomes (HasStarted M) before after → AreStarted (views_of M before) (states_of M after)
  starts_over nodes before after j s =
      let joined = joined_still M nodes before after j (same_started before after s) in
      record {
        started = each_are IsStarted (λ c. (state_of M c).view) (state_of M) before after s.size (λ i a b e f. (s.each i a b e f).started);
        wired = λ i c e.
            let x = map_back (state_of M) after i c e in
            subst (λ (n : ℕ). IsWired n i c) (sym (length-map after (state_of M))) (subst (λ (y : CellState). IsWired (length after) i y) x.2 (joined.wired i x.0 x.1));
      }

  pub joined_start : (nodes : ℕ) (before after : List (Cell X F)) → AreCellsJoined M nodes before → EachBecomes (HasStarted M) before after → AreCellsJoined M nodes after
  joined_start nodes before after j s = joined_still M nodes before after j (same_started before after s)

  pub none_start : (nodes : ℕ) (before after : List (Cell X F)) → AreCellsJoined M nodes before → EachBecomes (HasStarted M) before after → total (states_of M after) ≡ 0
  none_start nodes before after j s = none_taken (views_of M before) (states_of M after) (starts_over nodes before after j s).started

  -- cells that were played to so many rounds
  there_to : (node : ℕ → ℕ) (budget : ℕ) (begun : List Wire) (started : List CellState) (wires : List Wire) (now : List (Cell X F)) (rounds : ℕ) (end : Option RunEnd)
      → ArePlayedTo M node budget begun started wires now rounds end → AreThere node budget begun started wires (states_of M now) rounds
  there_to node budget begun started wires now rounds (Some answer) p = inl (record { rounds = p.played.rounds; are = p.played.are }, p.played.counted)
  there_to node budget begun started wires now rounds None b = inr (b.stood, b.broken, b.counted)

  -- no run breaks off where stamps end
  pub never_breaks : (node : ℕ → ℕ) (budget count : ℕ) (made : List View) (begun wires more : List Wire) (started : List CellState) (now : List (Cell X F)) (last : List CellState) → AreStarted made started
      → HasBrokenOver M node budget count begun started wires now → IsNodeEnd node wires more (states_of M now) last → HaveHeld more → ⊥
  never_breaks node budget count made begun wires more started now last starts b end held =
      let f = b.failed in
      let s = each_back (StandsOrFails M StampEnd) b.stood now b.came f.place f.cell f.at in
      elim s.2 [
        | inl fine ↦ none-some StampEnd (sym (sym f.is ∙ fine.1))
        | inr own ↦
            let r = own.2.end (own.1 refl) in
            let low = node_stamps_are_few node budget made begun wires more started b.stood (states_of M now) last starts b.broken end held f.place s.0 (state_of M f.cell) r.gains s.1
            (map_at (state_of M) now f.place f.cell f.at) r.senders r.taken in
            let most = low.1 in
            let is = r.last in
            let few = b.few in
            omega (arith, most, is, few)
      ]

  module _ {W : Type 0} where
    linked : (p : NodePlan W) (cells : List (Cell X F)) → IsPlan p → AreLinkedOver M p cells → AreCellsJoined M p.nodes cells → AreWoven M p.nodes p.agents p.kept.items p.ends.items cells
    linked p cells plan l j = record {
      size = l.size;
      ends = plan.ends;
      between = plan.between;
      apart = plan.apart;
      woven = λ k w e from to at_w at_e f t.
          let on = l.leads k w e from to at_w at_e f t in
          let peer = l.peers_are k w from at_w f in
          let wired = j.wired w.sender from f in
          record {
            drains = on.drains;
            feeds = on.feeds;
            sends = peer;
            takes = j.back w.sender w.receiver from to f t (subst (λ (ns : List ℕ). Contains ns w.receiver) wired.both peer);
            kept = record {
              drained = ap (λ (ps : List Passage). flat_map (λ (x : Passage). x.drained) ps) on.unpassed ∙ sym on.untaken;
              arrived = ap (λ (ps : List Passage). flat_map (λ (x : Passage). x.arrived) ps) on.unpassed ∙ sym on.unsent;
            };
          };
      every = l.every;
    }

    -- links on which nothing has passed have noted all
    pub linked_fed : (p : NodePlan W) (cells : List (Cell X F)) → IsPlan p → AreLinkedOver M p cells → AreCellsJoined M p.nodes cells → AreFedNoted p.kept.items p.ends.items
    linked_fed p cells plan l j = all_kept_fed p.kept.items p.ends.items (woven_kept M p.nodes p.agents p.kept.items p.ends.items cells (linked p cells plan l j))

    node_as : (P : (ℕ → ℕ) → Type 0) (p q : NodePlan W) → q.agents ≡ p.agents → q.nodes ≡ p.nodes → P (home q.nodes q.agents) → P (home p.nodes p.agents)
    node_as P p q agents nodes h = subst (λ (n : ℕ). P (home n p.agents)) nodes (subst (λ (n : ℕ). P (home q.nodes n)) agents h)

    -- cells that have started are woven with a plan over which they lead
    pub over_start : (p : NodePlan W) (before after : List (Cell X F)) → IsPlan p → AreLinkedOver M p before → AreCellsJoined M p.nodes before → EachBecomes (HasStarted M) before after → AreLinksIdle (home p.nodes p.agents) p.kept.items p.passings.items
        → p.seen.items ≡ [] → IsPlanOver M p p after
    over_start p before after plan l j s idle unseen = record {
      plan = plan;
      nodes = refl;
      agents = refl;
      woven = woven_still M p.nodes p.agents p.kept.items p.ends.items before after (linked p before plan l j) (same_started before after s);
      ready = ready_unseen M p after idle unseen;
    }

    -- cells that lead over a plan lead over one with the same links
    pub linked_as : (p q : NodePlan W) (cells : List (Cell X F)) → q.agents ≡ p.agents → q.nodes ≡ p.nodes → q.kept.items ≡ p.kept.items → q.ends.items ≡ p.ends.items → AreLinkedOver M p cells → AreLinkedOver M q cells
    linked_as p q cells agents nodes kept ends l = record {
      size = l.size ∙ sym agents;
      leads = λ k w e from to at_w at_e f t. l.leads k w e from to (ap (λ (ws : List Wire). slice_get ws k) (sym kept) ∙ at_w) (ap (λ (es : List InnerEnds). slice_get es k) (sym ends) ∙ at_e) f t;
      peers_are = λ k w from at_w f. l.peers_are k w from (ap (λ (ws : List Wire). slice_get ws k) (sym kept) ∙ at_w) f;
      every = λ i j from f has far.
          let x = l.every i j from f has (λ near. far (ap (λ (n : ℕ). home n q.agents i) nodes ∙ ap (λ (n : ℕ). home p.nodes n i) agents ∙ near ∙ ap (λ (n : ℕ). home p.nodes n j) (sym agents) ∙ ap (λ (n : ℕ). home n q.agents j) (sym nodes))) in
          (x.0, x.1, ap (λ (ws : List Wire). slice_get ws x.0) kept ∙ x.2, x.3, x.4);
    }

    -- what is told of a run over one plan is told over another with the same links
    pub held_as : (budget : ℕ) (made : List View) (p q : NodePlan W) (last : List CellState) → q.agents ≡ p.agents → q.nodes ≡ p.nodes → q.kept.items ≡ p.kept.items → HasHeldOver budget made q last → HasHeldOver budget made p last
    held_as budget made p q last agents nodes kept h = record {
      started = h.started;
      starts = h.starts;
      wires = h.wires;
      now = h.now;
      played = subst (λ (ws : List Wire). ArePlayedOver (home p.nodes p.agents) budget ws h.started h.wires h.now) kept (node_as (λ node. ArePlayedOver node budget q.kept.items h.started h.wires h.now) p q agents nodes h.played);
      passed = h.passed;
      end = node_as (λ node. IsNodeEnd node h.wires h.passed h.now last) p q agents nodes h.end;
      held = h.held;
    }

    come_as : (workers budget : ℕ) (p q : NodePlan W) (left : List Wire) (ends : List InnerEnds) (made last : List (Cell X F)) (e : NodeFault) → q.agents ≡ p.agents → q.nodes ≡ p.nodes → q.kept.items ≡ p.kept.items → HasComeTo M workers budget q made left ends last e → HasComeTo M workers budget p made left ends last e
    come_as workers budget p q left ends made last e agents nodes kept h = record {
      started = h.started;
      starts = h.starts;
      fault = subst (λ (n : ℕ). IsFaultOver M n (home p.nodes p.agents) workers budget p.kept.items h.started left ends last e) nodes
          (subst (λ (ws : List Wire). IsFaultOver M q.nodes (home p.nodes p.agents) workers budget ws h.started left ends last e) kept
          (node_as (λ node. IsFaultOver M q.nodes node workers budget q.kept.items h.started left ends last e) p q agents nodes h.fault));
    }

    pub left_as : (workers budget : ℕ) (p q : NodePlan W) (left : List Wire) (ends : List InnerEnds) (made last : List (Cell X F)) (e : NodeFault) → q.agents ≡ p.agents → q.nodes ≡ p.nodes → q.kept.items ≡ p.kept.items → q.ends.items ≡ p.ends.items → IsLeftBy M workers budget q made left ends last e → IsLeftBy M workers budget p made left ends last e
    left_as workers budget p q left ends made last Failed agents nodes kept same h = come_as workers budget p q left ends made last Failed agents nodes kept h
    left_as workers budget p q left ends made last (Differs d) agents nodes kept same h = come_as workers budget p q left ends made last (Differs d) agents nodes kept h
    left_as workers budget p q left ends made last NoMemory agents nodes kept same (inl n) = inl (record { none = n.none ∙ kept; same = n.same ∙ same; cells = n.cells })
    left_as workers budget p q left ends made last NoMemory agents nodes kept same (inr h) = inr (come_as workers budget p q left ends made last NoMemory agents nodes kept h)

    -- and their links, on which nothing has passed, have held
    pub held_start : (p : NodePlan W) (cells : List (Cell X F)) → IsPlan p → AreLinkedOver M p cells → HaveHeld p.kept.items
    held_start p cells plan l = λ i d lt.
        let w : Wire = get_or p.kept.items i d in
        let at_w : slice_get p.kept.items i ≡ Some w = slice_get-get_or p.kept.items i d lt in
        let between = plan.between i d lt in
        let from_in = between.sender in
        let to_in = between.receiver in
        let size = l.size in
        let alike = plan.ends in
        let e = there p.ends.items i (omega (arith, lt, alike)) in
        let from = there cells w.sender (omega (arith, from_in, size)) in
        let to = there cells w.receiver (omega (arith, to_in, size)) in
        let on = l.leads i w e.0 from.0 to.0 at_w e.1 from.1 to.1 in
        subst (λ (ps : List Passage). All IsSame ps) (sym on.unpassed) (All-nil IsSame)

    -- the last exchange of a run, with every link inside a node settled behind it
    pub end_made : (p q r : NodePlan W) (now ready last : List (Cell X F)) → IsPlanOver M p q now → HasExchanged M q now r ready → HaveSettled M (home r.nodes (length ready)) (length ready) ready last
        → IsNodeEnd (home p.nodes p.agents) q.kept.items r.kept.items (states_of M now) (states_of M last)
    end_made p q r now ready last o x s =
        let nodes : r.nodes ≡ p.nodes = x.over.nodes ∙ o.nodes in
        let agents : length ready ≡ p.agents = x.over.woven.size ∙ x.over.agents ∙ o.agents in
        record {
          ready = states_of M ready;
          exchange = subst (λ (n : ℕ). IsExchange (home n p.agents) q.kept.items r.kept.items (states_of M now) (states_of M ready)) o.nodes
              (subst (λ (n : ℕ). IsExchange (home q.nodes n) q.kept.items r.kept.items (states_of M now) (states_of M ready)) o.agents x.exchange);
          settling = settling M (home p.nodes p.agents) ready last
              (subst (λ (n : ℕ). HaveSettled M (home n p.agents) (length ready) ready last) nodes (subst (λ (n : ℕ). HaveSettled M (home r.nodes n) (length ready) ready last) agents s));
        }

    -- what was new over a plan of as many nodes and agents
    pub new_over : (p q r s : NodePlan W) (now ready : List (Cell X F)) → IsPlanOver M p q now → IsPlanOver M q r ready → IsNewPlan r.agents r.nodes s → IsNewPlan p.agents p.nodes s
    new_over p q r s now ready o x n = record { plan = n.plan; agents_are = n.agents_are ∙ x.agents ∙ o.agents; nodes_are = n.nodes_are ∙ x.nodes ∙ o.nodes; no_link = n.no_link }

    -- a fault that came once all agents had started
    pub left_come : (workers budget : ℕ) (p : NodePlan W) (left : List Wire) (ends : List InnerEnds) (made last : List (Cell X F)) (started : List CellState) (e : NodeFault) → AreStarted (views_of M made) started
        → IsFaultOver M p.nodes (home p.nodes p.agents) workers budget p.kept.items started left ends last e → IsLeftBy M workers budget p made left ends last e
    left_come workers budget p left ends made last started Failed starts f = record { started = started; starts = starts; fault = f }
    left_come workers budget p left ends made last started (Differs d) starts f = record { started = started; starts = starts; fault = f }
    left_come workers budget p left ends made last started NoMemory starts f = inr (record { started = started; starts = starts; fault = f })

    -- what came of playing cells that have started
    module _ (budget rounds : ℕ) (made : List View) (started : List CellState) (p q : NodePlan W) (now : List (Cell X F)) (end : Option RunEnd) (starts : AreStarted made started) (o : IsPlanOver M p q now)
        (played : ArePlayedTo M (home p.nodes p.agents) budget p.kept.items started q.kept.items now rounds end) where
      abbrev node : ℕ → ℕ
      node = home p.nodes p.agents

      played_there : AreThere node budget p.kept.items started q.kept.items (states_of M now) rounds
      played_there = there_to node budget p.kept.items started q.kept.items now rounds end played

      -- a fault that the last exchange came to
      pub fault_last : (workers : ℕ) (r : NodePlan W) (last : List (Cell X F)) (e : NodeFault) → IsExchangeFault M rounds q now r.kept.items last e → IsFaultOver M p.nodes node workers budget p.kept.items started r.kept.items r.ends.items last e
      fault_last workers r last e f = exchange_over M workers budget rounds p.kept.items started p q r now last o played_there e f

      module _ (r : NodePlan W) (ready settled : List (Cell X F)) (x : HasExchanged M q now r ready) (s : HaveSettled M (home r.nodes (length ready)) (length ready) ready settled) where
        abbrev last : List CellState
        last = states_of M settled

        last_end : IsNodeEnd node q.kept.items r.kept.items (states_of M now) last
        last_end = end_made p q r now ready settled o x s

        -- a difference between what was sent and what was taken
        pub differs_kept : (workers : ℕ) (d : Difference) (left : List Wire) → IsKeptDifference r.kept.items d → IsTakenOut d r.kept.items left → IsFaultOver M p.nodes node workers budget p.kept.items started left r.ends.items settled (Differs d)
        differs_kept workers (Bytes round from_node to_node place sent taken) left differs out = absurd differs
        differs_kept workers (Message from to at sent taken) left differs out =
            record { count = rounds; wires = q.kept.items; now = states_of M now; there = played_there; passed = r.kept.items; end = last_end; noted = woven_kept M r.nodes r.agents r.kept.items r.ends.items ready x.over.woven; differs = differs; renewed = out.1 }

        module _ (held : HaveHeld r.kept.items) where
          pub no_break : end ≡ None → ⊥
          no_break is =
              never_breaks node budget rounds made p.kept.items q.kept.items r.kept.items started now last starts
              (subst (λ (a : Option RunEnd). ArePlayedTo M node budget p.kept.items started q.kept.items now rounds a) is played) last_end held

          module _ (answer : RunEnd) (is : end ≡ Some answer) where
            out : ArePlayedOutOver node budget rounds p.kept.items started q.kept.items (states_of M now) answer
            out = subst (λ (a : Option RunEnd). ArePlayedTo M node budget p.kept.items started q.kept.items now rounds a) is played

            pub last_run : MakesARun budget made last answer
            last_run = run_over node budget rounds made p.kept.items q.kept.items r.kept.items started (states_of M now) last starts last_end held answer out

            pub last_duly : AreDulyPlayed budget made last
            last_duly = duly_over node budget rounds made p.kept.items q.kept.items r.kept.items started (states_of M now) last starts last_end held answer out

            pub last_still : RestsAtStill budget made last answer
            last_still = still_over node budget rounds made p.kept.items q.kept.items r.kept.items started (states_of M now) last starts last_end held answer out

            pub last_held : HasHeldOver budget made p last
            last_held = record {
              started = started;
              starts = starts;
              wires = q.kept.items;
              now = states_of M now;
              played = record { rounds = out.played.rounds; are = out.played.are };
              passed = r.kept.items;
              end = last_end;
              held = held;
            }
