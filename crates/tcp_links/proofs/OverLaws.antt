-- Playing cells over a plan of nodes, round by round.
use Rattle.std.proofs.Common.{◌≡◌, ℕ, ◌+◌, ◌*◌, ◌<◌, ◌≤◌, false, Result, Ok, Err, Option, Some, None, List, [], ◌∷◌, ◌++◌, zero, suc, length, map, refl, sym, ap, subst, ◌∙◌, inl, inr, arith}
use Rattle.std.specs.Prelude.{OnOk, IfErr, IsErrAnd}
use Rattle.std.specs.List.{Contains, slice_get}
use Rattle.std.specs.declared.dyn_box.DynBox.{DynBox}
use Rattle.std.specs.declared.alloc.Global.{Global}
use Rattle.std.proofs.Math.Nat.{mul-le-mul_right}
use Rattle.std.proofs.lemmas.Option.{none-some, same_Some}
use Rattle.std.proofs.lemmas.List.{length-map, length-append}
use Rattle.std.proofs.lemmas.List.Elements.{All-nil}
use Rattle.dcop_base.specs.Limits.{variable_limit, budget_limit}
use Rattle.protocol_steps.specs.declared.run_end.RunEnd.{RunEnd}
use Rattle.protocol_steps.specs.View.{View}
use Rattle.protocol_steps.specs.Rounds.{most_events}
use Rattle.protocol_steps.specs.Stamps.{Deed}
use Rattle.worker_laws.specs.Acts.{IsLater, entry_of, journal_of}
use Rattle.worker_laws.specs.Sprints.{IsSprint}
use Rattle.worker_laws.specs.Cells.{CellState, peers, lane, EachAre}
use Rattle.worker_laws.specs.Visits.{IsFrom, IsQuiet}
use Rattle.worker_laws.specs.CellRounds.{total}
use Rattle.worker_laws.specs.CellRuns.{all_ended}
use Rattle.worker_laws.specs.OneNode.{home, IsPartRound}
use Rattle.worker_laws.specs.StampCounts.{IsMoved}
use Rattle.worker_laws.proofs.LaneLaws.{grown_none}
use Rattle.worker_laws.proofs.EachLaws.{each_long, each_on}
use Rattle.worker_laws.proofs.VisitLaws.{totals_add}
use Rattle.worker_laws.specs.Wires.{Wire}
use Rattle.worker_laws.specs.Exchanges.{IsExchange}
use Rattle.worker_laws.specs.NodeRounds.{IsNodeRound, AreNodeRounds, ArePlayedOver}
use Rattle.worker_laws.specs.NodeStamps.{HasOnlyTaken}
use Rattle.worker_laws.proofs.RoundLaws.{node_rounds_push}
use Rattle.agent_cells.specs.declared.cell.Cell.{Cell}
use Rattle.agent_cells.specs.declared.fault.VisitFault.{VisitFault}
use Rattle.agent_cells.specs.declared.fault.VisitFault.TheVariants.{StampEnd}
use Rattle.agent_cells.specs.State.{state_of, fault_in, tails_in, heads_in}
use Rattle.agent_workers.specs.Joined.{states_of, EachIs, EachBecomes, IsSameCell, AreCellsJoined}
use Rattle.agent_workers.specs.Settled.{StaysQuiet}
use Rattle.agent_workers.specs.Turns.{sprint_limit, SomeFailed}
use Rattle.agent_workers.specs.Broken.{StandsOrFails, ArePartlyPlayed}
use Rattle.agent_workers.specs.Run.{AreBusy, AreDue, EndIdle}
use Rattle.agent_workers.proofs.ListLaws.{one_at}
use Rattle.agent_workers.proofs.JoinLaws.{stood, sent_peers, taken_peers, quiet_same, joined_still}
use Rattle.tcp_links.specs.declared.fault.Difference.TheVariants.{Message, Bytes}
use Rattle.tcp_links.specs.declared.fault.NodeFault.{NodeFault}
use Rattle.tcp_links.specs.declared.fault.NodeFault.TheVariants.{Failed, Differs, NoMemory}
use Rattle.tcp_links.specs.declared.plan.InnerEnds.{InnerEnds}
use Rattle.tcp_links.specs.declared.plan.NodePlan.{NodePlan}
use Rattle.tcp_links.specs.Faults.{HasNodeCause}
use Rattle.tcp_links.specs.Woven.{AreLinksIdle, SentWasDrained, FedWasTaken, HaveCaughtUp, AreWoven}
use Rattle.tcp_links.specs.Over.{IsDrainedOf, AreReadyToExchange, IsPlanOver, HasExchanged, IsExchangeFault, IsRoundFault, ArePlayedSo, IsIdleOver, ArePlayedOutOver, HasBrokenOver, HasRoundOver, HasBrokenRound, ArePlayedTo}
use Rattle.node_exchange.specs.Faults.{IsByteBetween}
use Rattle.node_exchange.specs.Passings.{Passing}
use Rattle.tcp_links.specs.Broken.{IsLostExchange}
use Rattle.tcp_links.specs.Ends.{AreThere, HasLostOver, HasOtherByte, IsFaultOver}
use Rattle.tcp_links.proofs.DrainLaws.{tail_still, head_none}
use Rattle.tcp_links.proofs.FeedLaws.{heads_still}
use Rattle.tcp_links.proofs.PlanLaws.{same_plan}
use Rattle.tcp_links.proofs.ExchangeLaws.{idle_slices}

-- a fault that is passed on
pub err_on : {T : Type 0} (r : Result T NodeFault) (e : NodeFault) (P : NodeFault → Type 0) → IsErrAnd r (λ x. x ≡ e) → P e → IfErr r P
err_on (Ok x) e P h p = tt
err_on (Err x) e P h p = subst P (sym h) p

pub nothing_on : {T : Type 0} (r : Result T NodeFault) (e : NodeFault) (P : Type 0) → IsErrAnd r (λ x. x ≡ e) → OnOk r P
nothing_on (Ok x) e P h = absurd h
nothing_on (Err x) e P h = tt

-- the cause of a fault, whatever was asked for
same_cause : (S T : Type 0) (old new : ℕ) (e : NodeFault) → HasNodeCause {T = S} old new (Err e) → HasNodeCause {T = T} old new (Err e)
same_cause S T old new Failed h = h
same_cause S T old new (Differs d) h = h
same_cause S T old new NoMemory h = h

-- and behind calls that left the count as it was
pub cause_on : {T : Type 0} (S : Type 0) (first old new : ℕ) (r : Result T NodeFault) (e : NodeFault) → old ≡ first → IsErrAnd r (λ x. x ≡ e) → HasNodeCause {T = S} old new (Err e) → HasNodeCause first new r
cause_on S first old new (Ok x) e same h cause = absurd h
cause_on {T = T} S first old new (Err x) e same h cause =
    subst (λ (f : NodeFault). HasNodeCause {T = T} first new (Err f)) (sym h) (subst (λ (n : ℕ). HasNodeCause {T = T} n new (Err e)) same (same_cause S T old new e cause))

-- one round more
busy_push : (node : ℕ → ℕ) (budget : ℕ) (begun : List Wire) (a : List CellState) (rounds : List (List CellState)) (wires : List Wire) (b c : List CellState)
    → AreNodeRounds node budget begun a rounds wires b → AreBusy a rounds → all_ended b ≡ false → total b < total c → AreBusy a (rounds ++ c ∷ [])
busy_push node budget begun a [] wires b c are busy awake more = subst (λ (cells : List CellState). AreBusy cells (c ∷ [])) (sym are.1) (awake, more, tt)
busy_push node budget begun a (next ∷ rounds) wires b c are busy awake more = (busy.0, busy.1, busy_push node budget are.1.0 next rounds wires b c are.1.2 busy.2 awake more)

due_push : (node : ℕ → ℕ) (budget : ℕ) (begun : List Wire) (a : List CellState) (rounds : List (List CellState)) (wires : List Wire) (b c : List CellState)
    → AreNodeRounds node budget begun a rounds wires b → AreBusy a rounds → all_ended b ≡ false → AreDue a (rounds ++ c ∷ [])
due_push node budget begun a [] wires b c are busy awake = subst (λ (cells : List CellState). AreDue cells (c ∷ [])) (sym are.1) (awake, (λ some. absurd (some refl)), tt)
due_push node budget begun a (next ∷ rounds) wires b c are busy awake = (busy.0, (λ _. busy.1), due_push node budget are.1.0 next rounds wires b c are.1.2 busy.2 awake)

-- one round more, which took nothing
idle_push : (node : ℕ → ℕ) (budget : ℕ) (begun : List Wire) (a : List CellState) (rounds : List (List CellState)) (wires : List Wire) (b c : List CellState)
    → AreNodeRounds node budget begun a rounds wires b → total c ≡ total b → EndIdle a (rounds ++ c ∷ [])
idle_push node budget begun a [] wires b c are none = none ∙ ap total (sym are.1)
idle_push node budget begun a (next ∷ []) wires b c are none = idle_push node budget are.1.0 next [] wires b c are.1.2 none
idle_push node budget begun a (next ∷ (later ∷ rounds)) wires b c are none = idle_push node budget are.1.0 next (later ∷ rounds) wires b c are.1.2 none

due_busy : (a : List CellState) (rounds : List (List CellState)) → AreBusy a rounds → AreDue a rounds
due_busy a [] busy = tt
due_busy a (next ∷ rounds) busy = (busy.0, (λ _. busy.1), due_busy next rounds busy.2)

pub none_over : (node : ℕ → ℕ) (budget : ℕ) (wires : List Wire) (cells : List CellState) → ArePlayedSo node budget AreBusy 0 wires cells wires cells
none_over node budget wires cells = record { rounds = []; are = (refl, refl); such = tt; counted = refl }

pub all_over : (node : ℕ → ℕ) (budget count : ℕ) (begun : List Wire) (started : List CellState) (wires : List Wire) (now : List CellState)
    → ArePlayedSo node budget AreBusy count begun started wires now → ArePlayedSo node budget AreDue count begun started wires now
all_over node budget count begun started wires now p = record { rounds = p.rounds; are = p.are; such = due_busy started p.rounds p.such; counted = p.counted }

pub plainly_over : (node : ℕ → ℕ) (budget count : ℕ) (Such : List CellState → List (List CellState) → Type 0) (begun : List Wire) (started : List CellState) (wires : List Wire) (now : List CellState)
    → ArePlayedSo node budget Such count begun started wires now → ArePlayedOver node budget begun started wires now
plainly_over node budget count Such begun started wires now p = record { rounds = p.rounds; are = p.are }

-- what stands at a place of a mapped list
pub map_at : {A B : Type 0} (f : A → B) (xs : List A) (i : ℕ) (x : A) → slice_get xs i ≡ Some x → slice_get (map f xs) i ≡ Some (f x)
map_at f [] i x e = absurd (none-some x e)
map_at f (y ∷ xs) zero x e = ap (λ (z : _). Some (f z)) (same_Some y x e)
map_at f (y ∷ xs) (suc i) x e = map_at f xs i x e

-- a cell whose journal is as long as before has sent and taken nothing
later_rests : (a : CellState) (ds : List Deed) (b : CellState) → IsLater a ds b → length b.journal ≡ length a.journal → (b.sent ≡ a.sent) × (b.taken ≡ a.taken)
later_rests a [] b later same = (later.sent ∙ grown_none a.sent, later.taken ∙ grown_none a.taken)
later_rests a (d ∷ ds) b later same =
    let long : length b.journal ≡ length a.journal + length (journal_of (d ∷ ds)) = ap length later.noted ∙ length-append a.journal (journal_of (d ∷ ds)) in
    let many : length (journal_of (d ∷ ds)) ≡ suc (length ds) = length-map (d ∷ ds) entry_of in
    absurd (omega (arith, long, many, same))

module _ {X : Type 0} {F : X → Type 0} (M : DynBox X Global F → View) where
  -- where a round left a cell's journal as long as it was, the cell has sent and taken nothing in it
  cell_rests : (node : ℕ → ℕ) (before after : List (Cell X F)) → IsPartRound node (states_of M before) (states_of M after) → (i : ℕ) (a b : Cell X F) → slice_get before i ≡ Some a → slice_get after i ≡ Some b
      → length (state_of M b).journal ≡ length (state_of M a).journal → ((state_of M b).sent ≡ (state_of M a).sent) × ((state_of M b).taken ≡ (state_of M a).taken)
  cell_rests node before after r i a b at_a at_b same =
      let settled = each_on IsQuiet (states_of M before) r.middle r.settling.quiet i (state_of M a) (map_at (state_of M) before i a at_a) in
      let played = each_on (IsSprint most_events) r.middle (states_of M after) r.sprints i settled.0 settled.1 in
      let is : played.0 ≡ state_of M b = one_at (states_of M after) i played.0 (state_of M b) played.1 (map_at (state_of M) after i b at_b) in
      let sprint : IsSprint most_events settled.0 (state_of M b) = subst (λ (s : CellState). IsSprint most_events settled.0 s) is played.2 in
      let rests = later_rests settled.0 sprint.deeds (state_of M b) sprint.later (same ∙ sym (ap length settled.2.noted)) in
      (rests.0 ∙ settled.2.sent, rests.1 ∙ settled.2.taken)

  module _ (node : ℕ → ℕ) (seen : List ℕ) (ws : List Wire) (es : List InnerEnds) (before after : List (Cell X F)) (told : HaveCaughtUp M seen ws es before) (same : EachBecomes IsSameCell before after)
      (round : IsPartRound node (states_of M before) (states_of M after)) where
    -- a cell whose journal is as long as was noted has sent and taken nothing since
    noted_rests : (i : ℕ) (b : Cell X F) → slice_get after i ≡ Some b → slice_get seen i ≡ Some (length (state_of M b).journal)
        → (a : Cell X F) × (slice_get before i ≡ Some a) × ((state_of M b).sent ≡ (state_of M a).sent) × ((state_of M b).taken ≡ (state_of M a).taken)
    noted_rests i b at noted =
        let a = stood M IsSameCell before after same i b at in
        let was : slice_get seen i ≡ Some (length (state_of M a.0).journal) = ap (λ (ns : List ℕ). slice_get ns i) told.noted ∙ map_at (λ (c : Cell X F). length (state_of M c).journal) before i a.0 a.1 in
        let long : length (state_of M b).journal ≡ length (state_of M a.0).journal = same_Some (length (state_of M b).journal) (length (state_of M a.0).journal) (sym noted ∙ was) in
        let rests = cell_rests node before after round i a.0 b a.1 at long in
        (a.0, a.1, rests.0, rests.1)

    -- so what was told behind the exchange is still right
    sent_on_so : SentWasDrained M seen ws es after
    sent_on_so = record {
      each = λ k w e b at_w at_e at noted.
          let a = noted_rests w.sender b at noted in
          told.sent k w e a.0 at_w at_e a.1 ∙ ap (lane w.receiver) (sym a.2);
    }

    taken_on_so : FedWasTaken M seen ws es after
    taken_on_so = record {
      each = λ k w e b at_w at_e at noted none.
          let a = noted_rests w.receiver b at noted in
          ap (lane w.sender) a.3 ∙ told.fed k w e a.0 at_w at_e a.1 none;
    }

  -- links stay woven with cells that keep theirs
  pub woven_still : (nodes agents : ℕ) (ws : List Wire) (es : List InnerEnds) (before after : List (Cell X F)) → AreWoven M nodes agents ws es before → EachBecomes IsSameCell before after
      → AreWoven M nodes agents ws es after
  woven_still nodes agents ws es before after w s = record {
    size = s.size ∙ w.size;
    ends = w.ends;
    between = w.between;
    apart = w.apart;
    woven = λ k v e from to at_v at_e f t.
        let a = stood M IsSameCell before after s v.sender from f in
        let b = stood M IsSameCell before after s v.receiver to t in
        let old = w.woven k v e a.0 b.0 at_v at_e a.1 b.1 in
        record {
          drains = tail_still (tails_in a.0) (tails_in from) v.receiver e.drain e.drain old.drains a.2.links.tails (head_none e.drain);
          feeds = heads_still (heads_in b.0) (heads_in to) v.sender e.feed old.feeds b.2.links.heads;
          sends = subst (λ (ns : List ℕ). Contains ns v.receiver) (sym (sent_peers M a.0 from a.2)) old.sends;
          takes = subst (λ (ns : List ℕ). Contains ns v.sender) (sym (taken_peers M b.0 to b.2)) old.takes;
          kept = old.kept;
        };
    every = λ i j from f has apart.
        let a = stood M IsSameCell before after s i from f in
        w.every i j a.0 a.1 (subst (λ (ns : List ℕ). Contains ns j) (sent_peers M a.0 from a.2) has) apart;
  }

  -- cells that stay quiet have not failed
  pub fine_quiet : (before after : List (Cell X F)) → EachBecomes (StaysQuiet M) before after → EachIs (λ c. fault_in c ≡ None) before → EachIs (λ c. fault_in c ≡ None) after
  fine_quiet before after q fine = record { each = λ i b is. let a = stood M (StaysQuiet M) before after q i b is in a.2.fault ∙ fine.each i a.0 a.1 }

  pub joined_quiet : (nodes : ℕ) (before after : List (Cell X F)) → AreCellsJoined M nodes before → EachBecomes (StaysQuiet M) before after → AreCellsJoined M nodes after
  joined_quiet nodes before after j q = joined_still M nodes before after j (quiet_same M before after q)

  only_taken : (s : CellState) (c : Cell X F) → StandsOrFails M StampEnd s c → HasOnlyTaken s (state_of M c)
  only_taken s c (inl e) = record {
    gains = [];
    senders = All-nil (IsFrom (peers s.taken));
    taken = ap (λ (t : CellState). t.taken) e.0 ∙ sym (grown_none s.taken);
    sent = ap (λ (t : CellState). t.sent) e.0;
  }
  only_taken s c (inr f) = let r = f.2.end (f.1 refl) in record { gains = r.gains; senders = r.senders; taken = r.taken; sent = r.sent }

  each_only : (ss : List CellState) (cells : List (Cell X F)) → EachAre (StandsOrFails M StampEnd) ss cells → EachAre HasOnlyTaken ss (states_of M cells)
  each_only [] [] h = tt
  each_only [] (c ∷ cells) h = absurd h
  each_only (s ∷ ss) [] h = absurd h
  each_only (s ∷ ss) (c ∷ cells) h = (only_taken s c h.0, each_only ss cells h.1)

  -- so it is where more may have failed
  fewer : (most workers : ℕ) → most ≤ workers → {fault : VisitFault} {ready : List CellState} {now : List (Cell X F)} → ArePartlyPlayed M fault IsMoved sprint_limit most ready now → ArePartlyPlayed M fault IsMoved sprint_limit workers ready now
  fewer most workers le p = let few = p.few in record { stood = p.stood; gone = p.gone; most = p.most; came = p.came; few = omega (arith, few, le) }

  -- playing that has ended, as it is told
  pub ended_to : (node : ℕ → ℕ) (budget : ℕ) (begun : List Wire) (started : List CellState) (wires : List Wire) (now : List (Cell X F)) (count rounds : ℕ) (answer : RunEnd) (end : Option RunEnd)
      → (rounds ≡ count) × (end ≡ Some answer) → ArePlayedOutOver node budget count begun started wires (states_of M now) answer → ArePlayedTo M node budget begun started wires now rounds end
  ended_to node budget begun started wires now count rounds answer end is p =
      subst (λ (e : Option RunEnd). ArePlayedTo M node budget begun started wires now rounds e) (sym is.1)
      (subst (λ (n : ℕ). ArePlayedOutOver node budget n begun started wires (states_of M now) answer) (sym is.0) p)

  pub broken_to : (node : ℕ → ℕ) (budget : ℕ) (begun : List Wire) (started : List CellState) (wires : List Wire) (now : List (Cell X F)) (count rounds : ℕ) (end : Option RunEnd)
      → (rounds ≡ count) × (end ≡ None) → HasBrokenOver M node budget count begun started wires now → ArePlayedTo M node budget begun started wires now rounds end
  broken_to node budget begun started wires now count rounds end is b =
      subst (λ (e : Option RunEnd). ArePlayedTo M node budget begun started wires now rounds e) (sym is.1)
      (subst (λ (n : ℕ). HasBrokenOver M node budget n begun started wires now) (sym is.0) b)

  module _ {W : Type 0} where
    woven_as : (q r : NodePlan W) (cells : List (Cell X F)) → r.kept.items ≡ q.kept.items → r.ends.items ≡ q.ends.items → r.agents ≡ q.agents → r.nodes ≡ q.nodes → AreWoven M q.nodes q.agents q.kept.items q.ends.items cells
        → AreWoven M r.nodes r.agents r.kept.items r.ends.items cells
    woven_as q r cells kept ends agents nodes w =
        subst (λ (n : ℕ). AreWoven M n r.agents r.kept.items r.ends.items cells) (sym nodes)
        (subst (λ (n : ℕ). AreWoven M q.nodes n r.kept.items r.ends.items cells) (sym agents)
        (subst (λ (ws : List Wire). AreWoven M q.nodes q.agents ws r.ends.items cells) (sym kept) (subst (λ (es : List InnerEnds). AreWoven M q.nodes q.agents q.kept.items es cells) (sym ends) w)))

    idle_as : (q r : NodePlan W) → r.kept.items ≡ q.kept.items → r.passings.items ≡ q.passings.items → r.agents ≡ q.agents → r.nodes ≡ q.nodes → AreLinksIdle (home q.nodes q.agents) q.kept.items q.passings.items
        → AreLinksIdle (home r.nodes r.agents) r.kept.items r.passings.items
    idle_as q r kept passings agents nodes i =
        subst (λ (n : ℕ). AreLinksIdle (home n r.agents) r.kept.items r.passings.items) (sym nodes)
        (subst (λ (n : ℕ). AreLinksIdle (home q.nodes n) r.kept.items r.passings.items) (sym agents) (idle_slices (home q.nodes q.agents) q.kept.items r.kept.items q.passings.items r.passings.items kept passings i))

    -- where nothing was noted, nothing is told
    pub ready_unseen : (p : NodePlan W) (cells : List (Cell X F)) → AreLinksIdle (home p.nodes p.agents) p.kept.items p.passings.items → p.seen.items ≡ [] → AreReadyToExchange M (home p.nodes p.agents) p cells
    ready_unseen p cells idle unseen = record {
      idle = idle;
      sent = record { each = λ k w e b at_w at_e at noted. absurd (none-some (length (state_of M b).journal) (ap (λ (ns : List ℕ). slice_get ns w.sender) (sym unseen) ∙ noted)) };
      fed = record { each = λ k w e b at_w at_e at noted none. absurd (none-some (length (state_of M b).journal) (ap (λ (ns : List ℕ). slice_get ns w.receiver) (sym unseen) ∙ noted)) };
    }

    pub over_self : (p q : NodePlan W) (cells : List (Cell X F)) → IsPlanOver M p q cells → IsPlanOver M q q cells
    over_self p q cells o = record { plan = o.plan; nodes = refl; agents = refl; woven = o.woven; ready = o.ready }

    pub over_then : (p q r : NodePlan W) (now next : List (Cell X F)) → IsPlanOver M p q now → IsPlanOver M q r next → IsPlanOver M p r next
    over_then p q r now next o n = record { plan = n.plan; nodes = n.nodes ∙ o.nodes; agents = n.agents ∙ o.agents; woven = n.woven; ready = n.ready }

    -- what was told of links behind an exchange is still right behind the round
    pub over_played : (p q : NodePlan W) (cells before after : List (Cell X F)) → HasExchanged M p cells q before → EachBecomes IsSameCell before after → IsPartRound (home q.nodes (length before)) (states_of M before) (states_of M after)
        → IsPlanOver M p q after
    over_played p q cells before after x same round = record {
      plan = x.over.plan;
      nodes = x.over.nodes;
      agents = x.over.agents;
      woven = woven_still q.nodes q.agents q.kept.items q.ends.items before after x.over.woven same;
      ready = record {
        idle = x.over.ready.idle;
        sent = sent_on_so (home q.nodes (length before)) q.seen.items q.kept.items q.ends.items before after x.told same round;
        fed = taken_on_so (home q.nodes (length before)) q.seen.items q.kept.items q.ends.items before after x.told same round;
      };
    }

    -- so it is where nothing more is told
    pub over_forgot : (p q r : NodePlan W) (cells before after : List (Cell X F)) → HasExchanged M p cells q before → EachBecomes IsSameCell before after → r.agents ≡ q.agents → r.nodes ≡ q.nodes → r.wires.items ≡ q.wires.items → r.kept.items ≡ q.kept.items
        → r.ends.items ≡ q.ends.items → r.passings.items ≡ q.passings.items → r.seen.items ≡ [] → IsPlanOver M p r after
    over_forgot p q r cells before after x same agents nodes wires kept ends passings unseen = record {
      plan = same_plan q r x.over.plan kept ends agents nodes wires;
      nodes = nodes ∙ x.over.nodes;
      agents = agents ∙ x.over.agents;
      woven = woven_as q r after kept ends agents nodes (woven_still q.nodes q.agents q.kept.items q.ends.items before after x.over.woven same);
      ready = ready_unseen r after (idle_as q r kept passings agents nodes x.over.ready.idle) unseen;
    }

    -- cells joined by as many nodes
    pub joined_over : (p q : NodePlan W) (cells : List (Cell X F)) → q.nodes ≡ p.nodes → AreCellsJoined M p.nodes cells → AreCellsJoined M q.nodes cells
    joined_over p q cells same j = subst (λ (n : ℕ). AreCellsJoined M n cells) (sym same) j

    pub joined_back : (p q : NodePlan W) (cells : List (Cell X F)) → q.nodes ≡ p.nodes → AreCellsJoined M q.nodes cells → AreCellsJoined M p.nodes cells
    joined_back p q cells same j = subst (λ (n : ℕ). AreCellsJoined M n cells) same j

    -- what tells of the nodes of one plan tells of those of another with as many
    as_there : (P : (ℕ → ℕ) → Type 0) (p q : NodePlan W) (cells : List (Cell X F)) → IsPlanOver M p q cells → P (home q.nodes q.agents) → P (home p.nodes p.agents)
    as_there P p q cells o h = subst (λ (n : ℕ). P (home n p.agents)) o.nodes (subst (λ (n : ℕ). P (home q.nodes n)) o.agents h)

    -- a round, by its exchange and what was played behind it
    pub round_made : (before after : NodePlan W) (cells ready now : List (Cell X F)) (count : ℕ) → HasExchanged M before cells after ready → EachBecomes (StaysQuiet M) cells ready
        → IsPartRound (home after.nodes (length ready)) (states_of M ready) (states_of M now) → total (states_of M now) ≡ total (states_of M ready) + count → count ≤ length ready * sprint_limit
        → EachIs (λ c. fault_in c ≡ None) now → HasRoundOver M before cells after now count
    round_made before after cells ready now count x quiet round counted most fine =
        let size : length ready ≡ after.agents = x.over.woven.size in
        let still : total (states_of M ready) ≡ total (states_of M cells) = totals_add.quiet (states_of M cells) (states_of M ready) x.exchange.quiet in
        let long : length ready ≡ length cells = quiet.size in
        record {
          round = record {
            ready = states_of M ready;
            exchange = x.exchange;
            round = as_there (λ node. IsPartRound node (states_of M ready) (states_of M now)) before after ready x.over
                (subst (λ (n : ℕ). IsPartRound (home after.nodes n) (states_of M ready) (states_of M now)) size round);
          };
          counted = omega (arith, counted, still);
          most = omega (arith, most, long);
          fine = fine;
        }

    -- a fault of the exchange before a round
    pub round_fault : (workers round : ℕ) (p : NodePlan W) (left : List Wire) (cells last : List (Cell X F)) (e : NodeFault) → IsExchangeFault M round p cells left last e → IsRoundFault M workers round p cells left last e
    round_fault workers round p left cells last Failed f = f
    round_fault workers round p left cells last (Differs d) f = f
    round_fault workers round p left cells last NoMemory f = inl f

    pub broken_made : (workers : ℕ) (before after last : NodePlan W) (cells ready now : List (Cell X F)) → HasExchanged M before cells after ready → last.kept.items ≡ after.kept.items → ArePartlyPlayed M StampEnd IsMoved sprint_limit workers (states_of M ready) now
        → SomeFailed StampEnd now → HasBrokenRound M before cells last now
    broken_made workers before after last cells ready now x kept b failed =
        record { ready = states_of M ready; exchange = subst (λ (ws : List Wire). IsExchange (home before.nodes before.agents) before.kept.items ws (states_of M cells) (states_of M ready)) (sym kept) x.exchange; stood = b.stood; moved = b.gone; most = b.most; came = b.came; failed = failed }

    -- what an exchange behind these rounds has made when it came to a fault
    module _ (workers budget round : ℕ) (begun : List Wire) (started : List CellState) (p q r : NodePlan W) (cells last : List (Cell X F)) (o : IsPlanOver M p q cells)
        (at : AreThere (home p.nodes p.agents) budget begun started q.kept.items (states_of M cells) round) where
      behind_lost : IsLostExchange q.kept.items r.kept.items (states_of M cells) (states_of M last) → HasLostOver (home p.nodes p.agents) budget begun started round r.kept.items (states_of M last)
      behind_lost l = record { wires = q.kept.items; now = states_of M cells; there = at; lost = l }

      byte_over : (from_node to_node place : ℕ) (sent taken : Option ℕ) (passings : List Passing) → EachAre (IsDrainedOf (home q.nodes q.agents) (states_of M cells)) q.kept.items passings → IsByteBetween q.nodes passings from_node to_node place sent taken
          → IsLostExchange q.kept.items r.kept.items (states_of M cells) (states_of M last) → HasOtherByte p.nodes (home p.nodes p.agents) budget begun started r.kept.items (states_of M last) round from_node to_node place sent taken
      byte_over from_node to_node place sent taken passings drained between l = record {
        behind = record { wires = q.kept.items; now = states_of M cells; there = at; lost = l };
        passings = passings;
        drained = subst (λ (ws : List Wire). EachAre (IsDrainedOf (home p.nodes p.agents) (states_of M cells)) ws passings) (sym l.none)
            (as_there (λ node. EachAre (IsDrainedOf node (states_of M cells)) q.kept.items passings) p q cells o drained);
        other = subst (λ (n : ℕ). IsByteBetween n passings from_node to_node place sent taken) o.nodes between;
      }

      pub exchange_over : (e : NodeFault) → IsExchangeFault M round q cells r.kept.items last e → IsFaultOver M p.nodes (home p.nodes p.agents) workers budget begun started r.kept.items r.ends.items last e
      exchange_over Failed f = (round, behind_lost f)
      exchange_over (Differs (Message from to at_place sent taken)) f = absurd f.0.fault
      exchange_over (Differs (Bytes behind from_node to_node place sent taken)) f =
          subst (λ (n : ℕ). HasOtherByte p.nodes (home p.nodes p.agents) budget begun started r.kept.items (states_of M last) n from_node to_node place sent taken) (sym f.0.fault.0)
          (byte_over from_node to_node place sent taken f.0.passings f.0.drained f.0.fault.1 f.1)
      exchange_over NoMemory f = inl (record { count = round; wires = q.kept.items; now = states_of M cells; there = at; part = f })

    module _ (budget count : ℕ) (begun : List Wire) (started : List CellState) (p q : NodePlan W) (now : List (Cell X F)) (o : IsPlanOver M p q now)
        (played : ArePlayedSo (home p.nodes p.agents) budget AreBusy count begun started q.kept.items (states_of M now)) where
      abbrev node : ℕ → ℕ
      node = home p.nodes p.agents

      abbrev pub busy_over : ArePlayedOver node budget begun started q.kept.items (states_of M now)
      busy_over = record { rounds = played.rounds; are = played.are }

      module _ (n : ℕ) (is : n ≡ total (states_of M now)) (less : n < budget) where
        -- a round, or the exchange before it, that came to a fault
        pub fault_over : (most workers : ℕ) → most ≤ workers → (r : NodePlan W) (next : List (Cell X F)) (e : NodeFault) → IsRoundFault M most count q now r.kept.items next e → IsFaultOver M p.nodes node workers budget begun started r.kept.items r.ends.items next e
        fault_over most workers few r next Failed f = exchange_over workers budget count begun started p q r now next o (inl (busy_over, played.counted)) Failed f
        fault_over most workers few r next (Differs d) f = exchange_over workers budget count begun started p q r now next o (inl (busy_over, played.counted)) (Differs d) f
        fault_over most workers few r next NoMemory (inl f) = exchange_over workers budget count begun started p q r now next o (inl (busy_over, played.counted)) NoMemory f
        fault_over most workers few r next NoMemory (inr h) = inr (record {
          wires = q.kept.items;
          now = states_of M now;
          played = busy_over;
          less = omega (arith, is, less);
          ready = h.ready;
          exchange = as_there (λ place. IsExchange place q.kept.items r.kept.items (states_of M now) h.ready) p q now o h.exchange;
          partly = fewer most workers few h.partly;
        })

        -- one round more
        module _ (r : NodePlan W) (next : List (Cell X F)) (taken : ℕ) (made : HasRoundOver M q now r next taken) (awake : all_ended (states_of M now) ≡ false) where
          round_in : IsNodeRound node q.kept.items r.kept.items (states_of M now) (states_of M next)
          round_in = as_there (λ place. IsNodeRound place q.kept.items r.kept.items (states_of M now) (states_of M next)) p q now o made.round

          rounds_on : AreNodeRounds node budget begun started (played.rounds ++ states_of M next ∷ []) r.kept.items (states_of M next)
          rounds_on = node_rounds_push node budget begun started played.rounds q.kept.items (states_of M now) r.kept.items (states_of M next) played.are (omega (arith, is, less)) round_in

          counted_on : length (played.rounds ++ states_of M next ∷ []) ≡ count + 1
          counted_on = length-append played.rounds (states_of M next ∷ []) ∙ ap (λ (k : ℕ). k + 1) played.counted

          pub due_on : ArePlayedSo node budget AreDue (count + 1) begun started r.kept.items (states_of M next)
          due_on = record {
            rounds = played.rounds ++ states_of M next ∷ [];
            are = rounds_on;
            such = due_push node budget begun started played.rounds q.kept.items (states_of M now) (states_of M next) played.are played.such awake;
            counted = counted_on;
          }

          pub busy_on : 0 < taken → ArePlayedSo node budget AreBusy (count + 1) begun started r.kept.items (states_of M next)
          busy_on some =
              let more = made.counted in
              record {
                rounds = played.rounds ++ states_of M next ∷ [];
                are = rounds_on;
                such = busy_push node budget begun started played.rounds q.kept.items (states_of M now) (states_of M next) played.are played.such awake (omega (arith, more, some));
                counted = counted_on;
              }

          pub rest_on : taken ≡ 0 → EndIdle started due_on.rounds
          unfolding due_on
          rest_on none =
              let more = made.counted in
              idle_push node budget begun started played.rounds q.kept.items (states_of M now) (states_of M next) played.are (omega (arith, more, none))

          pub idle_on : taken ≡ 0 → IsIdleOver node budget begun started r.kept.items (states_of M next)
          idle_on none =
              let more = made.counted in
              record {
                before = states_of M now;
                passed = q.kept.items;
                played = busy_over;
                less = omega (arith, is, less);
                round = round_in;
                none = omega (arith, more, none);
              }

        -- a round that was broken off came last
        pub broken_on : (r : NodePlan W) (next : List (Cell X F)) → budget ≤ budget_limit → length now ≤ variable_limit → HasBrokenRound M q now r next
            → HasBrokenOver M node budget (count + 1) begun started r.kept.items next
        broken_on r next within size b =
            let exchange = as_there (λ place. IsExchange place q.kept.items r.kept.items (states_of M now) b.ready) p q now o b.exchange in
            let still : total b.ready ≡ total (states_of M now) = totals_add.quiet (states_of M now) b.ready exchange.quiet in
            let long : length (states_of M now) ≡ length b.ready = each_long IsQuiet (states_of M now) b.ready exchange.quiet in
            let longer : length (states_of M now) ≡ length now = length-map now (state_of M) in
            let bound = mul-le-mul_right sprint_limit (let le : length b.ready ≤ variable_limit = omega (arith, long, longer, size) in le) in
            let most = b.most in
            record {
              stood = b.stood;
              broken = record {
                before = states_of M now;
                passed = q.kept.items;
                played = busy_over;
                ready = b.ready;
                exchange = exchange;
                moved = b.moved;
                taken = each_only b.stood next b.came;
              };
              counted = ap (λ (k : ℕ). k + 1) played.counted;
              came = b.came;
              few = omega (arith, bound, most, still, is, less, within);
              failed = b.failed;
            }
