-- What the wires of a plan carried, exchange by exchange.
use Rattle.std.proofs.Common.{◌≡◌, ℕ, List, [], ◌∷◌, ◌++◌, Some, Ok, Err, refl, sym, ap, subst, ◌∙◌}
use Rattle.std.specs.Prelude.{Result, IsErrAnd, option_to_list}
use Rattle.std.specs.List.{All, slice_get, flat_map}
use Rattle.std.proofs.lemmas.Grind.{flat_map-append}
use Rattle.std.proofs.lemmas.List.{append-nil, append_assoc}
use Rattle.std.proofs.lemmas.List.Elements.{All-nil, All-cons, All-append}
use Rattle.std.proofs.lemmas.Option.{same_Some}
use mathlib.Core.List.{IsPrefix}
use Rattle.protocol_steps.specs.declared.message.Message.{Message}
use Rattle.fifo_links.specs.Link.{taken_from}
use Rattle.worker_laws.specs.Cells.{CellState, EachAre}
use Rattle.worker_laws.specs.OneNode.{home}
use Rattle.worker_laws.specs.Wires.{Wire, ArePassedOn}
use Rattle.worker_laws.specs.NodeRounds.{AreNodeRounds}
use Rattle.worker_laws.proofs.EachLaws.{each_on}
use Rattle.wire_pump.specs.Wire.{Told}
use Rattle.node_exchange.specs.declared.fault.PassFault.{PassFault}
use Rattle.node_exchange.specs.declared.fault.PassFault.TheVariants.{Failed as pass_failed, Bytes as pass_bytes, NoMemory as no_pass_memory}
use Rattle.node_exchange.specs.Passings.{Passing}
use Rattle.node_exchange.specs.Turned.{Load, loads, AreTurnedWith, HaveCarriedFirst, lost_by as lost_in}
use Rattle.node_exchange.proofs.TurnLaws.{with_none, with_then, first_none, first_whole, first_then}
use Rattle.tcp_links.specs.declared.fault.NodeFault.{NodeFault}
use Rattle.tcp_links.specs.declared.fault.NodeFault.TheVariants.{Failed, Differs, NoMemory}
use Rattle.tcp_links.specs.declared.plan.InnerEnds.{InnerEnds}
use Rattle.tcp_links.specs.declared.plan.NodePlan.{NodePlan}
use Rattle.tcp_links.specs.Faults.{node_fault}
use Rattle.tcp_links.specs.Left.{AreSameEnds, KeepsPlan, pairs_lost_by}
use Rattle.tcp_links.specs.Woven.{IsPassingOf}
use Rattle.tcp_links.specs.Over.{IsDrainedOf}
use Rattle.tcp_links.specs.Carried.{drained_at, AreTaken, AreTakenFirst, HaveCarriedOver, HaveCarriedTaken}

-- a link between the same agents
pub record HasSameAgents (before after : Wire) : Type 0 where
  pub sender : after.sender ≡ before.sender
  pub receiver : after.receiver ≡ before.receiver

abbrev pub AreSameLinks : List Wire → List Wire → Type 0
AreSameLinks ws vs = EachAre HasSameAgents ws vs

pub links_same : (ws : List Wire) → AreSameLinks ws ws
links_same [] = tt
links_same (w ∷ ws) = (record { sender = refl; receiver = refl }, links_same ws)

pub links_then : (us vs ws : List Wire) → AreSameLinks us vs → AreSameLinks vs ws → AreSameLinks us ws
links_then [] [] [] s t = tt
links_then [] [] (w ∷ ws) s t = absurd t
links_then [] (v ∷ vs) ws s t = absurd s
links_then (u ∷ us) [] ws s t = absurd s
links_then (u ∷ us) (v ∷ vs) [] s t = absurd t
links_then (u ∷ us) (v ∷ vs) (w ∷ ws) s t = (record { sender = t.0.sender ∙ s.0.sender; receiver = t.0.receiver ∙ s.0.receiver }, links_then us vs ws s.1 t.1)

pub links_passed : (ws vs : List Wire) → ArePassedOn ws vs → AreSameLinks ws vs
links_passed [] [] h = tt
links_passed [] (v ∷ vs) h = absurd h
links_passed (w ∷ ws) [] h = absurd h
links_passed (w ∷ ws) (v ∷ vs) h = (record { sender = h.0.sender; receiver = h.0.receiver }, links_passed ws vs h.1)

-- rounds leave the agents of links as they are
pub links_rounds : (node : ℕ → ℕ) (budget : ℕ) (ws : List Wire) (a : List CellState) (rounds : List (List CellState)) (vs : List Wire) (b : List CellState) → AreNodeRounds node budget ws a rounds vs b → AreSameLinks ws vs
links_rounds node budget ws a [] vs b h = subst (λ (us : List Wire). AreSameLinks ws us) h.0 (links_same ws)
links_rounds node budget ws a (next ∷ rounds) vs b h =
    links_then ws h.1.0 vs (links_passed ws h.1.0 h.1.1.exchange.passed) (links_rounds node budget h.1.0 next rounds vs b h.1.2)

-- passings of links are those of links between the same agents
passing_back : (node : ℕ → ℕ) (w v : Wire) (p : Passing) → HasSameAgents w v → IsPassingOf node v p → IsPassingOf node w p
passing_back node w v p s h = record { from = h.from ∙ s.sender; to = h.to ∙ s.receiver; from_node = h.from_node ∙ ap node s.sender; to_node = h.to_node ∙ ap node s.receiver }

passings_back : (node : ℕ → ℕ) (ws vs : List Wire) (ps : List Passing) → AreSameLinks ws vs → EachAre (IsPassingOf node) vs ps → EachAre (IsPassingOf node) ws ps
passings_back node [] [] [] s h = tt
passings_back node [] [] (p ∷ ps) s h = absurd h
passings_back node [] (v ∷ vs) ps s h = absurd s
passings_back node (w ∷ ws) [] ps s h = absurd s
passings_back node (w ∷ ws) (v ∷ vs) [] s h = absurd h
passings_back node (w ∷ ws) (v ∷ vs) (p ∷ ps) s h = (passing_back node w v p s.0 h.0, passings_back node ws vs ps s.1 h.1)

-- passings of which it is known what was drained are those of the links
pub links_drained : (node : ℕ → ℕ) (cells : List CellState) (ws : List Wire) (ps : List Passing) → EachAre (IsDrainedOf node cells) ws ps → EachAre (IsPassingOf node) ws ps
links_drained node cells [] [] h = tt
links_drained node cells [] (p ∷ ps) h = absurd h
links_drained node cells (w ∷ ws) [] h = absurd h
links_drained node cells (w ∷ ws) (p ∷ ps) h = (h.0.link, links_drained node cells ws ps h.1)

-- what was drained in exchanges and then in others
drained_then : (xs ys : List (List Passing)) (k : ℕ) → drained_at (xs ++ ys) k ≡ drained_at xs k ++ drained_at ys k
drained_then xs ys k = flat_map-append (λ (ps : List Passing). flat_map (λ (p : Passing). p.drained) (option_to_list (slice_get ps k))) xs ys

-- one exchange of links
pub drained_one : (ps : List Passing) (k : ℕ) (p : Passing) → slice_get ps k ≡ Some p → drained_at (ps ∷ []) k ≡ p.drained
drained_one ps k p e = ap (λ (o : _). flat_map (λ (q : Passing). q.drained) (option_to_list o) ++ []) e ∙ append-nil (p.drained ++ []) ∙ append-nil p.drained

-- what was taken between three states of the ends
module _ (ds es fs : List InnerEnds) (same : EachAre AreSameEnds ds es) (xs ys : List (List Passing)) where
  parts : (k : ℕ) (a b : InnerEnds) → slice_get ds k ≡ Some a → AreTaken ds es (drained_at xs) → (y : InnerEnds) × (slice_get es k ≡ Some y) × (taken_from a.drain ++ drained_at (xs ++ ys) k ≡ taken_from y.drain ++ drained_at ys k)
  parts k a b p h =
      let mid = each_on AreSameEnds ds es same k a p in
      (mid.0, mid.1, ap (λ (us : List (ℕ × Message)). taken_from a.drain ++ us) (drained_then xs ys k) ∙ sym (append_assoc (taken_from a.drain) (drained_at xs k) (drained_at ys k)) ∙ ap (λ (us : List (ℕ × Message)). us ++ drained_at ys k) (h k a mid.0 p mid.1))

  taken_then : AreTaken ds es (drained_at xs) → AreTaken es fs (drained_at ys) → AreTaken ds fs (drained_at (xs ++ ys))
  taken_then h g = λ k a b p q. let mid = parts k a b p h in mid.2 ∙ g k mid.0 b mid.1 q

  taken_first_then : AreTaken ds es (drained_at xs) → AreTakenFirst es fs (drained_at ys) → AreTakenFirst ds fs (drained_at (xs ++ ys))
  taken_first_then h g = λ k a b p q. let mid = parts k a b p h in let rest = g k mid.0 b mid.1 q in (rest.0, ap (λ (us : List (ℕ × Message)). us ++ rest.0) mid.2 ∙ rest.1)

-- ends from which nothing was taken since
pub taken_still : (ds es fs : List InnerEnds) (drained : ℕ → List (ℕ × Message)) → EachAre AreSameEnds ds es → ((k : ℕ) (e f : InnerEnds) → slice_get es k ≡ Some e → slice_get fs k ≡ Some f → f.drain ≡ e.drain)
    → AreTaken ds es drained → AreTaken ds fs drained
taken_still ds es fs drained same still h = λ k a b p q.
    let mid = each_on AreSameEnds ds es same k a p in
    h k a mid.0 p mid.1 ∙ ap (λ (x : _). taken_from x) (sym (still k mid.0 b mid.1 q))

-- ends from which more may have been taken
pub taken_more : (ds es fs : List InnerEnds) (drained : ℕ → List (ℕ × Message)) → EachAre AreSameEnds ds es → EachAre AreSameEnds es fs → AreTaken ds es drained → AreTakenFirst ds fs drained
taken_more ds es fs drained same later h = λ k a b p q.
    let mid = each_on AreSameEnds ds es same k a p in
    let end = each_on AreSameEnds es fs later k mid.0 mid.1 in
    let more : IsPrefix (taken_from mid.0.drain) (taken_from b.drain) = subst (λ (x : InnerEnds). IsPrefix (taken_from mid.0.drain) (taken_from x.drain)) (same_Some end.0 b (sym end.1 ∙ q)) end.2.drained in
    (more.0, ap (λ (us : List (ℕ × Message)). us ++ more.0) (h k a mid.0 p mid.1) ∙ more.1)

pub taken_first : (ds es : List InnerEnds) (drained : ℕ → List (ℕ × Message)) → AreTaken ds es drained → AreTakenFirst ds es drained
taken_first ds es drained h = λ k a b p q. ([], append-nil (taken_from a.drain ++ drained k) ∙ h k a b p q)

module _ {W : Type 0} (told : W → Told) (is_joined : W → W → Type 0) (nodes : ℕ) (node : ℕ → ℕ) where
  abbrev pub Whole : List Wire → List InnerEnds → List InnerEnds → List (W × W) → List (W × W) → Type 0
  Whole ws ds es xs ys = HaveCarriedOver nodes node ws (AreTaken ds es) (λ ls. AreTurnedWith told is_joined 0 ls xs ys)

  abbrev pub Part : ℕ → List Wire → List InnerEnds → List InnerEnds → List (W × W) → List (W × W) → Type 0
  Part most ws ds es xs ys = HaveCarriedOver nodes node ws (AreTakenFirst ds es) (λ ls. HaveCarriedFirst told is_joined most ls xs ys)

  -- no exchange
  pub whole_none : (ws : List Wire) (ds : List InnerEnds) (xs : List (W × W)) → Whole ws ds ds xs xs
  whole_none ws ds xs = record {
    exchanges = [];
    links = All-nil (λ (ps : List Passing). EachAre (IsPassingOf node) ws ps);
    drained = λ k a b p q. append-nil (taken_from a.drain) ∙ ap (λ (x : InnerEnds). taken_from x.drain) (same_Some a b (sym p ∙ q));
    carried = with_none told is_joined 0 xs;
  }

  pub part_none : (most : ℕ) (ws : List Wire) (ds es : List InnerEnds) (xs : List (W × W)) → EachAre AreSameEnds ds es → Part most ws ds es xs xs
  part_none most ws ds es xs same = record {
    exchanges = [];
    links = All-nil (λ (ps : List Passing). EachAre (IsPassingOf node) ws ps);
    drained = λ k a b p q.
        let end = each_on AreSameEnds ds es same k a p in
        let more : IsPrefix (taken_from a.drain) (taken_from b.drain) = subst (λ (x : InnerEnds). IsPrefix (taken_from a.drain) (taken_from x.drain)) (same_Some end.0 b (sym end.1 ∙ q)) end.2.drained in
        (more.0, ap (λ (us : List (ℕ × Message)). us ++ more.0) (append-nil (taken_from a.drain)) ∙ more.1);
    carried = first_none told is_joined most [] xs xs (with_none told is_joined most xs);
  }

  -- the whole is a first part
  pub part_of : (most : ℕ) (ws : List Wire) (ds es : List InnerEnds) (xs ys : List (W × W)) → Whole ws ds es xs ys → Part most ws ds es xs ys
  part_of most ws ds es xs ys h = record {
    exchanges = h.exchanges;
    links = h.links;
    drained = λ k a b p q. ([], append-nil (taken_from a.drain ++ drained_at h.exchanges k) ∙ h.drained k a b p q);
    carried = first_whole told is_joined most (flat_map (loads nodes) h.exchanges) xs ys h.carried;
  }

  -- exchanges behind others
  links_append : (ws vs : List Wire) (xs ys : List (List Passing)) → AreSameLinks ws vs → All (λ ps. EachAre (IsPassingOf node) ws ps) xs → All (λ ps. EachAre (IsPassingOf node) vs ps) ys
      → All (λ ps. EachAre (IsPassingOf node) ws ps) (xs ++ ys)
  links_append ws vs xs ys same h g = All-append (λ (ps : List Passing). EachAre (IsPassingOf node) ws ps) xs ys h (λ k d lt. passings_back node ws vs _ same (g k d lt))

  pub whole_then : (ws vs : List Wire) (ds es fs : List InnerEnds) (xs ys zs : List (W × W)) → AreSameLinks ws vs → EachAre AreSameEnds ds es → Whole ws ds es xs ys → Whole vs es fs ys zs → Whole ws ds fs xs zs
  whole_then ws vs ds es fs xs ys zs links same h g = record {
    exchanges = h.exchanges ++ g.exchanges;
    links = links_append ws vs h.exchanges g.exchanges links h.links g.links;
    drained = taken_then ds es fs same h.exchanges g.exchanges h.drained g.drained;
    carried = subst (λ (ls : List Load). AreTurnedWith told is_joined 0 ls xs zs) (sym (flat_map-append (loads nodes) h.exchanges g.exchanges))
        (with_then told is_joined 0 (flat_map (loads nodes) h.exchanges) (flat_map (loads nodes) g.exchanges) xs ys zs h.carried g.carried);
  }

  pub part_then : (most : ℕ) (ws vs : List Wire) (ds es fs : List InnerEnds) (xs ys zs : List (W × W)) → AreSameLinks ws vs → EachAre AreSameEnds ds es → Whole ws ds es xs ys → Part most vs es fs ys zs → Part most ws ds fs xs zs
  part_then most ws vs ds es fs xs ys zs links same h g = record {
    exchanges = h.exchanges ++ g.exchanges;
    links = links_append ws vs h.exchanges g.exchanges links h.links g.links;
    drained = taken_first_then ds es fs same h.exchanges g.exchanges h.drained g.drained;
    carried = first_then told is_joined most (flat_map (loads nodes) h.exchanges) (flat_map (loads nodes) g.exchanges) (flat_map (loads nodes) (h.exchanges ++ g.exchanges)) xs ys zs
        ([], append-nil (flat_map (loads nodes) h.exchanges ++ flat_map (loads nodes) g.exchanges) ∙ sym (flat_map-append (loads nodes) h.exchanges g.exchanges)) h.carried g.carried;
  }

  -- one exchange
  pub whole_one : (ws : List Wire) (ds es : List InnerEnds) (xs ys : List (W × W)) (ps : List Passing) → EachAre (IsPassingOf node) ws ps → AreTaken ds es (drained_at (ps ∷ [])) → AreTurnedWith told is_joined 0 (loads nodes ps) xs ys → Whole ws ds es xs ys
  whole_one ws ds es xs ys ps links drained carried = record {
    exchanges = ps ∷ [];
    links = All-cons (λ (qs : List Passing). EachAre (IsPassingOf node) ws qs) ps [] links (All-nil (λ (qs : List Passing). EachAre (IsPassingOf node) ws qs));
    drained = drained;
    carried = subst (λ (ls : List Load). AreTurnedWith told is_joined 0 ls xs ys) (sym (append-nil (loads nodes ps))) carried;
  }

  pub part_one : (most : ℕ) (ws : List Wire) (ds es : List InnerEnds) (xs ys : List (W × W)) (ps : List Passing) → EachAre (IsPassingOf node) ws ps → AreTakenFirst ds es (drained_at (ps ∷ [])) → HaveCarriedFirst told is_joined most (loads nodes ps) xs ys
      → Part most ws ds es xs ys
  part_one most ws ds es xs ys ps links drained carried = record {
    exchanges = ps ∷ [];
    links = All-cons (λ (qs : List Passing). EachAre (IsPassingOf node) ws qs) ps [] links (All-nil (λ (qs : List Passing). EachAre (IsPassingOf node) ws qs));
    drained = drained;
    carried = subst (λ (ls : List Load). HaveCarriedFirst told is_joined most ls xs ys) (sym (append-nil (loads nodes ps))) carried;
  }

module _ {W : Type 0} (told : W → Told) (is_joined : W → W → Type 0) where
  abbrev pub WholeOf : NodePlan W → NodePlan W → Type 0
  WholeOf p q = Whole told is_joined p.nodes (home p.nodes p.agents) p.kept.items p.ends.items q.ends.items p.wires.items q.wires.items

  abbrev pub PartOf : ℕ → NodePlan W → NodePlan W → Type 0
  PartOf most p q = Part told is_joined p.nodes (home p.nodes p.agents) most p.kept.items p.ends.items q.ends.items p.wires.items q.wires.items

  pub plan_none : (p : NodePlan W) → WholeOf p p
  plan_none p = whole_none told is_joined p.nodes (home p.nodes p.agents) p.kept.items p.ends.items p.wires.items

  pub plan_part : (most : ℕ) (p q : NodePlan W) → WholeOf p q → PartOf most p q
  plan_part most p q h = part_of told is_joined p.nodes (home p.nodes p.agents) most p.kept.items p.ends.items q.ends.items p.wires.items q.wires.items h

  -- a plan with as many nodes and agents, and then another
  pub plan_then : (p q r : NodePlan W) → KeepsPlan p q → AreSameLinks p.kept.items q.kept.items → WholeOf p q → WholeOf q r → WholeOf p r
  plan_then p q r keeps links h g =
      whole_then told is_joined p.nodes (home p.nodes p.agents) p.kept.items q.kept.items p.ends.items q.ends.items r.ends.items p.wires.items q.wires.items r.wires.items links keeps.ends h
      (subst (λ (n : ℕ). Whole told is_joined n (home n p.agents) q.kept.items q.ends.items r.ends.items q.wires.items r.wires.items) keeps.nodes
      (subst (λ (n : ℕ). Whole told is_joined q.nodes (home q.nodes n) q.kept.items q.ends.items r.ends.items q.wires.items r.wires.items) keeps.agents g))

  pub plan_part_then : (most : ℕ) (p q r : NodePlan W) → KeepsPlan p q → AreSameLinks p.kept.items q.kept.items → WholeOf p q → PartOf most q r → PartOf most p r
  plan_part_then most p q r keeps links h g =
      part_then told is_joined p.nodes (home p.nodes p.agents) most p.kept.items q.kept.items p.ends.items q.ends.items r.ends.items p.wires.items q.wires.items r.wires.items links keeps.ends h
      (subst (λ (n : ℕ). Part told is_joined n (home n p.agents) most q.kept.items q.ends.items r.ends.items q.wires.items r.wires.items) keeps.nodes
      (subst (λ (n : ℕ). Part told is_joined q.nodes (home q.nodes n) most q.kept.items q.ends.items r.ends.items q.wires.items r.wires.items) keeps.agents g))

  -- a fault that is passed on
  pub same_taken : (S T : Type 0) (e : NodeFault) (p q : NodePlan W) → HaveCarriedTaken told is_joined {T = S} p q (Err e) → HaveCarriedTaken told is_joined {T = T} p q (Err e)
  same_taken S T Failed p q h = h
  same_taken S T (Differs d) p q h = h
  same_taken S T NoMemory p q h = h

  pub taken_on : {T : Type 0} (S : Type 0) (r : Result T NodeFault) (e : NodeFault) (p q : NodePlan W) → IsErrAnd r (λ x. x ≡ e) → HaveCarriedTaken told is_joined {T = S} p q (Err e) → HaveCarriedTaken told is_joined p q r
  taken_on S (Ok x) e p q h t = absurd h
  taken_on {T = T} S (Err x) e p q h t = subst (λ (f : NodeFault). HaveCarriedTaken told is_joined {T = T} p q (Err f)) (sym h) (same_taken S T e p q t)

  pub taken_kept : {T : Type 0} (S : Type 0) (r : Result T NodeFault) (e : NodeFault) (p q : NodePlan W) → KeepsPlan p q → IsErrAnd r (λ x. x ≡ e) → HaveCarriedTaken told is_joined {T = S} p q (Err e) → HaveCarriedTaken told is_joined p q r
  taken_kept S r e p q keeps h t = taken_on S r e p q h t

  -- what one exchange has come to, by the ends and the wires that it left
  pub exchange_whole : (p : NodePlan W) (es fs : List InnerEnds) (xs : List (W × W)) (ps : List Passing) → es ≡ fs → EachAre (IsPassingOf (home p.nodes p.agents)) p.kept.items ps → AreTaken p.ends.items fs (drained_at (ps ∷ []))
      → AreTurnedWith told is_joined 0 (loads p.nodes ps) p.wires.items xs → Whole told is_joined p.nodes (home p.nodes p.agents) p.kept.items p.ends.items es p.wires.items xs
  exchange_whole p es fs xs ps is links taken carried =
      whole_one told is_joined p.nodes (home p.nodes p.agents) p.kept.items p.ends.items es p.wires.items xs ps links (subst (λ (gs : List InnerEnds). AreTaken p.ends.items gs (drained_at (ps ∷ []))) (sym is) taken) carried

  pub exchange_part : (most : ℕ) (p : NodePlan W) (es fs : List InnerEnds) (xs : List (W × W)) (ps : List Passing) → es ≡ fs → EachAre (IsPassingOf (home p.nodes p.agents)) p.kept.items ps → AreTakenFirst p.ends.items fs (drained_at (ps ∷ []))
      → HaveCarriedFirst told is_joined most (loads p.nodes ps) p.wires.items xs → Part told is_joined p.nodes (home p.nodes p.agents) most p.kept.items p.ends.items es p.wires.items xs
  exchange_part most p es fs xs ps is links taken carried =
      part_one told is_joined p.nodes (home p.nodes p.agents) most p.kept.items p.ends.items es p.wires.items xs ps links (subst (λ (gs : List InnerEnds). AreTakenFirst p.ends.items gs (drained_at (ps ∷ []))) (sym is) taken) carried

  -- a fault of passing
  same_fault : (round : ℕ) (f : PassFault) → pairs_lost_by {T = Unit {0}} (Err (node_fault round f)) ≡ lost_in {T = Unit {0}} (Err f)
  same_fault round pass_failed = refl
  same_fault round (pass_bytes from_node to_node place sent taken) = refl
  same_fault round no_pass_memory = refl

  pub exchange_fault : (round : ℕ) (f : PassFault) (e : NodeFault) (p : NodePlan W) (es : List InnerEnds) (xs : List (W × W)) → e ≡ node_fault round f → Part told is_joined p.nodes (home p.nodes p.agents) (lost_in {T = Unit {0}} (Err f)) p.kept.items p.ends.items es p.wires.items xs
      → Part told is_joined p.nodes (home p.nodes p.agents) (pairs_lost_by {T = Unit {0}} (Err e)) p.kept.items p.ends.items es p.wires.items xs
  exchange_fault round f e p es xs is h =
      subst (λ (n : ℕ). Part told is_joined p.nodes (home p.nodes p.agents) n p.kept.items p.ends.items es p.wires.items xs) (sym (ap (λ (x : NodeFault). pairs_lost_by {T = Unit {0}} (Err x)) is ∙ same_fault round f)) h

  -- nothing was carried
  pub exchange_none : (most : ℕ) (p : NodePlan W) (es : List InnerEnds) (xs : List (W × W)) → EachAre AreSameEnds p.ends.items es → xs ≡ p.wires.items → Part told is_joined p.nodes (home p.nodes p.agents) most p.kept.items p.ends.items es p.wires.items xs
  exchange_none most p es xs ends same =
      subst (λ (ws : List (W × W)). Part told is_joined p.nodes (home p.nodes p.agents) most p.kept.items p.ends.items es p.wires.items ws) (sym same)
      (part_none told is_joined p.nodes (home p.nodes p.agents) most p.kept.items p.ends.items es p.wires.items ends)
