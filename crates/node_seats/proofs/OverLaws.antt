-- New links in the nodes of a plan, one after another, and all of them.
use Rattle.std.proofs.Common.{◌≡◌, ◌≢◌, ℕ, zero, suc, ◌+◌, ◌<◌, ◌⊎◌, List, [], ◌∷◌, ◌++◌, length, replicate, take, drop, get_or, Some, slice_get, slice_index_or, Result, Ok, Err, IfOk, OnErr, refl, sym, ap, subst, ◌∙◌, inl, inr, arith}
use Rattle.std.specs.List.{All, range_with_len}
use Rattle.std.specs.List.Sorted.{IsStrictlyIncreasing}
use Rattle.std.proofs.lemmas.Bool.{cases_eq}
use Rattle.std.proofs.lemmas.Option.{none-some}
use Rattle.std.proofs.lemmas.List.{append-nil, append_assoc, length-map, map-append, take_more}
use Rattle.std.proofs.lemmas.List.Elements.{All-nil, All-cons, All-head, All-tail}
use Rattle.std.proofs.lemmas.List.Kept.{IsStrictlyIncreasing-filter}
use Rattle.std.specs.declared.vec.Vec.{Vec}
use Rattle.std.specs.declared.alloc.Global.{Global}
use Rattle.dcop_base.specs.declared.knowledge.Private.{Private}
use Rattle.dcop_base.specs.declared.memory.NoMemory.{NoMemory}
use Rattle.dcop_base.proofs.FirstLaws.{IsStrictlyIncreasing-range}
use Rattle.dcop_base.proofs.UniqueLaws.{IsStrictlyIncreasing-tail, head_below}
use Rattle.protocol_steps.specs.declared.message.Message.{Message}
use Rattle.fifo_links.specs.declared.ends.LinkTail.{LinkTail}
use Rattle.fifo_links.specs.declared.ends.LinkHead.{LinkHead}
use Rattle.worker_laws.specs.OneNode.{home}
use Rattle.worker_laws.specs.Wires.{Wire}
use Rattle.link_records.specs.Differences.{IsLowerLink}
use Rattle.agent_cells.specs.Links.{Tail, Head}
use Rattle.agent_cells.specs.Settled.{StandsAt}
use Rattle.agent_links.specs.Beside.{AreBeside, neighbours_in}
use Rattle.agent_links.specs.Links.{rows_in, pushed, AreNewLinks, row, pairs_to}
use Rattle.agent_links.proofs.LinkLaws.{one_added, links_none, own_list, written_back, links_all}
use Rattle.agent_links.proofs.PairLaws.{pairs_more, list_at}
use Rattle.tcp_links.specs.declared.plan.NodePlan.{NodePlan}
use Rattle.link_records.specs.Left.{fresh_link}
use Rattle.tcp_links.specs.Plans.{HasNoLink, IsPlan, IsNewLink, IsSamePlan}
use Rattle.node_seats.specs.Links.{node_in, AreLinksBefore, AreLinksOver, IsNodeLink, AreNewOver, AddLinksOver, AddAllLinksOver}
use Rattle.node_seats.specs.Seats.{IsSameFrame}
use Rattle.node_seats.proofs.LeadLaws.{not_before, then_before, all_then, all_at, kept_end, all_still, all_more, come_before}
use Rattle.node_seats.proofs.KeepLaws.{keeps_still, keeps_more}

next_taken : {A : Type 0} (xs : List A) (k : ℕ) (x : A) → k < length xs → x ≡ get_or xs k x → take (k + 1) xs ≡ take k xs ++ x ∷ []
next_taken {A} xs k x lt e = take_more xs k x lt ∙ ap (λ (y : A). take k xs ++ y ∷ []) (sym e)

last_so : {A : Type 0} (P : A → Type 0) (xs : List A) (x : A) → All P (xs ++ x ∷ []) → P x
last_so P [] x all = All-head P x [] all
last_so P (y ∷ ys) x all = last_so P ys x (All-tail P y (ys ++ x ∷ []) all)

-- where numbers ascend, those before one are below it
pub ascends_below : (xs : List ℕ) (k x : ℕ) → IsStrictlyIncreasing xs → k < length xs → x ≡ get_or xs k x → All (λ y. y < x) (take k xs)
ascends_below [] k x up lt e = absurd (omega (arith, lt))
ascends_below (y ∷ ys) zero x up lt e = All-nil (λ (z : ℕ). z < x)
ascends_below (y ∷ ys) (suc k) x up lt e =
    let shorter : k < length ys = omega (arith, lt) in
    All-cons (λ (z : ℕ). z < x) y (take k ys) (head_below y ys x up (k, shorter, sym e)) (ascends_below ys k x (IsStrictlyIncreasing-tail y ys up) shorter e)

module _ {W : Type 0} where
  pub frame_same : (p : NodePlan W) → IsPlan p → IsSameFrame p p
  frame_same p plan = record { plan = plan; agents = refl; nodes = refl; wires = refl }

  pub frame_then : (p q r : NodePlan W) → IsSameFrame p q → IsSameFrame q r → IsSameFrame p r
  frame_then p q r a b = record { plan = b.plan; agents = b.agents ∙ a.agents; nodes = b.nodes ∙ a.nodes; wires = b.wires ∙ a.wires }

  -- a link of the plan more, or a plan as before, is in the same frame
  pub frame_linked : (p q : NodePlan W) (from to : ℕ) (r : Result (LinkTail (ℕ × Message) × LinkHead (ℕ × Message)) NoMemory) → IsPlan q → IfOk r (λ l. IsNewLink p from to l.0 l.1 q) → OnErr r (IsSamePlan p q) → IsSameFrame p q
  frame_linked p q from to (Ok l) plan new same = record { plan = plan; agents = new.same.0; nodes = new.same.1; wires = new.same.2 }
  frame_linked p q from to (Err e) plan new same = record { plan = plan; agents = same.agents; nodes = same.nodes; wires = same.wires }

  -- a link between two nodes
  pub link_between : (p q : NodePlan W) (from to : ℕ) (r : Result (LinkTail (ℕ × Message) × LinkHead (ℕ × Message)) NoMemory) → node_in p from ≢ node_in p to → IfOk r (λ l. IsNewLink p from to l.0 l.1 q)
      → IfOk r (λ l. IsNodeLink p from to l.0 l.1 q)
  link_between p q from to (Ok l) apart new = record { inside = λ same. absurd (apart same); between = λ e. new }
  link_between p q from to (Err e) apart new = tt

  -- links that all come before one are none from the same agent to the same
  pub no_link : (p : NodePlan W) (from to : ℕ) (ts : List (List Tail)) (hs : List (List Head)) → AreLinksBefore p from to ts hs → HasNoLink p from to
  no_link p from to ts hs before = record {
    none = λ k w at sender receiver. not_before w (fresh_link from to) (all_at (λ (v : Wire). IsLowerLink v (fresh_link from to)) p.kept.items k w before.kept at) sender receiver;
  }

  -- and they come before a later one
  pub before_later : (p : NodePlan W) (from to from' to' : ℕ) (ts : List (List Tail)) (hs : List (List Head)) → IsLowerLink (fresh_link from to) (fresh_link from' to') → AreLinksBefore p from to ts hs → AreLinksBefore p from' to' ts hs
  before_later p from to from' to' ts hs later before = record {
    kept = all_then p.kept.items (fresh_link from to) (fresh_link from' to') later before.kept;
    at_tails = λ i k t s. then_before (fresh_link i t.0) (fresh_link from to) (fresh_link from' to') (before.at_tails i k t s) later;
    at_heads = λ j k h s. then_before (fresh_link h.0 j) (fresh_link from to) (fresh_link from' to') (before.at_heads j k h s) later;
  }

  pub before_in_row : (p : NodePlan W) (from to : ℕ) (ts : List (List Tail)) (hs : List (List Head)) → AreLinksBefore p from 0 ts hs → AreLinksBefore p from to ts hs
  before_in_row p from zero ts hs before = before
  before_in_row p from (suc to) ts hs before = before_later p from 0 from (suc to) ts hs (inr (refl, omega arith)) before

  -- where there is no link yet, all come before any
  pub before_none : (p : NodePlan W) (from to : ℕ) (ts : List (List Tail)) (hs : List (List Head)) (n : ℕ) → p.kept.items ≡ [] → ts ≡ replicate n [] → hs ≡ replicate n [] → AreLinksBefore p from to ts hs
  before_none p from to ts hs n none e f = record {
    kept = subst (λ (ws : List Wire). All (λ (w : Wire). IsLowerLink w (fresh_link from to)) ws) (sym none) (All-nil (λ (w : Wire). IsLowerLink w (fresh_link from to)));
    at_tails = λ i k t s. absurd (stands_nowhere n i k t (subst (λ (rows : List (List Tail)). StandsAt (slice_index_or rows i []) k t) e s));
    at_heads = λ j k h s. absurd (stands_nowhere n j k h (subst (λ (rows : List (List Head)). StandsAt (slice_index_or rows j []) k h) f s));
  }
    where
      empty_row : {A : Type 0} (n i : ℕ) → let none : List A = [] in slice_index_or (replicate n none) i none ≡ none
      empty_row zero zero = refl
      empty_row zero (suc i) = refl
      empty_row (suc n) zero = refl
      empty_row (suc n) (suc i) = empty_row n i

      stands_nowhere : {A : Type 0} (n i k : ℕ) (x : A) → StandsAt (slice_index_or (replicate n []) i []) k x → ⊥
      stands_nowhere {A} n i k x s = let lt : k < 0 = subst (λ (xs : List A). k < length xs) (empty_row n i) s.inside in omega (arith, lt)

  same_links : (p q : NodePlan W) (pairs : List (ℕ × ℕ)) (count : ℕ) (ts : List (List Tail)) (hs : List (List Head)) → q.agents ≡ p.agents → q.nodes ≡ p.nodes → AreNewLinks (node_in p) pairs count ts hs → AreNewLinks (node_in q) pairs count ts hs
  same_links p q pairs count ts hs agents nodes n =
      subst (λ (k : ℕ). AreNewLinks (λ (i : ℕ). home k q.agents i) pairs count ts hs) (sym nodes)
      (subst (λ (m : ℕ). AreNewLinks (λ (i : ℕ). home p.nodes m i) pairs count ts hs) (sym agents) n)

  module _ (p q : NodePlan W) (plan : IsPlan p) (from to : ℕ) (t : LinkTail (ℕ × Message)) (h : LinkHead (ℕ × Message)) (ts : List (List Tail)) (hs : List (List Head)) (in_tails : from < length ts) (in_heads : to < length hs)
      (before : AreLinksBefore p from to ts hs) (new : IsNodeLink p from to t h q) where
    one_over : (pairs : List (ℕ × ℕ)) (count : ℕ) → AreNewOver p pairs count ts hs → AreNewOver q (pairs ++ (from, to) ∷ []) count (pushed from (to, t) ts) (pushed to (from, h) hs)
    one_over pairs count n = elim (cases_eq (node_in p from) (node_in p to)) [
      | inl here ↦ (let l = new.inside here in record {
        links = same_links p q (pairs ++ (from, to) ∷ []) count (pushed from (to, t) ts) (pushed to (from, h) hs) l.3.agents l.3.nodes (one_added (node_in p) pairs count ts hs from to t h (λ e. l.0) l.1 l.2 n.links);
        leads = all_still ts hs from to t h in_tails in_heads p q before l.3.kept l.3.ends n.leads;
        keeps = keeps_still p q l.3.agents l.3.nodes pairs from to here l.3.kept n.keeps;
      })
      | inr apart ↦ (let l = new.between apart in record {
        links = same_links p q (pairs ++ (from, to) ∷ []) count (pushed from (to, t) ts) (pushed to (from, h) hs) l.same.0 l.same.1 (one_added (node_in p) pairs count ts hs from to t h (λ e. absurd (apart e)) l.unsent.0 l.untaken.1 n.links);
        leads = all_more ts hs from to t h in_tails in_heads p q plan.ends before l n.leads;
        keeps = keeps_more p q l.same.0 l.same.1 pairs from to (kept_end p q from to t h before.kept l) n.keeps;
      })
    ]

    kept_or_more : (q.kept.items ≡ p.kept.items) ⊎ (q.kept.items ≡ p.kept.items ++ fresh_link from to ∷ [])
    kept_or_more = elim (cases_eq (node_in p from) (node_in p to)) [
      | inl here ↦ inl (new.inside here).3.kept
      | inr apart ↦ inr (kept_end p q from to t h before.kept (new.between apart))
    ]

    module _ (us : List (List Tail)) (is : List (List Head)) (e : us ≡ pushed from (to, t) ts) (f : is ≡ pushed to (from, h) hs) where
      -- a new link was added, in a node or between two
      pub added_one : AddLinksOver from (to ∷ []) p ts hs q us is
      added_one pairs count n =
          subst (λ (xs : List (List Tail)). AreNewOver q (pairs ++ (from, to) ∷ []) count xs is) (sym e)
          (subst (λ (xs : List (List Head)). AreNewOver q (pairs ++ (from, to) ∷ []) count (pushed from (to, t) ts) xs) (sym f) (one_over pairs count n))

      pub added_before : (i j : ℕ) → IsLowerLink (fresh_link from to) (fresh_link i j) → AreLinksBefore q i j us is
      added_before i j later =
          subst (λ (xs : List (List Tail)). AreLinksBefore q i j xs is) (sym e)
          (subst (λ (xs : List (List Head)). AreLinksBefore q i j (pushed from (to, t) ts) xs) (sym f) (come_before ts hs from to t h in_tails in_heads p q i j later before kept_or_more))

  pub added_none : (p : NodePlan W) (from : ℕ) (ts : List (List Tail)) (hs : List (List Head)) → AddLinksOver from [] p ts hs p ts hs
  added_none p from ts hs pairs count n = subst (λ (ps : List (ℕ × ℕ)). AreNewOver p ps count ts hs) (sym (append-nil pairs)) n

  pub added_more : (p q r : NodePlan W) (from to : ℕ) (tos : List ℕ) (ts us vs : List (List Tail)) (hs is js : List (List Head)) → AddLinksOver from tos p ts hs q us is → AddLinksOver from (to ∷ []) q us is r vs js
      → AddLinksOver from (tos ++ to ∷ []) p ts hs r vs js
  added_more p q r from to tos ts us vs hs is js a b pairs count n =
      subst (λ (ps : List (ℕ × ℕ)). AreNewOver r ps count vs js)
      (append_assoc pairs (row from tos) ((from, to) ∷ []) ∙ ap (λ (ps : List (ℕ × ℕ)). pairs ++ ps) (sym (map-append (λ (j : ℕ). (from, j)) tos (to ∷ []))))
      (b (pairs ++ row from tos) count (a pairs count n))

  -- one more link of a row
  pub row_more : (p q r : NodePlan W) (from k x : ℕ) (xs : List ℕ) (ts us vs : List (List Tail)) (hs is js : List (List Head)) → k < length xs → x ≡ get_or xs k x → AddLinksOver from (take k xs) p ts hs q us is
      → AddLinksOver from (x ∷ []) q us is r vs js → AddLinksOver from (take (k + 1) xs) p ts hs r vs js
  row_more p q r from k x xs ts us vs hs is js lt e a b =
      subst (λ (ns : List ℕ). AddLinksOver from ns p ts hs r vs js) (sym (next_taken xs k x lt e)) (added_more p q r from x (take k xs) ts us vs hs is js a b)

  -- and all before it come before the next
  pub row_before : (q : NodePlan W) (from k x : ℕ) (xs : List ℕ) (vs : List (List Tail)) (js : List (List Head)) → k < length xs → x ≡ get_or xs k x → ((i j : ℕ) → IsLowerLink (fresh_link from x) (fresh_link i j) → AreLinksBefore q i j vs js)
      → (j : ℕ) → All (λ y. y < j) (take (k + 1) xs) → AreLinksBefore q from j vs js
  row_before q from k x xs vs js lt e come j all =
      come from j (inr (refl, last_so (λ (y : ℕ). y < j) (take k xs) x (subst (λ (ns : List ℕ). All (λ (y : ℕ). y < j) ns) (next_taken xs k x lt e) all)))

  -- no link yet
  new_none : (p : NodePlan W) (lists : List (List ℕ)) (n : ℕ) (ts : List (List Tail)) (hs : List (List Head)) → p.kept.items ≡ [] → ts ≡ replicate n [] → hs ≡ replicate n [] → AreNewOver p (pairs_to lists 0) n ts hs
  new_none p lists n ts hs none e f = record {
    links = links_none (node_in p) lists n ts hs e f;
    leads = record { each = λ k w x at_w at_x. absurd (nothing k w at_w) };
    keeps = record { each = λ i j has apart. let lt = has.1 in absurd (omega (arith, lt)); no_other = λ k w at. absurd (nothing k w at) };
  }
    where
      nothing : (k : ℕ) (w : Wire) → slice_get p.kept.items k ≡ Some w → ⊥
      nothing k w at = nowhere k w (subst (λ (ws : List Wire). slice_get ws k ≡ Some w) none at)
        where
          nowhere : (k : ℕ) (w : Wire) → slice_get [] k ≡ Some w → ⊥
          nowhere zero w e = none-some w e
          nowhere (suc k) w e = none-some w e

  -- one more agent's links were added
  pub row_over : (p q r : NodePlan W) (known : List Private) (k : ℕ) (own : Private) (xs : List ℕ) (ts us vs : List (List Tail)) (hs is js : List (List Head)) → k < length known → own ≡ get_or known k own → xs ≡ own.neighbours
      → (AreNewOver p (pairs_to (neighbours_in known) 0) (length (neighbours_in known)) ts hs → AreNewOver q (pairs_to (neighbours_in known) k) (length (neighbours_in known)) us is) → AddLinksOver k xs q us is r vs js
      → AreNewOver p (pairs_to (neighbours_in known) 0) (length (neighbours_in known)) ts hs → AreNewOver r (pairs_to (neighbours_in known) (k + 1)) (length (neighbours_in known)) vs js
  row_over p q r known k own xs ts us vs hs is js lt own_is e before add start =
      let lists : List (List ℕ) = neighbours_in known in
      subst (λ (ps : List (ℕ × ℕ)). AreNewOver r ps (length lists) vs js) (ap (λ (ns : List ℕ). pairs_to lists k ++ row k ns) (own_list known k own xs lt own_is e) ∙ sym (pairs_more lists k))
      (add (pairs_to lists k) (length lists) (before start))

  -- all links between agents that are beside each other
  pub all_over : (p q : NodePlan W) (known : List Private) (b : AreBeside (neighbours_in known)) (n m : ℕ) (ts us : List (Vec Tail Global)) (hs is : List (Vec Head Global))
      → p.kept.items ≡ [] → rows_in ts ≡ replicate (length known) [] → rows_in hs ≡ replicate (length known) [] → length us ≡ length ts → length is ≡ length hs → n ≡ length ts → m ≡ length hs
      → AddAllLinksOver (neighbours_in known) p (rows_in ts) (rows_in hs) q (rows_in us) (rows_in is)
      → AreLinksOver (neighbours_in known) q (rows_in (take n (us ++ drop (length us) ts))) (rows_in (take m (is ++ drop (length is) hs)))
  all_over p q known b n m ts us hs is none e f long_u long_i n_is m_is add =
      let lists : List (List ℕ) = neighbours_in known in
      let same : length lists ≡ length known = length-map known (λ (o : Private). o.neighbours) in
      let new : AreNewOver q (pairs_to lists (length lists)) (length lists) (rows_in us) (rows_in is) = add (new_none p lists (length lists) (rows_in ts) (rows_in hs) none
      (e ∙ ap (λ (k : ℕ). replicate k []) (sym same)) (f ∙ ap (λ (k : ℕ). replicate k []) (sym same))) in
      let done : AreLinksOver lists q (rows_in us) (rows_in is) = record { linked = links_all (node_in q) lists b (rows_in us) (rows_in is) new.links; leads = new.leads; keeps = new.keeps } in
      subst (λ (xs : List (Vec Tail Global)). AreLinksOver lists q (rows_in xs) (rows_in (take m (is ++ drop (length is) hs)))) (sym (written_back n us ts long_u n_is))
      (subst (λ (xs : List (Vec Head Global)). AreLinksOver lists q (rows_in us) (rows_in xs)) (sym (written_back m is hs long_i m_is)) done)

-- what an agent knows of its neighbours ascends
pub row_ascends : (known : List Private) (b : AreBeside (neighbours_in known)) (k : ℕ) (own : Private) (xs : List ℕ) → k < length known → own ≡ get_or known k own → xs ≡ own.neighbours → IsStrictlyIncreasing xs
row_ascends known b k own xs lt is e =
    let lists : List (List ℕ) = neighbours_in known in
    let same : length lists ≡ length known = length-map known (λ (o : Private). o.neighbours) in
    subst (λ (ns : List ℕ). IsStrictlyIncreasing ns) (sym (own_list known k own xs lt is e ∙ list_at lists b k (omega (arith, lt, same))))
    (IsStrictlyIncreasing-filter (b.edge k) (range_with_len 0 (length lists)) (IsStrictlyIncreasing-range 0 (length lists)))
