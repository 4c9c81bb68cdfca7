-- Cells whose links between nodes are drained and fed, link by link.
use Rattle.std.proofs.Common.{◌≡◌, ◌≢◌, ℕ, zero, suc, ◌+◌, ◌<◌, ◌≤◌, ◌⊎◌, Bool, true, false, List, [], ◌∷◌, ◌++◌, length, replicate, set, get_or, min, Result, Ok, Err, Some, refl, sym, ap, ap₂, subst, ◌∙◌, inl, inr, arith, length-set}
use Rattle.std.specs.Prelude.{OnOk}
use Rattle.std.specs.List.{Contains, slice_get}
use Rattle.std.proofs.lemmas.Bool.{cases_eq}
use Rattle.std.proofs.lemmas.Option.{none-some, same_Some, slice_get_within, slice_get-get_or, get_or_from_slice_get}
use Rattle.std.proofs.lemmas.List.{append-nil, length-append}
use Rattle.std.specs.declared.dyn_box.DynBox.{DynBox}
use Rattle.std.specs.declared.alloc.Global.{Global}
use Rattle.protocol_steps.specs.declared.message.Message.{Message}
use Rattle.protocol_steps.specs.View.{View}
use Rattle.protocol_steps.specs.Rounds.{link_share}
use Rattle.fifo_links.specs.declared.ends.LinkTail.{LinkTail}
use Rattle.fifo_links.specs.Link.{SameHead, SameTail, sent_on, taken_from}
use Rattle.worker_laws.specs.Cells.{Lane, lane, peers, known_from}
use Rattle.worker_laws.proofs.EachLaws.{there}
use Rattle.worker_laws.specs.Wires.{Passage, Wire, AreApart}
use Rattle.link_records.specs.Keeping.{keeps}
use Rattle.agent_cells.specs.declared.cell.Cell.{Cell}
use Rattle.agent_cells.specs.Settled.{TailJoins, HeadJoins}
use Rattle.agent_cells.specs.State.{state_of, tails_in, heads_in, IsCell}
use Rattle.agent_workers.specs.Joined.{EachBecomes}
use Rattle.agent_workers.specs.Settled.{StaysQuiet}
use Rattle.agent_workers.proofs.ListLaws.{one_at}
use Rattle.agent_workers.proofs.CellLaws.{stays_none}
use Rattle.agent_workers.proofs.JoinLaws.{stood}
use Rattle.agent_workers.proofs.PlayLaws.{set_back}
use Rattle.tcp_links.specs.declared.plan.InnerEnds.{InnerEnds}
use Rattle.tcp_links.specs.Kept.{IsToNote, AreToNote}
use Rattle.tcp_links.specs.Drains.{HasDrained}
use Rattle.tcp_links.specs.Feeds.{AllWaits}
use Rattle.tcp_links.specs.Woven.{IsLinkIdle, AreLinksIdle, AreLinksOf, AreEmptied, CanDrain, CanDrainAll, CanFeed, CanFeedAll, AreStill, SentIsDrained, FedIsTaken, HasDrainedLink, HaveDrained, HasFedLink, HaveFed, KnowsElse, IsPassingOf}
use Rattle.node_exchange.specs.Passings.{Passing, holding, emptied}
use Rattle.tcp_links.proofs.DrainLaws.{tail_still, head_none, drained_none as nothing_drained}
use Rattle.tcp_links.proofs.FeedLaws.{heads_still, tail_none}

-- what stands in a list with one element more
in_push_list : {A : Type 0} (xs : List A) (x : A) (k : ℕ) (y : A) → slice_get (xs ++ x ∷ []) k ≡ Some y → (slice_get xs k ≡ Some y) ⊎ ((k ≡ length xs) × (y ≡ x))
in_push_list [] x zero y e = inr (refl, sym (same_Some x y e))
in_push_list [] x (suc k) y e = absurd (none-some y e)
in_push_list (z ∷ xs) x zero y e = inl e
in_push_list (z ∷ xs) x (suc k) y e = elim (in_push_list xs x k y e) [ inl old ↦ inl old | inr new ↦ inr (ap suc new.0, new.1) ]

-- a place that is inside
pub inside_list : {A : Type 0} (xs : List A) (k i : ℕ) → k ≡ i → i < length xs → k < length xs
inside_list xs k i at inside = subst (λ (n : ℕ). n < length xs) (sym at) inside

-- all other places stand where one was written
pub set_other : {A : Type 0} (xs : List A) (k j : ℕ) (y : A) → j ≢ k → slice_get (set xs k y) j ≡ slice_get xs j
set_other [] k j y ne = refl
set_other (x ∷ xs) zero zero y ne = absurd (ne refl)
set_other (x ∷ xs) zero (suc j) y ne = refl
set_other (x ∷ xs) (suc k) zero y ne = refl
set_other (x ∷ xs) (suc k) (suc j) y ne = set_other xs k j y (λ same. ne (ap suc same))

-- so do those from a place on
pub set_past : {A : Type 0} (xs ys : List A) (k : ℕ) (y : A) → ((j : ℕ) → k ≤ j → slice_get xs j ≡ slice_get ys j) → (j : ℕ) → k + 1 ≤ j → slice_get (set xs k y) j ≡ slice_get ys j
set_past xs ys k y left j le = set_other xs k j y (λ same. omega (arith, same, le)) ∙ left j (omega (arith, le))

-- what follows where there is no error
pub on_ok : {T E : Type 0} {A B : Type 0} (r : Result T E) → OnOk r A → (A → B) → OnOk r B
on_ok (Ok x) a f = f a
on_ok (Err e) a f = tt

set_here : {A : Type 0} (xs : List A) (k : ℕ) (y : A) → k < length xs → slice_get (set xs k y) k ≡ Some y
set_here [] k y lt = absurd (omega (arith, lt))
set_here (x ∷ xs) zero y lt = refl
set_here (x ∷ xs) (suc k) y lt = set_here xs k y (omega (arith, lt))

-- what stands at a place of a written list, by whether it is that place
pub at_other : {A : Type 0} (xs : List A) (k : ℕ) (y : A) (j : ℕ) (b : A) → k < length xs → j ≢ k → slice_get (set xs k y) j ≡ Some b → slice_get xs j ≡ Some b
at_other xs k y j b lt ne e = elim (set_back xs k y j b lt e) [ inl here ↦ absurd (ne here.0) | inr out ↦ out.1 ]

pub at_place : {A : Type 0} (xs : List A) (k : ℕ) (y b : A) → k < length xs → slice_get (set xs k y) k ≡ Some b → b ≡ y
at_place xs k y b lt e = elim (set_back xs k y k b lt e) [ inl here ↦ here.1 | inr out ↦ absurd (out.0 refl) ]

-- a link with other letters drained leads from where it led
still_of : (node : ℕ → ℕ) (w : Wire) (p : Passing) (es : List (ℕ × Message)) → IsPassingOf node w p → IsPassingOf node w (holding p es)
still_of node w p es is = record { from = is.from; to = is.to; from_node = is.from_node; to_node = is.to_node }

-- a link on which nothing passed is kept as it was
keeps_none : (w : Wire) → w ≡ keeps w [] []
keeps_none w = ap (λ (ps : List Passage). let v : Wire = record { receiver = w.receiver; sender = w.sender; passages = ps } in v) (sym (append-nil w.passages))

pub stays_empty : (p : Passing) → (p.drained ≡ []) × (p.arrived ≡ []) → p ≡ emptied p
stays_empty p none =
    ap (λ (es : List (ℕ × Message)). let q : Passing = record { from = p.from; to = p.to; from_node = p.from_node; to_node = p.to_node; drained = es; arrived = p.arrived } in q) none.0
    ∙ ap (λ (es : List (ℕ × Message)). let q : Passing = record { from = p.from; to = p.to; from_node = p.from_node; to_node = p.to_node; drained = []; arrived = es } in q) none.1

-- links that hold nothing more
pub emptied_none : (ps : List Passing) → AreEmptied 0 ps ps
emptied_none ps = record { size = refl; rest = λ k le. refl; emptied = λ k p q below f g. absurd (omega (arith, below)) }

pub emptied_turn : (k : ℕ) (before now : List Passing) (p q : Passing) → AreEmptied k before now → slice_get now k ≡ Some p → q ≡ emptied p → AreEmptied (k + 1) before (set now k q)
emptied_turn k before now p q h at is =
    let lt = slice_get_within now k p at in
    record {
      size = length-set now k q ∙ h.size;
      rest = set_past now before k q h.rest;
      emptied = λ j a b below f g. elim (cases_eq j k) [
        | inl here ↦
            let same_b : b ≡ q = at_place now k q b lt (subst (λ (n : ℕ). slice_get (set now k q) n ≡ Some b) here g) in
            let same_a : p ≡ a = one_at before k p a (sym (h.rest k (omega arith)) ∙ at) (subst (λ (n : ℕ). slice_get before n ≡ Some a) here f) in
            same_b ∙ is ∙ ap emptied same_a
        | inr other ↦ h.emptied j a b (omega (arith, below, other)) f (at_other now k q j b lt other g)
      ];
    }

-- one link more that holds nothing
pub idle_push : (node : ℕ → ℕ) (ws : List Wire) (ps : List Passing) (w : Wire) (p : Passing) → AreLinksIdle node ws ps → IsLinkIdle node w p → AreLinksIdle node (ws ++ w ∷ []) (ps ++ p ∷ [])
idle_push node ws ps w p h one = record {
  size = length-append ps (p ∷ []) ∙ ap (λ (n : ℕ). n + 1) h.size ∙ sym (length-append ws (w ∷ []));
  each = λ k v q f g. elim (in_push_list ps p k q g) [
    | inl old ↦ elim (in_push_list ws w k v f) [
      | inl was ↦ h.each k v q was old
      | inr new ↦ let inside = slice_get_within ps k q old in let size = h.size in let at = new.0 in absurd (omega (arith, inside, size, at))
    ]
    | inr new ↦ elim (in_push_list ws w k v f) [
      | inl was ↦ let inside = slice_get_within ws k v was in let size = h.size in let at = new.0 in absurd (omega (arith, inside, size, at))
      | inr also ↦ subst (λ (x : Wire). IsLinkIdle node x q) (sym also.1) (subst (λ (x : Passing). IsLinkIdle node w x) (sym new.1) one)
    ]
  ];
}

-- a list without marks
pub none_marked : (n k : ℕ) → slice_get (replicate n false) k ≡ Some true → ⊥
none_marked zero k e = none-some true e
none_marked (suc n) zero e = let no : false ≡ true = same_Some false true e in absurd (cc)
none_marked (suc n) (suc k) e = none_marked n k e

module _ {X : Type 0} {F : X → Type 0} (M : DynBox X Global F → View) where
  -- one cell of a list has stayed quiet
  pub one_quiet : (cells : List (Cell X F)) (k : ℕ) (y d : Cell X F) → k < length cells → StaysQuiet M (get_or cells k d) y → EachBecomes (StaysQuiet M) cells (set cells k y)
  one_quiet cells k y d lt s = record {
    size = length-set cells k y;
    each = λ i a b e f. elim (set_back cells k y i b lt f) [
      | inl here ↦
          let same : get_or cells k d ≡ a = ap (λ (n : ℕ). get_or cells n d) (sym here.0) ∙ get_or_from_slice_get cells i a d e in
          subst (λ (c : Cell X F). StaysQuiet M a c) (sym here.1) (subst (λ (c : Cell X F). StaysQuiet M c y) same s)
      | inr out ↦ subst (λ (c : Cell X F). StaysQuiet M a c) (one_at cells i a b e out.1) (stays_none M a)
    ];
  }

  -- and of other links than one of its own no cell knows more or less
  pub one_knows : (cells : List (Cell X F)) (k from : ℕ) (y d : Cell X F) → k < length cells → ((j : ℕ) → j ≢ from → known_from j (state_of M y).known ≡ known_from j (state_of M (get_or cells k d)).known)
      → KnowsElse M k from cells (set cells k y)
  one_knows cells k from y d lt others = record {
    other = λ i l a b e f ne. elim (set_back cells k y i b lt f) [
      | inl here ↦
          let same : get_or cells k d ≡ a = ap (λ (n : ℕ). get_or cells n d) (sym here.0) ∙ get_or_from_slice_get cells i a d e in
          ap (λ (c : Cell X F). known_from l (state_of M c).known) here.1 ∙ others l (λ is. ne here.0 is) ∙ ap (λ (c : Cell X F). known_from l (state_of M c).known) same
      | inr out ↦ ap (λ (c : Cell X F). known_from l (state_of M c).known) (one_at cells i b a out.1 e)
    ];
  }

  -- what stands where a cell was written
  pub set_is : (cells : List (Cell X F)) (k : ℕ) (y c : Cell X F) → k < length cells → slice_get (set cells k y) k ≡ Some c → c ≡ y
  set_is cells k y c lt e = same_Some c y (sym e ∙ set_here cells k y lt)

  -- a cell that stays quiet can be drained and fed as before
  pub drain_still : (a b : Cell X F) (w : Wire) (e : InnerEnds) → StaysQuiet M a b → CanDrain M a w e → CanDrain M b w e
  drain_still a b w e s can = record {
    cell = s.cell can.cell;
    joined = tail_still (tails_in a) (tails_in b) w.receiver e.drain e.drain can.joined s.links.tails (head_none e.drain);
    peer = subst (λ (ls : List Lane). Contains (peers ls) w.receiver) (sym s.quiet.sent) can.peer;
  }

  pub feed_still : (a b : Cell X F) (w : Wire) (e : InnerEnds) → StaysQuiet M a b → CanFeed M a w e → CanFeed M b w e
  feed_still a b w e s can = record {
    cell = s.cell can.cell;
    joined = heads_still (heads_in a) (heads_in b) w.sender e.feed can.joined s.links.heads;
    peer = subst (λ (ls : List Lane). Contains (peers ls) w.sender) (sym s.quiet.taken) can.peer;
  }

  -- what waits still does where the cell stays quiet and knows no less
  pub waits_still : (a b : Cell X F) (from : ℕ) (t : LinkTail (ℕ × Message)) → StaysQuiet M a b → known_from from (state_of M b).known ≡ known_from from (state_of M a).known → AllWaits (state_of M a) from t → AllWaits (state_of M b) from t
  waits_still a b from t s known w = record {
    waiting = w.waiting;
    whole = ap (λ (ls : List Lane). lane from ls ++ w.waiting) s.quiet.taken ∙ w.whole;
    known = subst (λ (n : ℕ). min link_share (length w.waiting) ≤ n) (sym known) w.known;
  }

  -- a cell at hand can be fed, and drained, as the link asks
  pub feed_can : (cells : List (Cell X F)) (k from : ℕ) (x : Cell X F) (w : Wire) (e : InnerEnds) → k ≡ w.receiver → from ≡ w.sender → w.receiver < length cells → x ≡ get_or cells k x
      → ((c : Cell X F) → slice_get cells w.receiver ≡ Some c → CanFeed M c w e)
      → IsCell M (get_or cells k x) × HeadJoins (heads_in (get_or cells k x)) from e.feed × Contains (peers (state_of M (get_or cells k x)).taken) from
  feed_can cells k from x w e at sender inside is can =
      let on = can (get_or cells k x) (ap (slice_get cells) (sym at) ∙ slice_get-get_or cells k x (subst (λ (n : ℕ). n < length cells) (sym at) inside)) in (
        on.cell,
        subst (λ (n : ℕ). HeadJoins (heads_in (get_or cells k x)) n e.feed) (sym sender) on.joined,
        subst (λ (n : ℕ). Contains (peers (state_of M (get_or cells k x)).taken) n) (sym sender) on.peer,
      )

  pub drain_can : (cells : List (Cell X F)) (k to : ℕ) (x : Cell X F) (w : Wire) (e : InnerEnds) → k ≡ w.sender → to ≡ w.receiver → w.sender < length cells → x ≡ get_or cells k x
      → ((c : Cell X F) → slice_get cells w.sender ≡ Some c → CanDrain M c w e)
      → IsCell M (get_or cells k x) × TailJoins (tails_in (get_or cells k x)) to e.drain × Contains (peers (state_of M (get_or cells k x)).sent) to
  drain_can cells k to x w e at receiver inside is can =
      let on = can (get_or cells k x) (ap (slice_get cells) (sym at) ∙ slice_get-get_or cells k x (subst (λ (n : ℕ). n < length cells) (sym at) inside)) in (
        on.cell,
        subst (λ (n : ℕ). TailJoins (tails_in (get_or cells k x)) n e.drain) (sym receiver) on.joined,
        subst (λ (n : ℕ). Contains (peers (state_of M (get_or cells k x)).sent) n) (sym receiver) on.peer,
      )

  -- one link more is drained
  drained_more : (node : ℕ → ℕ) (k : ℕ) (cells : List (Cell X F)) (ws : List Wire) (before now : List InnerEnds) (ps : List Passing) (w : Wire) (e d : InnerEnds) (p q : Passing)
      → HaveDrained M node k cells ws before now ps → k < length now → slice_get ws k ≡ Some w → slice_get ps k ≡ Some p → q ≡ holding p q.drained
      → ((from : Cell X F) → slice_get cells w.sender ≡ Some from → HasDrainedLink M from w (get_or now k d) e q.drained)
      → HaveDrained M node (k + 1) cells ws before (set now k e) (set ps k q)
  drained_more node k cells ws before now ps w e d p q h lt at_w at_p hold own =
      let in_ps = slice_get_within ps k p at_p in
      let old = h.passing k w p at_w at_p in
      let new : IsPassingOf node w q × (q.arrived ≡ []) = subst (λ (x : Passing). IsPassingOf node w x × (x.arrived ≡ [])) (sym hold) (still_of node w p q.drained old.0, old.1) in
      record {
        size = length-set now k e ∙ h.size;
        counted = length-set ps k q ∙ h.counted;
        rest = λ j a b le f g. h.rest j a b (omega (arith, le)) f (at_other now k e j b lt (λ same. omega (arith, same, le)) g);
        passing = λ j v r f g. elim (cases_eq j k) [
          | inl here ↦
              let same_w : w ≡ v = one_at ws j w v (ap (slice_get ws) here ∙ at_w) f in
              let same_r : r ≡ q = at_place ps k q r in_ps (subst (λ (n : ℕ). slice_get (set ps k q) n ≡ Some r) here g) in
              subst (λ (x : Passing). IsPassingOf node v x × (x.arrived ≡ [])) (sym same_r) (subst (λ (x : Wire). IsPassingOf node x q × (q.arrived ≡ [])) same_w new)
          | inr other ↦ h.passing j v r f (at_other ps k q j r in_ps other g)
        ];
        idle = λ j r le g. h.idle j r (omega (arith, le)) (at_other ps k q j r in_ps (λ same. omega (arith, same, le)) g);
        drained = λ j v from a b r below f c ga gb gr. elim (cases_eq j k) [
          | inl here ↦
              let same_w : w ≡ v = one_at ws j w v (ap (slice_get ws) here ∙ at_w) f in
              let same_b : b ≡ e = at_place now k e b lt (subst (λ (n : ℕ). slice_get (set now k e) n ≡ Some b) here gb) in
              let same_r : r ≡ q = at_place ps k q r in_ps (subst (λ (n : ℕ). slice_get (set ps k q) n ≡ Some r) here gr) in
              let was : get_or now k d ≡ a = h.rest k a (get_or now k d) (omega arith) (subst (λ (n : ℕ). slice_get before n ≡ Some a) here ga) (slice_get-get_or now k d lt) in
              let own_v : HasDrainedLink M from v (get_or now k d) e q.drained = subst (λ (x : Wire). HasDrainedLink M from x (get_or now k d) e q.drained) same_w (own from (subst (λ (x : Wire). slice_get cells x.sender ≡ Some from) (sym same_w) c)) in
              subst (λ (x : InnerEnds). HasDrainedLink M from v a x r.drained) (sym same_b)
              (subst (λ (x : InnerEnds). HasDrainedLink M from v x e r.drained) was (subst (λ (x : Passing). HasDrainedLink M from v (get_or now k d) e x.drained) (sym same_r) own_v))
          | inr other ↦ h.drained j v from a b r (omega (arith, below, other)) f c ga (at_other now k e j b lt other gb) (at_other ps k q j r in_ps other gr)
        ];
      }

  pub drained_none : (node : ℕ → ℕ) (cells : List (Cell X F)) (ws : List Wire) (before : List InnerEnds) (ps : List Passing) → AreLinksIdle node ws ps → HaveDrained M node 0 cells ws before before ps
  drained_none node cells ws before ps idle = record {
    size = refl;
    counted = idle.size;
    rest = λ j a b le f g. one_at before j b a g f;
    passing = λ j v q f g. let on = idle.each j v q f g in (on.link, on.arrived);
    idle = λ j q le g.
        let inside = slice_get_within ps j q g in
        let size = idle.size in
        let w = there ws j (omega (arith, inside, size)) in
        (idle.each j w.0 q w.1 g).drained;
    drained = λ j v from a b q below f c ga gb gq. absurd (omega (arith, below));
  }

  -- one link more is fed
  pub fed_more : (k : ℕ) (was cells : List (Cell X F)) (ws vs : List Wire) (before now : List InnerEnds) (ps : List Passing) (w v : Wire) (e d : InnerEnds) (x : Wire) (p : Passing)
      → HaveFed M k was ws vs before now ps → AreApart ws → EachBecomes (StaysQuiet M) was cells → KnowsElse M w.receiver w.sender was cells → k < length vs → k < length now
      → slice_get ws k ≡ Some w → get_or vs k x ≡ w → slice_get ps k ≡ Some p → ((to : Cell X F) → slice_get cells w.receiver ≡ Some to → HasFedLink M to w v (get_or now k d) e p)
      → HaveFed M (k + 1) cells ws (set vs k v) before (set now k e) ps
  fed_more k was cells ws vs before now ps w v e d x p h apart quiet known lt_v lt at_w is_w at_p own =
      let size = h.size in
      let wires = h.wires in
      record {
        size = length-set now k e ∙ size;
        wires = length-set vs k v ∙ wires;
        rest = λ j a b le f g. h.rest j a b (omega (arith, le)) f (at_other now k e j b lt (λ same. omega (arith, same, le)) g);
        left = λ j a b le f g. h.left j a b (omega (arith, le)) f (at_other vs k v j b lt_v (λ same. omega (arith, same, le)) g);
        fed = λ j u y to a b q below f g c ga gb gq. elim (cases_eq j k) [
          | inl here ↦
              let same_w : w ≡ u = one_at ws j w u (ap (slice_get ws) here ∙ at_w) f in
              let same_y : y ≡ v = at_place vs k v y lt_v (subst (λ (n : ℕ). slice_get (set vs k v) n ≡ Some y) here g) in
              let same_b : b ≡ e = at_place now k e b lt (subst (λ (n : ℕ). slice_get (set now k e) n ≡ Some b) here gb) in
              let same_p : p ≡ q = one_at ps j p q (ap (slice_get ps) here ∙ at_p) gq in
              let same_a : get_or now k d ≡ a = h.rest k a (get_or now k d) (omega arith) (subst (λ (n : ℕ). slice_get before n ≡ Some a) here ga) (slice_get-get_or now k d lt) in
              let one : HasFedLink M to w v (get_or now k d) e p = own to (subst (λ (z : Wire). slice_get cells z.receiver ≡ Some to) (sym same_w) c) in
              let two : HasFedLink M to u v a e q = subst (λ (z : Passing). HasFedLink M to u v a e z) same_p (subst (λ (z : InnerEnds). HasFedLink M to u v z e p) same_a (subst (λ (z : Wire). HasFedLink M to z v (get_or now k d) e p) same_w one)) in
              subst (λ (z : InnerEnds). HasFedLink M to u y a z q) (sym same_b) (subst (λ (z : Wire). HasFedLink M to u z a e q) (sym same_y) two)
          | inr other ↦
              let old = stood M (StaysQuiet M) was cells quiet u.receiver to c in
              let on = h.fed j u y old.0 a b q (omega (arith, below, other)) f (at_other vs k v j y lt_v other g) old.1 ga (at_other now k e j b lt other gb) gq in
              record {
                end = on.end;
                fed = on.fed;
                waits = waits_still old.0 to u.sender b.feed old.2 (known.other u.receiver u.sender old.0 to old.1 c (λ r s. other (apart j k u w f at_w r s))) on.waits;
                drain = on.drain;
                none = λ none. ap (lane u.sender) old.2.quiet.taken ∙ on.none none;
                kept = on.kept;
              }
        ];
      }

  pub fed_none : (cells : List (Cell X F)) (ws : List Wire) (before : List InnerEnds) (ps : List Passing) → HaveFed M 0 cells ws ws before before ps
  fed_none cells ws before ps = record {
    size = refl;
    wires = refl;
    rest = λ j a b le f g. one_at before j b a g f;
    left = λ j a b le f g. one_at ws j b a g f;
    fed = λ j u y to a b q below f g c ga gb gq. absurd (omega (arith, below));
  }

  pub one_knows_so : (cells : List (Cell X F)) (k from i j : ℕ) (y d : Cell X F) → k ≡ i → from ≡ j → i < length cells → ((l : ℕ) → l ≢ from → known_from l (state_of M y).known ≡ known_from l (state_of M (get_or cells k d)).known)
      → KnowsElse M i j cells (set cells k y)
  one_knows_so cells k from i j y d at sender inside others =
      subst (λ (n : ℕ). KnowsElse M n j cells (set cells k y)) at
      (subst (λ (n : ℕ). KnowsElse M k n cells (set cells k y)) sender (one_knows cells k from y d (subst (λ (n : ℕ). n < length cells) (sym at) inside) others))

  -- a link that was drained to its end
  pub drained_link : (cells : List (Cell X F)) (k to : ℕ) (d x y : Cell X F) (w : Wire) (before after : InnerEnds) (es fs : List (ℕ × Message)) → fs ≡ es → k ≡ w.sender → to ≡ w.receiver → w.sender < length cells → slice_get cells w.sender ≡ Some x
      → StaysQuiet M (get_or cells k d) y → SameHead before.drain after.drain → HasDrained before.drain [] after.drain es → taken_from after.drain ≡ lane to (state_of M y).sent → after.feed ≡ before.feed → after.waits ≡ before.waits → HasDrainedLink M x w before after fs
  drained_link cells k to d x y w before after es fs held at receiver inside is quiet end more all feed waits =
      let same : get_or cells k d ≡ x = ap (λ (n : ℕ). get_or cells n d) at ∙ get_or_from_slice_get cells w.sender x d is in
      record {
        end = end;
        more = subst (λ (gs : List (ℕ × Message)). HasDrained before.drain [] after.drain gs) (sym held) more;
        all = all ∙ ap (λ (n : ℕ). lane n (state_of M y).sent) receiver ∙ ap (lane w.receiver) quiet.quiet.sent ∙ ap (λ (c : Cell X F). lane w.receiver (state_of M c).sent) same;
        feed = feed;
        waits = waits;
      }

  -- a link of which nothing had to be drained
  pub drained_rest : (x : Cell X F) (w : Wire) (e : InnerEnds) (es : List (ℕ × Message)) → es ≡ [] → taken_from e.drain ≡ lane w.receiver (state_of M x).sent → HasDrainedLink M x w e e es
  drained_rest x w e es none all = record {
    end = head_none e.drain;
    more = subst (λ (fs : List (ℕ × Message)). HasDrained e.drain [] e.drain fs) (sym none) (nothing_drained e.drain []);
    all = all;
    feed = refl;
    waits = refl;
  }

  -- a link on which nothing passed, and of which all was taken
  pub fed_rest : (x : Cell X F) (w : Wire) (e : InnerEnds) (p : Passing) → p.drained ≡ [] → p.arrived ≡ [] → lane w.sender (state_of M x).taken ≡ sent_on e.feed → HasFedLink M x w w e e p
  fed_rest x w e p drained arrived taken = record {
    end = tail_none e.feed;
    fed = sym (append-nil (sent_on e.feed)) ∙ ap (λ (es : List (ℕ × Message)). sent_on e.feed ++ es) (sym arrived);
    waits = record { waiting = []; whole = append-nil (lane w.sender (state_of M x).taken) ∙ taken; known = omega arith };
    none = λ _. taken;
    drain = refl;
    kept = keeps_none w ∙ ap₂ (keeps w) (sym drained) (sym arrived);
  }

  -- cells that stand as they stood know no more or less
  pub knows_as_much : (i j : ℕ) (cells : List (Cell X F)) → KnowsElse M i j cells cells
  knows_as_much i j cells = record { other = λ k l a b e f ne. ap (λ (c : Cell X F). known_from l (state_of M c).known) (one_at cells k b a f e) }

  -- a link that was fed with what arrived
  pub fed_link : (cells : List (Cell X F)) (k from : ℕ) (x y : Cell X F) (w v : Wire) (before after : InnerEnds) (p : Passing) (es : List (ℕ × Message)) → k ≡ w.receiver → from ≡ w.sender → w.receiver < length cells → slice_get (set cells k y) w.receiver ≡ Some x
      → SameTail before.feed after.feed → es ≡ p.arrived → sent_on after.feed ≡ sent_on before.feed ++ es → AllWaits (state_of M y) from after.feed → (after.waits ≡ false → lane from (state_of M y).taken ≡ sent_on after.feed) → after.drain ≡ before.drain → v ≡ keeps w p.drained p.arrived → HasFedLink M x w v before after p
  fed_link cells k from x y w v before after p es at sender inside is end arrived fed waits none drain kept =
      let same : x ≡ y = set_is cells w.receiver y x inside (ap (λ (n : ℕ). slice_get (set cells n y) w.receiver) (sym at) ∙ is) in
      record {
        end = end;
        fed = fed ∙ ap (λ (fs : List (ℕ × Message)). sent_on before.feed ++ fs) arrived;
        waits = subst (λ (c : Cell X F). AllWaits (state_of M c) w.sender after.feed) (sym same) (subst (λ (n : ℕ). AllWaits (state_of M y) n after.feed) sender waits);
        none = λ no. ap (λ (c : Cell X F). lane w.sender (state_of M c).taken) same ∙ ap (λ (n : ℕ). lane n (state_of M y).taken) (sym sender) ∙ none no;
        drain = drain;
        kept = kept;
      }

  -- the next link can be drained
  pub drain_inside : (k : ℕ) (was now : List (Cell X F)) (ws : List Wire) (before : List InnerEnds) (w : Wire) → CanDrainAll M ws before was → EachBecomes (StaysQuiet M) was now → slice_get ws k ≡ Some w → w.sender < length now
  drain_inside k was now ws before w can quiet at_w =
      let inside = can.inside k w at_w in
      let size = quiet.size in
      omega (arith, inside, size)

  module _ (node : ℕ → ℕ) (k : ℕ) (was now : List (Cell X F)) (ws : List Wire) (before ends : List InnerEnds) (ps : List Passing) (w : Wire) (e : InnerEnds) (quiet : EachBecomes (StaysQuiet M) was now) (h : HaveDrained M node k was ws before ends ps)
      (at_w : slice_get ws k ≡ Some w) (at_e : slice_get ends k ≡ Some e) where
    -- its ends stand as they stood
    stood_ends : (old : InnerEnds) × (slice_get before k ≡ Some old) × (e ≡ old)
    stood_ends =
        let size = h.size in
        let lt = slice_get_within ends k e at_e in
        let old = there before k (omega (arith, lt, size)) in
        (old.0, old.1, h.rest k old.0 e (omega arith) old.1 at_e)

    pub drain_next : CanDrainAll M ws before was → (c : Cell X F) → slice_get now w.sender ≡ Some c → CanDrain M c w e
    drain_next can c is =
        let from = stood M (StaysQuiet M) was now quiet w.sender c is in
        let old = stood_ends in
        subst (λ (x : InnerEnds). CanDrain M c w x) (sym old.2) (drain_still from.0 c w old.0 from.2 (can.each k w old.0 from.0 at_w old.1 from.1))

    pub sent_next : (still : List Bool) → SentIsDrained M still ws before was → (c : Cell X F) → slice_get now w.sender ≡ Some c → slice_get still w.sender ≡ Some true
        → taken_from e.drain ≡ lane w.receiver (state_of M c).sent
    sent_next still s c is marked =
        let from = stood M (StaysQuiet M) was now quiet w.sender c is in
        let old = stood_ends in
        ap (λ (x : InnerEnds). taken_from x.drain) old.2 ∙ s.each k w old.0 from.0 at_w old.1 from.1 marked ∙ ap (lane w.receiver) (sym from.2.quiet.sent)

  -- what was drained while cells stayed quiet
  drained_still : (was now : List (Cell X F)) (w : Wire) (before after : InnerEnds) (es : List (ℕ × Message)) → EachBecomes (StaysQuiet M) was now → ((c : Cell X F) → slice_get now w.sender ≡ Some c → HasDrainedLink M c w before after es)
      → (from : Cell X F) → slice_get was w.sender ≡ Some from → HasDrainedLink M from w before after es
  drained_still was now w before after es quiet own from is =
      let size = quiet.size in
      let lt = slice_get_within was w.sender from is in
      let c = there now w.sender (omega (arith, lt, size)) in
      let on = own c.0 c.1 in
      record {
        end = on.end;
        more = on.more;
        all = on.all ∙ ap (lane w.receiver) (quiet.each w.sender from c.0 is c.1).quiet.sent;
        feed = on.feed;
        waits = on.waits;
      }

  -- it was drained
  pub drain_turn : (node : ℕ → ℕ) (k : ℕ) (was now : List (Cell X F)) (ws : List Wire) (before ends : List InnerEnds) (ps : List Passing) (w : Wire) (d e : InnerEnds) (p q : Passing)
      → HaveDrained M node k was ws before ends ps → EachBecomes (StaysQuiet M) was now → slice_get ws k ≡ Some w → slice_get ends k ≡ Some d → slice_get ps k ≡ Some p → q ≡ holding p q.drained
      → ((c : Cell X F) → slice_get now w.sender ≡ Some c → HasDrainedLink M c w d e q.drained) → HaveDrained M node (k + 1) was ws before (set ends k e) (set ps k q)
  drain_turn node k was now ws before ends ps w d e p q h quiet at_w at_d at_p hold own =
      let same : d ≡ get_or ends k d = sym (get_or_from_slice_get ends k d d at_d) in
      drained_more node k was ws before ends ps w e d p q h (slice_get_within ends k d at_d) at_w at_p hold
      (λ from at. subst (λ (x : InnerEnds). HasDrainedLink M from w x e q.drained) same (drained_still was now w d e q.drained quiet own from at))

  -- the next link stands as it stood, and can be fed
  pub wire_left : (k : ℕ) (cells : List (Cell X F)) (ws vs : List Wire) (before ends : List InnerEnds) (ps : List Passing) (w : Wire) → HaveFed M k cells ws vs before ends ps → slice_get vs k ≡ Some w → slice_get ws k ≡ Some w
  wire_left k cells ws vs before ends ps w h e =
      let size = h.wires in
      let lt = slice_get_within vs k w e in
      let old = there ws k (omega (arith, lt, size)) in
      subst (λ (x : Wire). slice_get ws k ≡ Some x) (sym (h.left k old.0 w (omega arith) old.1 e)) old.1

  pub ends_left : (k : ℕ) (cells : List (Cell X F)) (ws vs : List Wire) (before ends : List InnerEnds) (ps : List Passing) (e : InnerEnds) → HaveFed M k cells ws vs before ends ps → slice_get ends k ≡ Some e → slice_get before k ≡ Some e
  ends_left k cells ws vs before ends ps e h at =
      let size = h.size in
      let lt = slice_get_within ends k e at in
      let old = there before k (omega (arith, lt, size)) in
      subst (λ (x : InnerEnds). slice_get before k ≡ Some x) (sym (h.rest k old.0 e (omega arith) old.1 at)) old.1

  -- it is still to be noted
  pub note_next : (k : ℕ) (cells : List (Cell X F)) (ws vs : List Wire) (before ends : List InnerEnds) (ps qs : List Passing) (w : Wire) (e : InnerEnds) (p : Passing) → HaveFed M k cells ws vs before ends ps → AreEmptied k ps qs
      → slice_get vs k ≡ Some w → slice_get ends k ≡ Some e → slice_get qs k ≡ Some p → AreToNote ws before ps → IsToNote w e p
  note_next k cells ws vs before ends ps qs w e p h left at_w at_e at_p t =
      t k w e p (wire_left k cells ws vs before ends ps w h at_w) (ends_left k cells ws vs before ends ps e h at_e) (sym (left.rest k (omega arith)) ∙ at_p)

  pub feed_inside : (k : ℕ) (was now : List (Cell X F)) (ws vs : List Wire) (before ends : List InnerEnds) (ps : List Passing) (w : Wire) → CanFeedAll M ws before was → EachBecomes (StaysQuiet M) was now → HaveFed M k now ws vs before ends ps
      → slice_get vs k ≡ Some w → w.receiver < length now
  feed_inside k was now ws vs before ends ps w can quiet h at_w =
      let inside = can.inside k w (wire_left k now ws vs before ends ps w h at_w) in
      let size = quiet.size in
      omega (arith, inside, size)

  pub feed_next : (k : ℕ) (was now : List (Cell X F)) (ws vs : List Wire) (before ends : List InnerEnds) (ps : List Passing) (w : Wire) (e : InnerEnds) → CanFeedAll M ws before was → EachBecomes (StaysQuiet M) was now → HaveFed M k now ws vs before ends ps
      → slice_get vs k ≡ Some w → slice_get ends k ≡ Some e → (c : Cell X F) → slice_get now w.receiver ≡ Some c → CanFeed M c w e
  feed_next k was now ws vs before ends ps w e can quiet h at_w at_e c is =
      let to = stood M (StaysQuiet M) was now quiet w.receiver c is in
      let size = h.size in
      let lt = slice_get_within ends k e at_e in
      let old = there before k (omega (arith, lt, size)) in
      let same : e ≡ old.0 = h.rest k old.0 e (omega arith) old.1 at_e in
      let on = can.each k w old.0 to.0 (wire_left k now ws vs before ends ps w h at_w) old.1 to.1 in
      feed_still to.0 c w e to.2 (subst (λ (x : InnerEnds). CanFeed M to.0 w x) (sym same) on)

  -- the receiver of the next link has taken all, where it did nothing and nothing waited
  pub taken_next : (k : ℕ) (was now : List (Cell X F)) (ws vs : List Wire) (before ends : List InnerEnds) (ps : List Passing) (w : Wire) (e : InnerEnds) (still : List Bool) → FedIsTaken M still ws before was → EachBecomes (StaysQuiet M) was now → HaveFed M k now ws vs before ends ps
      → slice_get vs k ≡ Some w → slice_get ends k ≡ Some e → (c : Cell X F) → slice_get now w.receiver ≡ Some c → slice_get still w.receiver ≡ Some true → e.waits ≡ false
      → lane w.sender (state_of M c).taken ≡ sent_on e.feed
  taken_next k was now ws vs before ends ps w e still f quiet h at_w at_e c is marked none =
      let to = stood M (StaysQuiet M) was now quiet w.receiver c is in
      let size = h.size in
      let lt = slice_get_within ends k e at_e in
      let old = there before k (omega (arith, lt, size)) in
      let same : e ≡ old.0 = h.rest k old.0 e (omega arith) old.1 at_e in
      ap (lane w.sender) to.2.quiet.taken
      ∙ f.each k w old.0 to.0 (wire_left k now ws vs before ends ps w h at_w) old.1 to.1 marked (ap (λ (x : InnerEnds). x.waits) (sym same) ∙ none)
      ∙ ap (λ (x : InnerEnds). sent_on x.feed) (sym same)

  -- its passing leads from its sender to its receiver
  pub link_next : (k : ℕ) (now : List (Cell X F)) (ws vs : List Wire) (before ends : List InnerEnds) (ps qs : List Passing) (w : Wire) (p : Passing) → AreLinksOf ws ps → HaveFed M k now ws vs before ends ps → AreEmptied k ps qs
      → slice_get vs k ≡ Some w → slice_get qs k ≡ Some p → (p.from ≡ w.sender) × (p.to ≡ w.receiver)
  link_next k now ws vs before ends ps qs w p links h left at_w at_p = links.each k w p (wire_left k now ws vs before ends ps w h at_w) (sym (left.rest k (omega arith)) ∙ at_p)

  -- it was fed
  pub feed_turn : (k : ℕ) (was now : List (Cell X F)) (ws vs : List Wire) (before ends : List InnerEnds) (ps : List Passing) (w v : Wire) (d e : InnerEnds) (p : Passing)
      → HaveFed M k was ws vs before ends ps → AreApart ws → EachBecomes (StaysQuiet M) was now → KnowsElse M w.receiver w.sender was now → slice_get vs k ≡ Some w → slice_get ends k ≡ Some d → slice_get ps k ≡ Some p
      → ((c : Cell X F) → slice_get now w.receiver ≡ Some c → HasFedLink M c w v d e p) → HaveFed M (k + 1) now ws (set vs k v) before (set ends k e) ps
  feed_turn k was now ws vs before ends ps w v d e p h apart quiet known at_w at_d at_p own =
      let same : d ≡ get_or ends k d = sym (get_or_from_slice_get ends k d d at_d) in
      fed_more k was now ws vs before ends ps w v e d w p h apart quiet known (slice_get_within vs k w at_w) (slice_get_within ends k d at_d)
      (wire_left k was ws vs before ends ps w h at_w) (get_or_from_slice_get vs k w w at_w) at_p
      (λ c is. subst (λ (x : InnerEnds). HasFedLink M c w v x e p) same (own c is))

  -- cells of which none is marked as still, and one mark more
  pub still_none : (seen : List ℕ) (still : List Bool) (cells : List (Cell X F)) → ((k : ℕ) → slice_get still k ≡ Some true → ⊥) → AreStill M seen still cells
  still_none seen still cells none = record { each = λ k c at marked. absurd (none k marked) }

  pub still_more : (seen : List ℕ) (still : List Bool) (k : ℕ) (b : Bool) (cells : List (Cell X F)) (c : Cell X F) → k < length still → slice_get cells k ≡ Some c → (b ≡ true → slice_get seen k ≡ Some (length (state_of M c).journal)) → AreStill M seen still cells
      → AreStill M seen (set still k b) cells
  still_more seen still k b cells c lt is noted h = record {
    each = λ j x at marked. elim (set_back still k b j true lt marked) [
      | inl here ↦
          let same : c ≡ x = one_at cells k c x is (ap (slice_get cells) (sym here.0) ∙ at) in
          ap (slice_get seen) here.0 ∙ noted (sym here.1) ∙ ap (λ (y : Cell X F). Some (length (state_of M y).journal)) same
      | inr out ↦ h.each j x at out.1
    ];
  }
