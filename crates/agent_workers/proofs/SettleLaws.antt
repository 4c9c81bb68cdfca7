-- Settling links one by one.
use Rattle.std.proofs.Common.{◌≡◌, ◌≢◌, ℕ, zero, suc, ◌+◌, ◌*◌, ◌<◌, ◌≤◌, true, false, List, [], ◌∷◌, length, set, get_or, slice_get, slice_index_or, Some, refl, sym, ap, subst, ◌∙◌, inl, inr, arith}
use Rattle.std.specs.List.{Contains}
use Rattle.std.proofs.Math.Nat.{div-eq_of_lt}
use Rattle.std.proofs.lemmas.Bool.{cases_eq, cases_Bool, true≢false}
use Rattle.std.proofs.lemmas.List.{append-nil}
use Rattle.std.proofs.lemmas.Option.{slice_get_within, get_or_from_slice_get, slice_get-get_or, same_Some}
use Rattle.std.specs.declared.dyn_box.DynBox.{DynBox}
use Rattle.std.specs.declared.alloc.Global.{Global}
use Rattle.dcop_base.specs.Table.{has}
use Rattle.protocol_steps.specs.View.{View}
use Rattle.protocol_steps.proofs.PrivateLaws.{contains_from_has}
use Rattle.worker_laws.specs.Cells.{CellState, peers, lane, known_from}
use Rattle.worker_laws.specs.Visits.{IsQuiet}
use Rattle.worker_laws.specs.CellRounds.{IsSettled}
use Rattle.worker_laws.specs.OneNode.{home, IsSettling}
use Rattle.worker_laws.proofs.LaneLaws.{lane_none, has_from_contains}
use Rattle.worker_laws.proofs.EachLaws.{there}
use Rattle.agent_cells.specs.declared.cell.Cell.{Cell}
use Rattle.agent_cells.specs.State.{state_of, IsCell}
use Rattle.agent_workers.specs.Joined.{states_of, EachIs, EachBecomes, AreCellsJoined}
use Rattle.agent_workers.specs.Settled.{CanSettle, StaysQuiet, HasSettled, HasSettledOne, HasSettledPlace, HasSettledTo, HaveSettled}
use Rattle.agent_workers.proofs.ListLaws.{element_at, four, map_back, each_are, one_at}
use Rattle.agent_workers.proofs.CellLaws.{settled_still, stays_none}
use Rattle.agent_workers.proofs.JoinLaws.{stood, each_stays, each_stays_then, quiet_same, joined_still}

-- all agents are in the only node
pub one_home : (nodes n i j : ℕ) → nodes ≡ 1 → i < n → j < n → home nodes n i ≡ home nodes n j
one_home nodes n i j one in_i in_j =
    let first : i * nodes < n = let same : i * nodes ≡ i = ap (λ (k : ℕ). i * k) one ∙ (let whole : i * 1 ≡ i = omega arith in whole) in omega (arith, same, in_i) in
    let second : j * nodes < n = let same : j * nodes ≡ j = ap (λ (k : ℕ). j * k) one ∙ (let whole : j * 1 ≡ j = omega arith in whole) in omega (arith, same, in_j) in
    div-eq_of_lt {n = i * nodes} {m = n} first ∙ sym (div-eq_of_lt {n = j * nodes} {m = n} second)

-- the node of one agent more
pub homes_more : (node : ℕ → ℕ) (homes : List ℕ) (k y : ℕ) → k < length homes → y ≡ node k → ((j d : ℕ) → j < k → get_or homes j d ≡ node j) → (j d : ℕ) → j < k + 1 → get_or (set homes k y) j d ≡ node j
homes_more node [] k y lt is h j d below = absurd (omega (arith, lt))
homes_more node (x ∷ homes) zero y lt is h zero d below = is
homes_more node (x ∷ homes) zero y lt is h (suc j) d below = absurd (omega (arith, below))
homes_more node (x ∷ homes) (suc k) y lt is h zero d below = h zero d (omega arith)
homes_more node (x ∷ homes) (suc k) y lt is h (suc j) d below =
    homes_more (λ n. node (suc n)) homes k y (omega (arith, lt)) is (λ i e less. h (suc i) e (omega (arith, less))) j d (omega (arith, below))

-- a link that is not there is settled
settled_apart : (i j : ℕ) (to from : CellState) → has (peers to.taken) j ≡ false → has (peers from.sent) i ≡ false → IsSettled i j to from
settled_apart i j to from no_head no_tail = record {
  waiting = [];
  whole = append-nil (lane j to.taken) ∙ lane_none j to.taken no_head ∙ sym (lane_none i from.sent no_tail);
  known = omega arith;
}

-- the place of a number
place_of : (xs : List ℕ) (j : ℕ) → has xs j ≡ true → (p : ℕ) × (slice_get xs p ≡ Some j)
place_of xs j h = let c = contains_from_has xs j h in (c.0, slice_get-get_or xs c.0 j c.1 ∙ ap (λ (n : ℕ). Some n) c.2)

contains_at : (xs : List ℕ) (p j : ℕ) → slice_get xs p ≡ Some j → Contains xs j
contains_at xs p j e = (p, slice_get_within xs p j e, get_or_from_slice_get xs p j j e)

module _ {X : Type 0} {F : X → Type 0} (M : DynBox X Global F → View) where
  -- one link was settled, by the cells at its places
  did_at : (i j : ℕ) (before after : List (Cell X F)) → HasSettledOne M i j before after → (from to from_after to_after : Cell X F) → slice_get before j ≡ Some from → slice_get before i ≡ Some to
      → slice_get after j ≡ Some from_after → slice_get after i ≡ Some to_after → HasSettled M from to from_after to_after
  did_at i j before after s from to from_after to_after e f g h =
      four (HasSettled M) (slice_index_or before j from) (slice_index_or before i from) (slice_index_or after j from) (slice_index_or after i from) from to from_after to_after
      (sym (get_or_from_slice_get before j from from e)) (sym (get_or_from_slice_get before i to from f)) (sym (get_or_from_slice_get after j from_after from g)) (sym (get_or_from_slice_get after i to_after from h)) (s.did from)

  rest_at : (i j : ℕ) (before after : List (Cell X F)) → HasSettledOne M i j before after → (k : ℕ) (a b : Cell X F) → slice_get before k ≡ Some a → slice_get after k ≡ Some b → k ≢ i → k ≢ j → b ≡ a
  rest_at i j before after s k a b e f ne other = sym (get_or_from_slice_get after k b a f) ∙ s.rest k a ne other ∙ get_or_from_slice_get before k a a e

  one_each : (i j : ℕ) (before after : List (Cell X F)) → i < length before → j < length before → HasSettledOne M i j before after → EachBecomes (StaysQuiet M) before after
  one_each i j before after in_i in_j s =
      let size : length after ≡ length before = s.size in
      let from = there before j in_j in
      let to = there before i in_i in
      let from_after = there after j (omega (arith, size, in_j)) in
      let to_after = there after i (omega (arith, size, in_i)) in
      let d = did_at i j before after s from.0 to.0 from_after.0 to_after.0 from.1 to.1 from_after.1 to_after.1 in
      record {
        size = size;
        each = λ k a b e f. elim (cases_eq k i) [
          | inl at ↦
              let is_a : to.0 ≡ a = one_at before k to.0 a (ap (slice_get before) at ∙ to.1) e in
              let is_b : to_after.0 ≡ b = one_at after k to_after.0 b (ap (slice_get after) at ∙ to_after.1) f in
              subst (λ (c : Cell X F). StaysQuiet M c b) is_a (subst (λ (c : Cell X F). StaysQuiet M to.0 c) is_b d.to_quiet)
          | inr ne ↦ elim (cases_eq k j) [
            | inl at ↦
                let is_a : from.0 ≡ a = one_at before k from.0 a (ap (slice_get before) at ∙ from.1) e in
                let is_b : from_after.0 ≡ b = one_at after k from_after.0 b (ap (slice_get after) at ∙ from_after.1) f in
                subst (λ (c : Cell X F). StaysQuiet M c b) is_a (subst (λ (c : Cell X F). StaysQuiet M from.0 c) is_b d.from_quiet)
            | inr other ↦ subst (λ (c : Cell X F). StaysQuiet M a c) (sym (rest_at i j before after s k a b e f ne other)) (stays_none M a)
          ]
        ];
      }

  -- any other cell knows as much
  one_others : (i j : ℕ) (before after : List (Cell X F)) → i < length before → j < length before → HasSettledOne M i j before after
      → (k : ℕ) (a b : Cell X F) → slice_get before k ≡ Some a → slice_get after k ≡ Some b → k ≢ i → (state_of M b).known ≡ (state_of M a).known
  one_others i j before after in_i in_j s k a b e f ne = elim (cases_eq k j) [
    | inl at ↦
        let size : length after ≡ length before = s.size in
        let to = there before i in_i in
        let to_after = there after i (omega (arith, size, in_i)) in
        (did_at i j before after s a to.0 b to_after.0 (ap (slice_get before) (sym at) ∙ e) to.1 (ap (slice_get after) (sym at) ∙ f) to_after.1).from_known
    | inr other ↦ ap (λ (c : Cell X F). (state_of M c).known) (rest_at i j before after s k a b e f ne other)
  ]

  -- the cell of agent i knows as much of other links
  one_kept : (i j : ℕ) (before after : List (Cell X F)) → j < length before → ((k : ℕ) (c : Cell X F) → slice_get before k ≡ Some c → c.me ≡ k) → HasSettledOne M i j before after
      → (k : ℕ) (a b : Cell X F) → slice_get before i ≡ Some a → slice_get after i ≡ Some b → k ≢ j → known_from k (state_of M b).known ≡ known_from k (state_of M a).known
  one_kept i j before after in_j places s k a b e f ne =
      let size : length after ≡ length before = s.size in
      let from = there before j in_j in
      let from_after = there after j (omega (arith, size, in_j)) in
      (did_at i j before after s from.0 a from_after.0 b from.1 e from_after.1 f).to_known k (λ same. ne (same ∙ places j from.0 from.1))

  pub none_settled : (node : ℕ → ℕ) (i : ℕ) (cells : List (Cell X F)) → HasSettledTo M node i 0 cells cells
  none_settled node i cells = record {
    quiet = each_stays M cells;
    others = λ k a b e f ne. ap (λ (c : Cell X F). (state_of M c).known) (one_at cells k b a f e);
    settled = λ p j to from e f same lt. absurd (omega (arith, lt));
    kept = λ j a b e f ne. ap (λ (c : Cell X F). known_from j (state_of M c).known) (one_at cells i b a f e);
  }

  place_settled : (node : ℕ → ℕ) (i p j : ℕ) (a b c : List (Cell X F)) → HasSettledTo M node i p a b → i < length b → j < length b → ((k : ℕ) (x : Cell X F) → slice_get b k ≡ Some x → x.me ≡ k)
      → ((x : Cell X F) → slice_get b i ≡ Some x → slice_get (peers (state_of M x).taken) p ≡ Some j) → node i ≡ node j → HasSettledOne M i j b c → HasSettledTo M node i (suc p) a c
  place_settled node i p j a b c h in_i in_j places at same s =
      let one = one_each i j b c in_i in_j s in
      record {
        quiet = each_stays_then M a b c h.quiet one;
        others = λ k x z e f ne. let y = stood M (StaysQuiet M) b c one k z f in one_others i j b c in_i in_j s k y.0 z y.1 f ne ∙ h.others k x y.0 e y.1 ne;
        settled = λ q k to from e f near lt there_q.
            let to_b = stood M (StaysQuiet M) b c one i to e in
            let from_b = stood M (StaysQuiet M) b c one k from f in
            let peers_b : slice_get (peers (state_of M to_b.0).taken) q ≡ Some k = ap (λ ls. slice_get (peers ls) q) (sym to_b.2.quiet.taken) ∙ there_q in
            elim (cases_eq k j) [
              | inl is ↦
                  let d = did_at i j b c s from_b.0 to_b.0 from to (ap (slice_get b) (sym is) ∙ from_b.1) to_b.1 (ap (slice_get c) (sym is) ∙ f) e in
                  subst (λ (n : ℕ). IsSettled n k (state_of M to) (state_of M from)) (places i to_b.0 to_b.1)
                  (subst (λ (n : ℕ). IsSettled to_b.0.me n (state_of M to) (state_of M from)) (places k from_b.0 from_b.1) d.settled)
              | inr ne ↦
                  let short : q < p = elim (cases_eq q p) [
                    | inl e_q ↦ absurd (ne (same_Some k j (sym peers_b ∙ ap (slice_get (peers (state_of M to_b.0).taken)) e_q ∙ at to_b.0 to_b.1)))
                    | inr ne_q ↦ omega (arith, lt, ne_q)
                  ] in
                  settled_still i k (state_of M to_b.0) (state_of M from_b.0) (state_of M to) (state_of M from) (h.settled q k to_b.0 from_b.0 to_b.1 from_b.1 near short peers_b) to_b.2.quiet from_b.2.quiet
                  (one_kept i j b c in_j places s k to_b.0 to to_b.1 e ne)
            ];
        kept = λ k x z e f far.
            let y = stood M (StaysQuiet M) b c one i z f in
            one_kept i j b c in_j places s k y.0 z y.1 f (λ is. far (same ∙ ap node (sym is))) ∙ h.kept k x y.0 e y.1 far;
      }

  place_passed : (node : ℕ → ℕ) (i p j : ℕ) (a b : List (Cell X F)) → HasSettledTo M node i p a b
      → ((x : Cell X F) → slice_get b i ≡ Some x → slice_get (peers (state_of M x).taken) p ≡ Some j) → node i ≢ node j → HasSettledTo M node i (suc p) a b
  place_passed node i p j a b h at far = record {
    quiet = h.quiet;
    others = h.others;
    settled = λ q k to from e f near lt there_q. elim (cases_eq q p) [
      | inl is ↦
          let same : k ≡ j = same_Some k j (sym there_q ∙ ap (slice_get (peers (state_of M to).taken)) is ∙ at to e) in
          absurd (far (near ∙ ap node same))
      | inr ne ↦ h.settled q k to from e f near (omega (arith, lt, ne)) there_q
    ];
    kept = h.kept;
  }

  places_of : (nodes : ℕ) (cells : List (Cell X F)) → AreCellsJoined M nodes cells → (k : ℕ) (c : Cell X F) → slice_get cells k ≡ Some c → c.me ≡ k
  places_of nodes cells j k c e = (j.wired k c e).me

  peer_below : (nodes : ℕ) (cells : List (Cell X F)) → AreCellsJoined M nodes cells → (i p k : ℕ) (c : Cell X F) → slice_get cells i ≡ Some c → slice_get (peers (state_of M c).taken) p ≡ Some k → k < length cells
  peer_below nodes cells j i p k c e f =
      let ns : List ℕ = peers (state_of M c).taken in
      subst (λ n. n < length cells) (get_or_from_slice_get ns p k k f) ((j.wired i c e).below p k (slice_get_within ns p k f))

  -- one place more
  pub place_more : (nodes : ℕ) (i p : ℕ) (a b c : List (Cell X F)) → AreCellsJoined M nodes b → i < length b → HasSettledTo M (home nodes (length a)) i p a b → HasSettledPlace M (home nodes (length b)) i p b c → HasSettledTo M (home nodes (length a)) i (p + 1) a c
  place_more nodes i p a b c joined in_i h old_s =
      let s : HasSettledPlace M (home nodes (length a)) i p b c = subst (λ (n : ℕ). HasSettledPlace M (home nodes n) i p b c) h.quiet.size old_s in
      let x = there b i in_i in
      let in_j = peer_below nodes b joined i p s.peer x.0 x.1 (s.at x.0 x.1) in
      subst (λ (n : ℕ). HasSettledTo M (home nodes (length a)) i n a c) (omega arith) (elim s.did [
        | inl did ↦ place_settled (home nodes (length a)) i p s.peer a b c h in_i in_j (places_of nodes b joined) s.at did.0 did.1
        | inr far ↦ subst (λ (cs : List (Cell X F)). HasSettledTo M (home nodes (length a)) i (suc p) a cs) (sym far.1) (place_passed (home nodes (length a)) i p s.peer a b h s.at far.0)
      ])

  -- all places
  pub places_all : (node : ℕ → ℕ) (i p : ℕ) (a b : List (Cell X F)) → ((x : Cell X F) → slice_get a i ≡ Some x → length (peers (state_of M x).taken) ≤ p) → HasSettledTo M node i p a b → (count : ℕ) → HasSettledTo M node i count a b
  places_all node i p a b all h count = record {
    quiet = h.quiet;
    others = h.others;
    settled = λ q k to from e f near lt there_q.
        let x = stood M (StaysQuiet M) a b h.quiet i to e in
        let in_q = slice_get_within (peers (state_of M to).taken) q k there_q in
        let same : length (peers (state_of M to).taken) ≡ length (peers (state_of M x.0).taken) = ap (λ ls. length (peers ls)) x.2.quiet.taken in
        let long = all x.0 x.1 in
        h.settled q k to from e f near (omega (arith, in_q, same, long)) there_q;
    kept = h.kept;
  }

  pub none_have : (node : ℕ → ℕ) (cells : List (Cell X F)) → HaveSettled M node 0 cells cells
  none_have node cells = record {
    quiet = each_stays M cells;
    settled = λ i j to from e f same lt. absurd (omega (arith, lt));
    kept = λ i j a b e f ne. ap (λ (c : Cell X F). known_from j (state_of M c).known) (one_at cells i b a f e);
  }

  -- one agent more
  pub agent_more : (nodes i : ℕ) (a b c : List (Cell X F)) → AreCellsJoined M nodes b → HaveSettled M (home nodes (length a)) i a b → ((count : ℕ) → HasSettledTo M (home nodes (length b)) i count b c) → HaveSettled M (home nodes (length a)) (i + 1) a c
  agent_more nodes i a b c joined h old_s =
      let s : (count : ℕ) → HasSettledTo M (home nodes (length a)) i count b c = λ count. subst (λ (n : ℕ). HasSettledTo M (home nodes n) i count b c) h.quiet.size (old_s count) in
      let one = (s 0).quiet in
      let joined_c = joined_still M nodes b c joined (quiet_same M b c one) in
      record {
        quiet = each_stays_then M a b c h.quiet one;
        settled = λ k j to from e f near lt.
            elim (cases_eq k i) [
              | inl is ↦ elim (cases_Bool (has (peers (state_of M to).taken) j)) [
                | inl some ↦
                    let p = place_of (peers (state_of M to).taken) j some in
                    subst (λ (n : ℕ). IsSettled n j (state_of M to) (state_of M from)) (sym is)
                    ((s (suc p.0)).settled p.0 j to from (ap (slice_get c) (sym is) ∙ e) f (subst (λ (n : ℕ). home nodes (length a) n ≡ home nodes (length a) j) is near) (omega arith) p.1)
                | inr none ↦
                    let no_tail : has (peers (state_of M from).sent) k ≡ false = elim (cases_Bool (has (peers (state_of M from).sent) k)) [
                      | inr out ↦ out
                      | inl there_k ↦
                          let there_taken : has (peers (state_of M from).taken) k ≡ true = ap (λ ns. has ns k) (sym (joined_c.wired j from f).both) ∙ there_k in
                          let back = joined_c.back j k from to f e (contains_from_has (peers (state_of M from).taken) k there_taken) in
                          absurd (true≢false (sym (has_from_contains (peers (state_of M to).taken) j back) ∙ none))
                    ] in
                    settled_apart k j (state_of M to) (state_of M from) none no_tail
              ]
              | inr ne ↦
                  let to_b = stood M (StaysQuiet M) b c one k to e in
                  let from_b = stood M (StaysQuiet M) b c one j from f in
                  settled_still k j (state_of M to_b.0) (state_of M from_b.0) (state_of M to) (state_of M from) (h.settled k j to_b.0 from_b.0 to_b.1 from_b.1 near (omega (arith, lt, ne))) to_b.2.quiet from_b.2.quiet
                  (ap (known_from j) ((s 0).others k to_b.0 to to_b.1 e ne))
            ];
        kept = λ k j x z e f far.
            let y = stood M (StaysQuiet M) b c one k z f in
            (elim (cases_eq k i) [
              | inl is ↦ (s 0).kept j y.0 z (ap (slice_get b) (sym is) ∙ y.1) (ap (slice_get c) (sym is) ∙ f) (λ near. far (ap (home nodes (length a)) is ∙ near))
              | inr ne ↦ ap (known_from j) ((s 0).others k y.0 z y.1 f ne)
            ]) ∙ h.kept k j x y.0 e y.1 far;
      }

  -- what settling all links does to the cells, as plain values
  pub settling : (node : ℕ → ℕ) (before after : List (Cell X F)) → HaveSettled M node (length before) before after → IsSettling node (states_of M before) (states_of M after)
  settling node before after h = record {
    quiet = each_are IsQuiet (state_of M) (state_of M) before after h.quiet.size (λ i a b e f. (h.quiet.each i a b e f).quiet);
    settled = λ i j to from e f near.
        let x = map_back (state_of M) after i to e in
        let y = map_back (state_of M) after j from f in
        let in_i = slice_get_within after i x.0 x.1 in
        let size = h.quiet.size in
        subst (λ (s : CellState). IsSettled i j s from) x.2 (subst (λ (s : CellState). IsSettled i j (state_of M x.0) s) y.2 (h.settled i j x.0 y.0 x.1 y.1 near (omega (arith, in_i, size))));
    kept = λ i j old new e f lt far.
        let x = map_back (state_of M) before i old e in
        let y = map_back (state_of M) after i new f in
        ap (λ (s : CellState). known_from j s.known) (sym y.2) ∙ h.kept i j x.0 y.0 x.1 y.1 far ∙ ap (λ (s : CellState). known_from j s.known) x.2;
  }

  -- the peer at a place of an agent's list
  module _ (nodes i p k : ℕ) (cells : List (Cell X F)) (c : Cell X F) (joined : AreCellsJoined M nodes cells) (at : slice_get cells i ≡ Some c)
      (lt : p < length (peers (state_of M c).taken)) (is : k ≡ slice_index_or (peers (state_of M c).taken) p k) where
    peer_is : slice_get (peers (state_of M c).taken) p ≡ Some k
    peer_is = element_at (peers (state_of M c).taken) p k lt is

    pub peer_inside : k < length cells
    peer_inside = peer_below nodes cells joined i p k c at peer_is

    pub peer_other : i ≢ k
    peer_other e = joined.others i c at (subst (λ (n : ℕ). Contains (peers (state_of M c).taken) n) (sym e) (contains_at (peers (state_of M c).taken) p k peer_is))

    has_peer : has (peers (state_of M c).taken) k ≡ true
    has_peer = has_from_contains (peers (state_of M c).taken) k (contains_at (peers (state_of M c).taken) p k peer_is)

    pub peer_can : EachIs (λ x. IsCell M x) cells → home nodes (length cells) i ≡ home nodes (length cells) k → (d : Cell X F) → CanSettle M (slice_index_or cells k d) (slice_index_or cells i d)
    peer_can sound near d =
        let b = there cells k peer_inside in
        let me_b : b.0.me ≡ k = places_of nodes cells joined k b.0 b.1 in
        let me_c : c.me ≡ i = places_of nodes cells joined i c at in
        let back = joined.back i k c b.0 at b.1 (contains_at (peers (state_of M c).taken) p k peer_is) in
        let tail : has (peers (state_of M b.0).sent) c.me ≡ true = ap (λ ns. has ns c.me) (joined.wired k b.0 b.1).both ∙ ap (has (peers (state_of M b.0).taken)) me_c ∙ has_from_contains (peers (state_of M b.0).taken) i back in
        let can : CanSettle M b.0 c = record {
          from_cell = sound.each k b.0 b.1;
          to_cell = sound.each i c at;
          joined = joined.ends k i b.0 c b.1 at (sym near);
          alike = tail ∙ sym (ap (has (peers (state_of M c).taken)) me_b ∙ has_peer);
        } in
        subst (λ (x : Cell X F). CanSettle M x (slice_index_or cells i d)) (sym (get_or_from_slice_get cells k b.0 d b.1))
        (subst (λ (x : Cell X F). CanSettle M b.0 x) (sym (get_or_from_slice_get cells i c d at)) can)

    peer_at : (x : Cell X F) → slice_get cells i ≡ Some x → slice_get (peers (state_of M x).taken) p ≡ Some k
    peer_at x e = subst (λ (y : Cell X F). slice_get (peers (state_of M y).taken) p ≡ Some k) (one_at cells i c x at e) peer_is

    pub peer_did : (after : List (Cell X F)) → home nodes (length cells) i ≡ home nodes (length cells) k → HasSettledOne M i k cells after → HasSettledPlace M (home nodes (length cells)) i p cells after
    peer_did after near one = record { peer = k; at = peer_at; did = inl (near, one) }

    pub peer_far : home nodes (length cells) i ≢ home nodes (length cells) k → HasSettledPlace M (home nodes (length cells)) i p cells cells
    peer_far far = record { peer = k; at = peer_at; did = inr (far, refl) }

  pub place_still : (i p : ℕ) (a b : List (Cell X F)) (x : Cell X F) → EachBecomes (StaysQuiet M) a b → slice_get a i ≡ Some x → p < length (peers (state_of M x).taken)
      → (y : Cell X F) → slice_get b i ≡ Some y → p < length (peers (state_of M y).taken)
  place_still i p a b x e at lt y is =
      subst (λ (n : ℕ). p < n) (ap (λ ls. length (peers ls)) (sym (e.each i x y at is).quiet.taken)) lt

  pub place_past : (i n : ℕ) (a : List (Cell X F)) (x : Cell X F) → slice_get a i ≡ Some x → length (peers (state_of M x).taken) ≤ n → (y : Cell X F) → slice_get a i ≡ Some y → length (peers (state_of M y).taken) ≤ n
  place_past i n a x at le y is = subst (λ (c : Cell X F). length (peers (state_of M c).taken) ≤ n) (one_at a i x y at is) le
