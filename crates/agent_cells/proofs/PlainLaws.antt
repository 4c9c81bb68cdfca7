-- A settled link, by the plain values of its two cells.
use Rattle.std.proofs.Common.{◌≡◌, ℕ, zero, suc, ◌+◌, ◌<◌, ◌≤◌, Bool, true, false, ◌==◌, if◌then◌else◌, ◌||◌, ◌⊎◌, List, [], ◌∷◌, ◌++◌, length, min, refl, sym, ap, subst, ◌∙◌, inl, inr, arith, length-append}
use Rattle.std.specs.List.Sorted.{IsStrictlyIncreasing}
use Rattle.std.proofs.lemmas.Bool.{cases_Bool, eq-eqb, eqb-true, true≢false}
use Rattle.std.proofs.lemmas.List.{append-nil, append_assoc}
use Rattle.std.proofs.lemmas.List.Sums.{sum_by-cons}
use Rattle.dcop_base.specs.Table.{has}
use Rattle.dcop_base.proofs.UniqueLaws.{IsStrictlyIncreasing-tail}
use Rattle.protocol_steps.specs.declared.message.Message.{Message}
use Rattle.fifo_links.specs.Link.{sent_on, backlog_of, taken_from, known_to}
use Rattle.worker_laws.specs.Cells.{CellState, Lane, peers, lane, known_from}
use Rattle.worker_laws.specs.CellRounds.{IsSettled}
use Rattle.worker_laws.proofs.LaneLaws.{once, lane_none}
use Rattle.agent_cells.specs.Links.{Tail, Head, lanes_sent, lanes_taken, known_of}
use Rattle.agent_cells.specs.Settled.{StandsAt, EndsAreSettled}

module _ {A : Type 0} (key : A → ℕ) (messages : A → List (ℕ × Message)) where
  -- the lanes of these ends
  abbrev lanes_by : List A → List Lane
  lanes_by [] = []
  lanes_by (x ∷ xs) = record { peer = key x; messages = messages x } ∷ lanes_by xs

  -- the end of a peer, and the messages of its lane
  record IsEnd (xs : List A) (j : ℕ) : Type 0 where
    pub place : ℕ
    pub end : A
    pub at : StandsAt xs place end
    pub is : key end ≡ j
    pub lane_is : lane j (lanes_by xs) ≡ messages end

  end_of : (xs : List A) (j : ℕ) → IsStrictlyIncreasing (peers (lanes_by xs)) → has (peers (lanes_by xs)) j ≡ true → IsEnd xs j
  end_of [] j up h = absurd (true≢false (sym h))
  end_of (x ∷ xs) j up h = elim (cases_Bool (key x == j)) [
    | inl here ↦
        let same : key x ≡ j = eqb-true (key x) j here in
        let out : has (peers (lanes_by xs)) j ≡ false = subst (λ (n : ℕ). has (peers (lanes_by xs)) n ≡ false) same (once (key x) (peers (lanes_by xs)) up) in
        record {
          place = 0;
          end = x;
          at = record { inside = omega arith; is = refl };
          is = same;
          lane_is = ap (λ (b : Bool). (if b then messages x else []) ++ lane j (lanes_by xs)) here ∙ ap (λ es. messages x ++ es) (lane_none j (lanes_by xs) out) ∙ append-nil (messages x);
        }
    | inr other ↦
        let rest = end_of xs j (IsStrictlyIncreasing-tail (key x) (peers (lanes_by xs)) up) (sym (ap (λ (b : Bool). b || has (peers (lanes_by xs)) j) other) ∙ h) in
        record {
          place = suc rest.place;
          end = rest.end;
          at = record { inside = let l = rest.at.inside in omega (arith, l); is = rest.at.is };
          is = rest.is;
          lane_is = ap (λ (b : Bool). (if b then messages x else []) ++ lane j (lanes_by xs)) other ∙ rest.lane_is;
        }
  ]

tails_by : (ts : List Tail) → lanes_by (λ t. t.0) (λ t. sent_on t.1) ts ≡ lanes_sent ts
tails_by [] = refl
tails_by (t ∷ ts) = ap (λ (ls : List Lane). let l : Lane = record { peer = t.0; messages = sent_on t.1 } in l ∷ ls) (tails_by ts)

heads_by : (hs : List Head) → lanes_by (λ h. h.0) (λ h. taken_from h.1) hs ≡ lanes_taken hs
heads_by [] = refl
heads_by (h ∷ hs) = ap (λ (ls : List Lane). let l : Lane = record { peer = h.0; messages = taken_from h.1 } in l ∷ ls) (heads_by hs)

-- what a head knows counts
known_at : (hs : List Head) (k j : ℕ) (h : Head) → StandsAt hs k h → h.0 ≡ j → length (known_to h.1) ≤ known_from j (known_of hs)
known_at [] k j h at is = let no : k < 0 = at.inside in absurd (omega arith)
known_at (x ∷ hs) zero j h at is =
    let sum = sum_by-cons (λ (n : ℕ × ℕ). if n.0 == j then n.1 else 0) (x.0, length (known_to x.1)) (known_of hs) in
    let own : (if x.0 == j then length (known_to x.1) else 0) ≡ length (known_to x.1) = ap (λ (b : Bool). if b then length (known_to x.1) else 0) (eq-eqb x.0 j (ap (λ (y : Head). y.0) at.is ∙ is)) in
    let same : length (known_to x.1) ≡ length (known_to h.1) = ap (λ (y : Head). length (known_to y.1)) at.is in
    omega (arith, sum, own, same)
known_at (x ∷ hs) (suc k) j h at is =
    let sum = sum_by-cons (λ (n : ℕ × ℕ). if n.0 == j then n.1 else 0) (x.0, length (known_to x.1)) (known_of hs) in
    let rest = known_at hs k j h (record { inside = let l = at.inside in omega (arith, l); is = at.is }) is in
    omega (arith, sum, rest)

known_enough : (m n known backlog : ℕ) → n ≡ known + backlog → (backlog ≡ 0) ⊎ (known ≡ 64) → known ≤ m → min 64 n ≤ m
known_enough m n known backlog sum (inl none) low = omega (arith, sum, none, low)
known_enough m n known backlog sum (inr full) low = omega (arith, sum, full, low)

-- both ends of the link are there, or neither is
pub settled_plain : (i j count : ℕ) (to from : CellState) (ts : List Tail) (hs : List Head) → from.sent ≡ lanes_sent ts → to.taken ≡ lanes_taken hs → to.known ≡ known_of hs
    → IsStrictlyIncreasing (peers from.sent) → IsStrictlyIncreasing (peers to.taken) → has (peers from.sent) i ≡ has (peers to.taken) j → EndsAreSettled ts i hs j count → IsSettled i j to from
settled_plain i j count to from ts hs sent taken known ups upt alike s = elim (cases_Bool (has (peers to.taken) j)) [
  | inr none ↦ record {
    waiting = [];
    whole = append-nil (lane j to.taken) ∙ lane_none j to.taken none ∙ sym (lane_none i from.sent (alike ∙ none));
    known = omega arith;
  }
  | inl some ↦
      let there : to.taken ≡ lanes_by (λ (h : Head). h.0) (λ (h : Head). taken_from h.1) hs = taken ∙ sym (heads_by hs) in
      let here : from.sent ≡ lanes_by (λ (t : Tail). t.0) (λ (t : Tail). sent_on t.1) ts = sent ∙ sym (tails_by ts) in
      let h = end_of (λ (h : Head). h.0) (λ (h : Head). taken_from h.1) hs j (subst (λ (ls : List Lane). IsStrictlyIncreasing (peers ls)) there upt) (subst (λ (ls : List Lane). has (peers ls) j ≡ true) there some) in
      let t = end_of (λ (t : Tail). t.0) (λ (t : Tail). sent_on t.1) ts i (subst (λ (ls : List Lane). IsStrictlyIncreasing (peers ls)) here ups) (subst (λ (ls : List Lane). has (peers ls) i ≡ true) here (alike ∙ some)) in
      let settled = (s.each h.place h.end h.at h.is).settled t.place t.end t.at t.is in
      record {
        waiting = known_to h.end.1 ++ backlog_of t.end.1;
        whole = ap (λ es. es ++ (known_to h.end.1 ++ backlog_of t.end.1)) (ap (lane j) there ∙ h.lane_is) ∙ sym (append_assoc (taken_from h.end.1) (known_to h.end.1) (backlog_of t.end.1)) ∙ settled.whole
            ∙ sym (ap (lane i) here ∙ t.lane_is);
        known = known_enough (known_from j to.known) (length (known_to h.end.1 ++ backlog_of t.end.1)) (length (known_to h.end.1)) (length (backlog_of t.end.1)) (length-append (known_to h.end.1) (backlog_of t.end.1))
            (full_by (backlog_of t.end.1) (length (known_to h.end.1)) settled.full) (subst (λ (ks : List (ℕ × ℕ)). length (known_to h.end.1) ≤ known_from j ks) (sym known) (known_at hs h.place j h.end h.at h.is));
      }
]
  where
    full_by : (xs : List (ℕ × Message)) (n : ℕ) → (xs ≡ []) ⊎ (n ≡ 64) → (length xs ≡ 0) ⊎ (n ≡ 64)
    full_by xs n (inl e) = inl (ap length e)
    full_by xs n (inr e) = inr e
