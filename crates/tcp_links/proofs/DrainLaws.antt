-- Draining a link between nodes to its end.
use Rattle.std.proofs.Common.{◌≡◌, ℕ, suc, ◌+◌, ◌-◌, ◌<◌, ◌≤◌, Bool, true, false, ◌==◌, ◌||◌, if◌then◌else◌, ◌⊎◌, List, [], ◌∷◌, ◌++◌, length, refl, sym, ap, ap₂, subst, ◌∙◌, inl, inr, arith, slice_index_or}
use Rattle.std.specs.List.{Contains}
use mathlib.Core.List.{IsPrefix}
use Rattle.std.specs.List.Sorted.{IsStrictlyIncreasing}
use Rattle.std.specs.declared.dyn_box.DynBox.{DynBox}
use Rattle.std.specs.declared.alloc.Global.{Global}
use Rattle.std.proofs.lemmas.Bool.{cases_Bool, eqb-true, true≢false}
use Rattle.std.proofs.lemmas.List.{append-nil, append_assoc, length-append, get_or_default}
use Rattle.dcop_base.specs.Table.{has}
use Rattle.dcop_base.proofs.UniqueLaws.{IsStrictlyIncreasing-tail}
use Rattle.protocol_steps.specs.declared.message.Message.{Message}
use Rattle.protocol_steps.specs.View.{View}
use Rattle.fifo_links.specs.declared.ends.LinkHead.{LinkHead}
use Rattle.fifo_links.specs.Link.{AreEnds, sent_on, backlog_of, taken_from, known_to, SameHead, HasTaken}
use Rattle.worker_laws.specs.Cells.{CellState, Lane, peers, lane}
use Rattle.worker_laws.specs.Visits.{IsQuiet}
use Rattle.worker_laws.proofs.LaneLaws.{once, lane_none, has_from_contains}
use Rattle.agent_cells.specs.declared.cell.Cell.{Cell}
use Rattle.agent_cells.specs.Links.{Tail, Head, lanes_sent, AreSameTails, AreSameHeads}
use Rattle.agent_cells.specs.Settled.{StandsAt, TailJoins, SettlesTail, TailIsSettled}
use Rattle.agent_cells.specs.State.{state_of, begun_in, fault_in, tails_in, heads_in, visits_in, IsCell}
use Rattle.agent_cells.proofs.SameLaws.{same_tails, same_heads, tails_then, heads_then}
use Rattle.agent_workers.specs.Settled.{StaysQuiet}
use Rattle.tcp_links.specs.Drains.{HasDrained}

-- the tail to a peer, and what stands on its lane
record TailOf (ts : List Tail) (j : ℕ) : Type 0 where
  place : ℕ
  tail : Tail
  at : StandsAt ts place tail
  is : tail.0 ≡ j
  lane_is : lane j (lanes_sent ts) ≡ sent_on tail.1

tail_of : (ts : List Tail) (j : ℕ) → IsStrictlyIncreasing (peers (lanes_sent ts)) → has (peers (lanes_sent ts)) j ≡ true → TailOf ts j
tail_of [] j up h = absurd (true≢false (sym h))
tail_of (t ∷ ts) j up h = elim (cases_Bool (t.0 == j)) [
  | inl here ↦
      let same : t.0 ≡ j = eqb-true t.0 j here in
      let out : has (peers (lanes_sent ts)) j ≡ false = subst (λ (n : ℕ). has (peers (lanes_sent ts)) n ≡ false) same (once t.0 (peers (lanes_sent ts)) up) in
      record {
        place = 0;
        tail = t;
        at = record { inside = omega arith; is = refl };
        is = same;
        lane_is = ap (λ (b : Bool). (if b then sent_on t.1 else []) ++ lane j (lanes_sent ts)) here ∙ ap (λ (es : List (ℕ × Message)). sent_on t.1 ++ es) (lane_none j (lanes_sent ts) out) ∙ append-nil (sent_on t.1);
      }
  | inr other ↦
      let rest = tail_of ts j (IsStrictlyIncreasing-tail t.0 (peers (lanes_sent ts)) up) (sym (ap (λ (b : Bool). b || has (peers (lanes_sent ts)) j) other) ∙ h) in
      record {
        place = suc rest.place;
        tail = rest.tail;
        at = record { inside = let l = rest.at.inside in omega (arith, l); is = rest.at.is };
        is = rest.is;
        lane_is = ap (λ (b : Bool). (if b then sent_on t.1 else []) ++ lane j (lanes_sent ts)) other ∙ rest.lane_is;
      }
]

-- the ends of one link stay so
pub tail_still : (ts us : List Tail) (to : ℕ) (h g : LinkHead (ℕ × Message)) → TailJoins ts to h → AreSameTails ts us → SameHead h g → TailJoins us to g
tail_still ts us to h g j s r = record {
  each = λ p u at_u is_u.
      let in_p : p < length ts = let l = at_u.inside in let z = s.size in omega (arith, l, z) in
      let t : Tail = slice_index_or ts p u in
      let tail = s.each p u in_p in
      let same_u : slice_index_or us p u ≡ u = at_u.is in
      let old : AreEnds t.1 h = j.each p t (record { inside = in_p; is = get_or_default ts p t u in_p }) (sym tail.peer ∙ ap (λ (x : Tail). x.0) same_u ∙ is_u) in
      let new : AreEnds (slice_index_or us p u).1 g = (
        r.0.0 ∙ old.0 ∙ sym tail.end.0.0,
        r.0.1 ∙ old.1 ∙ sym tail.end.0.1,
        r.0.2 ∙ old.2 ∙ sym tail.end.0.2,
        r.0.3 ∙ old.3 ∙ sym tail.end.0.3,
      ) in
      subst (λ (x : Tail). AreEnds x.1 g) same_u new;
}

-- a list begins with itself, and with what begins a first part of it
pub prefix_none : {A : Type 0} (xs : List A) → IsPrefix xs xs
prefix_none xs = ([], append-nil xs)

pub prefix_then : {A : Type 0} (xs ys zs : List A) → IsPrefix xs ys → IsPrefix ys zs → IsPrefix xs zs
prefix_then xs ys zs p q = (p.0 ++ q.0, sym (append_assoc xs p.0 q.0) ∙ ap (λ us. us ++ q.0) p.1 ∙ q.1)

pub prefix_more : {A : Type 0} (xs ys more : List A) → ys ≡ xs ++ more → IsPrefix xs ys
prefix_more xs ys more is = (more, sym is)

pub prefix_same : {A : Type 0} (xs ys : List A) → ys ≡ xs → IsPrefix xs ys
prefix_same xs ys is = ([], append-nil xs ∙ sym is)

pub head_then : (a b c : LinkHead (ℕ × Message)) → SameHead a b → SameHead b c → SameHead a c
head_then a b c r s = ((s.0.0 ∙ r.0.0, s.0.1 ∙ r.0.1, s.0.2 ∙ r.0.2, s.0.3 ∙ r.0.3), s.1 ∙ r.1)

pub head_none : (h : LinkHead (ℕ × Message)) → SameHead h h
head_none h = ((refl, refl, refl, refl), refl)

-- a settled link, by what its cell sent
pub record IsSoFar (s : CellState) (to count : ℕ) (h : LinkHead (ℕ × Message)) : Type 0 where
  pub backlog : List (ℕ × Message)
  pub whole : (taken_from h ++ known_to h) ++ backlog ≡ lane to s.sent
  pub full : (backlog ≡ []) ⊎ (length (known_to h) ≡ 64)
  pub counted : count ≡ length (known_to h)

pub so_far : (s : CellState) (ts : List Tail) (to count : ℕ) (h : LinkHead (ℕ × Message)) → s.sent ≡ lanes_sent ts → IsStrictlyIncreasing (peers s.sent) → Contains (peers s.sent) to → TailIsSettled ts to h count
    → IsSoFar s to count h
so_far s ts to count h sent up peer settled =
    let there : has (peers (lanes_sent ts)) to ≡ true = subst (λ (ls : List Lane). has (peers ls) to ≡ true) sent (has_from_contains (peers s.sent) to peer) in
    let t = tail_of ts to (subst (λ (ls : List Lane). IsStrictlyIncreasing (peers ls)) sent up) there in
    let on = settled.settled t.place t.tail t.at t.is in
    record {
      backlog = backlog_of t.tail.1;
      whole = on.whole ∙ sym t.lane_is ∙ ap (lane to) (sym sent);
      full = on.full;
      counted = settled.counted t.place t.tail t.at t.is;
    }

pub no_items : (es : List (ℕ × Message)) → length es ≡ 0 → es ≡ []
no_items [] none = refl
no_items (e ∷ es) none = absurd (omega (arith, none))

-- where nothing is known to wait, all was taken
pub all_taken : (s : CellState) (to : ℕ) (h : LinkHead (ℕ × Message)) → IsSoFar s to 0 h → taken_from h ≡ lane to s.sent
all_taken s to h l =
    let counted = l.counted in
    let none : known_to h ≡ [] = no_items (known_to h) (sym counted) in
    let empty : l.backlog ≡ [] = elim l.full [ inl e ↦ e | inr full ↦ absurd (omega (arith, counted, full)) ] in
    sym (append-nil (taken_from h)) ∙ sym (append-nil (taken_from h ++ []))
    ∙ ap₂ (λ (ks : List (ℕ × Message)) (bs : List (ℕ × Message)). (taken_from h ++ ks) ++ bs) (sym none) (sym empty) ∙ l.whole

-- what waits is less than before, where some of it was known and then taken
pub less_left : (s : CellState) (to count n : ℕ) (h : LinkHead (ℕ × Message)) → IsSoFar s to count h → 0 < count → length (taken_from h) + length (known_to h) ≤ n
    → length (lane to s.sent) - n < length (lane to s.sent) - length (taken_from h)
less_left s to count n h l some more =
    let counted = l.counted in
    let long : length (taken_from h) + length (known_to h) + length l.backlog ≡ length (lane to s.sent) =
    ap (λ (k : ℕ). k + length l.backlog) (sym (length-append (taken_from h) (known_to h))) ∙ sym (length-append (taken_from h ++ known_to h) l.backlog) ∙ ap length l.whole in
    omega (arith, counted, long, some, more)

-- taking more behind what was taken
pub drained_none : (h : LinkHead (ℕ × Message)) (es : List (ℕ × Message)) → HasDrained h es h es
drained_none h es = record { more = []; taken = sym (append-nil (taken_from h)); added = sym (append-nil es) }

pub drained_then : (a b c d : LinkHead (ℕ × Message)) (es fs gs : List (ℕ × Message)) → HasDrained a es b fs → taken_from c ≡ taken_from b → HasDrained c fs d gs → HasDrained a es d gs
drained_then a b c d es fs gs one same two = record {
  more = one.more ++ two.more;
  taken = two.taken ∙ ap (λ (xs : List (ℕ × Message)). xs ++ two.more) (same ∙ one.taken) ∙ append_assoc (taken_from a) one.more two.more;
  added = two.added ∙ ap (λ (xs : List (ℕ × Message)). xs ++ two.more) one.added ∙ append_assoc es one.more two.more;
}

pub drained_by : (a b : LinkHead (ℕ × Message)) (found all es : List (ℕ × Message)) (count : ℕ) → HasTaken a found count b all → found ≡ [] → HasDrained a es b (es ++ all)
drained_by a b found all es count t empty = record { more = t.items; taken = t.taken; added = ap (λ (xs : List (ℕ × Message)). es ++ xs) (t.added ∙ ap (λ (xs : List (ℕ × Message)). xs ++ t.items) empty) }

pub knows_taken : (a b : LinkHead (ℕ × Message)) (found all : List (ℕ × Message)) (count : ℕ) → HasTaken a found count b all → length (taken_from a) + length (known_to a) ≤ length (taken_from b)
knows_taken a b found all count t =
    let known = t.known in
    let counted = t.counted in
    let long = ap length t.taken ∙ length-append (taken_from a) t.items in
    omega (arith, known, counted, long)

module _ {X : Type 0} {F : X → Type 0} (M : DynBox X Global F → View) where
  quiet_none : (s : CellState) → IsQuiet s s
  quiet_none s = record { me = refl; viewed = refl; stamped = refl; noted = refl; sent = refl; taken = refl }

  pub stays_none : (c : Cell X F) → StaysQuiet M c c
  stays_none c = record {
    cell = λ s. s;
    quiet = quiet_none (state_of M c);
    links = record { tails = same_tails c.tails.items; heads = same_heads c.heads.items };
    begun = refl;
    fault = refl;
    visits = refl;
  }

  pub stays_then : (a b c : Cell X F) → StaysQuiet M a b → StaysQuiet M b c → StaysQuiet M a c
  stays_then a b c s t = record {
    cell = λ sound. t.cell (s.cell sound);
    quiet = record {
      me = t.quiet.me ∙ s.quiet.me;
      viewed = t.quiet.viewed ∙ s.quiet.viewed;
      stamped = t.quiet.stamped ∙ s.quiet.stamped;
      noted = t.quiet.noted ∙ s.quiet.noted;
      sent = t.quiet.sent ∙ s.quiet.sent;
      taken = t.quiet.taken ∙ s.quiet.taken;
    };
    links = record {
      tails = tails_then a.tails.items b.tails.items c.tails.items s.links.tails t.links.tails;
      heads = heads_then a.heads.items b.heads.items c.heads.items s.links.heads t.links.heads;
    };
    begun = t.begun ∙ s.begun;
    fault = t.fault ∙ s.fault;
    visits = t.visits ∙ s.visits;
  }

  -- settling a tail of a cell leaves it quiet
  pub tail_quiet : (a b : Cell X F) (to : ℕ) → IsCell M b → IsQuiet (state_of M a) (state_of M b) → SettlesTail (tails_in a) to (tails_in b) → heads_in b ≡ heads_in a → begun_in b ≡ begun_in a → fault_in b ≡ fault_in a → visits_in b ≡ visits_in a
      → StaysQuiet M a b
  tail_quiet a b to cell quiet tails heads begun fault visits = record {
    cell = λ _. cell;
    quiet = quiet;
    links = record { tails = tails.same; heads = subst (λ (hs : List Head). AreSameHeads (heads_in a) hs) (sym heads) (same_heads (heads_in a)) };
    begun = begun;
    fault = fault;
    visits = visits;
  }

  -- the link from a cell that has stayed quiet
  pub cell_so_far : (a b : Cell X F) (to count : ℕ) (h : LinkHead (ℕ × Message)) → StaysQuiet M a b → IsCell M b → Contains (peers (state_of M a).sent) to → TailIsSettled (tails_in b) to h count → IsSoFar (state_of M b) to count h
  cell_so_far a b to count h stays cell peer settled =
      so_far (state_of M b) (tails_in b) to count h refl (subst (λ (ns : List ℕ). IsStrictlyIncreasing ns) (sym cell.sent) cell.ascend) (subst (λ (ls : List Lane). Contains (peers ls) to) (sym stays.quiet.sent) peer) settled
