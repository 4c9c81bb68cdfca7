-- What waits for a cell on a link from another node.
use Rattle.std.proofs.Common.{◌≡◌, ℕ, zero, suc, ◌<◌, Bool, true, false, ◌==◌, ◌||◌, ◌⊎◌, if◌then◌else◌, List, [], ◌∷◌, ◌++◌, length, Result, Ok, Err, refl, sym, ap, ap₂, subst, ◌∙◌, inl, inr, arith, slice_index_or}
use Rattle.std.specs.Prelude.{is_err, IfErr}
use Rattle.std.specs.List.{Contains}
use Rattle.std.specs.List.Sorted.{IsStrictlyIncreasing}
use Rattle.std.specs.declared.dyn_box.DynBox.{DynBox}
use Rattle.std.specs.declared.alloc.Global.{Global}
use Rattle.std.proofs.lemmas.Bool.{cases_Bool, eqb-true, true≢false}
use Rattle.std.proofs.lemmas.List.{append-nil, get_or_default}
use Rattle.dcop_base.specs.Table.{has}
use Rattle.dcop_base.proofs.UniqueLaws.{IsStrictlyIncreasing-tail}
use Rattle.protocol_steps.specs.declared.message.Message.{Message}
use Rattle.protocol_steps.specs.View.{View}
use Rattle.fifo_links.specs.declared.ends.LinkTail.{LinkTail}
use Rattle.fifo_links.specs.Link.{AreEnds, sent_on, backlog_of, taken_from, known_to, SameTail, IsSettled as settled_link}
use Rattle.worker_laws.specs.Cells.{CellState, Lane, lane, peers}
use Rattle.worker_laws.specs.Visits.{IsQuiet}
use Rattle.worker_laws.specs.CellRounds.{IsSettled}
use Rattle.worker_laws.proofs.LaneLaws.{has_from_contains, once, lane_none}
use Rattle.agent_cells.specs.declared.cell.Cell.{Cell}
use Rattle.agent_cells.specs.Links.{Tail, Head, lanes_sent, lanes_taken, known_of, AreSameTails, AreSameHeads}
use Rattle.agent_cells.specs.Settled.{StandsAt, HeadJoins, SettlesHead, HeadIsSettled, EndsAreSettled}
use Rattle.agent_cells.specs.State.{state_of, begun_in, fault_in, tails_in, heads_in, visits_in, IsCell}
use Rattle.agent_cells.proofs.SameLaws.{same_tails}
use Rattle.agent_cells.proofs.PlainLaws.{settled_plain}
use Rattle.agent_workers.specs.Settled.{StaysQuiet}
use Rattle.tcp_links.specs.Feeds.{AllWaits}
use Rattle.tcp_links.proofs.DrainLaws.{no_items}

-- a refused item leaves what was sent as it was
pub refused_still : {T : Type 0} (r : Result (Unit {0}) T) (x : T) (P : Type 0) → is_err r ≡ true → IfErr r (λ back. (back ≡ x) × P) → P
refused_still (Ok y) x P is h = absurd (true≢false (sym is))
refused_still (Err y) x P is h = h.1

pub tail_none : (t : LinkTail (ℕ × Message)) → SameTail t t
tail_none t = ((refl, refl, refl, refl), refl)

pub tail_then : (a b c : LinkTail (ℕ × Message)) → SameTail a b → SameTail b c → SameTail a c
tail_then a b c r s = ((s.0.0 ∙ r.0.0, s.0.1 ∙ r.0.1, s.0.2 ∙ r.0.2, s.0.3 ∙ r.0.3), s.1 ∙ r.1)

-- the heads of a cell belong to the same link
pub head_still : (hs : List Head) (from : ℕ) (t u : LinkTail (ℕ × Message)) → HeadJoins hs from t → SameTail t u → HeadJoins hs from u
head_still hs from t u j s = record {
  each = λ k h at is.
      let old : AreEnds t h.1 = j.each k h at is in
      (old.0 ∙ sym s.0.0, old.1 ∙ sym s.0.1, old.2 ∙ sym s.0.2, old.3 ∙ sym s.0.3);
}

-- and so do those of a cell that keeps its heads
pub heads_still : (hs gs : List Head) (from : ℕ) (t : LinkTail (ℕ × Message)) → HeadJoins hs from t → AreSameHeads hs gs → HeadJoins gs from t
heads_still hs gs from t j s = record {
  each = λ k g at is.
      let lt : k < length hs = let l = at.inside in let z = s.size in omega (arith, l, z) in
      let h : Head = slice_index_or hs k g in
      let head = s.each k g lt in
      let same : slice_index_or gs k g ≡ g = at.is in
      let old : AreEnds t h.1 = j.each k h (record { inside = lt; is = get_or_default hs k h g lt }) (sym head.peer ∙ ap (λ (x : Head). x.0) same ∙ is) in
      let new : AreEnds t (slice_index_or gs k g).1 = (head.end.0.0 ∙ old.0, head.end.0.1 ∙ old.1, head.end.0.2 ∙ old.2, head.end.0.3 ∙ old.3) in
      subst (λ (x : Head). AreEnds t x.1) same new;
}

-- a list of one tail
one_tail : (t : LinkTail (ℕ × Message)) (k : ℕ) (u : Tail) → StandsAt ((0, t) ∷ []) k u → u.1 ≡ t
one_tail t zero u at = ap (λ (x : Tail). x.1) (sym at.is)
one_tail t (suc k) u at = let no = at.inside in absurd (omega (arith, no))

pub all_waits : (to : CellState) (hs : List Head) (from count : ℕ) (t : LinkTail (ℕ × Message)) → to.taken ≡ lanes_taken hs → to.known ≡ known_of hs → IsStrictlyIncreasing (peers to.taken) → Contains (peers to.taken) from
    → HeadIsSettled hs from t count → AllWaits to from t
all_waits to hs from count t taken known up peer settled =
    let ts : List Tail = (0, t) ∷ [] in
    let sender : CellState = record { me = 0; view = to.view; stamp = 0; journal = []; sent = lanes_sent ts; taken = []; known = [] } in
    let ends : EndsAreSettled ts 0 hs from count = record {
      each = λ k h at is. record {
        settled = λ p u at_u is_u. subst (λ (x : LinkTail (ℕ × Message)). settled_link x h.1) (sym (one_tail t p u at_u)) (settled.settled k h at is);
        counted = λ p u at_u is_u. settled.counted k h at is;
      };
    } in
    let on : IsSettled 0 from to sender = settled_plain 0 from count to sender ts hs refl taken known one_ascends up (sym (has_from_contains (peers to.taken) from peer)) ends in
    record { waiting = on.waiting; whole = on.whole ∙ append-nil (sent_on t); known = on.known }
  where
    one_ascends : IsStrictlyIncreasing (0 ∷ [])
    one_ascends = λ j l. absurd (omega (arith, l))

-- the head from a peer, and what stands on its lane
record HeadOf (hs : List Head) (j : ℕ) : Type 0 where
  place : ℕ
  head : Head
  at : StandsAt hs place head
  is : head.0 ≡ j
  lane_is : lane j (lanes_taken hs) ≡ taken_from head.1

head_of : (hs : List Head) (j : ℕ) → IsStrictlyIncreasing (peers (lanes_taken hs)) → has (peers (lanes_taken hs)) j ≡ true → HeadOf hs j
head_of [] j up h = absurd (true≢false (sym h))
head_of (x ∷ hs) j up h = elim (cases_Bool (x.0 == j)) [
  | inl here ↦
      let same : x.0 ≡ j = eqb-true x.0 j here in
      let out : has (peers (lanes_taken hs)) j ≡ false = subst (λ (n : ℕ). has (peers (lanes_taken hs)) n ≡ false) same (once x.0 (peers (lanes_taken hs)) up) in
      record {
        place = 0;
        head = x;
        at = record { inside = omega arith; is = refl };
        is = same;
        lane_is = ap (λ (b : Bool). (if b then taken_from x.1 else []) ++ lane j (lanes_taken hs)) here ∙ ap (λ (es : List (ℕ × Message)). taken_from x.1 ++ es) (lane_none j (lanes_taken hs) out) ∙ append-nil (taken_from x.1);
      }
  | inr other ↦
      let rest = head_of hs j (IsStrictlyIncreasing-tail x.0 (peers (lanes_taken hs)) up) (sym (ap (λ (b : Bool). b || has (peers (lanes_taken hs)) j) other) ∙ h) in
      record {
        place = suc rest.place;
        head = rest.head;
        at = record { inside = let l = rest.at.inside in omega (arith, l); is = rest.at.is };
        is = rest.is;
        lane_is = ap (λ (b : Bool). (if b then taken_from x.1 else []) ++ lane j (lanes_taken hs)) other ∙ rest.lane_is;
      }
]

-- where no message waits on a settled link, all was taken
pub all_taken_of : (to : CellState) (hs : List Head) (from count : ℕ) (t : LinkTail (ℕ × Message)) → to.taken ≡ lanes_taken hs → IsStrictlyIncreasing (peers to.taken) → Contains (peers to.taken) from
    → HeadIsSettled hs from t count → count ≡ 0 → lane from to.taken ≡ sent_on t
all_taken_of to hs from count t taken up peer settled zero_is =
    let there : has (peers (lanes_taken hs)) from ≡ true = subst (λ (ls : List Lane). has (peers ls) from ≡ true) taken (has_from_contains (peers to.taken) from peer) in
    let h = head_of hs from (subst (λ (ls : List Lane). IsStrictlyIncreasing (peers ls)) taken up) there in
    let on = settled.settled h.place h.head h.at h.is in
    let counted = settled.counted h.place h.head h.at h.is in
    let none : known_to h.head.1 ≡ [] = no_items (known_to h.head.1) (sym counted ∙ zero_is) in
    let full : (backlog_of t ≡ []) ⊎ (length (known_to h.head.1) ≡ 64) = on.full in
    let empty : backlog_of t ≡ [] = elim full [ inl e ↦ e | inr slots ↦ absurd (omega (arith, counted, zero_is, slots)) ] in
    ap (lane from) taken ∙ h.lane_is ∙ sym (append-nil (taken_from h.head.1)) ∙ sym (append-nil (taken_from h.head.1 ++ []))
    ∙ ap₂ (λ (ks : List (ℕ × Message)) (bs : List (ℕ × Message)). (taken_from h.head.1 ++ ks) ++ bs) (sym none) (sym empty) ∙ on.whole

module _ {X : Type 0} {F : X → Type 0} (M : DynBox X Global F → View) where
  -- settling a head of a cell leaves it quiet
  pub head_quiet : (a b : Cell X F) (from : ℕ) → IsCell M b → IsQuiet (state_of M a) (state_of M b) → SettlesHead (heads_in a) from (heads_in b) → tails_in b ≡ tails_in a → begun_in b ≡ begun_in a → fault_in b ≡ fault_in a → visits_in b ≡ visits_in a
      → StaysQuiet M a b
  head_quiet a b from cell quiet heads tails begun fault visits = record {
    cell = λ _. cell;
    quiet = quiet;
    links = record { tails = subst (λ (ts : List Tail). AreSameTails (tails_in a) ts) (sym tails) (same_tails (tails_in a)); heads = heads.same };
    begun = begun;
    fault = fault;
    visits = visits;
  }

  pub cell_waits : (a b : Cell X F) (from count : ℕ) (t : LinkTail (ℕ × Message)) → IsCell M b → IsQuiet (state_of M a) (state_of M b) → Contains (peers (state_of M a).taken) from → HeadIsSettled (heads_in b) from t count
      → AllWaits (state_of M b) from t
  cell_waits a b from count t cell quiet peer settled =
      all_waits (state_of M b) (heads_in b) from count t refl refl (subst (λ (ns : List ℕ). IsStrictlyIncreasing ns) (sym cell.taken) cell.ascend) (subst (λ (ls : List Lane). Contains (peers ls) from) (sym quiet.taken) peer) settled

  pub cell_takes : (a b : Cell X F) (from count : ℕ) (t : LinkTail (ℕ × Message)) → IsCell M b → IsQuiet (state_of M a) (state_of M b) → Contains (peers (state_of M a).taken) from → HeadIsSettled (heads_in b) from t count → count ≡ 0
      → lane from (state_of M b).taken ≡ sent_on t
  cell_takes a b from count t cell quiet peer settled none =
      all_taken_of (state_of M b) (heads_in b) from count t refl (subst (λ (ns : List ℕ). IsStrictlyIncreasing ns) (sym cell.taken) cell.ascend) (subst (λ (ls : List Lane). Contains (peers ls) from) (sym quiet.taken) peer) settled none
