-- Cells that stay the same except for what they know.
use Rattle.std.proofs.Common.{◌≡◌, ◌≢◌, ℕ, suc, ◌+◌, ◌==◌, not, if◌then◌else◌, Bool, true, false, Option, Result, Err, List, [], ◌∷◌, ◌++◌, length, Some, None, refl, sym, ap, subst, ◌∙◌, inl, inr, arith}
use Rattle.std.specs.Prelude.{IfSome}
use Rattle.std.proofs.lemmas.Bool.{cases_Bool, eqb-true}
use Rattle.std.proofs.lemmas.List.Sums.{sum_by-cons}
use Rattle.std.specs.declared.dyn_box.DynBox.{DynBox}
use Rattle.std.specs.declared.alloc.Global.{Global}
use Rattle.protocol_steps.specs.View.{View, ended_of}
use Rattle.fifo_links.specs.Link.{known_to}
use Rattle.worker_laws.specs.Cells.{CellState, peers, lane, known_from}
use Rattle.worker_laws.specs.Visits.{IsQuiet, IsVisit}
use Rattle.worker_laws.specs.CellRounds.{IsSettled}
use Rattle.agent_cells.specs.declared.cell.Cell.{Cell}
use Rattle.agent_cells.specs.declared.fault.VisitFault.{VisitFault}
use Rattle.agent_cells.specs.Links.{Tail, Head, known_of, AreSameTails, AreSameHeads}
use Rattle.std.specs.List.Sorted.{IsStrictlyIncreasing}
use Rattle.dcop_base.specs.Table.{has}
use Rattle.agent_cells.specs.Settled.{StandsAt, SettlesTail, SettlesHead, EndsAreSettled}
use Rattle.agent_cells.specs.State.{state_of, begun_in, fault_in, visits_in, tails_in, heads_in, IsCell, KeepsLinks}
use Rattle.agent_cells.proofs.PlainLaws.{settled_plain}
use Rattle.agent_cells.proofs.SameLaws.{same_tails, same_heads, tails_then, heads_then}
use Rattle.agent_cells.proofs.CellLaws.{visited_idle}
use Rattle.agent_workers.specs.Settled.{CanSettle, StaysQuiet, HasSettled}
use Rattle.agent_workers.specs.Turns.{HasTurned}
use Rattle.agent_workers.specs.Watched.{IsVisitedOnce}

pub quiet_none : (s : CellState) → IsQuiet s s
quiet_none s = record { me = refl; viewed = refl; stamped = refl; noted = refl; sent = refl; taken = refl }

pub quiet_then : (a b c : CellState) → IsQuiet a b → IsQuiet b c → IsQuiet a c
quiet_then a b c q r = record { me = r.me ∙ q.me; viewed = r.viewed ∙ q.viewed; stamped = r.stamped ∙ q.stamped; noted = r.noted ∙ q.noted; sent = r.sent ∙ q.sent; taken = r.taken ∙ q.taken }

-- a settled link stays settled if both cells stay quiet and no less is known of it
pub settled_still : (i j : ℕ) (to from to_after from_after : CellState) → IsSettled i j to from → IsQuiet to to_after → IsQuiet from from_after → known_from j to_after.known ≡ known_from j to.known → IsSettled i j to_after from_after
settled_still i j to from to_after from_after s q r known = record {
  waiting = s.waiting;
  whole = ap (λ ls. lane j ls ++ s.waiting) q.taken ∙ s.whole ∙ ap (lane i) (sym r.sent);
  known = let low = s.known in omega (arith, low, known);
}

counted : ℕ → Head → ℕ
counted k h = if h.0 == k then length (known_to h.1) else 0

-- what is known of the links to all peers but one
pub known_others : (from k : ℕ) (xs ys : List Head) → k ≢ from → AreSameHeads xs ys → ((p : ℕ) (h : Head) → StandsAt xs p h → h.0 ≢ from → StandsAt ys p h) → known_from k (known_of ys) ≡ known_from k (known_of xs)
known_others from k [] [] ne same others = refl
known_others from k [] (y ∷ ys) ne same others = let no : suc (length ys) ≡ 0 = same.size in absurd (omega (arith, no))
known_others from k (x ∷ xs) [] ne same others = let no : 0 ≡ suc (length xs) = same.size in absurd (omega (arith, no))
known_others from k (x ∷ xs) (y ∷ ys) ne same others =
    let size : suc (length ys) ≡ suc (length xs) = same.size in
    let rest = known_others from k xs ys ne (record { size = omega (arith, size); each = λ p d lt. same.each (suc p) d (omega (arith, lt)) })
    (λ p h at other. let next = others (suc p) h (record { inside = let l = at.inside in omega (arith, l); is = at.is }) other in record { inside = let l = next.inside in omega (arith, l); is = next.is }) in
    let old = sum_by-cons (λ (n : ℕ × ℕ). if n.0 == k then n.1 else 0) (x.0, length (known_to x.1)) (known_of xs) in
    let new = sum_by-cons (λ (n : ℕ × ℕ). if n.0 == k then n.1 else 0) (y.0, length (known_to y.1)) (known_of ys) in
    let peer : y.0 ≡ x.0 = (same.each 0 x (omega arith)).peer in
    let head : (if y.0 == k then length (known_to y.1) else 0) ≡ (if x.0 == k then length (known_to x.1) else 0) = elim (cases_Bool (x.0 == k)) [
      | inl here ↦
          let other : x.0 ≢ from = λ e. ne (sym (eqb-true x.0 k here) ∙ e) in
          let is : y ≡ x = (others 0 x (record { inside = omega arith; is = refl }) other).is in
          ap (λ (h : Head). if h.0 == k then length (known_to h.1) else 0) is
      | inr out ↦
          ap (λ (b : Bool). if b then length (known_to y.1) else 0) (ap (λ n. n == k) peer ∙ out) ∙ sym (ap (λ (b : Bool). if b then length (known_to x.1) else 0) out)
    ] in
    omega (arith, rest, old, new, head)

-- a test that holds, and its opposite
pub not_true : (marked idle : Bool) → idle ≡ not marked → idle ≡ true → marked ≡ false
not_true false idle is holds = refl
not_true true idle is holds = let no : false ≡ true = sym is ∙ holds in absurd (cc)

pub not_both : (idle : Bool) → idle ≡ false → idle ≡ true → ⊥
not_both idle is holds = let no : false ≡ true = sym is ∙ holds in absurd (cc)

module _ {X : Type 0} {F : X → Type 0} (M : DynBox X Global F → View) where
  pub keeps_none : (c : Cell X F) → KeepsLinks c c
  keeps_none c = record { tails = same_tails c.tails.items; heads = same_heads c.heads.items }

  pub keeps_then : (a b c : Cell X F) → KeepsLinks a b → KeepsLinks b c → KeepsLinks a c
  keeps_then a b c k l = record { tails = tails_then a.tails.items b.tails.items c.tails.items k.tails l.tails; heads = heads_then a.heads.items b.heads.items c.heads.items k.heads l.heads }

  pub stays_none : (c : Cell X F) → StaysQuiet M c c
  stays_none c = record { cell = λ s. s; quiet = quiet_none (state_of M c); links = keeps_none c; begun = refl; fault = refl; visits = refl }

  pub stays_then : (a b c : Cell X F) → StaysQuiet M a b → StaysQuiet M b c → StaysQuiet M a c
  stays_then a b c s t = record {
    cell = λ sound. t.cell (s.cell sound);
    quiet = quiet_then (state_of M a) (state_of M b) (state_of M c) s.quiet t.quiet;
    links = keeps_then a b c s.links t.links;
    begun = t.begun ∙ s.begun;
    fault = t.fault ∙ s.fault;
    visits = t.visits ∙ s.visits;
  }

  pub has_settled : (from to from_after to_after : Cell X F) (count : ℕ) → CanSettle M from to → IsCell M from_after → IsCell M to_after
      → IsQuiet (state_of M from) (state_of M from_after) → IsQuiet (state_of M to) (state_of M to_after)
      → SettlesTail (tails_in from) to.me (tails_in from_after) → SettlesHead (heads_in to) from.me (heads_in to_after) → EndsAreSettled (tails_in from_after) to.me (heads_in to_after) from.me count
      → heads_in from_after ≡ heads_in from → tails_in to_after ≡ tails_in to → (begun_in from_after ≡ begun_in from) × (begun_in to_after ≡ begun_in to) → (fault_in from_after ≡ fault_in from) × (fault_in to_after ≡ fault_in to)
      → (visits_in from_after ≡ visits_in from) × (visits_in to_after ≡ visits_in to)
      → HasSettled M from to from_after to_after
  has_settled from to from_after to_after count can from_cell to_cell q r tails heads ends same_h same_t begun fault visits =
      record {
        from_quiet = record {
          cell = λ _. from_cell;
          quiet = q;
          links = record { tails = tails.same; heads = subst (λ (hs : List Head). AreSameHeads (heads_in from) hs) (sym same_h) (same_heads (heads_in from)) };
          begun = begun.0;
          fault = fault.0;
          visits = visits.0;
        };
        from_known = ap known_of same_h;
        to_quiet = record {
          cell = λ _. to_cell;
          quiet = r;
          links = record { tails = subst (λ (ts : List Tail). AreSameTails (tails_in to) ts) (sym same_t) (same_tails (tails_in to)); heads = heads.same };
          begun = begun.1;
          fault = fault.1;
          visits = visits.1;
        };
        to_known = λ k ne. known_others from.me k (heads_in to) (heads_in to_after) ne heads.same heads.others;
        settled = settled_plain to.me from.me count (state_of M to_after) (state_of M from_after) (tails_in from_after) (heads_in to_after) refl refl refl
            (subst (λ (ns : List ℕ). IsStrictlyIncreasing ns) (sym from_cell.sent) from_cell.ascend) (subst (λ (ns : List ℕ). IsStrictlyIncreasing ns) (sym to_cell.taken) to_cell.ascend)
            (ap (λ ls. has (peers ls) to.me) q.sent ∙ can.alike ∙ sym (ap (λ ls. has (peers ls) from.me) r.taken)) ends;
      }

  -- a cell that has not failed, and knows of nothing that waits, has had a turn that took nothing
  pub idle_turn : (c : Cell X F) → fault_in c ≡ None → ((j : ℕ) → known_from j (state_of M c).known ≡ 0) → HasTurned M 0 c c
  idle_turn c fine none = record { rests = λ _. (refl, refl); visit = λ _. (visited_idle (state_of M c) (state_of M c) none refl refl refl refl refl refl, fine); fine = λ _. fine }

  pub ended_turn : (c : Cell X F) → ended_of (state_of M c).view ≡ true → HasTurned M 0 c c
  ended_turn c ended = record {
    rests = λ _. (refl, refl);
    visit = λ live. let no : true ≡ false = sym ended ∙ live in absurd (cc);
    fine = λ live. let no : true ≡ false = sym ended ∙ live in absurd (cc);
  }

  -- a cell that had failed returns its fault at every later visit
  fine_before : (o : Option VisitFault) (r : Result ℕ VisitFault) (a b : Cell X F) → fault_in a ≡ o → fault_in b ≡ None → IfSome o (λ f. (r ≡ Err f) × (b ≡ a)) → o ≡ None
  fine_before None r a b is fine again = refl
  fine_before (Some f) r a b is fine again = sym is ∙ ap (λ (c : Cell X F). fault_in c) (sym again.1) ∙ fine

  -- a cell that was visited has had its turn
  pub live_turn : (n : ℕ) (r : Result ℕ VisitFault) (a b : Cell X F) → ended_of (state_of M a).view ≡ false → IsVisit (state_of M a) n (state_of M b) → fault_in b ≡ None → IfSome (fault_in a) (λ f. (r ≡ Err f) × (b ≡ a)) → HasTurned M n a b
  live_turn n r a b live visit fine again = record {
    rests = λ ended. let no : true ≡ false = sym ended ∙ live in absurd (cc);
    visit = λ _. (visit, fine);
    fine = λ _. fine_before (fault_in a) r a b refl fine again;
  }

  pub live_once : (n : ℕ) (a b : Cell X F) → HasTurned M n a b → visits_in b ≡ visits_in a + 1 → IsVisitedOnce M a b
  live_once n a b turn once = record { count = n; turn = turn; once = λ _. once }

  -- a cell that has ended has had its turn
  pub ended_once : (c : Cell X F) → ended_of (state_of M c).view ≡ true → IsVisitedOnce M c c
  ended_once c ended = record {
    count = 0;
    turn = ended_turn c ended;
    once = λ live. let no : true ≡ false = sym ended ∙ live in absurd (cc);
  }
