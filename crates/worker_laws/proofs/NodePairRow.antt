-- A worked row: two ADOPT agents x and y in two nodes, in one round of one visit each, with an exchange before it and one after it. So the law's premises are met; and with one altered message all of them are met but that the links have held.
use Rattle.std.proofs.Common.{◌≡◌, ◌≢◌, ℕ, zero, suc, ◌+◌, ◌≤◌, ◌<◌, Bool, true, false, ◌==◌, nat_le, max, if◌then◌else◌, List, [], ◌∷◌, ◌++◌, length, Some, None, refl, sym, ap, subst, ◌∙◌, inl, inr, arith}
use Rattle.std.specs.List.{All, Contains, list_all, slice_get}
use Rattle.std.proofs.lemmas.Bool.{cases_Bool, cases_eq, eq-eqb, ne_eqb, and_parts, leb-true, or_from}
use Rattle.std.proofs.lemmas.Option.{none-some, same_Some}
use Rattle.std.proofs.lemmas.List.{append-nil}
use Rattle.std.proofs.lemmas.List.Elements.{All-nil, All-cons, All-head, All-tail}
use Rattle.dcop_base.specs.Table.{has}
use Rattle.dcop_base.proofs.FirstLaws.{Contains-head}
use Rattle.protocol_steps.specs.declared.message.Message.{Message}
use Rattle.protocol_steps.specs.declared.message.Message.TheVariants.{Value, Cost, Threshold}
use Rattle.protocol_steps.specs.declared.run_end.RunEnd.TheVariants.{Spent}
use Rattle.protocol_steps.specs.View.{View, ended_of}
use Rattle.protocol_steps.specs.Step.{start_of, step_of}
use Rattle.protocol_steps.specs.Run.{ascends_from, has_nothing}
use Rattle.protocol_steps.specs.Rounds.{most_events}
use Rattle.protocol_steps.specs.Stamps.{Gain, post, letters_of}
use Rattle.protocol_steps.specs.Deeds.{takes_of, greatest_of, posted_to, gained_from}
use Rattle.protocol_steps.proofs.NetworkRows.{pair_x, pair_y}
use Rattle.protocol_steps.proofs.PrivateLaws.{contains_from_has}
use Rattle.worker_laws.specs.Cells.{Lane, CellState, peers, grown, known_from, IsWired}
use Rattle.worker_laws.specs.Visits.{IsFew, IsFrom, IsTo, IsStarted, IsQuiet, IsVisit}
use Rattle.worker_laws.specs.Sprints.{IsSprint}
use Rattle.worker_laws.specs.CellRounds.{IsSettled, AreStarted}
use Rattle.worker_laws.specs.CellRuns.{MakesARun}
use Rattle.worker_laws.specs.OneNode.{home, IsSettling}
use Rattle.worker_laws.proofs.ActLaws.{sent_none}
use Rattle.worker_laws.proofs.VisitLaws.{sprints_are_visits}
use Rattle.worker_laws.specs.Wires.{Passage, Wire, IsSame, HasHeld, HaveHeld, HasPassed}
use Rattle.worker_laws.specs.Exchanges.{IsExchanged}
use Rattle.worker_laws.specs.NodeRounds.{AreNodeRounds, IsNodeEnd}
use Rattle.worker_laws.specs.NodeRuns.{IsRunInOrder}
use Rattle.worker_laws.proofs.RunLaws.{nodes_make_a_run, played_nodes_make_runs}

-- parcels that all go to one peer
abbrev all_to : ℕ → List (ℕ × Message) → Bool
all_to k ps = list_all (λ p. has (k ∷ []) p.0) ps

to_one : (k : ℕ) (ps : List (ℕ × Message)) → all_to k ps ≡ true → All (IsTo (k ∷ [])) ps
to_one k [] h = All-nil (IsTo (k ∷ []))
to_one k (p ∷ ps) h =
    let parts = and_parts (has (k ∷ []) p.0) (all_to k ps) h in
    All-cons (IsTo (k ∷ [])) p ps (contains_from_has (k ∷ []) p.0 parts.0) (to_one k ps parts.1)

one_all : {X : Type 0} (P : X → Type 0) (x : X) → P x → All P (x ∷ [])
one_all P x h = All-cons P x [] h (All-nil P)

-- a cell of agent i with one peer, which has started, and knows that so many messages wait
abbrev started : ℕ → ℕ → View → ℕ → CellState
started i k made count = record {
  me = i;
  view = (start_of made).view;
  stamp = 0;
  journal = [];
  sent = record { peer = k; messages = posted_to k (post 0 (start_of made).sends) } ∷ [];
  taken = record { peer = k; messages = [] } ∷ [];
  known = (k, count) ∷ [];
}

starts : (i k : ℕ) (made : View) (count : ℕ) → all_to k (start_of made).sends ≡ true → IsStarted made (started i k made count)
starts i k made count to = record {
  viewed = refl;
  stamped = refl;
  noted = refl;
  sent = λ j. elim (cases_eq k j) [
    | inl same ↦
        ap (λ (b : Bool). (if b then posted_to k (post 0 (start_of made).sends) else []) ++ []) (eq-eqb k j same)
        ∙ append-nil (posted_to k (post 0 (start_of made).sends)) ∙ ap (λ (l : ℕ). posted_to l (post 0 (start_of made).sends)) same
    | inr other ↦
        ap (λ (b : Bool). (if b then posted_to k (post 0 (start_of made).sends) else []) ++ []) (ne_eqb k j other)
        ∙ sym (sent_none j (k ∷ []) 0 (start_of made).sends (to_one k (start_of made).sends to) (or_from (k == j) false (ne_eqb k j other) refl))
  ];
  taken = λ j. elim (cases_Bool (k == j)) [
    | inl same ↦ ap (λ (b : Bool). (if b then [] else []) ++ []) same
    | inr other ↦ ap (λ (b : Bool). (if b then [] else []) ++ []) other
  ];
  receivers = to_one k (start_of made).sends to;
}

-- a cell after it took these messages of its peer
abbrev gains : ℕ → List (ℕ × Message) → List Gain
gains k es = record { from = k; envelopes = es } ∷ []

abbrev stepped : CellState → List Gain → CellState
stepped c gs = record {
  me = c.me;
  view = (step_of c.view (letters_of gs)).view;
  stamp = max c.stamp (greatest_of gs) + 1;
  journal = c.journal ++ record { stamp = max c.stamp (greatest_of gs) + 1; takes = takes_of gs } ∷ [];
  sent = grown (λ j. posted_to j (post (max c.stamp (greatest_of gs) + 1) (step_of c.view (letters_of gs)).sends)) c.sent;
  taken = grown (λ j. gained_from j gs) c.taken;
  known = c.known;
}

-- the same cell, which knows that so many messages of its peer wait
abbrev knowing : ℕ → ℕ → CellState → CellState
knowing k count c = record { me = c.me; view = c.view; stamp = c.stamp; journal = c.journal; sent = c.sent; taken = c.taken; known = (k, count) ∷ [] }

still : (k count : ℕ) (c : CellState) → IsQuiet c (knowing k count c)
still k count c = record { me = refl; viewed = refl; stamped = refl; noted = refl; sent = refl; taken = refl }

-- what a visit of it needs
pub record Takes (c : CellState) (k count : ℕ) (es : List (ℕ × Message)) : Type 0 where
  pub live : ended_of c.view ≡ false
  pub some : has_nothing (takes_of (gains k es)) ≡ false
  pub ascend : ascends_from 0 (takes_of (gains k es)) ≡ true
  pub mine : peers c.taken ≡ k ∷ []
  pub to : all_to k (step_of c.view (letters_of (gains k es))).sends ≡ true
  pub knows : c.known ≡ (k, count) ∷ []
  pub enough : nat_le count (length es) ≡ true
  pub few : nat_le (length es) 64 ≡ true

visits : (c : CellState) (k count : ℕ) (es : List (ℕ × Message)) → Takes c k count es → IsVisit c (length es) (stepped c (gains k es))
visits c k count es t =
    let enough = leb-true count (length es) t.enough in
    let few = leb-true (length es) 64 t.few in
    let one : length c.taken ≡ 1 = long c.taken k t.mine in
    record {
      gains = gains k es;
      counted = omega arith;
      each = one_all IsFew (record { from = k; envelopes = es }) few;
      few = omega (arith, few, one);
      served = λ j. subst (λ (ks : List (ℕ × ℕ)). known_from j ks ≤ length (gained_from j (gains k es))) (sym t.knows) (serves (k == j) enough);
      idle = λ none. absurd (nothing es t.some none);
      event = λ some. record {
        live = t.live;
        some = t.some;
        ascend = t.ascend;
        senders = one_all (IsFrom (peers c.taken)) _ (subst (λ (ks : List ℕ). Contains ks k) (sym t.mine) (Contains-head k []));
        receivers = subst (λ (ks : List ℕ). All (IsTo ks) (step_of c.view (letters_of (gains k es))).sends) (sym t.mine) (to_one k (step_of c.view (letters_of (gains k es))).sends t.to);
        me = refl;
        viewed = refl;
        stamped = refl;
        noted = refl;
        sent = refl;
        taken = refl;
      };
    }
  where
    serves : (b : Bool) → count ≤ length es → 0 + (if b then count else 0) ≤ length ((if b then es else []) ++ [])
    serves true le = subst (λ (fs : List (ℕ × Message)). 0 + count ≤ length fs) (sym (append-nil es)) (omega (arith, le))
    serves false le = omega arith

    nothing : (es : List (ℕ × Message)) → has_nothing (takes_of (gains k es)) ≡ false → length es ≡ 0 → ⊥
    nothing [] some none = absurd (cc)
    nothing (e ∷ es) some none = omega (arith, none)

    long : (ls : List Lane) (k : ℕ) → peers ls ≡ k ∷ [] → length ls ≡ 1
    long [] k e = absurd (let l = ap length e in omega (arith, l))
    long (l ∷ []) k e = refl
    long (l ∷ m ∷ ls) k e = absurd (let l = ap length e in omega (arith, l))

sprint : (c : CellState) (k count : ℕ) (es : List (ℕ × Message)) → Takes c k count es → IsSprint most_events c (stepped c (gains k es))
sprint c k count es t =
    sprints_are_visits.fewer 1 most_events c (stepped c (gains k es)) (omega arith) (sprints_are_visits.first c (stepped c (gains k es)) (length es) t.live (visits c k count es t))

-- x and y stand in different nodes
abbrev node : ℕ → ℕ
node i = home 2 2 i

exchanged_two : (ws : List Wire) (a b : CellState) → IsExchanged ws 0 1 a b → IsExchanged ws 1 0 b a → (i j : ℕ) (to from : CellState) → slice_get (a ∷ b ∷ []) i ≡ Some to → slice_get (a ∷ b ∷ []) j ≡ Some from
    → node i ≢ node j → IsExchanged ws i j to from
exchanged_two ws a b ab ba zero zero to from e f apart = absurd (apart refl)
exchanged_two ws a b ab ba zero (suc zero) to from e f apart = subst (λ (c : CellState). IsExchanged ws 0 1 c from) (same_Some a to e) (subst (λ (c : CellState). IsExchanged ws 0 1 a c) (same_Some b from f) ab)
exchanged_two ws a b ab ba (suc zero) zero to from e f apart = subst (λ (c : CellState). IsExchanged ws 1 0 c from) (same_Some b to e) (subst (λ (c : CellState). IsExchanged ws 1 0 b c) (same_Some a from f) ba)
exchanged_two ws a b ab ba (suc zero) (suc zero) to from e f apart = absurd (apart refl)
exchanged_two ws a b ab ba zero (suc (suc j)) to from e f apart = absurd (none-some from f)
exchanged_two ws a b ab ba (suc zero) (suc (suc j)) to from e f apart = absurd (none-some from f)
exchanged_two ws a b ab ba (suc (suc i)) j to from e f apart = absurd (none-some to e)

-- inside each node stands one agent, which has no link to itself
settled_two : (a b : CellState) → IsSettled 0 0 a a → IsSettled 1 1 b b → (i j : ℕ) (to from : CellState) → slice_get (a ∷ b ∷ []) i ≡ Some to → slice_get (a ∷ b ∷ []) j ≡ Some from
    → node i ≡ node j → IsSettled i j to from
settled_two a b aa bb zero zero to from e f same = subst (λ (c : CellState). IsSettled 0 0 c from) (same_Some a to e) (subst (λ (c : CellState). IsSettled 0 0 a c) (same_Some a from f) aa)
settled_two a b aa bb zero (suc zero) to from e f same = let no : 0 ≡ 1 = same in absurd (omega (arith, no))
settled_two a b aa bb (suc zero) zero to from e f same = let no : 1 ≡ 0 = same in absurd (omega (arith, no))
settled_two a b aa bb (suc zero) (suc zero) to from e f same = subst (λ (c : CellState). IsSettled 1 1 c from) (same_Some b to e) (subst (λ (c : CellState). IsSettled 1 1 b c) (same_Some b from f) bb)
settled_two a b aa bb zero (suc (suc j)) to from e f same = absurd (none-some from f)
settled_two a b aa bb (suc zero) (suc (suc j)) to from e f same = absurd (none-some from f)
settled_two a b aa bb (suc (suc i)) j to from e f same = absurd (none-some to e)

quiet_self : (c : CellState) → IsQuiet c c
quiet_self c = record { me = refl; viewed = refl; stamped = refl; noted = refl; sent = refl; taken = refl }

settling_two : (a b : CellState) → IsSettled 0 0 a a → IsSettled 1 1 b b → IsSettling node (a ∷ b ∷ []) (a ∷ b ∷ [])
settling_two a b aa bb = record {
  quiet = (quiet_self a, (quiet_self b, tt));
  settled = settled_two a b aa bb;
  kept = λ i j old new e f lt apart. ap (λ (c : CellState). known_from j c.known) (same_Some new old (sym f ∙ e));
}

-- a link between the two, with these passages
abbrev wire : ℕ → ℕ → List Passage → Wire
wire i j ps = record { receiver = i; sender = j; passages = ps }

abbrev passage : List (ℕ × Message) → List (ℕ × Message) → Passage
passage es fs = record { drained = es; arrived = fs }

passes : (i j : ℕ) (ps : List Passage) (p : Passage) → HasPassed (wire i j ps) (wire i j (ps ++ p ∷ []))
passes i j ps p = record { passage = Some p; receiver = refl; sender = refl; passages = refl }

-- what the starts sent, and what the first step of x sends
abbrev x_first : List (ℕ × Message)
x_first = (0, Value 0) ∷ (0, Threshold 0 []) ∷ []

abbrev y_first : List (ℕ × Message)
y_first = (0, Cost [] 0 None) ∷ []

abbrev x_ready : CellState
x_ready = started 0 1 pair_x 1

abbrev y_ready : CellState
y_ready = started 1 0 pair_y 2

abbrev x_after : CellState
x_after = stepped x_ready (gains 1 y_first)

abbrev x_second : List (ℕ × Message)
x_second = (1, Value 0) ∷ (1, Threshold 0 []) ∷ []

abbrev y_second : List (ℕ × Message)
y_second = (1, Cost ((0, 0) ∷ []) 3 (Some 3)) ∷ []

-- the cells before all
abbrev cells : List CellState
cells = started 0 1 pair_x 0 ∷ started 1 0 pair_y 0 ∷ []

abbrev begun : List Wire
begun = wire 0 1 [] ∷ wire 1 0 [] ∷ []

-- when these have arrived at y, and its step on them sends these
module _ (es fs : List (ℕ × Message)) where
  abbrev y_after : CellState
  y_after = stepped y_ready (gains 0 es)

  abbrev wires : List Wire
  wires = wire 0 1 (passage y_first y_first ∷ []) ∷ wire 1 0 (passage x_first es ∷ []) ∷ []

  abbrev more : List Wire
  more = wire 0 1 (passage y_first y_first ∷ passage fs fs ∷ []) ∷ wire 1 0 (passage x_first es ∷ passage x_second x_second ∷ []) ∷ []

  abbrev after : List CellState
  after = x_after ∷ y_after ∷ []

  abbrev x_last : CellState
  x_last = knowing 1 (length fs) x_after

  abbrev y_last : CellState
  y_last = knowing 0 (length x_second) y_after

  abbrev last : List CellState
  last = x_last ∷ y_last ∷ []

  -- what holds of them by counting
  pub record Facts : Type 0 where
    pub x_takes : Takes x_ready 1 1 y_first
    pub y_takes : Takes y_ready 0 2 es
    pub x_alone : IsSettled 0 0 x_ready x_ready
    pub y_alone : IsSettled 1 1 y_ready y_ready
    pub to_x : IsExchanged wires 0 1 x_ready y_ready
    pub to_y : IsExchanged wires 1 0 y_ready x_ready
    pub x_alone_last : IsSettled 0 0 x_last x_last
    pub y_alone_last : IsSettled 1 1 y_last y_last
    pub to_x_last : IsExchanged more 0 1 x_last y_last
    pub to_y_last : IsExchanged more 1 0 y_last x_last

  played : Facts → AreNodeRounds node 3 begun cells (after ∷ []) wires after
  played h = (
    omega arith,
    (
      wires,
      record {
        ready = x_ready ∷ y_ready ∷ [];
        exchange = record {
          passed = (passes 0 1 [] (passage y_first y_first), (passes 1 0 [] (passage x_first es), tt));
          quiet = (still 1 1 (started 0 1 pair_x 0), (still 0 2 (started 1 0 pair_y 0), tt));
          exchanged = exchanged_two wires x_ready y_ready h.to_x h.to_y;
        };
        round = record {
          middle = x_ready ∷ y_ready ∷ [];
          settling = settling_two x_ready y_ready h.x_alone h.y_alone;
          sprints = (sprint x_ready 1 1 y_first h.x_takes, (sprint y_ready 0 2 es h.y_takes, tt));
        };
      },
      (refl, refl),
    ),
  )

  ended : Facts → IsNodeEnd node wires more after last
  ended h = record {
    ready = last;
    exchange = record {
      passed = (passes 0 1 (passage y_first y_first ∷ []) (passage fs fs), (passes 1 0 (passage x_first es ∷ []) (passage x_second x_second), tt));
      quiet = (still 1 (length fs) x_after, (still 0 (length x_second) y_after, tt));
      exchanged = exchanged_two more x_last y_last h.to_x_last h.to_y_last;
    };
    settling = settling_two x_last y_last h.x_alone_last h.y_alone_last;
  }

wired_one : (i k : ℕ) (made : View) (count : ℕ) → k < 2 → IsWired 2 i (started i k made count)
wired_one i k made count lt = record { me = refl; both = refl; ascend = λ j l. absurd (omega (arith, l)); below = one_all (λ (j : ℕ). j < 2) k lt }

wired_two : (i : ℕ) (c : CellState) → slice_get cells i ≡ Some c → IsWired 2 i c
wired_two zero c e = subst (λ (d : CellState). IsWired 2 0 d) (same_Some (started 0 1 pair_x 0) c e) (wired_one 0 1 pair_x 0 (omega arith))
wired_two (suc zero) c e = subst (λ (d : CellState). IsWired 2 1 d) (same_Some (started 1 0 pair_y 0) c e) (wired_one 1 0 pair_y 0 (omega arith))
wired_two (suc (suc i)) c e = absurd (none-some c e)

pair_started : AreStarted (pair_x ∷ pair_y ∷ []) cells
unfolding start_of step_of
pair_started = record { started = (starts 0 1 pair_x 0 refl, (starts 1 0 pair_y 0 refl, tt)); wired = wired_two }

facts : Facts x_first y_second
unfolding start_of step_of
facts = record {
  x_takes = record { live = refl; some = refl; ascend = refl; mine = refl; to = refl; knows = refl; enough = refl; few = refl };
  y_takes = record { live = refl; some = refl; ascend = refl; mine = refl; to = refl; knows = refl; enough = refl; few = refl };
  x_alone = record { waiting = []; whole = refl; known = leb-true _ _ refl };
  y_alone = record { waiting = []; whole = refl; known = leb-true _ _ refl };
  to_x = record { drained = refl; waiting = y_first; arrived = refl; known = leb-true _ _ refl };
  to_y = record { drained = refl; waiting = x_first; arrived = refl; known = leb-true _ _ refl };
  x_alone_last = record { waiting = []; whole = refl; known = leb-true _ _ refl };
  y_alone_last = record { waiting = []; whole = refl; known = leb-true _ _ refl };
  to_x_last = record { drained = refl; waiting = y_second; arrived = refl; known = leb-true _ _ refl };
  to_y_last = record { drained = refl; waiting = x_second; arrived = refl; known = leb-true _ _ refl };
}

same_two : (p q : Passage) → IsSame p → IsSame q → All IsSame (p ∷ q ∷ [])
same_two p q a b = All-cons IsSame p (q ∷ []) a (one_all IsSame q b)

held_two : (v w : Wire) → HasHeld v → HasHeld w → HaveHeld (v ∷ w ∷ [])
held_two v w a b = All-cons HasHeld v (w ∷ []) a (one_all HasHeld w b)

pair_held : HaveHeld (more x_first y_second)
pair_held =
    held_two (wire 0 1 (passage y_first y_first ∷ passage y_second y_second ∷ [])) (wire 1 0 (passage x_first x_first ∷ passage x_second x_second ∷ []))
    (same_two (passage y_first y_first) (passage y_second y_second) refl refl) (same_two (passage x_first x_first) (passage x_second x_second) refl refl)

-- so they have made a run in order, whose budget is spent
pub pair_run : IsRunInOrder 3 (pair_x ∷ pair_y ∷ []) cells (last x_first y_second) (after x_first y_second ∷ [])
pair_run =
    nodes_make_a_run node 3 (pair_x ∷ pair_y ∷ []) cells (after x_first y_second) (last x_first y_second) (after x_first y_second ∷ []) begun (wires x_first y_second) (more x_first y_second) pair_started
    (played x_first y_second facts) (ended x_first y_second facts) pair_held

pub pair_spent : MakesARun 3 (pair_x ∷ pair_y ∷ []) (last x_first y_second) (Spent 3)
unfolding start_of step_of
pair_spent =
    played_nodes_make_runs.ends node 3 (pair_x ∷ pair_y ∷ []) begun (wires x_first y_second) (more x_first y_second) cells (after x_first y_second) (last x_first y_second) (Spent 3) pair_started
    (record { rounds = after x_first y_second ∷ []; are = played x_first y_second facts }) (ended x_first y_second facts) pair_held (refl, refl, leb-true 3 3 refl)

-- one message altered on its way to y: all is as before but that the links have not held
abbrev altered : List (ℕ × Message)
altered = (0, Value 1) ∷ (0, Threshold 0 []) ∷ []

abbrev y_misled : List (ℕ × Message)
y_misled = (1, Cost ((0, 1) ∷ []) 2 (Some 2)) ∷ []

pub altered_facts : Facts altered y_misled
unfolding start_of step_of
altered_facts = record {
  x_takes = record { live = refl; some = refl; ascend = refl; mine = refl; to = refl; knows = refl; enough = refl; few = refl };
  y_takes = record { live = refl; some = refl; ascend = refl; mine = refl; to = refl; knows = refl; enough = refl; few = refl };
  x_alone = record { waiting = []; whole = refl; known = leb-true _ _ refl };
  y_alone = record { waiting = []; whole = refl; known = leb-true _ _ refl };
  to_x = record { drained = refl; waiting = y_first; arrived = refl; known = leb-true _ _ refl };
  to_y = record { drained = refl; waiting = altered; arrived = refl; known = leb-true _ _ refl };
  x_alone_last = record { waiting = []; whole = refl; known = leb-true _ _ refl };
  y_alone_last = record { waiting = []; whole = refl; known = leb-true _ _ refl };
  to_x_last = record { drained = refl; waiting = y_misled; arrived = refl; known = leb-true _ _ refl };
  to_y_last = record { drained = refl; waiting = x_second; arrived = refl; known = leb-true _ _ refl };
}

abbrev value_told : Message → ℕ
value_told (Value v) = v
value_told m = 0

abbrev first_value : List (ℕ × Message) → ℕ
first_value [] = 0
first_value (e ∷ es) = value_told e.1

pub not_held : HaveHeld (more altered y_misled) → ⊥
not_held held =
    let x_to_y : Wire = wire 1 0 (passage x_first altered ∷ passage x_second x_second ∷ []) in
    let y_to_x : Wire = wire 0 1 (passage y_first y_first ∷ passage y_misled y_misled ∷ []) in
    let w : HasHeld x_to_y = All-head HasHeld x_to_y [] (All-tail HasHeld y_to_x (x_to_y ∷ []) held) in
    let same : altered ≡ x_first = All-head IsSame (passage x_first altered) (passage x_second x_second ∷ []) w in
    let values : 1 ≡ 0 = ap first_value same in
    omega (arith, values)
