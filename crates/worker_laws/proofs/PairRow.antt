-- A worked row: the cells of two ADOPT agents x and y, which are visited three times each in one round, after which both have ended. So the law's premises are met.
use Rattle.std.proofs.Common.{◌≡◌, ℕ, zero, suc, ◌+◌, ◌≤◌, ◌<◌, Bool, true, false, ◌==◌, nat_le, max, if◌then◌else◌, List, [], ◌∷◌, ◌++◌, length, Some, None, refl, sym, ap, subst, ◌∙◌, inl, inr, arith}
use Rattle.std.specs.List.{All, Contains, list_all, slice_get}
use Rattle.std.proofs.lemmas.Bool.{cases_Bool, cases_eq, eq-eqb, ne_eqb, and_parts, leb-true, or_from}
use Rattle.std.proofs.lemmas.Option.{none-some, same_Some}
use Rattle.std.proofs.lemmas.List.{append-nil}
use Rattle.dcop_base.specs.Table.{has}
use Rattle.dcop_base.proofs.FirstLaws.{Contains-head}
use Rattle.protocol_steps.specs.declared.message.Message.{Message}
use Rattle.protocol_steps.specs.declared.message.Message.TheVariants.{Value, Cost, Threshold, Terminate}
use Rattle.protocol_steps.specs.View.{View, ended_of}
use Rattle.protocol_steps.specs.Step.{start_of, step_of}
use Rattle.protocol_steps.specs.Network.{Network}
use Rattle.protocol_steps.specs.Run.{ascends_from, has_nothing}
use Rattle.protocol_steps.specs.Rounds.{most_events}
use Rattle.protocol_steps.specs.Stamps.{Gain, post, letters_of}
use Rattle.protocol_steps.specs.Deeds.{takes_of, greatest_of, posted_to, gained_from}
use Rattle.protocol_steps.proofs.NetworkRows.{pair_x, pair_y}
use Rattle.protocol_steps.proofs.PrivateLaws.{contains_from_has}
use Rattle.worker_laws.specs.Cells.{Lane, CellState, peers, lane, grown, known_from, IsWired}
use Rattle.worker_laws.specs.Visits.{IsFew, IsFrom, IsTo, IsStarted, IsQuiet, IsVisit}
use Rattle.worker_laws.specs.Sprints.{IsSprint}
use Rattle.worker_laws.specs.CellRounds.{IsSettled, AreSettled, AreStarted, total, IsCellRound}
use Rattle.worker_laws.specs.CellRuns.{all_ended, IsRunOfCells}
use Rattle.worker_laws.proofs.ActLaws.{sent_none}
use Rattle.worker_laws.proofs.VisitLaws.{sprints_are_visits}
use Rattle.worker_laws.proofs.CellRunLaws.{workers_make_a_run}

one_all : {X : Type 0} (P : X → Type 0) (x : X) → P x → All P (x ∷ [])
one_all P x h zero d lt = h
one_all P x h (suc k) d lt = absurd (omega (arith, lt))

-- parcels that all go to one peer
abbrev all_to : ℕ → List (ℕ × Message) → Bool
all_to k ps = list_all (λ p. has (k ∷ []) p.0) ps

to_one : (k : ℕ) (ps : List (ℕ × Message)) → all_to k ps ≡ true → All (IsTo (k ∷ [])) ps
to_one k [] h = λ j d lt. absurd (omega (arith, lt))
to_one k (p ∷ ps) h =
    let parts = and_parts (has (k ∷ []) p.0) (all_to k ps) h in
    add p ps (contains_from_has (k ∷ []) p.0 parts.0) (to_one k ps parts.1)
  where
    add : (p : ℕ × Message) (ps : List (ℕ × Message)) → IsTo (k ∷ []) p → All (IsTo (k ∷ [])) ps → All (IsTo (k ∷ [])) (p ∷ ps)
    add p ps h rest zero d lt = h
    add p ps h rest (suc j) d lt = rest j d (omega (arith, lt))

-- a cell of agent i with one peer, which has started
abbrev started : ℕ → ℕ → View → ℕ → CellState
started i k made count = record {
  me = i;
  view = (start_of made).view;
  stamp = 0;
  journal = [];
  sent = record { peer = k; messages = posted_to k (post 0 (start_of made).sends) } ∷ [];
  taken = record { peer = k; messages = [] } ∷ [];
  known = (k, count) ∷ [];
}

starts : (i k : ℕ) (made : View) (count : ℕ) → all_to k (start_of made).sends ≡ true → IsStarted made (started i k made count)
starts i k made count to = record {
  viewed = refl;
  stamped = refl;
  noted = refl;
  sent = λ j. elim (cases_eq k j) [
    | inl same ↦
        ap (λ (b : Bool). (if b then posted_to k (post 0 (start_of made).sends) else []) ++ []) (eq-eqb k j same)
        ∙ append-nil (posted_to k (post 0 (start_of made).sends)) ∙ ap (λ (l : ℕ). posted_to l (post 0 (start_of made).sends)) same
    | inr other ↦
        ap (λ (b : Bool). (if b then posted_to k (post 0 (start_of made).sends) else []) ++ []) (ne_eqb k j other)
        ∙ sym (sent_none j (k ∷ []) 0 (start_of made).sends (to_one k (start_of made).sends to) (or_from (k == j) false (ne_eqb k j other) refl))
  ];
  taken = λ j. elim (cases_Bool (k == j)) [
    | inl same ↦ ap (λ (b : Bool). (if b then [] else []) ++ []) same
    | inr other ↦ ap (λ (b : Bool). (if b then [] else []) ++ []) other
  ];
  receivers = to_one k (start_of made).sends to;
}

-- a cell after it took these messages of its peer
abbrev gains : ℕ → List (ℕ × Message) → List Gain
gains k es = record { from = k; envelopes = es } ∷ []

abbrev stepped : CellState → List Gain → CellState
stepped c gs = record {
  me = c.me;
  view = (step_of c.view (letters_of gs)).view;
  stamp = max c.stamp (greatest_of gs) + 1;
  journal = c.journal ++ record { stamp = max c.stamp (greatest_of gs) + 1; takes = takes_of gs } ∷ [];
  sent = grown (λ j. posted_to j (post (max c.stamp (greatest_of gs) + 1) (step_of c.view (letters_of gs)).sends)) c.sent;
  taken = grown (λ j. gained_from j gs) c.taken;
  known = c.known;
}

-- what a visit of it needs
record Takes (c : CellState) (k count : ℕ) (es : List (ℕ × Message)) : Type 0 where
  live : ended_of c.view ≡ false
  some : has_nothing (takes_of (gains k es)) ≡ false
  ascend : ascends_from 0 (takes_of (gains k es)) ≡ true
  mine : peers c.taken ≡ k ∷ []
  to : all_to k (step_of c.view (letters_of (gains k es))).sends ≡ true
  knows : c.known ≡ (k, count) ∷ []
  enough : nat_le count (length es) ≡ true
  few : nat_le (length es) 64 ≡ true

visits : (c : CellState) (k count : ℕ) (es : List (ℕ × Message)) → Takes c k count es → IsVisit c (length es) (stepped c (gains k es))
visits c k count es t =
    let enough = leb-true count (length es) t.enough in
    let few = leb-true (length es) 64 t.few in
    let one : length c.taken ≡ 1 = long c.taken k t.mine in
    record {
      gains = gains k es;
      counted = omega arith;
      each = one_all IsFew (record { from = k; envelopes = es }) few;
      few = omega (arith, few, one);
      served = λ j. subst (λ (ks : List (ℕ × ℕ)). known_from j ks ≤ length (gained_from j (gains k es))) (sym t.knows) (serves (k == j) enough);
      idle = λ none. absurd (nothing es t.some none);
      event = λ some. record {
        live = t.live;
        some = t.some;
        ascend = t.ascend;
        senders = one_all (IsFrom (peers c.taken)) _ (subst (λ (ks : List ℕ). Contains ks k) (sym t.mine) (Contains-head k []));
        receivers = subst (λ (ks : List ℕ). All (IsTo ks) (step_of c.view (letters_of (gains k es))).sends) (sym t.mine) (to_one k (step_of c.view (letters_of (gains k es))).sends t.to);
        me = refl;
        viewed = refl;
        stamped = refl;
        noted = refl;
        sent = refl;
        taken = refl;
      };
    }
  where
    serves : (b : Bool) → count ≤ length es → 0 + (if b then count else 0) ≤ length ((if b then es else []) ++ [])
    serves true le = subst (λ (fs : List (ℕ × Message)). 0 + count ≤ length fs) (sym (append-nil es)) (omega (arith, le))
    serves false le = omega arith

    nothing : (es : List (ℕ × Message)) → has_nothing (takes_of (gains k es)) ≡ false → length es ≡ 0 → ⊥
    nothing [] some none = absurd (cc)
    nothing (e ∷ es) some none = omega (arith, none)

    long : (ls : List Lane) (k : ℕ) → peers ls ≡ k ∷ [] → length ls ≡ 1
    long [] k e = absurd (let l = ap length e in omega (arith, l))
    long (l ∷ []) k e = refl
    long (l ∷ m ∷ ls) k e = absurd (let l = ap length e in omega (arith, l))

-- three visits of one cell
three : (c : CellState) (k count : ℕ) (es fs gs : List (ℕ × Message)) → Takes c k count es → Takes (stepped c (gains k es)) k count fs → Takes (stepped (stepped c (gains k es)) (gains k fs)) k count gs
    → IsSprint most_events c (stepped (stepped (stepped c (gains k es)) (gains k fs)) (gains k gs))
three c k count es fs gs a b d =
    let one : CellState = stepped c (gains k es) in
    let two : CellState = stepped one (gains k fs) in
    let all : CellState = stepped two (gains k gs) in
    sprints_are_visits.fewer (1 + 1 + 1) most_events c all (omega arith)
    (sprints_are_visits.next (1 + 1) (length gs) c two all
    (sprints_are_visits.next 1 (length fs) c one two (sprints_are_visits.first c one (length es) a.live (visits c k count es a)) (visits one k count fs b)) (visits two k count gs d))

abbrev x0 : CellState
x0 = started 0 1 pair_x 1

abbrev x1 : CellState
x1 = stepped x0 (gains 1 ((0, Cost [] 0 None) ∷ []))

abbrev x2 : CellState
x2 = stepped x1 (gains 1 ((2, Cost ((0, 0) ∷ []) 3 (Some 3)) ∷ []))

abbrev x3 : CellState
x3 = stepped x2 (gains 1 ((4, Cost ((0, 1) ∷ []) 2 (Some 2)) ∷ []))

abbrev y0 : CellState
y0 = started 1 0 pair_y 2

abbrev y1 : CellState
y1 = stepped y0 (gains 0 ((0, Value 0) ∷ (0, Threshold 0 []) ∷ (1, Value 0) ∷ (1, Threshold 0 []) ∷ []))

abbrev y2 : CellState
y2 = stepped y1 (gains 0 ((3, Value 1) ∷ (3, Threshold 0 []) ∷ []))

abbrev y3 : CellState
y3 = stepped y2 (gains 0 ((5, Value 1) ∷ (5, Threshold 2 []) ∷ (5, Terminate ((0, 1) ∷ [])) ∷ []))

x_sprint : IsSprint most_events x0 x3
unfolding start_of step_of
x_sprint =
    three x0 1 1 ((0, Cost [] 0 None) ∷ []) ((2, Cost ((0, 0) ∷ []) 3 (Some 3)) ∷ []) ((4, Cost ((0, 1) ∷ []) 2 (Some 2)) ∷ [])
    (record { live = refl; some = refl; ascend = refl; mine = refl; to = refl; knows = refl; enough = refl; few = refl })
    (record { live = refl; some = refl; ascend = refl; mine = refl; to = refl; knows = refl; enough = refl; few = refl })
    (record { live = refl; some = refl; ascend = refl; mine = refl; to = refl; knows = refl; enough = refl; few = refl })

y_sprint : IsSprint most_events y0 y3
unfolding start_of step_of
y_sprint =
    three y0 0 2 ((0, Value 0) ∷ (0, Threshold 0 []) ∷ (1, Value 0) ∷ (1, Threshold 0 []) ∷ []) ((3, Value 1) ∷ (3, Threshold 0 []) ∷ []) ((5, Value 1) ∷ (5, Threshold 2 []) ∷ (5, Terminate ((0, 1) ∷ [])) ∷ [])
    (record { live = refl; some = refl; ascend = refl; mine = refl; to = refl; knows = refl; enough = refl; few = refl })
    (record { live = refl; some = refl; ascend = refl; mine = refl; to = refl; knows = refl; enough = refl; few = refl })
    (record { live = refl; some = refl; ascend = refl; mine = refl; to = refl; knows = refl; enough = refl; few = refl })

-- the links of two cells
settled_two : (a b : CellState) → IsSettled 0 0 a a → IsSettled 0 1 a b → IsSettled 1 0 b a → IsSettled 1 1 b b → AreSettled (a ∷ b ∷ [])
settled_two a b aa ab ba bb zero zero to from e f = subst (λ (c : CellState). IsSettled 0 0 c from) (same_Some a to e) (subst (λ (c : CellState). IsSettled 0 0 a c) (same_Some a from f) aa)
settled_two a b aa ab ba bb zero (suc zero) to from e f = subst (λ (c : CellState). IsSettled 0 1 c from) (same_Some a to e) (subst (λ (c : CellState). IsSettled 0 1 a c) (same_Some b from f) ab)
settled_two a b aa ab ba bb (suc zero) zero to from e f = subst (λ (c : CellState). IsSettled 1 0 c from) (same_Some b to e) (subst (λ (c : CellState). IsSettled 1 0 b c) (same_Some a from f) ba)
settled_two a b aa ab ba bb (suc zero) (suc zero) to from e f = subst (λ (c : CellState). IsSettled 1 1 c from) (same_Some b to e) (subst (λ (c : CellState). IsSettled 1 1 b c) (same_Some b from f) bb)
settled_two a b aa ab ba bb zero (suc (suc j)) to from e f = absurd (none-some from f)
settled_two a b aa ab ba bb (suc zero) (suc (suc j)) to from e f = absurd (none-some from f)
settled_two a b aa ab ba bb (suc (suc i)) j to from e f = absurd (none-some to e)

first_settled : AreSettled (x0 ∷ y0 ∷ [])
unfolding start_of step_of
first_settled =
    settled_two x0 y0
    (record { waiting = []; whole = refl; known = leb-true _ _ refl })
    (record { waiting = lane 0 y0.sent; whole = refl; known = leb-true _ _ refl })
    (record { waiting = lane 1 x0.sent; whole = refl; known = leb-true _ _ refl })
    (record { waiting = []; whole = refl; known = leb-true _ _ refl })

last_settled : AreSettled (x3 ∷ y3 ∷ [])
unfolding start_of step_of
last_settled =
    settled_two x3 y3
    (record { waiting = []; whole = refl; known = leb-true _ _ refl })
    (record { waiting = []; whole = refl; known = leb-true _ _ refl })
    (record { waiting = []; whole = refl; known = leb-true _ _ refl })
    (record { waiting = []; whole = refl; known = leb-true _ _ refl })

still : (c : CellState) → IsQuiet c c
still c = record { me = refl; viewed = refl; stamped = refl; noted = refl; sent = refl; taken = refl }

wired_one : (i k : ℕ) (made : View) (count : ℕ) → k < 2 → IsWired 2 i (started i k made count)
wired_one i k made count lt = record { me = refl; both = refl; ascend = λ j l. absurd (omega (arith, l)); below = one_all (λ (j : ℕ). j < 2) k lt }

wired_two : (i : ℕ) (c : CellState) → slice_get (x0 ∷ y0 ∷ []) i ≡ Some c → IsWired 2 i c
wired_two zero c e = subst (λ (d : CellState). IsWired 2 0 d) (same_Some x0 c e) (wired_one 0 1 pair_x 1 (omega arith))
wired_two (suc zero) c e = subst (λ (d : CellState). IsWired 2 1 d) (same_Some y0 c e) (wired_one 1 0 pair_y 2 (omega arith))
wired_two (suc (suc i)) c e = absurd (none-some c e)

pair_started : AreStarted (pair_x ∷ pair_y ∷ []) (x0 ∷ y0 ∷ [])
unfolding start_of step_of
pair_started = record { started = (starts 0 1 pair_x 1 refl, (starts 1 0 pair_y 2 refl, tt)); wired = wired_two }

pair_round : IsCellRound (x0 ∷ y0 ∷ []) (x3 ∷ y3 ∷ [])
pair_round = record { middle = x0 ∷ y0 ∷ []; quiet = (still x0, (still y0, tt)); settled = first_settled; sprints = (x_sprint, (y_sprint, tt)) }

-- both have ended, after twelve deliveries
pub pair_ended : all_ended (x3 ∷ y3 ∷ []) ≡ true
unfolding start_of step_of
pair_ended = refl

pub pair_total : total (x3 ∷ y3 ∷ []) ≡ 12
unfolding start_of step_of
pair_total = refl

-- so they have made a run
pub pair_run : (end : Network) × IsRunOfCells 12 (pair_x ∷ pair_y ∷ []) (x3 ∷ y3 ∷ []) end
pair_run =
    workers_make_a_run 12 (pair_x ∷ pair_y ∷ []) (x0 ∷ y0 ∷ []) (x3 ∷ y3 ∷ []) (x3 ∷ y3 ∷ []) ((x3 ∷ y3 ∷ []) ∷ []) pair_started (omega arith, pair_round, refl) (still x3, (still y3, tt)) last_settled
