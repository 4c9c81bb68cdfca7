-- Turns, sprints and parts.
use Rattle.std.proofs.Common.{◌≡◌, ◌≢◌, ℕ, zero, suc, ◌+◌, ◌*◌, ◌<◌, ◌≤◌, ◌⊎◌, Bool, true, false, Result, Ok, Err, Some, None, List, [], ◌∷◌, ◌++◌, length, set, get_or, slice_get, refl, sym, ap, subst, ◌∙◌, inl, inr, arith, length-set, length-append}
use Rattle.std.specs.Prelude.{IfOk, IfErr, IsErrAnd}
use Rattle.std.specs.List.{sum_by}
use Rattle.std.proofs.Math.Nat.{suc-mul, mul-le-mul_right}
use Rattle.std.proofs.lemmas.Bool.{cases_eq, cases_Bool, cases_lt}
use Rattle.std.proofs.lemmas.Option.{none-some, same_Some, slice_get_within, slice_get-get_or}
use Rattle.std.proofs.lemmas.List.{length-map, map-append}
use Rattle.std.proofs.lemmas.List.Sums.{sum_by-cons, sum_by-set, sum_by-append}
use Rattle.std.specs.declared.dyn_box.DynBox.{DynBox}
use Rattle.std.specs.declared.alloc.Global.{Global}
use Rattle.dcop_base.specs.Limits.{variable_limit}
use Rattle.protocol_steps.specs.View.{View, ended_of}
use Rattle.protocol_steps.specs.Rounds.{most_events}
use Rattle.worker_laws.specs.Cells.{CellState}
use Rattle.worker_laws.specs.CellRounds.{taken_by, total}
use Rattle.worker_laws.proofs.VisitLaws.{sprints_are_visits, totals_add}
use Rattle.agent_cells.specs.declared.cell.Cell.{Cell}
use Rattle.agent_cells.specs.declared.fault.VisitFault.{VisitFault}
use Rattle.agent_cells.specs.State.{state_of, begun_in, fault_in, IsCell, KeepsLinks}
use Rattle.agent_workers.specs.Joined.{states_of, EachIs, EachBecomes}
use Rattle.agent_cells.specs.declared.fault.VisitFault.TheVariants.{NoMemory, StampEnd}
use Rattle.agent_workers.specs.Parts.{both_of}
use Rattle.agent_workers.specs.Turns.{visit_limit, IsReady, StaysReady, HasTurned, MayHaveTurned, StaysFine, HasSprinted, SomeFailed, AreTurning, AreSprinting, HavePlayed}
use Rattle.agent_workers.proofs.ListLaws.{one_at}
use Rattle.agent_workers.proofs.CellLaws.{keeps_none, keeps_then}
use Rattle.agent_workers.proofs.JoinLaws.{stood}

-- the element at a place after one element was written
pub set_back : {A : Type 0} (xs : List A) (k : ℕ) (y : A) (i : ℕ) (b : A) → k < length xs → slice_get (set xs k y) i ≡ Some b → ((i ≡ k) × (b ≡ y)) ⊎ ((i ≢ k) × (slice_get xs i ≡ Some b))
set_back [] k y i b lt e = absurd (omega (arith, lt))
set_back (x ∷ xs) zero y zero b lt e = inl (refl, sym (same_Some y b e))
set_back (x ∷ xs) zero y (suc i) b lt e = inr ((λ no. omega (arith, no)), e)
set_back (x ∷ xs) (suc k) y zero b lt e = inr ((λ no. omega (arith, no)), e)
set_back (x ∷ xs) (suc k) y (suc i) b lt e = elim (set_back xs k y i b (omega (arith, lt)) e) [
  | inl here ↦ inl (ap suc here.0, here.1)
  | inr out ↦ inr ((λ same. out.0 (omega (arith, same))), out.1)
]

set_here : {A : Type 0} (xs : List A) (k : ℕ) (y : A) → k < length xs → slice_get (set xs k y) k ≡ Some y
set_here [] k y lt = absurd (omega (arith, lt))
set_here (x ∷ xs) zero y lt = refl
set_here (x ∷ xs) (suc k) y lt = set_here xs k y (omega (arith, lt))

-- the element at a place of two joined lists
append_back : {A : Type 0} (xs ys : List A) (i : ℕ) (x : A) → slice_get (xs ++ ys) i ≡ Some x → ((i < length xs) × (slice_get xs i ≡ Some x)) ⊎ ((j : ℕ) × (i ≡ length xs + j) × (slice_get ys j ≡ Some x))
append_back [] ys i x e = inr (i, omega arith, e)
append_back (z ∷ xs) ys zero x e = inl (omega arith, e)
append_back (z ∷ xs) ys (suc i) x e = elim (append_back xs ys i x e) [
  | inl here ↦ inl ((let lt = here.0 in omega (arith, lt)), here.1)
  | inr out ↦ inr (out.0, (let same = out.1 in omega (arith, same)), out.2)
]

append_left : {A : Type 0} (xs ys : List A) (i : ℕ) (x : A) → slice_get xs i ≡ Some x → slice_get (xs ++ ys) i ≡ Some x
append_left [] ys i x e = absurd (none-some x e)
append_left (z ∷ xs) ys zero x e = e
append_left (z ∷ xs) ys (suc i) x e = append_left xs ys i x e

append_right : {A : Type 0} (xs ys : List A) (i : ℕ) (x : A) → slice_get ys i ≡ Some x → slice_get (xs ++ ys) (length xs + i) ≡ Some x
append_right [] ys i x e = let same : 0 + i ≡ i = omega arith in ap (slice_get ys) same ∙ e
append_right (z ∷ xs) ys i x e = let same : suc (length xs) + i ≡ suc (length xs + i) = omega arith in ap (slice_get (z ∷ (xs ++ ys))) same ∙ append_right xs ys i x e

pub most_more : (n m k x : ℕ) → n ≤ k * x → m ≤ x → n + m ≤ (k + 1) * x
most_more n m k x low next =
    let grow : (k + 1) * x ≡ k * x + x = ap (λ (j : ℕ). j * x) (omega arith) ∙ suc-mul k x in
    omega (arith, low, next, grow)

pub most_within : (n k x : ℕ) → n ≤ k * x → k ≤ 32 → n ≤ 32 * x
most_within n k x low le = let grow = mul-le-mul_right x le in omega (arith, low, grow)

module _ {X : Type 0} {F : X → Type 0} (M : DynBox X Global F → View) where
  pub stays_ready : (c : Cell X F) → IsReady M c → StaysReady M c c
  stays_ready c r = record { same = record { me = refl; links = keeps_none M c }; ready = r }

  -- a cell after a visit
  pub visited_ready : (a b : Cell X F) → IsReady M a → (state_of M b).me ≡ (state_of M a).me → KeepsLinks a b → IsCell M b → begun_in b ≡ true → StaysReady M a b
  visited_ready a b r me links cell begun =
      let long_a : length (state_of M a).taken ≡ length a.heads.items = length-map a.heads.items _ in
      let long_b : length (state_of M b).taken ≡ length b.heads.items = length-map b.heads.items _ in
      let size = links.heads.size in
      let few = r.few in
      record { same = record { me = me; links = links }; ready = record { begun = record { cell = cell; begun = begun }; few = omega (arith, long_a, long_b, size, few) } }

  pub ready_then : (a b c : Cell X F) → StaysReady M a b → StaysReady M b c → StaysReady M a c
  ready_then a b c s t = record { same = record { me = t.same.me ∙ s.same.me; links = keeps_then M a b c s.same.links t.same.links }; ready = t.ready }

  pub all_ready : (before after : List (Cell X F)) → EachBecomes (StaysReady M) before after → EachIs (IsReady M) after
  all_ready before after e = record { each = λ i c is. (stood M (StaysReady M) before after e i c is).2.ready }

  pub each_ready : (cells : List (Cell X F)) → EachIs (IsReady M) cells → EachBecomes (StaysReady M) cells cells
  each_ready cells r = record { size = refl; each = λ i a b e f. subst (λ (c : Cell X F). StaysReady M a c) (one_at cells i a b e f) (stays_ready a (r.each i a e)) }

  pub each_ready_then : (a b c : List (Cell X F)) → EachBecomes (StaysReady M) a b → EachBecomes (StaysReady M) b c → EachBecomes (StaysReady M) a c
  each_ready_then a b c s t = record {
    size = t.size ∙ s.size;
    each = λ i x z is_x is_z. let y = stood M (StaysReady M) b c t i z is_z in ready_then x y.0 z (s.each i x y.0 is_x y.1) y.2;
  }

  pub total_is : (cells : List (Cell X F)) → total (states_of M cells) ≡ sum_by (λ (c : Cell X F). taken_by (state_of M c).journal) cells
  total_is [] = refl
  total_is (c ∷ cells) =
      sum_by-cons (λ (s : CellState). taken_by s.journal) (state_of M c) (states_of M cells) ∙ ap (λ n. taken_by (state_of M c).journal + n) (total_is cells)
      ∙ sym (sum_by-cons (λ (x : Cell X F). taken_by (state_of M x).journal) c cells)

  -- a turn takes as many messages as it returns
  visit_takes : (n : ℕ) (a b : Cell X F) → HasTurned M n a b → taken_by (state_of M b).journal ≡ taken_by (state_of M a).journal + n
  visit_takes n a b t = elim (cases_Bool (ended_of (state_of M a).view)) [
    | inl ended ↦
        let rests = t.rests ended in
        let same : taken_by (state_of M b).journal ≡ taken_by (state_of M a).journal = ap (λ (c : Cell X F). taken_by (state_of M c).journal) rests.0 in
        let none = rests.1 in omega (arith, same, none)
    | inr live ↦ totals_add.visit (state_of M a) (state_of M b) n (t.visit live).0
  ]

  turn_takes : (all : Bool) (n : ℕ) (a b : Cell X F) → MayHaveTurned M all n a b → taken_by (state_of M b).journal ≡ taken_by (state_of M a).journal + n
  turn_takes all n a b t = elim t [
    | inl turn ↦ visit_takes n a b turn
    | inr passed ↦
        let same : taken_by (state_of M b).journal ≡ taken_by (state_of M a).journal = ap (λ (c : Cell X F). taken_by (state_of M c).journal) passed.1 in
        let none = passed.2 in omega (arith, same, none)
  ]

  visit_few : (n : ℕ) (a b : Cell X F) → IsReady M a → HasTurned M n a b → n ≤ visit_limit
  visit_few n a b r t = elim (cases_Bool (ended_of (state_of M a).view)) [
    | inl ended ↦ let none = (t.rests ended).1 in omega (arith, none)
    | inr live ↦ let few = (t.visit live).0.few in let peers = r.few in omega (arith, few, peers)
  ]

  turn_few : (all : Bool) (n : ℕ) (a b : Cell X F) → IsReady M a → MayHaveTurned M all n a b → n ≤ visit_limit
  turn_few all n a b r t = elim t [
    | inl turn ↦ visit_few n a b r turn
    | inr passed ↦ let none = passed.2 in omega (arith, none)
  ]

  pub turn_none : (all : Bool) (cells : List (Cell X F)) → EachIs (IsReady M) cells → AreTurning M all 0 0 cells cells
  turn_none all cells r = record {
    ready = each_ready cells r;
    turned = λ i a b e f lt. absurd (omega (arith, lt));
    rest = λ i a b e f le. one_at cells i b a f e;
    counted = omega arith;
    most = omega arith;
  }

  -- the cell whose turn it is
  pub ready_at : (before now : List (Cell X F)) (k : ℕ) (d : Cell X F) → EachBecomes (StaysReady M) before now → k < length now → IsReady M (get_or now k d)
  ready_at before now k d e lt = (stood M (StaysReady M) before now e k (get_or now k d) (slice_get-get_or now k d lt)).2.ready

  pub turn_ready : (before now : List (Cell X F)) (k : ℕ) (d y : Cell X F) → EachBecomes (StaysReady M) before now → k < length now → StaysReady M (get_or now k d) y → EachBecomes (StaysReady M) before (set now k y)
  turn_ready before now k d y e lt s = record {
    size = length-set now k y ∙ e.size;
    each = λ i a b is_a is_b. elim (set_back now k y i b lt is_b) [
      | inl here ↦
          let x : Cell X F = get_or now k d in
          let at : slice_get now i ≡ Some x = ap (slice_get now) here.0 ∙ slice_get-get_or now k d lt in
          subst (λ (c : Cell X F). StaysReady M a c) (sym here.1) (ready_then a x y (e.each i a x is_a at) s)
      | inr out ↦ e.each i a b is_a out.1
    ];
  }

  pub turn_more : (all : Bool) (k n m : ℕ) (before now : List (Cell X F)) (d y : Cell X F) → AreTurning M all k n before now → k < length now → StaysReady M (get_or now k d) y → MayHaveTurned M all m (get_or now k d) y
      → AreTurning M all (k + 1) (n + m) before (set now k y)
  turn_more all k n m before now d y t lt s turned =
      let x : Cell X F = get_or now k d in
      let size : length now ≡ length before = t.ready.size in
      record {
        ready = turn_ready before now k d y t.ready lt s;
        turned = λ i a b e f in_i. elim (set_back now k y i b lt f) [
          | inl here ↦
              let at : slice_get now i ≡ Some x = ap (slice_get now) here.0 ∙ slice_get-get_or now k d lt in
              let place = here.0 in
              let is_a : x ≡ a = t.rest i a x e at (omega (arith, place)) in
              (m, subst (λ (c : Cell X F). MayHaveTurned M all m c b) is_a (subst (λ (c : Cell X F). MayHaveTurned M all m x c) (sym here.1) turned))
          | inr out ↦ let ne = out.0 in t.turned i a b e out.1 (omega (arith, in_i, ne))
        ];
        rest = λ i a b e f le. elim (set_back now k y i b lt f) [
          | inl here ↦ let place = here.0 in absurd (omega (arith, place, le))
          | inr out ↦ t.rest i a b e out.1 (omega (arith, le))
        ];
        counted =
            let old = total_is now in
            let new = total_is (set now k y) in
            let write = sum_by-set (λ (c : Cell X F). taken_by (state_of M c).journal) now k y d lt in
            let takes : taken_by (state_of M y).journal ≡ taken_by (state_of M x).journal + m = turn_takes all m x y turned in
            let was = t.counted in
            omega (arith, old, new, write, takes, was);
        most = most_more n m k visit_limit t.most (turn_few all m x y (ready_at before now k d t.ready lt) turned);
      }

  -- cells that were passed over, up to this place
  pub turn_past : (k m n : ℕ) (before now : List (Cell X F)) → k ≤ m → AreTurning M false k n before now → AreTurning M false m n before now
  turn_past k m n before now le t = record {
    ready = t.ready;
    turned = λ i a b e f lt. elim (cases_lt i k) [
      | inl done ↦ t.turned i a b e f done
      | inr passed ↦ (0, inr (refl, t.rest i a b e f passed, refl))
    ];
    rest = λ i a b e f ge. t.rest i a b e f (omega (arith, le, ge));
    counted = t.counted;
    most = let most = t.most in let grow = mul-le-mul_right visit_limit le in omega (arith, most, grow);
  }

  pub failed_set : (f : VisitFault) (cells : List (Cell X F)) (k : ℕ) (y : Cell X F) → k < length cells → fault_in y ≡ Some f → SomeFailed f (set cells k y)
  failed_set f cells k y lt is = record { place = k; cell = y; at = set_here cells k y lt; is = is }

  pub failed_on : {T : Type 0} (r : Result T VisitFault) (e : VisitFault) (cells : List (Cell X F)) → IsErrAnd r (λ x. x ≡ e) → SomeFailed e cells → IfErr r (λ f. SomeFailed f cells)
  failed_on (Ok x) e cells h s = tt
  failed_on (Err x) e cells h s = subst (λ (f : VisitFault). SomeFailed f cells) (sym h) s

  pub sprint_none : (cells : List (Cell X F)) → EachIs (IsReady M) cells → AreSprinting M 0 0 cells cells
  sprint_none cells r = record {
    ready = each_ready cells r;
    none = λ _. refl;
    some = λ lt. absurd (omega (arith, lt));
    counted = omega arith;
    most = omega arith;
  }

  -- a cell that had not failed, and one that has not failed since
  stays_on : (a b c : Cell X F) → StaysFine a b → fault_in b ≡ None → fault_in c ≡ None → StaysFine a c
  stays_on a b c (inl same) fine now = inr (ap (λ (x : Cell X F). fault_in x) (sym same) ∙ fine, now)
  stays_on a b c (inr was) fine now = inr (was.0, now)

  pub still_fine : (a b : Cell X F) → StaysFine a b → fault_in a ≡ None → fault_in b ≡ None
  still_fine a b (inl same) fine = ap (λ (x : Cell X F). fault_in x) same ∙ fine
  still_fine a b (inr since) fine = since.1

  -- a first turn, and one more
  visit_first : (m : ℕ) (b c : Cell X F) → HasTurned M m b c → HasSprinted M 1 b c
  visit_first m b c t = elim (cases_Bool (ended_of (state_of M b).view)) [
    | inl ended ↦ subst (λ (x : Cell X F). HasSprinted M 1 b x) (sym (t.rests ended).0) (record { sprint = sprints_are_visits.rests 1 (state_of M b) ended; fault = inl refl })
    | inr live ↦ let v = t.visit live in record { sprint = sprints_are_visits.first (state_of M b) (state_of M c) m live v.0; fault = inr (t.fine live, v.1) }
  ]

  turn_first : (all : Bool) (m : ℕ) (b c : Cell X F) → all ≡ true → MayHaveTurned M all m b c → HasSprinted M 1 b c
  turn_first all m b c whole t = elim t [
    | inl turn ↦ visit_first m b c turn
    | inr passed ↦ let no : true ≡ false = sym whole ∙ passed.0 in absurd (cc)
  ]

  visit_next : (k m : ℕ) (a b c : Cell X F) → HasSprinted M k a b → HasTurned M m b c → HasSprinted M (k + 1) a c
  visit_next k m a b c s t = elim (cases_Bool (ended_of (state_of M b).view)) [
    | inl ended ↦ subst (λ (x : Cell X F). HasSprinted M (k + 1) a x) (sym (t.rests ended).0) (record { sprint = sprints_are_visits.fewer k (k + 1) (state_of M a) (state_of M b) (omega arith) s.sprint; fault = s.fault })
    | inr live ↦ let v = t.visit live in record { sprint = sprints_are_visits.next k m (state_of M a) (state_of M b) (state_of M c) s.sprint v.0; fault = stays_on a b c s.fault (t.fine live) v.1 }
  ]

  turn_next : (all : Bool) (k m : ℕ) (a b c : Cell X F) → HasSprinted M k a b → MayHaveTurned M all m b c → HasSprinted M (k + 1) a c
  turn_next all k m a b c s t = elim t [
    | inl turn ↦ visit_next k m a b c s turn
    | inr passed ↦ subst (λ (x : Cell X F). HasSprinted M (k + 1) a x) (sym passed.1) (record { sprint = sprints_are_visits.fewer k (k + 1) (state_of M a) (state_of M b) (omega arith) s.sprint; fault = s.fault })
  ]

  turns_all : (all : Bool) (m : ℕ) (b c : List (Cell X F)) → AreTurning M all (length b) m b c → (i : ℕ) (y z : Cell X F) → slice_get b i ≡ Some y → slice_get c i ≡ Some z → (n : ℕ) × MayHaveTurned M all n y z
  turns_all all m b c t i y z e f = t.turned i y z e f (slice_get_within b i y e)

  pub sprint_more : (all : Bool) (k n m : ℕ) (a b c : List (Cell X F)) → (k ≡ 0 → all ≡ true) → AreSprinting M k n a b → AreTurning M all (length b) m b c → AreSprinting M (k + 1) (n + m) a c
  sprint_more all k n m a b c first s t =
      let size : length b ≡ length a = s.ready.size in
      record {
        ready = each_ready_then a b c s.ready t.ready;
        none = λ no. absurd (omega (arith, no));
        some = λ _. record {
          size = t.ready.size ∙ s.ready.size;
          each = λ i x z e f.
              let y = stood M (StaysReady M) b c t.ready i z f in
              let turn = turns_all all m b c t i y.0 z y.1 f in
              elim (cases_eq k 0) [
                | inl none ↦
                    let same : y.0 ≡ x = one_at b i y.0 x y.1 (ap (λ cs. slice_get cs i) (s.none none) ∙ e) in
                    subst (λ (w : Cell X F). HasSprinted M (k + 1) w z) same (subst (λ (j : ℕ). HasSprinted M (j + 1) y.0 z) (sym none) (turn_first all turn.0 y.0 z (first none) turn.1))
                | inr some ↦ turn_next all k turn.0 x y.0 z ((s.some (omega (arith, some))).each i x y.0 e y.1) turn.1
              ];
        };
        counted = let was = s.counted in let now = t.counted in omega (arith, was, now);
        most = let turn = t.most in most_more n m k (length a * visit_limit) s.most (omega (arith, turn, size));
      }

  pub played_by : (k n : ℕ) (a b : List (Cell X F)) → 0 < k → k ≤ 32 → AreSprinting M k n a b → HavePlayed M n a b
  played_by k n a b some le s = record {
    sprints = record {
      size = s.ready.size;
      each = λ i x y e f. let h = (s.some some).each i x y e f in record { sprint = sprints_are_visits.fewer k most_events (state_of M x) (state_of M y) le h.sprint; fault = h.fault };
    };
    counted = s.counted;
    most = let low = most_within n k (length a * visit_limit) s.most le in omega (arith, low);
  }

  -- two joined parts
  pub each_both : (R : Cell X F → Cell X F → Type 0) (a b c d : List (Cell X F)) → EachBecomes R a c → EachBecomes R b d → EachBecomes R (a ++ b) (c ++ d)
  each_both R a b c d s t =
      let long_a : length c ≡ length a = s.size in
      let long_b : length d ≡ length b = t.size in
      record {
        size = let l = length-append a b in let r = length-append c d in omega (arith, long_a, long_b, l, r);
        each = λ i x y e f. elim (append_back a b i x e) [
          | inl low ↦ elim (append_back c d i y f) [
            | inl here ↦ s.each i x y low.1 here.1
            | inr out ↦ let lt = low.0 in let at = out.1 in absurd (omega (arith, lt, at, long_a))
          ]
          | inr high ↦ elim (append_back c d i y f) [
            | inl here ↦ let lt = here.0 in let at = high.1 in absurd (omega (arith, lt, at, long_a))
            | inr out ↦
                let at = high.1 in let at_too = out.1 in
                let same : out.0 ≡ high.0 = omega (arith, at, at_too, long_a) in
                t.each high.0 x y high.2 (ap (slice_get d) (sym same) ∙ out.2)
          ]
        ];
      }

  pub total_both : (a b : List (Cell X F)) → total (states_of M (a ++ b)) ≡ total (states_of M a) + total (states_of M b)
  total_both a b = ap total (map-append (state_of M) a b) ∙ sum_by-append (λ (s : CellState). taken_by s.journal) (states_of M a) (states_of M b)

  pub played_both : (m n : ℕ) (a b c d : List (Cell X F)) → HavePlayed M m a c → HavePlayed M n b d → HavePlayed M (m + n) (a ++ b) (c ++ d)
  played_both m n a b c d p q = record {
    sprints = each_both (HasSprinted M most_events) a b c d p.sprints q.sprints;
    counted = let l = total_both a b in let r = total_both c d in let u = p.counted in let v = q.counted in omega (arith, l, r, u, v);
    most = let l = length-append a b in let u = p.most in let v = q.most in omega (arith, l, u, v);
  }

  pub failed_low : (f : VisitFault) (a b : List (Cell X F)) → SomeFailed f a → SomeFailed f (a ++ b)
  failed_low f a b s = record { place = s.place; cell = s.cell; at = append_left a b s.place s.cell s.at; is = s.is }

  pub failed_high : (f : VisitFault) (a b : List (Cell X F)) → SomeFailed f b → SomeFailed f (a ++ b)
  failed_high f a b s = record { place = length a + s.place; cell = s.cell; at = append_right a b s.place s.cell s.at; is = s.is }

  -- a part of a list
  pub low_each : (P : Cell X F → Type 0) (a b : List (Cell X F)) → EachIs P (a ++ b) → EachIs P a
  low_each P a b r = record { each = λ i c is. r.each i c (append_left a b i c is) }

  pub high_each : (P : Cell X F → Type 0) (a b : List (Cell X F)) → EachIs P (a ++ b) → EachIs P b
  high_each P a b r = record { each = λ i c is. r.each (length a + i) c (append_right a b i c is) }

  -- the joint result of two parts
  pub both_ok : (q r : Result ℕ VisitFault) (a b c d : List (Cell X F)) → IfOk q (λ n. HavePlayed M n a c) → IfOk r (λ n. HavePlayed M n b d) → IfOk (both_of q r) (λ n. HavePlayed M n (a ++ b) (c ++ d))
  both_ok (Ok m) (Ok n) a b c d p s = played_both m n a b c d p s
  both_ok (Ok m) (Err f) a b c d p s = tt
  both_ok (Err e) (Ok n) a b c d p s = tt
  both_ok (Err NoMemory) (Err f) a b c d p s = tt
  both_ok (Err StampEnd) (Err f) a b c d p s = tt

  pub both_err : (q r : Result ℕ VisitFault) (c d : List (Cell X F)) → IfErr q (λ f. SomeFailed f c) → IfErr r (λ f. SomeFailed f d) → IfErr (both_of q r) (λ f. SomeFailed f (c ++ d))
  both_err (Ok m) (Ok n) c d p s = tt
  both_err (Ok m) (Err f) c d p s = failed_high f c d s
  both_err (Err e) (Ok n) c d p s = failed_low e c d p
  both_err (Err NoMemory) (Err f) c d p s = failed_low NoMemory c d p
  both_err (Err StampEnd) (Err f) c d p s = failed_high f c d s

  -- a part of ready cells
  pub part_ready : (all before part after now : List (Cell X F)) → all ≡ before ++ (part ++ after) → now ≡ part → EachIs (IsReady M) all → length all ≤ variable_limit → EachIs (IsReady M) now × (length now ≤ variable_limit)
  part_ready all before part after now whole is ready few =
      let mine : EachIs (IsReady M) part = low_each (IsReady M) part after (high_each (IsReady M) before (part ++ after) (subst (EachIs (IsReady M)) whole ready)) in
      let long = length-append before (part ++ after) in
      let longer = length-append part after in
      let size = ap length whole in
      let own = ap length is in
      (subst (EachIs (IsReady M)) (sym is) mine, omega (arith, long, longer, size, own, few))
