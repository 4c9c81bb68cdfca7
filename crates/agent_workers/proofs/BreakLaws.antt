-- How a fault breaks off playing cells.
use Rattle.std.proofs.Common.{◌≡◌, ◌≢◌, ℕ, zero, suc, ◌+◌, ◌*◌, ◌<◌, ◌≤◌, Bool, true, false, if◌then◌else◌, Option, Result, Ok, Err, Some, None, List, [], ◌∷◌, ◌++◌, map, length, set, get_or, slice_get, refl, sym, ap, subst, ◌∙◌, inl, inr, arith, length-set, length-append}
use Rattle.std.specs.Prelude.{IfOk, IfErr, IfSome, OnErr, IsErrAnd, is_some}
use Rattle.std.proofs.Math.Nat.{mul-le-mul_right}
use Rattle.std.proofs.lemmas.Bool.{cases_eq, cases_Bool, cases_lt}
use Rattle.std.proofs.lemmas.Option.{slice_get-get_or}
use Rattle.std.proofs.lemmas.List.{length-map}
use Rattle.std.proofs.lemmas.List.Sums.{sum_by-cons, sum_by-set, sum_by-append}
use Rattle.std.specs.declared.dyn_box.DynBox.{DynBox}
use Rattle.std.specs.declared.alloc.Global.{Global}
use Rattle.dcop_base.specs.Limits.{variable_limit}
use Rattle.protocol_steps.specs.View.{View, ended_of}
use Rattle.worker_laws.specs.Cells.{CellState, EachAre}
use Rattle.worker_laws.specs.Visits.{IsQuiet, IsVisit}
use Rattle.worker_laws.specs.CellRounds.{total}
use Rattle.worker_laws.specs.StampCounts.{IsMoved}
use Rattle.worker_laws.proofs.VisitLaws.{quiet_later, event_later, totals_add}
use Rattle.agent_cells.specs.declared.cell.Cell.{Cell}
use Rattle.agent_cells.specs.declared.fault.VisitFault.{VisitFault}
use Rattle.agent_cells.specs.declared.fault.VisitFault.TheVariants.{NoMemory, StampEnd}
use Rattle.agent_cells.specs.State.{state_of, fault_in}
use Rattle.agent_workers.specs.Joined.{states_of, EachIs, EachBecomes}
use Rattle.agent_workers.specs.Settled.{StaysQuiet}
use Rattle.agent_workers.specs.Turns.{visit_limit, sprint_limit, IsReady, StaysReady, HasTurned, MayHaveTurned, StaysFine, SomeFailed, AreTurning, AreSprinting, HavePlayed}
use Rattle.agent_workers.specs.Parts.{both_of, ByParts}
use Rattle.agent_workers.specs.Broken.{HasGoneOn, HasFailedVisit, StandsOrFails, StaysOrFails, GoesOn, failure, failures, AreCutShort, ArePartlyPlayed}
use Rattle.agent_workers.proofs.ListLaws.{each_are, one_at}
use Rattle.agent_workers.proofs.CellLaws.{quiet_none, quiet_then}
use Rattle.agent_workers.proofs.JoinLaws.{stood}
use Rattle.agent_workers.proofs.PlayLaws.{set_back, most_more, most_within, low_each, high_each, total_both, each_both, both_ok, both_err}
use Rattle.agent_workers.proofs.BrokenLaws.{gone_then, moved_by}

-- a cell that had failed has not changed
pub unchanged : {T : Type 0} (r : Result T VisitFault) (s : Result ℕ VisitFault) (o : Option VisitFault) (P : Type 0) → IfSome o (λ f. (s ≡ Err f) × P) → IfErr r (λ f. IfSome o (λ own. P))
unchanged (Ok x) s o P again = tt
unchanged (Err x) s None P again = tt
unchanged (Err x) s (Some f) P again = again.1

-- a fault that is passed on
pub err_on : {T : Type 0} (r : Result T VisitFault) (e : VisitFault) (P : VisitFault → Type 0) → IsErrAnd r (λ x. x ≡ e) → P e → IfErr r P
err_on (Ok x) e P h p = tt
err_on (Err x) e P h p = subst P (sym h) p

pub left_on : {T E P : Type 0} (r : Result T E) → P → OnErr r P
left_on (Ok x) p = tt
left_on (Err e) p = p

-- each element of a list, by the element at its place in a mapped list
each_left : {A B C : Type 0} (R : B → C → Type 0) (f : A → B) (xs : List A) (ys : List C) → length ys ≡ length xs
    → ((i : ℕ) (a : A) (c : C) → slice_get xs i ≡ Some a → slice_get ys i ≡ Some c → R (f a) c) → EachAre R (map f xs) ys
each_left R f [] [] long each = tt
each_left R f [] (y ∷ ys) long each = absurd (omega (arith, long))
each_left R f (x ∷ xs) [] long each = absurd (omega (arith, long))
each_left R f (x ∷ xs) (y ∷ ys) long each = (each 0 x y refl refl, each_left R f xs ys (omega (arith, long)) (λ i a c e h. each (suc i) a c e h))

abbrev flag : Bool → ℕ
flag b = if b then 1 else 0

flag_one : (b : Bool) → flag b ≤ 1
flag_one true = omega arith
flag_one false = omega arith

-- memory did not run out
abbrev HasMemory : Result ℕ VisitFault → Type 0
HasMemory r = r ≢ Err NoMemory

own_fault : (f : VisitFault) → f ≡ StampEnd → HasMemory (Err f)
own_fault NoMemory is = let no : NoMemory ≡ StampEnd = is in absurd (cc)
own_fault StampEnd is = λ (no : Err StampEnd ≡ Err NoMemory). absurd (cc)

ends_too : (g f : VisitFault) → (f ≡ StampEnd → HasMemory (Err g)) → f ≡ StampEnd → g ≡ StampEnd
ends_too NoMemory f h is = absurd (h is refl)
ends_too StampEnd f h is = refl

-- if two parts together did not run out of memory, neither of them did
first_fine : (q r : Result ℕ VisitFault) → HasMemory (both_of q r) → HasMemory q
first_fine (Ok m) r h = λ (no : Ok m ≡ Err NoMemory). absurd (cc)
first_fine (Err NoMemory) (Ok n) h = λ _. h refl
first_fine (Err NoMemory) (Err f) h = λ _. h refl
first_fine (Err StampEnd) r h = λ (no : Err StampEnd ≡ Err NoMemory). absurd (cc)

rest_fine : (q r : Result ℕ VisitFault) → HasMemory (both_of q r) → HasMemory r
rest_fine q (Ok n) h = λ (no : Ok n ≡ Err NoMemory). absurd (cc)
rest_fine q (Err StampEnd) h = λ (no : Err StampEnd ≡ Err NoMemory). absurd (cc)
rest_fine (Ok m) (Err NoMemory) h = λ _. h refl
rest_fine (Err NoMemory) (Err NoMemory) h = λ _. h refl
rest_fine (Err StampEnd) (Err NoMemory) h = λ _. h refl

module _ {X : Type 0} {F : X → Type 0} (M : DynBox X Global F → View) where
  abbrev pub IsFine : Cell X F → Type 0
  IsFine c = fault_in c ≡ None

  none_failed : (cells : List (Cell X F)) → EachIs IsFine cells → failures cells ≡ 0
  none_failed [] fine = refl
  none_failed (c ∷ cells) fine =
      let sum = sum_by-cons failure c cells in
      let head : failure c ≡ 0 = ap (λ (o : Option VisitFault). flag (is_some o)) (fine.each 0 c refl) in
      let rest = none_failed cells (record { each = λ i b is. fine.each (suc i) b is }) in
      omega (arith, sum, head, rest)

  -- as many have failed where each has the fault that it had, and one more where one cell is written
  failures_same : (a b : List (Cell X F)) → length b ≡ length a → ((i : ℕ) (x y : Cell X F) → slice_get a i ≡ Some x → slice_get b i ≡ Some y → fault_in y ≡ fault_in x) → failures b ≡ failures a
  failures_same [] [] long each = refl
  failures_same [] (y ∷ b) long each = absurd (omega (arith, long))
  failures_same (x ∷ a) [] long each = absurd (omega (arith, long))
  failures_same (x ∷ a) (y ∷ b) long each =
      let old = sum_by-cons failure x a in
      let new = sum_by-cons failure y b in
      let head : failure y ≡ failure x = ap (λ (o : Option VisitFault). flag (is_some o)) (each 0 x y refl refl) in
      let rest = failures_same a b (omega (arith, long)) (λ i u v e f. each (suc i) u v e f) in
      omega (arith, old, new, head, rest)

  one_failed : (k : ℕ) (now : List (Cell X F)) (d y : Cell X F) → k < length now → failures (set now k y) ≤ failures now + 1
  one_failed k now d y lt =
      let write = sum_by-set failure now k y d lt in
      let one = flag_one (is_some (fault_in y)) in
      omega (arith, write, one)

  gone_none : (s : CellState) → HasGoneOn s s
  gone_none s = record { deeds = []; later = quiet_later s s (quiet_none s) }

  visit_gone : (n : ℕ) (s t : CellState) → IsVisit s n t → HasGoneOn s t
  visit_gone zero s t v = record { deeds = []; later = quiet_later s t (v.idle refl) }
  visit_gone (suc n) s t v = record { deeds = _; later = event_later s t v.gains (v.event (omega arith)) }

  visited_gone : (n : ℕ) (a b : Cell X F) → HasTurned M n a b → HasGoneOn (state_of M a) (state_of M b)
  visited_gone n a b t = elim (cases_Bool (ended_of (state_of M a).view)) [
    | inl ended ↦ subst (λ (c : Cell X F). HasGoneOn (state_of M a) (state_of M c)) (sym (t.rests ended).0) (gone_none (state_of M a))
    | inr live ↦ visit_gone n (state_of M a) (state_of M b) (t.visit live).0
  ]

  -- how cells go on
  goes_none : (c : Cell X F) → GoesOn M HasGoneOn c c
  goes_none c = record { gone = gone_none (state_of M c); fault = refl; rests = λ _. quiet_none (state_of M c) }

  goes_by : (a b : Cell X F) → HasGoneOn (state_of M a) (state_of M b) → StaysFine a b → GoesOn M HasGoneOn a b
  goes_by a b gone (inl same) = subst (λ (c : Cell X F). GoesOn M HasGoneOn a c) (sym same) (goes_none a)
  goes_by a b gone (inr fine) = record { gone = gone; fault = fine.1 ∙ sym fine.0; rests = λ failed. absurd (failed fine.0) }

  goes_then : (a b c : Cell X F) → GoesOn M HasGoneOn a b → GoesOn M HasGoneOn b c → GoesOn M HasGoneOn a c
  goes_then a b c g h = record {
    gone = gone_then (state_of M a) (state_of M b) (state_of M c) g.gone h.gone;
    fault = h.fault ∙ g.fault;
    rests = λ failed. quiet_then (state_of M a) (state_of M b) (state_of M c) (g.rests failed) (h.rests (λ none. failed (sym g.fault ∙ none)));
  }

  -- a cell that was settled, and then went on
  goes_from : (a b c : Cell X F) → StaysQuiet M a b → GoesOn M HasGoneOn b c → GoesOn M IsMoved a c
  goes_from a b c q h = record {
    gone = moved_by (state_of M a) (state_of M b) (state_of M c) q.quiet h.gone;
    fault = h.fault ∙ q.fault;
    rests = λ failed. quiet_then (state_of M a) (state_of M b) (state_of M c) q.quiet (h.rests (λ none. failed (sym q.fault ∙ none)));
  }

  visited_stays : (n : ℕ) (a b : Cell X F) → HasTurned M n a b → StaysFine a b
  visited_stays n a b t = elim (cases_Bool (ended_of (state_of M a).view)) [
    | inl ended ↦ inl (t.rests ended).0
    | inr live ↦ inr (t.fine live, (t.visit live).1)
  ]

  turn_goes : (all : Bool) (n : ℕ) (a b : Cell X F) → MayHaveTurned M all n a b → GoesOn M HasGoneOn a b
  turn_goes all n a b t = elim t [
    | inl turn ↦ goes_by a b (visited_gone n a b turn) (visited_stays n a b turn)
    | inr passed ↦ subst (λ (c : Cell X F). GoesOn M HasGoneOn a c) (sym passed.1) (goes_none a)
  ]

  turned_at : (all : Bool) (k n : ℕ) (a b : List (Cell X F)) → AreTurning M all k n a b → (i : ℕ) (x y : Cell X F) → slice_get a i ≡ Some x → slice_get b i ≡ Some y → GoesOn M HasGoneOn x y
  turned_at all k n a b t i x y e f = elim (cases_lt i k) [
    | inl lt ↦ let h = t.turned i x y e f lt in turn_goes all h.0 x y h.1
    | inr le ↦ subst (λ (c : Cell X F). GoesOn M HasGoneOn x c) (sym (t.rest i x y e f le)) (goes_none x)
  ]

  -- a visit that failed, now or before
  stays_or : (f : VisitFault) (o : Option VisitFault) (x y : Cell X F) → fault_in x ≡ o → (fault_in x ≡ None → HasFailedVisit M f (state_of M x) y) → IfSome o (λ own. y ≡ x) → StaysOrFails M f x y
  stays_or f None x y is failed again = inr (is, (f, (λ e. e), failed is))
  stays_or f (Some own) x y is failed again = inl again

  -- a turn in which the visit of cell k failed
  pub turn_left : (all : Bool) (k n : ℕ) (f : VisitFault) (before now : List (Cell X F)) (d y : Cell X F) → AreTurning M all k n before now → k < length now
      → (fault_in (get_or now k d) ≡ None → HasFailedVisit M f (state_of M (get_or now k d)) y) → IfSome (fault_in (get_or now k d)) (λ own. y ≡ get_or now k d) → AreCutShort M f HasGoneOn visit_limit 1 before (set now k y)
  turn_left all k n f before now d y t lt failed again =
      let size : length now ≡ length before = t.ready.size in
      record {
        stood = now;
        gone = record { size = size; each = turned_at all k n before now t };
        most =
            let counted = t.counted in
            let most = t.most in
            let le : k ≤ length before = omega (arith, lt, size) in
            let grow = mul-le-mul_right visit_limit le in
            omega (arith, counted, most, grow);
        came = record {
          size = length-set now k y;
          each = λ i a b e at_b. elim (set_back now k y i b lt at_b) [
            | inl here ↦
                let x : Cell X F = get_or now k d in
                let at : slice_get now k ≡ Some x = slice_get-get_or now k d lt in
                let same : x ≡ a = one_at now i x a (ap (slice_get now) here.0 ∙ at) e in
                subst (λ (c : Cell X F). StaysOrFails M f a c) (sym here.1) (subst (λ (c : Cell X F). StaysOrFails M f c y) same (stays_or f (fault_in x) x y refl failed again))
            | inr out ↦ inl (one_at now i b a out.1 e)
          ];
        };
        few =
            let same = failures_same before now size (λ i x z e g. (turned_at all k n before now t i x z e g).fault) in
            let one = one_failed k now d y lt in
            omega (arith, same, one);
      }

  sprinted_at : (k n : ℕ) (a b : List (Cell X F)) → AreSprinting M k n a b → (i : ℕ) (x y : Cell X F) → slice_get a i ≡ Some x → slice_get b i ≡ Some y → GoesOn M HasGoneOn x y
  sprinted_at k n a b s i x y e f = elim (cases_eq k 0) [
    | inl none ↦
        let same : y ≡ x = one_at b i y x f (ap (λ cs. slice_get cs i) (s.none none) ∙ e) in
        subst (λ (c : Cell X F). GoesOn M HasGoneOn x c) (sym same) (goes_none x)
    | inr some ↦ let h = (s.some (omega (arith, some))).each i x y e f in goes_by x y (record { deeds = h.sprint.deeds; later = h.sprint.later }) h.fault
  ]

  -- turns, and one more that broke off
  pub sprint_left : (k n : ℕ) (f : VisitFault) (a b c : List (Cell X F)) → k < 32 → AreSprinting M k n a b → AreCutShort M f HasGoneOn visit_limit 1 b c → AreCutShort M f HasGoneOn sprint_limit 1 a c
  sprint_left k n f a b c lt s o =
      let size : length b ≡ length a = s.ready.size in
      record {
        stood = o.stood;
        gone = record {
          size = o.gone.size ∙ size;
          each = λ i x z e g. let y = stood M (GoesOn M HasGoneOn) b o.stood o.gone i z g in goes_then x y.0 z (sprinted_at k n a b s i x y.0 e y.1) y.2;
        };
        most =
            let counted = s.counted in
            let last = o.most in
            let more = most_more n (length a * visit_limit) k (length a * visit_limit) s.most (omega arith) in
            let whole = most_within (n + length a * visit_limit) (k + 1) (length a * visit_limit) more (omega (arith, lt)) in
            omega (arith, size, counted, last, whole);
        came = o.came;
        few =
            let same = failures_same a b size (λ i x y e g. (sprinted_at k n a b s i x y e g).fault) in
            let few = o.few in
            omega (arith, same, few);
      }

  -- cells that were played, and did not break off
  played_at : (n : ℕ) (a b : List (Cell X F)) → HavePlayed M n a b → (i : ℕ) (x y : Cell X F) → slice_get a i ≡ Some x → slice_get b i ≡ Some y → GoesOn M HasGoneOn x y
  played_at n a b h i x y e f = let s = h.sprints.each i x y e f in goes_by x y (record { deeds = s.sprint.deeds; later = s.sprint.later }) s.fault

  played_left : (n : ℕ) (f : VisitFault) (a b : List (Cell X F)) → HavePlayed M n a b → AreCutShort M f HasGoneOn sprint_limit 1 a b
  played_left n f a b h = record {
    stood = b;
    gone = record { size = h.sprints.size; each = played_at n a b h };
    most = let counted = h.counted in let most = h.most in omega (arith, counted, most);
    came = record { size = refl; each = λ i x y e at. inl (one_at b i y x at e) };
    few = let same = failures_same a b h.sprints.size (λ i x y e g. (played_at n a b h i x y e g).fault) in omega (arith, same);
  }

  both_left : (f : VisitFault) (m n : ℕ) (a b c d : List (Cell X F)) → AreCutShort M f HasGoneOn sprint_limit m a c → AreCutShort M f HasGoneOn sprint_limit n b d → AreCutShort M f HasGoneOn sprint_limit (m + n) (a ++ b) (c ++ d)
  both_left f m n a b c d p q = record {
    stood = p.stood ++ q.stood;
    gone = each_both M (GoesOn M HasGoneOn) a b p.stood q.stood p.gone q.gone;
    most =
        let new = total_both M p.stood q.stood in
        let old = total_both M a b in
        let long = length-append a b in
        let low = p.most in
        let high = q.most in
        omega (arith, new, old, long, low, high);
    came = each_both M (StaysOrFails M f) p.stood q.stood c d p.came q.came;
    few =
        let new = sum_by-append failure c d in
        let old = sum_by-append failure a b in
        let low = p.few in
        let high = q.few in
        omega (arith, new, old, low, high);
  }

  -- if stamps have ended with the one fault only where they have with the other
  stays_for : (g f : VisitFault) → (f ≡ StampEnd → g ≡ StampEnd) → (a c : Cell X F) → StaysOrFails M g a c → StaysOrFails M f a c
  stays_for g f h a c (inl same) = inl same
  stays_for g f h a c (inr failed) = inr (failed.0, (failed.1.0, (λ is. failed.1.1 (h is)), failed.1.2))

  left_for : (g f : VisitFault) (n : ℕ) (before after : List (Cell X F)) → (f ≡ StampEnd → g ≡ StampEnd) → AreCutShort M g HasGoneOn sprint_limit n before after → AreCutShort M f HasGoneOn sprint_limit n before after
  left_for g f n before after h p = record {
    stood = p.stood;
    gone = p.gone;
    most = p.most;
    came = record { size = p.came.size; each = λ i a c e at. stays_for g f h a c (p.came.each i a c e at) };
    few = p.few;
  }

  -- if at most n more cells have failed, no more than m have
  pub left_more : (f : VisitFault) (R : CellState → CellState → Type 0) (n m : ℕ) (before after : List (Cell X F)) → n ≤ m → AreCutShort M f R sprint_limit n before after → AreCutShort M f R sprint_limit m before after
  left_more f R n m before after le p = record { stood = p.stood; gone = p.gone; most = p.most; came = p.came; few = let few = p.few in omega (arith, few, le) }

  -- cells of which none had failed before, by their states
  stands_from : (f : VisitFault) (a c : Cell X F) → IsFine a → StaysOrFails M f a c → StandsOrFails M f (state_of M a) c
  stands_from f a c fine (inl same) = inl (ap (state_of M) same, ap (λ (x : Cell X F). fault_in x) same ∙ fine)
  stands_from f a c fine (inr failed) = inr failed.1

  pub partly_of : (f : VisitFault) (R : CellState → CellState → Type 0) (limit n : ℕ) (before after : List (Cell X F)) → EachIs IsFine before → AreCutShort M f R limit n before after → ArePartlyPlayed M f R limit n (states_of M before) after
  partly_of f R limit n before after fine p = record {
    stood = states_of M p.stood;
    gone = each_are R (state_of M) (state_of M) before p.stood p.gone.size (λ i a b e at. (p.gone.each i a b e at).gone);
    most = subst (λ (j : ℕ). total (states_of M p.stood) ≤ total (states_of M before) + j * limit) (sym (length-map before (state_of M))) p.most;
    came = each_left (StandsOrFails M f) (state_of M) p.stood after p.came.size (λ i b c at e.
        let a = stood M (GoesOn M R) before p.stood p.gone i b at in
        stands_from f b c (a.2.fault ∙ fine.each i a.0 a.1) (p.came.each i b c at e));
    few = let none = none_failed before fine in let few = p.few in omega (arith, none, few);
  }

  -- what became of n parts together
  pub record PartPlayed (n : ℕ) (before : List (Cell X F)) (r : Result ℕ VisitFault) (after : List (Cell X F)) : Type 0 where
    pub ready : EachBecomes (StaysReady M) before after
    pub ok : IfOk r (λ n. HavePlayed M n before after)
    pub err : IfErr r (λ f. SomeFailed f after)
    pub left : (f : VisitFault) → (f ≡ StampEnd → HasMemory r) → AreCutShort M f HasGoneOn sprint_limit n before after

  part_left : (r : Result ℕ VisitFault) (a x : List (Cell X F)) → IfOk r (λ n. HavePlayed M n a x) → IfErr r (λ g. AreCutShort M g HasGoneOn sprint_limit 1 a x)
      → (f : VisitFault) → (f ≡ StampEnd → HasMemory r) → AreCutShort M f HasGoneOn sprint_limit 1 a x
  part_left (Ok n) a x ok left f h = played_left n f a x ok
  part_left (Err g) a x ok left f h = left_for g f 1 a x (ends_too g f h) left

  pub parts_left : (r : Result ℕ VisitFault) (n m : ℕ) (a x : List (Cell X F)) → n ≤ m → PartPlayed n a r x → IfErr r (λ f. AreCutShort M f HasGoneOn sprint_limit m a x)
  parts_left (Ok k) n m a x le p = tt
  parts_left (Err f) n m a x le p = left_more f HasGoneOn n m a x le (p.left f (own_fault f))

  both_played : (m n : ℕ) (a b c d : List (Cell X F)) (q r : Result ℕ VisitFault) → PartPlayed m a q c → PartPlayed n b r d → PartPlayed (m + n) (a ++ b) (both_of q r) (c ++ d)
  both_played m n a b c d q r p s = record {
    ready = each_both M (StaysReady M) a b c d p.ready s.ready;
    ok = both_ok M q r a b c d p.ok s.ok;
    err = both_err M q r c d p.err s.err;
    left = λ f fine. both_left f m n a b c d (p.left f (λ is. first_fine q r (fine is))) (s.left f (λ is. rest_fine q r (fine is)));
  }

  -- what became of all parts
  pub by_parts : (P : List (Cell X F) → Result ℕ VisitFault → List (Cell X F) → Type 0)
      → ((a c : List (Cell X F)) (r : Result ℕ VisitFault) → EachIs (IsReady M) a → length a ≤ variable_limit → P a r c → PartPlayed 1 a r c)
      → (size count : ℕ) (a c : List (Cell X F)) (r : Result ℕ VisitFault) → EachIs (IsReady M) a → length a ≤ variable_limit → ByParts P size count a r c → PartPlayed (suc count) a r c
  by_parts P each size zero a c r ready few p = each a c r ready few p.1
  by_parts P each size (suc count) a c r ready few p =
      let low : List (Cell X F) = p.0 in
      let high : List (Cell X F) = p.1 in
      let both : EachIs (IsReady M) (low ++ high) = subst (EachIs (IsReady M)) p.6 ready in
      let long = length-append low high in
      let whole = ap length p.6 in
      let first = each low p.2 p.4 (low_each M (IsReady M) low high both) (omega (arith, long, whole, few)) p.9 in
      let rest = by_parts P each size count high p.3 p.5 (high_each M (IsReady M) low high both) (omega (arith, long, whole, few)) p.12 in
      let more : 1 + suc count ≡ suc (suc count) = omega arith in
      subst (λ (xs : List (Cell X F)). PartPlayed (suc (suc count)) xs r c) (sym p.6)
      (subst (λ (xs : List (Cell X F)). PartPlayed (suc (suc count)) (low ++ high) r xs) (sym p.7)
      (subst (λ (q : Result ℕ VisitFault). PartPlayed (suc (suc count)) (low ++ high) q (p.2 ++ p.3)) (sym p.8) (subst (λ (n : ℕ). PartPlayed n (low ++ high) (both_of p.4 p.5) (p.2 ++ p.3)) more (both_played 1 (suc count) low high p.2 p.3 p.4 p.5 first rest))))

  -- the result of a call with a part
  pub part_call : (a x given left : List (Cell X F)) (r : Result ℕ VisitFault) → given ≡ a → left ≡ x
      → EachBecomes (StaysReady M) given left × (IfOk r (λ n. HavePlayed M n given left) × (IfErr r (λ f. SomeFailed f left)
      × IfErr r (λ f. AreCutShort M f HasGoneOn sprint_limit 1 given left))) → PartPlayed 1 a r x
  part_call a x given left r is was k =
      subst (λ (ys : List (Cell X F)). PartPlayed 1 a r ys) was
      (subst (λ (xs : List (Cell X F)). PartPlayed 1 xs r left) is (record { ready = k.0; ok = k.1.0; err = k.1.1.0; left = part_left r given left k.1.0 k.1.1.1 }))

  -- a round that broke off, from before its settling
  pub round_left : (f : VisitFault) (n : ℕ) (before mid after : List (Cell X F)) → EachBecomes (StaysQuiet M) before mid → AreCutShort M f HasGoneOn sprint_limit n mid after → AreCutShort M f IsMoved sprint_limit n before after
  round_left f n before mid after q o =
      let size : length mid ≡ length before = q.size in
      record {
        stood = o.stood;
        gone = record {
          size = o.gone.size ∙ size;
          each = λ i x z e g. let y = stood M (GoesOn M HasGoneOn) mid o.stood o.gone i z g in goes_from x y.0 z (q.each i x y.0 e y.1) y.2;
        };
        most =
            let still = totals_add.quiet (states_of M before) (states_of M mid) (each_are IsQuiet (state_of M) (state_of M) before mid q.size (λ i a b e at. (q.each i a b e at).quiet)) in
            let most = o.most in
            omega (arith, size, still, most);
        came = o.came;
        few =
            let same = failures_same before mid size (λ i x y e g. (q.each i x y e g).fault) in
            let few = o.few in
            omega (arith, same, few);
      }
