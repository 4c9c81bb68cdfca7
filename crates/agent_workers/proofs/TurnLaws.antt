-- Turns that pass over nobody who was sent something.
use Rattle.std.proofs.Common.{◌≡◌, ◌≢◌, ℕ, zero, suc, max, ◌+◌, ◌<◌, ◌≤◌, ◌⊎◌, ◌==◌, Bool, true, false, Result, Ok, Err, List, [], ◌∷◌, ◌++◌, map, take, drop, length, set, get_or, Some, slice_get, refl, sym, ap, subst, ◌∙◌, inl, inr, arith}
use Rattle.std.specs.Prelude.{OnOk, ◌||◌}
use Rattle.std.specs.Int.{div_ceil}
use Rattle.std.proofs.lemmas.Bool.{cases_lt, ne_eqb}
use Rattle.std.proofs.lemmas.Option.{slice_get_within, slice_get-get_or}
use Rattle.std.proofs.lemmas.List.{map-set, set-get_or, take-set-le, take-append-drop}
use Rattle.std.specs.declared.dyn_box.DynBox.{DynBox}
use Rattle.std.specs.declared.alloc.Global.{Global}
use Rattle.dcop_base.specs.Limits.{variable_limit}
use Rattle.protocol_steps.specs.View.{View}
use Rattle.worker_laws.specs.Cells.{lane}
use Rattle.agent_cells.specs.declared.cell.Cell.{Cell}
use Rattle.agent_cells.specs.declared.fault.VisitFault.{VisitFault}
use Rattle.agent_cells.specs.State.{state_of}
use Rattle.worker_laws.specs.CellRounds.{total}
use Rattle.worker_laws.specs.OneNode.{IsSettling}
use Rattle.agent_workers.specs.Joined.{states_of}
use Rattle.agent_workers.specs.Watched.{IsUnmarked, AreCellsUnmarked, all_due, sent_to, found_at, IsVisitedOnce, KnowsOfNone, NeedsNoVisit, MarksKnowing, MayBePassed, MarksReceivers, MarksWaiting, PassesUnmarked, PassesNone, AreTurns, IsPlayedInTurns, IsTurnRound}
use Rattle.agent_workers.proofs.CellLaws.{ended_once}
use Rattle.agent_workers.proofs.PlayLaws.{set_back}

-- two lists that agree from a place on
drop_same : {A : Type 0} (xs ys : List A) (i : ℕ) → length ys ≡ length xs → ((j : ℕ) (a b : A) → slice_get xs j ≡ Some a → slice_get ys j ≡ Some b → i ≤ j → b ≡ a) → drop i xs ≡ drop i ys
drop_same [] [] i size each = refl
drop_same [] (y ∷ ys) i size each = absurd (omega (arith, size))
drop_same (x ∷ xs) [] i size each = absurd (omega (arith, size))
drop_same (x ∷ xs) (y ∷ ys) zero size each =
    let head : y ≡ x = each 0 x y refl refl (omega arith) in
    let rest : xs ≡ ys = drop_same xs ys zero (omega (arith, size)) (λ j a b e f le. each (suc j) a b e f (omega arith)) in
    ap (λ z. z ∷ xs) (sym head) ∙ ap (λ zs. y ∷ zs) rest
drop_same (x ∷ xs) (y ∷ ys) (suc i) size each = drop_same xs ys i (omega (arith, size)) (λ j a b e f le. each (suc j) a b e f (omega (arith, le)))

-- the cells as a turn finds them at a place that it has not passed
pub found_now : {A : Type 0} (before now : List A) (k i : ℕ) → length now ≡ length before → ((j : ℕ) (a b : A) → slice_get before j ≡ Some a → slice_get now j ≡ Some b → k ≤ j → b ≡ a) → k ≤ i → take i now ++ drop i before ≡ now
found_now before now k i size rest le =
    ap (λ zs. take i now ++ zs) (drop_same before now i size (λ j a b e f ge. rest j a b e f (omega (arith, le, ge)))) ∙ take-append-drop i now

-- and at one that it has passed, after another visit
pub found_set : {A : Type 0} (before now : List A) (p i : ℕ) (y : A) → i ≤ p → take i (set now p y) ++ drop i before ≡ take i now ++ drop i before
found_set before now p i y le = ap (λ zs. zs ++ drop i before) (take-set-le i now p y le)

pub map_set_same : {A Y : Type 0} (f : A → Y) (now : List A) (p : ℕ) (d y : A) → f y ≡ f (get_or now p d) → map f (set now p y) ≡ map f now
map_set_same f now p d y e = map-set f now p y ∙ ap (λ z. set (map f now) p z) e ∙ sym (map-set f now p (get_or now p d)) ∙ ap (map f) (set-get_or now p d)

-- a turn after another one is not the first
not_first : (turns : ℕ) → (suc turns == 0) ≡ false
not_first turns = ne_eqb (suc turns) 0 (λ (no : suc turns ≡ 0). absurd (omega (arith, no)))

-- a turn that goes not to all cells is not the first
pub later : (turn : ℕ) (all : Bool) → (turn ≡ 0 → all ≡ true) → all ≡ false → 0 < turn
later zero all first some = let no : true ≡ false = sym (first refl) ∙ some in absurd (cc)
later (suc turn) all first some = omega arith

-- one worker plays all cells as one part
pub one_part_size : (size all workers : ℕ) → workers ≡ 1 → size ≡ max (div_ceil all workers) 1 → all ≤ size
one_part_size size all workers one is =
    let parts : div_ceil all workers ≡ all = ap (λ n. div_ceil all n) one ∙ omega arith in
    omega (arith, parts, is)

module _ {X : Type 0} {F : X → Type 0} (M : DynBox X Global F → View) where
  pub waiting_none : (words : List ℕ) (cells : List (Cell X F)) → MarksWaiting M words 0 cells cells
  waiting_none words cells = record { each = λ i lt un. absurd (omega (arith, lt)) }

  pub waiting_past : (words : List ℕ) (k m : ℕ) (before now : List (Cell X F)) → length now ≡ length before
      → ((j : ℕ) (a b : Cell X F) → slice_get before j ≡ Some a → slice_get now j ≡ Some b → k ≤ j → b ≡ a) → MarksWaiting M words k before now → MarksWaiting M words m before now
  waiting_past words k m before now size rest w = record {
    each = λ i lt un. elim (cases_lt i k) [
      | inl done ↦ w.each i done un
      | inr ahead ↦ ap (λ (cs : List (Cell X F)). map (λ (c : Cell X F). lane i (state_of M c).sent) cs) (sym (found_now before now k i size rest ahead))
    ];
  }

  pub waiting_more : (words more : List ℕ) (k p : ℕ) (before now : List (Cell X F)) (d y : Cell X F) → k ≤ p → p < length now → length now ≤ variable_limit → length now ≡ length before
      → ((j : ℕ) (a b : Cell X F) → slice_get before j ≡ Some a → slice_get now j ≡ Some b → k ≤ j → b ≡ a) → MarksWaiting M words k before now → MarksReceivers p words more (state_of M (get_or now p d)).sent (state_of M y).sent
      → MarksWaiting M more (p + 1) before (set now p y)
  waiting_more words more k p before now d y le inside few size rest w m = record {
    each = λ i lt un.
        let same : map (λ (c : Cell X F). lane i (state_of M c).sent) (set now p y) ≡ map (λ (c : Cell X F). lane i (state_of M c).sent) now = map_set_same (λ (c : Cell X F). lane i (state_of M c).sent) now p d y (m.sent i (omega (arith, lt, inside, few)) un) in
        let found : take i (set now p y) ++ drop i before ≡ take i now ++ drop i before = found_set before now p i y (omega (arith, lt)) in
        let past : map (λ (c : Cell X F). lane i (state_of M c).sent) now ≡ map (λ (c : Cell X F). lane i (state_of M c).sent) (take i now ++ drop i before) = elim (cases_lt i k) [
          | inl done ↦ w.each i done (m.kept i (omega (arith, done, le)) un)
          | inr ahead ↦ ap (λ (cs : List (Cell X F)). map (λ (c : Cell X F). lane i (state_of M c).sent) cs) (sym (found_now before now k i size rest ahead))
        ] in
        same ∙ past ∙ ap (λ (cs : List (Cell X F)). map (λ (c : Cell X F). lane i (state_of M c).sent) cs) (sym found);
  }

  -- the marks after one more visit
  pub knowing_set : (words more : List ℕ) (p from done : ℕ) (now : List (Cell X F)) (y : Cell X F) → p < length now → ((i : ℕ) → i < done → i ≢ p → i < from)
      → ((k : ℕ) → k ≢ p → IsUnmarked more k → IsUnmarked words k) → (IsUnmarked more p → NeedsNoVisit M y) → MarksKnowing M words from now → MarksKnowing M more done (set now p y)
  knowing_set words more p from done now y inside below kept here h = λ i c at lt un. elim (set_back now p y i c inside at) [
    | inl place ↦ subst (λ (z : Cell X F). NeedsNoVisit M z) (sym place.1) (here (subst (λ (n : ℕ). IsUnmarked more n) place.0 un))
    | inr out ↦ h i c out.1 (below i lt out.0) (kept i out.0 un)
  ]

  -- a turn up to a place: a cell from there on that is not marked was not marked before the turn,
  -- and was sent nothing in it
  pub record IsPassing (all alone : Bool) (old words : List ℕ) (done : ℕ) (before now : List (Cell X F)) : Type 0 where
    pub ahead : (i : ℕ) → done ≤ i → i < length before → IsUnmarked words i → IsUnmarked old i × (map (λ (c : Cell X F). lane i (state_of M c).sent) now ≡ map (λ (c : Cell X F). lane i (state_of M c).sent) before)
    pub passed : PassesUnmarked M all alone old done before now

  pub passing_none : (all alone : Bool) (words : List ℕ) (before : List (Cell X F)) → IsPassing all alone words words 0 before before
  passing_none all alone words before = record {
    ahead = λ i le lt un. (un, refl);
    passed = record { each = λ i a b e f lt. absurd (omega (arith, lt)) };
  }

  pub passing_past : (alone : Bool) (old words : List ℕ) (k m : ℕ) (before now : List (Cell X F)) → k ≤ m → length now ≡ length before → AreCellsUnmarked words k m
      → ((j : ℕ) (a b : Cell X F) → slice_get before j ≡ Some a → slice_get now j ≡ Some b → k ≤ j → b ≡ a) → IsPassing false alone old words k before now → IsPassing false alone old words m before now
  passing_past alone old words k m before now le size none rest h = record {
    ahead = λ i ge lt un. h.ahead i (omega (arith, le, ge)) lt un;
    passed = record {
      each = λ i a b e f lt. elim (cases_lt i k) [
        | inl done ↦ h.passed.each i a b e f done
        | inr here ↦
            let was = h.ahead i here (slice_get_within before i a e) (none i here lt) in
            inr (rest i a b e f here, (λ (no : false ≡ true). absurd (cc)), (λ _. was.0), ap (λ (cs : List (Cell X F)). map (λ (c : Cell X F). lane i (state_of M c).sent) cs) (found_now before now k i size rest here) ∙ was.1)
      ];
    };
  }

  -- a cell that knew nothing of what waits for it was visited
  pub visited_only : (words : List ℕ) (place : ℕ) (a b : Cell X F) → MayBePassed M false words place a b → IsVisitedOnce M a b
  visited_only words place a b (inl visited) = visited
  visited_only words place a b (inr over) = let no : false ≡ true = over.0 in absurd (cc)

  pub passing_more : (all alone : Bool) (old words more : List ℕ) (p : ℕ) (before now : List (Cell X F)) (d y : Cell X F) → p < length now → length now ≤ variable_limit → length now ≡ length before
      → ((j : ℕ) (a b : Cell X F) → slice_get before j ≡ Some a → slice_get now j ≡ Some b → p ≤ j → b ≡ a) → MarksReceivers p words more (state_of M (get_or now p d)).sent (state_of M y).sent
      → IsVisitedOnce M (get_or now p d) y ⊎ ((all ≡ true) × MayBePassed M alone words p (get_or now p d) y) → IsPassing all alone old words p before now → IsPassing all alone old more (p + 1) before (set now p y)
  passing_more all alone old words more p before now d y inside few size rest m turn h = record {
    ahead = λ i ge lt un.
        let was = h.ahead i (omega (arith, ge)) lt (m.kept i (omega (arith, ge)) un) in
        (was.0, map_set_same (λ (c : Cell X F). lane i (state_of M c).sent) now p d y (m.sent i (omega (arith, lt, few, size)) un) ∙ was.1);
    passed = record {
      each = λ i a b e f lt. elim (set_back now p y i b inside f) [
        | inl here ↦
            let at : slice_get now i ≡ Some (get_or now p d) = ap (slice_get now) here.0 ∙ slice_get-get_or now p d inside in
            let place = here.0 in
            let is : get_or now p d ≡ a = rest i a (get_or now p d) e at (omega (arith, place)) in
            let visited : IsVisitedOnce M (get_or now p d) y → IsVisitedOnce M a b = λ v. subst (λ (z : Cell X F). IsVisitedOnce M z b) is (subst (λ (z : Cell X F). IsVisitedOnce M (get_or now p d) z) (sym here.1) v) in
            elim turn [
              | inl v ↦ inl (visited v)
              | inr may ↦ elim may.1 [
                | inl v ↦ inl (visited v)
                | inr over ↦
                    let was = h.ahead p (omega arith) (omega (arith, inside, size)) over.3 in
                    let same : b ≡ a = here.1 ∙ over.1 ∙ is in
                    let back = ap (λ (cs : List (Cell X F)). map (λ (c : Cell X F). lane i (state_of M c).sent) cs) (found_set before now p i y (omega (arith, place)) ∙ found_now before now p i size rest (omega (arith, place))) in
                    let quiet : map (λ (c : Cell X F). lane i (state_of M c).sent) now ≡ map (λ (c : Cell X F). lane i (state_of M c).sent) before =
                    subst (λ (n : ℕ). map (λ (c : Cell X F). lane n (state_of M c).sent) now ≡ map (λ (c : Cell X F). lane n (state_of M c).sent) before) (sym place) was.1 in
                    inr (same, (λ _. (over.0, subst (KnowsOfNone M) is over.2)), (λ (no : all ≡ false). let yes = may.0 in absurd (cc)), back ∙ quiet)
              ]
            ]
        | inr out ↦
            let ne = out.0 in
            elim (h.passed.each i a b e out.1 (omega (arith, lt, ne))) [
              | inl visited ↦ inl visited
              | inr over ↦ inr (over.0, over.1, over.2, ap (λ (cs : List (Cell X F)). map (λ (c : Cell X F). lane i (state_of M c).sent) cs) (found_set before now p i y (omega (arith, lt))) ∙ over.3)
            ]
      ];
    };
  }

  -- a turn that goes to all cells, up to its last place
  pub passing_all : (all alone : Bool) (old words : List ℕ) (done : ℕ) (before now : List (Cell X F)) → length before ≤ done → IsPassing all alone old words done before now → PassesUnmarked M all alone old (length before) before now
  passing_all all alone old words done before now past h = record { each = λ i a b e f lt. h.passed.each i a b e f (omega (arith, lt, past)) }

  -- turns so far, with the marks that they leave
  pub record TurnsSoFar (alone : Bool) (turns : ℕ) (words : List ℕ) (first now : List (Cell X F)) : Type 0 where
    pub earlier : List (Cell X F)
    pub are : AreTurns M alone turns first earlier now
    pub more : 0 < turns → total (states_of M earlier) < total (states_of M now)
    pub marks : 0 < turns → MarksWaiting M words (length now) earlier now
    pub known : 0 < turns → MarksKnowing M words (length now) now

  pub no_turns : (alone : Bool) (words : List ℕ) (first : List (Cell X F)) → TurnsSoFar alone 0 words first first
  no_turns alone words first = record { earlier = first; are = (refl, refl); more = λ lt. absurd (omega (arith, lt)); marks = λ lt. absurd (omega (arith, lt)); known = λ lt. absurd (omega (arith, lt)) }

  -- why a turn passed over a cell, by the turns before it
  over_by : (alone : Bool) (turns : ℕ) (words : List ℕ) (first now next : List (Cell X F)) (t : TurnsSoFar alone turns words first now) (i : ℕ) (a b : Cell X F) → slice_get now i ≡ Some a → b ≡ a
      → (all_due turns alone ≡ true → (alone ≡ true) × KnowsOfNone M a) → (all_due turns alone ≡ false → IsUnmarked words i) → sent_to M i (found_at i now next) ≡ sent_to M i now
      → IsVisitedOnce M a b ⊎ ((alone ≡ true) × (b ≡ a) × KnowsOfNone M a × (sent_to M i (found_at i now next) ≡ sent_to M i (found_at i t.earlier now)))
  over_by false zero words first now next t i a b at same all later quiet = let no : false ≡ true = (all refl).0 in absurd (cc)
  over_by false (suc turns) words first now next t i a b at same all later quiet =
      let due : all_due (suc turns) false ≡ true = ap (λ (x : Bool). x || true) (not_first turns) in
      let no : false ≡ true = (all due).0 in absurd (cc)
  over_by true zero words first now next t i a b at same all later quiet =
      let start : t.earlier ≡ now = t.are.0 ∙ sym t.are.1 in
      let found : found_at i t.earlier now ≡ now = ap (λ (cs : List (Cell X F)). take i now ++ drop i cs) start ∙ take-append-drop i now in
      inr (refl, same, (all refl).1, quiet ∙ ap (sent_to M i) (sym found))
  over_by true (suc turns) words first now next t i a b at same all later quiet =
      let by_marks : all_due (suc turns) true ≡ false = ap (λ (x : Bool). x || false) (not_first turns) in
      let inside = slice_get_within now i a at in
      elim (t.known (omega arith) i a at inside (later by_marks)) [
        | inl ended ↦ inl (subst (λ (z : Cell X F). IsVisitedOnce M a z) (sym same) (ended_once M a ended))
        | inr none ↦ inr (refl, same, none, quiet ∙ (t.marks (omega arith)).each i inside (later by_marks))
      ]

  -- a turn after others
  none_passed : (alone : Bool) (turns : ℕ) (words : List ℕ) (first now next : List (Cell X F)) (t : TurnsSoFar alone turns words first now) → length next ≡ length now → PassesUnmarked M (all_due turns alone) alone words (length now) now next → PassesNone M alone t.earlier now next
  none_passed alone turns words first now next t size h = record {
    size = size;
    each = λ i a b e f.
        elim (h.each i a b e f (slice_get_within now i a e)) [
          | inl visited ↦ inl visited
          | inr over ↦ over_by alone turns words first now next t i a b e over.0 over.1 over.2 over.3
        ];
  }

  pub turns_more : (alone : Bool) (turns : ℕ) (words : List ℕ) (first now next : List (Cell X F)) → length next ≡ length now → PassesUnmarked M (all_due turns alone) alone words (length now) now next → TurnsSoFar alone turns words first now → AreTurns M alone (turns + 1) first now next
  turns_more alone turns words first now next size passes t =
      let next_turn : AreTurns M alone (suc turns) first now next = (t.earlier, t.are, t.more, none_passed alone turns words first now next t size passes) in
      let count : suc turns ≡ turns + 1 = omega arith in
      subst (λ (n : ℕ). AreTurns M alone n first now next) count next_turn

  pub one_turn_more : (all alone : Bool) (turns : ℕ) (words more : List ℕ) (first now next : List (Cell X F)) → all ≡ all_due turns alone → length next ≡ length now → PassesUnmarked M all alone words (length now) now next → MarksWaiting M more (length now) now next → MarksKnowing M more (length now) next
      → total (states_of M now) < total (states_of M next) → TurnsSoFar alone turns words first now → TurnsSoFar alone (turns + 1) more first next
  one_turn_more all alone turns words more first now next due size passes marks known took t = record {
    earlier = now;
    are = turns_more alone turns words first now next size (subst (λ (b : Bool). PassesUnmarked M b alone words (length now) now next) due passes) t;
    more = λ some. took;
    marks = λ some. subst (λ (n : ℕ). MarksWaiting M more n now next) (sym size) marks;
    known = λ some. subst (λ (n : ℕ). MarksKnowing M more n next) (sym size) known;
  }

  -- a part whose last turn took nothing, and one that had all its turns
  pub still_part : (all alone : Bool) (turns : ℕ) (words : List ℕ) (first now next : List (Cell X F)) → all ≡ all_due turns alone → length next ≡ length now → PassesUnmarked M all alone words (length now) now next → turns < 32 → total (states_of M next) ≡ total (states_of M now)
      → TurnsSoFar alone turns words first now → IsPlayedInTurns M alone first next
  still_part all alone turns words first now next due size passes few none t = record {
    turns = turns + 1;
    earlier = now;
    some = omega arith;
    most = omega (arith, few);
    are = turns_more alone turns words first now next size (subst (λ (b : Bool). PassesUnmarked M b alone words (length now) now next) due passes) t;
    ends = λ less. none;
  }

  pub spent_part : (alone : Bool) (turns : ℕ) (words : List ℕ) (first now : List (Cell X F)) → turns ≡ 32 → TurnsSoFar alone turns words first now → IsPlayedInTurns M alone first now
  spent_part alone turns words first now all t = record {
    turns = turns;
    earlier = t.earlier;
    some = omega (arith, all);
    most = omega (arith, all);
    are = t.are;
    ends = λ less. absurd (omega (arith, all, less));
  }

  -- a part that a call has played, and a round of it
  pub turns_call : (alone : Bool) (a x given left : List (Cell X F)) (r : Result ℕ VisitFault) → given ≡ a → left ≡ x → OnOk r (IsPlayedInTurns M alone given left) → OnOk r (IsPlayedInTurns M alone a x)
  turns_call alone a x given left r is was p = subst (λ (ys : List (Cell X F)). OnOk r (IsPlayedInTurns M alone a ys)) was (subst (λ (xs : List (Cell X F)). OnOk r (IsPlayedInTurns M alone xs left)) is p)

  pub turn_round : (node : ℕ → ℕ) (before mid after : List (Cell X F)) (r : Result ℕ VisitFault) → IsSettling node (states_of M before) (states_of M mid) → OnOk r (IsPlayedInTurns M true mid after) → OnOk r (IsTurnRound M node before after)
  turn_round node before mid after (Ok n) s p = record { middle = mid; settling = s; turns = p }
  turn_round node before mid after (Err f) s p = tt
