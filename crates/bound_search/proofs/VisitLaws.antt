-- Laws of what a search visits: the values of a row have their turns, least first.
use Rattle.std.proofs.Common.{◌≡◌, ◌≢◌, ℕ, zero, suc, ◌+◌, ◌*◌, ◌-◌, ◌/◌, ◌<◌, ◌≤◌, ◌⊎◌, Bool, true, false, min, cond, ltb, List, [], ◌∷◌, ◌++◌, length, get_or, set, drop, Option, Some, refl, sym, ap, ap₂, subst, ◌∙◌, inl, inr, arith}
use Rattle.std.specs.List.{filter, range_with_len}
use Rattle.std.specs.List.Sorted.{IsPermutation, IsNonDecreasingBy}
use Rattle.std.proofs.lemmas.Bool.{cases_Bool, cases_lt, cases_eq, cond-true, cond-false, lt-ltb, le-ltb}
use Rattle.std.proofs.lemmas.List.{append-nil, drop_more, length-drop, length-set, length_push, get_or_push, get_or-set_same, get_or-set_other}
use Rattle.std.proofs.lemmas.List.Sorted.{IsPermutation-refl, IsPermutation-trans, IsPermutation-cons, IsPermutation-middle, IsPermutation-pop_more, IsNonDecreasingBy-short, IsNonDecreasingBy-push}
use Rattle.dcop_base.specs.Limits.{amount_limit}
use Rattle.dcop_base.specs.Values.{with_own}
use Rattle.dcop_optimum.proofs.OptimumLaws.{least_upto}
use Rattle.shared_costs.specs.Values.{AreValues, AgreeBelow}
use Rattle.bucket_bounds.specs.declared.bucket.Bucket.{Bucket}
use Rattle.bound_search.specs.Estimate.{estimate}
use Rattle.bound_search.specs.Grounds.{AreGrounds}
use Rattle.bound_search.specs.Descent.{IsRoom, IsOpened, far_of}
use Rattle.bound_search.specs.Visits.{Far, far, IsNode, PassesOver, LeavesOpen, IsValueTurn, AreValueTurns, VisitsEach, VisitsFrom, HasVisited}
use Rattle.bound_search.specs.declared.progress.Progress.{Progress}
use Rattle.bound_search.specs.declared.rules.Rules.{Rules}
use Rattle.bound_search.proofs.EstimateLaws.{estimate_agrees, estimate_within, estimate_all, own_agrees, own_before, own_is, own_values}
use Rattle.bound_search.proofs.RowLaws.{agree_more}
use Rattle.bound_search.proofs.TreeLaws.{done, to_visit, to_visit_next}
use Rattle.bound_search.proofs.ScaleLaws.{cost_back}
use Rattle.bound_search.proofs.DescentLaws.{IsVisiting}

-- numbers of a range by a test that all pass, that none passes, and by two tests that tell one number apart
filter_all : (p : ℕ → Bool) (n low : ℕ) → ((b : ℕ) → b < low + n → p b ≡ true) → filter p (range_with_len low n) ≡ range_with_len low n
filter_all p zero low h = refl
filter_all p (suc n) low h =
    cond-true (p low) (low ∷ filter p (range_with_len (low + 1) n)) (filter p (range_with_len (low + 1) n)) (h low (omega arith))
    ∙ ap (λ (xs : List ℕ). low ∷ xs) (filter_all p n (low + 1) (λ b lt. h b (omega (arith, lt))))

filter_none : (p : ℕ → Bool) (n low : ℕ) → ((b : ℕ) → b < low + n → p b ≡ false) → filter p (range_with_len low n) ≡ []
filter_none p zero low h = refl
filter_none p (suc n) low h =
    cond-false (p low) (low ∷ filter p (range_with_len (low + 1) n)) (filter p (range_with_len (low + 1) n)) (h low (omega arith))
    ∙ filter_none p n (low + 1) (λ b lt. h b (omega (arith, lt)))

filter_same : (p q : ℕ → Bool) (n low : ℕ) → ((b : ℕ) → low ≤ b → q b ≡ p b) → filter q (range_with_len low n) ≡ filter p (range_with_len low n)
filter_same p q zero low h = refl
filter_same p q (suc n) low h =
    ap₂ (λ (c : Bool) (xs : List ℕ). cond c (low ∷ xs) xs) (h low (omega arith)) (filter_same p q n (low + 1) (λ b le. h b (omega (arith, le))))

filter_but : (p q : ℕ → Bool) (a n low : ℕ) → low ≤ a → a < low + n → p a ≡ true → q a ≡ false → ((b : ℕ) → b ≢ a → q b ≡ p b) → IsPermutation (filter p (range_with_len low n)) (a ∷ filter q (range_with_len low n))
filter_but p q a zero low from below here gone same = absurd (omega (arith, from, below))
filter_but p q a (suc n) low from below here gone same =
    let rest = range_with_len (low + 1) n in
    let ps = filter p rest in
    let qs = filter q rest in
    elim (cases_eq low a) [
      | inl first ↦
          let all : qs ≡ ps = filter_same p q n (low + 1) (λ b le. same b (omega (arith, first, le))) in
          let with : cond (p low) (low ∷ ps) ps ≡ low ∷ ps = cond-true (p low) (low ∷ ps) ps (ap p first ∙ here) in
          let without : cond (q low) (low ∷ qs) qs ≡ qs = cond-false (q low) (low ∷ qs) qs (ap q first ∙ gone) in
          subst (λ (xs : List ℕ). IsPermutation (cond (p low) (low ∷ ps) ps) xs) (with ∙ ap₂ (λ (b : ℕ) (xs : List ℕ). b ∷ xs) first (sym (without ∙ all))) (IsPermutation-refl (cond (p low) (low ∷ ps) ps))
      | inr other ↦
          let more = filter_but p q a n (low + 1) (omega (arith, from, other)) (omega (arith, below)) here gone same in
          let alike = same low other in
          elim (cases_Bool (p low)) [
            | inl passes ↦
                subst (λ (xs : List ℕ). IsPermutation xs (a ∷ cond (q low) (low ∷ qs) qs)) (sym (cond-true (p low) (low ∷ ps) ps passes))
                (subst (λ (xs : List ℕ). IsPermutation (low ∷ ps) (a ∷ xs)) (sym (cond-true (q low) (low ∷ qs) qs (alike ∙ passes)))
                (IsPermutation-trans (low ∷ ps) (low ∷ a ∷ qs) (a ∷ low ∷ qs) (IsPermutation-cons low ps (a ∷ qs) more) (IsPermutation-middle (low ∷ []) a qs)))
            | inr fails ↦
                subst (λ (xs : List ℕ). IsPermutation xs (a ∷ cond (q low) (low ∷ qs) qs)) (sym (cond-false (p low) (low ∷ ps) ps fails))
                (subst (λ (xs : List ℕ). IsPermutation ps (a ∷ xs)) (sym (cond-false (q low) (low ∷ qs) qs (alike ∙ fails))) more)
          ]
    ]

-- the values of a row that have not had their turns
abbrev pub left_of : List ℕ → List ℕ
left_of row = filter (λ a. ltb (get_or row a 0) done) (range_with_len 0 (length row))

left_first : (row : List ℕ) → ((a : ℕ) → a < length row → get_or row a 0 < done) → left_of row ≡ range_with_len 0 (length row)
left_first row h = filter_all (λ a. ltb (get_or row a 0) done) (length row) 0 (λ a lt. lt-ltb (get_or row a 0) done (h a (omega (arith, lt))))

left_none : (row : List ℕ) → ((a : ℕ) → a < length row → done ≤ get_or row a 0) → left_of row ≡ []
left_none row h = filter_none (λ a. ltb (get_or row a 0) done) (length row) 0 (λ a lt. le-ltb (get_or row a 0) done (h a (omega (arith, lt))))

left_next : (row : List ℕ) (a : ℕ) → a < length row → get_or row a 0 < done → IsPermutation (left_of row) (a ∷ left_of (set row a done))
left_next row a inside below =
    let p : ℕ → Bool = λ b. ltb (get_or row b 0) done in
    let q : ℕ → Bool = λ b. ltb (get_or (set row a done) b 0) done in
    let marked = get_or-set_same row a done 0 inside in
    subst (λ (n : ℕ). IsPermutation (left_of row) (a ∷ filter q (range_with_len 0 n))) (sym (length-set row a done))
    (filter_but p q a (length row) 0 (omega arith) (omega (arith, inside)) (lt-ltb (get_or row a 0) done below) (le-ltb (get_or (set row a done) a 0) done (omega (arith, marked)))
    (λ b ne. ap (λ (n : ℕ). ltb n done) (get_or-set_other row a b done 0 ne)))

module _ (rules : Rules) (f : ℕ → ℕ) (Behind : ℕ → Far → Far → Type 0) where
  -- one turn more
  turns_more : (order : List ℕ) (a : ℕ) (old mid new : Far) → AreValueTurns rules f Behind order old mid → IsValueTurn rules (f a) (Behind a) mid new → AreValueTurns rules f Behind (order ++ a ∷ []) old new
  turns_more [] a old mid new before turn = (new, subst (λ (s : Far). IsValueTurn rules (f a) (Behind a) s new) before turn, refl)
  turns_more (b ∷ bs) a old mid new before turn = (before.0, before.1, turns_more bs a before.0 mid new before.2 turn)

  -- the values that are marked in a row have had their turns, and no other has a lower estimate
  pub record HasTurned (row : List ℕ) (old now : Far) : Type 0 where
    pub order : List ℕ
    pub each : IsPermutation (range_with_len 0 (length row)) (order ++ left_of row)
    pub ascending : IsNonDecreasingBy f order
    pub least : (a d : ℕ) → a < length row → get_or row a 0 < done → 0 < length order → f (get_or order (length order - 1) d) ≤ get_or row a 0
    pub turns : AreValueTurns rules f Behind order old now

  turned_start : (row : List ℕ) (old : Far) → ((a : ℕ) → a < length row → get_or row a 0 < done) → HasTurned row old old
  turned_start row old h = record {
    order = [];
    each = subst (λ (xs : List ℕ). IsPermutation (range_with_len 0 (length row)) xs) (sym (left_first row h)) (IsPermutation-refl (range_with_len 0 (length row)));
    ascending = IsNonDecreasingBy-short f [] (omega arith);
    least = λ a d inside below some. absurd (omega (arith, some));
    turns = refl;
  }

  turned_next : (row : List ℕ) (old now new : Far) (a : ℕ) → a < length row → get_or row a 0 < done → get_or row a 0 ≡ f a → ((k : ℕ) → k < length row → get_or row a 0 ≤ get_or row k 0) → IsValueTurn rules (f a) (Behind a) now new → HasTurned row old now → HasTurned (set row a done) old new
  turned_next row old now new a inside below is low turn before =
      let order = before.order ++ a ∷ [] in
      let long : length order ≡ length before.order + 1 = length_push before.order a in
      record {
        order = order;
        each = subst (λ (n : ℕ). IsPermutation (range_with_len 0 n) (order ++ left_of (set row a done))) (sym (length-set row a done))
            (IsPermutation-pop_more (range_with_len 0 (length row)) before.order (left_of row) (left_of (set row a done)) a before.each (left_next row a inside below));
        ascending = IsNonDecreasingBy-push f before.order a before.ascending (λ d some. (let last = before.least a d inside below some in omega (arith, last, is)));
        least = λ b d h left some.
            (let last : get_or order (length order - 1) d ≡ a = get_or_push before.order a d (length order - 1) (omega (arith, long)) in
            let at : f (get_or order (length order - 1) d) ≡ f a = ap f last in
            elim (cases_eq b a) [
              | inl own ↦ absurd (let marked = ap (λ (n : ℕ). get_or (set row a done) n 0) own ∙ get_or-set_same row a done 0 inside in omega (arith, marked, left))
              | inr other ↦ (let same = get_or-set_other row a b done 0 other in let most = low b (omega (arith, h, length-set row a done)) in omega (arith, same, most, at, is))
            ]);
        turns = turns_more before.order a old now new before.turns turn;
      }

  turned_end : (row : List ℕ) (old now : Far) → ((a : ℕ) → a < length row → done ≤ get_or row a 0) → HasTurned row old now → VisitsEach rules f (length row) Behind old now
  turned_end row old now none before = record {
    order = before.order;
    each = subst (λ (xs : List ℕ). IsPermutation (range_with_len 0 (length row)) xs) (ap (λ (xs : List ℕ). before.order ++ xs) (left_none row none) ∙ append-nil before.order) before.each;
    ascending = before.ascending;
    turns = before.turns;
  }

  -- where the turns of all values that are left change nothing, all have them
  turned_all : (n : ℕ) (row : List ℕ) (old now : Far) → 1 ≤ length row → to_visit row ≤ n → ((a : ℕ) → a < length row → get_or row a 0 < done → (get_or row a 0 ≡ f a) × IsValueTurn rules (f a) (Behind a) now now) → HasTurned row old now → VisitsEach rules f (length row) Behind old now
  turned_all zero row old now some few left before =
      turned_end row old now (λ a inside. elim (cases_lt (get_or row a 0) done) [
        | inl below ↦ absurd (let next = to_visit_next row a inside below in omega (arith, next, few))
        | inr le ↦ le
      ]) before
  turned_all (suc n) row old now some few left before =
      let first = least_upto (length row - 1) (λ k. get_or row k 0) in
      let a = first.0 in
      let inside : a < length row = omega (arith, some, first.1) in
      let low : (k : ℕ) → k < length row → get_or row a 0 ≤ get_or row k 0 = λ k h. first.2 k (omega (arith, h)) in
      elim (cases_lt (get_or row a 0) done) [
        | inl below ↦
            let here = left a inside below in
            let long = length-set row a done in
            subst (λ (k : ℕ). VisitsEach rules f k Behind old now) long
            (turned_all n (set row a done) old now (omega (arith, some, long)) (let next = to_visit_next row a inside below in omega (arith, next, few))
            (λ b h less. elim (cases_eq b a) [
              | inl own ↦ absurd (let marked = ap (λ (k : ℕ). get_or (set row a done) k 0) own ∙ get_or-set_same row a done 0 inside in omega (arith, marked, less))
              | inr other ↦ (let same = get_or-set_other row a b done 0 other in let there = left b (omega (arith, h, long)) (omega (arith, same, less)) in (same ∙ there.0, there.1))
            ])
            (turned_next row old now now a inside below here.0 low here.1 before))
        | inr le ↦ turned_end row old now (λ k h. (let least = low k h in omega (arith, least, le))) before
      ]

-- turns by the same estimates
turns_same : (rules : Rules) (f g : ℕ → ℕ) (Behind Under : ℕ → Far → Far → Type 0) → ((a : ℕ) → f a ≡ g a) → ((a : ℕ) (old new : Far) → Behind a old new → Under a old new) → (order : List ℕ) (old new : Far) → AreValueTurns rules f Behind order old new → AreValueTurns rules g Under order old new
turns_same rules f g Behind Under same under [] old new turns = turns
turns_same rules f g Behind Under same under (a ∷ later) old new turns =
    let mid : Far = turns.0 in
    let turn : IsValueTurn rules (g a) (Under a) old mid = elim turns.1 [
      | inl node ↦ inl (subst (λ (n : ℕ). IsNode rules n old) (same a) node.0, under a (far old.best (old.nodes + 1) old.least old.left_open) mid node.1)
      | inr none ↦ inr (subst (λ (n : ℕ). PassesOver rules n old mid ⊎ LeavesOpen rules n old mid) (same a) none)
    ] in
    (mid, turn, turns_same rules f g Behind Under same under later mid new turns.2)

-- two that have come so far are one
pub far_same : (best best_too : Option ℕ) (nodes nodes_too least least_too : ℕ) (left left_too : Bool) → best ≡ best_too → nodes ≡ nodes_too → least ≡ least_too → left ≡ left_too → far best nodes least left ≡ far best_too nodes_too least_too left_too
far_same best best_too nodes nodes_too least least_too left left_too b n l o = rw (b, n, l, o) refl

-- the values of a row at this depth that are marked have had their turns
abbrev pub IsTurned : List ℕ → List Bucket → Rules → ℕ → (ℕ → ℕ) → List ℕ → Progress → Progress → Type 0
IsTurned sizes buckets rules depth value row old now =
    HasTurned rules (λ a. estimate (depth + 1) buckets (with_own depth a value)) (λ a before after. VisitsFrom (drop (depth + 1) sizes) buckets rules (depth + 1) (with_own depth a value) before after) row (far_of old) (far_of now)

module _ (sizes : List ℕ) (buckets : List Bucket) (rules : Rules) (grounds : AreGrounds sizes rules.scale buckets) where
  -- what is visited depends on the values of earlier variables alone
  pub visits_agree : (left : List ℕ) (p : ℕ) (g h : ℕ → ℕ) (old new : Far) → p + length left ≡ length sizes → AgreeBelow p g h → VisitsFrom left buckets rules p h old new → VisitsFrom left buckets rules p g old new
  visits_agree [] p g h old new all agree visits =
      let same = estimate_agrees sizes rules.scale buckets grounds (length sizes) g h (omega arith) (λ v lt. agree v (omega (arith, lt, all))) in
      let at_g = estimate_all sizes rules.scale buckets grounds g in
      let at_h = estimate_all sizes rules.scale buckets grounds h in
      (visits.0, sym at_g ∙ same ∙ at_h ∙ visits.1, visits.2)
  visits_agree (s ∷ ss) p g h old new all agree visits =
      let own : (a : ℕ) → AgreeBelow (p + 1) (with_own p a g) (with_own p a h) = λ a. own_agrees p a g (with_own p a h) (agree_more p g h (with_own p a h) agree (own_before p a h)) (own_is p a h) in
      let same : (a : ℕ) → estimate (p + 1) buckets (with_own p a h) ≡ estimate (p + 1) buckets (with_own p a g) = λ a. sym (estimate_agrees sizes rules.scale buckets grounds (p + 1) (with_own p a g) (with_own p a h) (omega (arith, all)) (own a)) in
      record {
        order = visits.order;
        each = visits.each;
        ascending = λ i j d le lt. (let rise = visits.ascending i j d le lt in omega (arith, same (get_or visits.order i d), same (get_or visits.order j d), rise));
        turns = turns_same rules (λ a. estimate (p + 1) buckets (with_own p a h)) (λ a. estimate (p + 1) buckets (with_own p a g))
            (λ a before after. VisitsFrom ss buckets rules (p + 1) (with_own p a h) before after) (λ a before after. VisitsFrom ss buckets rules (p + 1) (with_own p a g) before after)
            same (λ a before after below. visits_agree ss (p + 1) (with_own p a g) (with_own p a h) before after (omega (arith, all)) (own a) below) visits.order old new visits.turns;
      }

  -- behind all variables the assignment becomes the best
  pub visits_taken : (f : ℕ) (value : ℕ → ℕ) (old new : Progress) → AreValues sizes value → f ≡ estimate (length sizes) buckets value → new.best ≡ Some (f / rules.scale) → new.nodes ≡ old.nodes → new.lower ≡ min old.lower f → new.spent ≡ old.spent → VisitsFrom [] buckets rules (length sizes) value (far_of old) (far_of new)
  visits_taken f value old new all is best nodes lower spent =
      let whole = grounds.whole value all in
      let cost : f ≡ rules.scale * whole.0 = is ∙ estimate_all sizes rules.scale buckets grounds value ∙ whole.1 in
      let known : new.best ≡ Some whole.0 = best ∙ ap (λ (n : ℕ). Some n) (cost_back rules.scale whole.0 f grounds.scaled cost) in
      let least : new.lower ≡ min old.lower (rules.scale * whole.0) = lower ∙ ap (λ (n : ℕ). min old.lower n) cost in
      (whole.0, whole.1, far_same new.best (Some whole.0) new.nodes old.nodes new.lower (min old.lower (rules.scale * whole.0)) new.spent old.spent known nodes least spent)

  -- a row of estimates, before the first value has its turn
  pub visits_start : (depth : ℕ) (value : ℕ → ℕ) (row : List ℕ) (old : Progress) → depth < length sizes → AreValues sizes value → length row ≡ get_or sizes depth 0 → ((a : ℕ) → a < length row → get_or row a 0 ≡ estimate (depth + 1) buckets (with_own depth a value)) → IsTurned sizes buckets rules depth value row old old
  visits_start depth value row old lt all long each =
      turned_start rules (λ a. estimate (depth + 1) buckets (with_own depth a value)) (λ a before after. VisitsFrom (drop (depth + 1) sizes) buckets rules (depth + 1) (with_own depth a value) before after) row (far_of old)
      (λ a h. (let most = estimate_within sizes rules.scale buckets grounds (depth + 1) (with_own depth a value) (omega (arith, lt)) (own_values sizes rules.scale buckets grounds depth a value all (omega (arith, h, long))) in
      omega (arith, each a h, most)))

  -- the least value that is left is a node, and what is below it was searched
  pub visits_next : (depth f : ℕ) (value behind : ℕ → ℕ) (row : List ℕ) (old now mid new : Progress) (a m : ℕ) → depth < length sizes → AreValues sizes value → IsRoom rules now.best now.room → a < length row → m ≡ get_or row a 0 → ((k : ℕ) → k < length row → m ≤ get_or row k 0)
      → IsVisiting sizes buckets rules depth f value row old now → IsOpened rules.budget m now mid true → AgreeBelow depth value behind → behind depth ≡ a
      → VisitsFrom (drop (depth + 1) sizes) buckets rules (depth + 1) behind (far_of mid) (far_of new) → IsTurned sizes buckets rules depth value row old now → IsTurned sizes buckets rules depth value (set row a done) old new
  visits_next depth f value behind row old now mid new a m lt all room inside at least visiting opened agree own visits turned =
      let below : get_or row a 0 < done = omega (arith, at, opened.0, room.counted) in
      let entry = visiting.entries a inside below in
      let within = estimate_within sizes rules.scale buckets grounds (depth + 1) (with_own depth a value) (omega (arith, lt)) (own_values sizes rules.scale buckets grounds depth a value all (omega (arith, inside, visiting.long))) in
      let node : IsNode rules (estimate (depth + 1) buckets (with_own depth a value)) (far_of now) = (room.below (estimate (depth + 1) buckets (with_own depth a value)) within (omega (arith, entry, at, opened.0)), opened.1) in
      let under = visits_agree (drop (depth + 1) sizes) (depth + 1) (with_own depth a value) behind (far_of mid) (far_of new) (let long = length-drop (depth + 1) sizes in omega (arith, lt, long)) (own_agrees depth a value behind agree own) visits in
      let counted = subst (λ (q : Progress). VisitsFrom (drop (depth + 1) sizes) buckets rules (depth + 1) (with_own depth a value) (far_of q) (far_of new)) opened.2 under in
      turned_next rules (λ a. estimate (depth + 1) buckets (with_own depth a value)) (λ a before after. VisitsFrom (drop (depth + 1) sizes) buckets rules (depth + 1) (with_own depth a value) before after) row
      (far_of old) (far_of now) (far_of new) a inside below entry (λ k h. (let low = least k h in omega (arith, low, at))) (inl (node, counted)) turned

  -- what stops the visits is passed over or left open
  stopped_turn : (f : ℕ) (old new : Progress) → f ≤ amount_limit → IsRoom rules old.best old.room → IsOpened rules.budget f old new false → PassesOver rules f (far_of old) (far_of new) ⊎ LeavesOpen rules f (far_of old) (far_of new)
  stopped_turn f old new within room stopped =
      let same : (spent : Bool) → stopped.0 ≡ spent → far_of new ≡ far old.best old.nodes (min old.lower f) spent = λ spent e.
      ap far_of stopped.1 ∙ ap (λ (b : Bool). far old.best old.nodes (min old.lower f) b) e in
      elim stopped.2 [
        | inl passed ↦ inl (room.above f within passed.0, same old.spent passed.1)
        | inr reached ↦ inr (room.below f within reached.0, reached.2, reached.3, same true reached.1)
      ]

  -- with it all later ones are passed over or left open, and change nothing
  stopped_later : (f g : ℕ) (old new : Progress) → g ≤ amount_limit → f ≤ g → IsRoom rules old.best old.room → IsOpened rules.budget f old new false → PassesOver rules g (far_of new) (far_of new) ⊎ LeavesOpen rules g (far_of new) (far_of new)
  stopped_later f g old new within more room stopped =
      let Later : Progress → Type 0 = λ q. PassesOver rules g (far_of q) (far_of q) ⊎ LeavesOpen rules g (far_of q) (far_of q) in
      let least : min old.lower f ≡ min (min old.lower f) g = omega (arith, more) in
      let same : (spent : Bool) → stopped.0 ≡ spent → far old.best old.nodes (min old.lower f) stopped.0 ≡ far old.best old.nodes (min (min old.lower f) g) spent = λ spent e.
      far_same old.best old.best old.nodes old.nodes (min old.lower f) (min (min old.lower f) g) stopped.0 spent refl refl least e in
      subst Later (sym stopped.1) (elim stopped.2 [
        | inl passed ↦ inl (room.above g within (omega (arith, passed.0, more)), same stopped.0 refl)
        | inr reached ↦ elim (cases_lt g old.room) [
          | inl below ↦ inr (room.below g within below, reached.2, reached.3, same true reached.1)
          | inr above ↦ inl (room.above g within above, same stopped.0 refl)
        ]
      ])

  -- the least value that is left is no node, so none is
  pub visits_end : (depth f : ℕ) (value : ℕ → ℕ) (row : List ℕ) (old now new : Progress) (a m : ℕ) → depth < length sizes → AreValues sizes value → IsRoom rules now.best now.room → a < length row → m ≡ get_or row a 0 → ((k : ℕ) → k < length row → m ≤ get_or row k 0)
      → IsVisiting sizes buckets rules depth f value row old now → IsOpened rules.budget m now new false → IsTurned sizes buckets rules depth value row old now → VisitsFrom (drop depth sizes) buckets rules depth value (far_of old) (far_of new)
  visits_end depth f value row old now new a m lt all room inside at least visiting stopped turned =
      let g : ℕ → ℕ = λ b. estimate (depth + 1) buckets (with_own depth b value) in
      let Under : ℕ → Far → Far → Type 0 = λ b before after. VisitsFrom (drop (depth + 1) sizes) buckets rules (depth + 1) (with_own depth b value) before after in
      let own : (b : ℕ) → b < length row → AreValues sizes (with_own depth b value) = λ b h. own_values sizes rules.scale buckets grounds depth b value all (omega (arith, h, visiting.long)) in
      let within : (b : ℕ) → b < length row → g b ≤ amount_limit = λ b h. estimate_within sizes rules.scale buckets grounds (depth + 1) (with_own depth b value) (omega (arith, lt)) (own b h) in
      let low : (k : ℕ) → k < length row → get_or row a 0 ≤ get_or row k 0 = λ k h. (let most = least k h in omega (arith, most, at)) in
      let each : VisitsEach rules g (length row) Under (far_of old) (far_of new) = elim (cases_lt (get_or row a 0) done) [
        | inl below ↦
            let entry = visiting.entries a inside below in
            let is : m ≡ g a = at ∙ entry in
            let here = subst (λ (n : ℕ). PassesOver rules n (far_of now) (far_of new) ⊎ LeavesOpen rules n (far_of now) (far_of new)) is (stopped_turn m now new (omega (arith, is, within a inside)) room stopped) in
            let long = length-set row a done in
            let later : (b : ℕ) → b < length (set row a done) → get_or (set row a done) b 0 < done → (get_or (set row a done) b 0 ≡ g b) × IsValueTurn rules (g b) (Under b) (far_of new) (far_of new) = λ b h less.
            elim (cases_eq b a) [
              | inl same ↦ absurd (let marked = ap (λ (k : ℕ). get_or (set row a done) k 0) same ∙ get_or-set_same row a done 0 inside in omega (arith, marked, less))
              | inr other ↦
                  let same = get_or-set_other row a b done 0 other in
                  let there : b < length row = omega (arith, h, long) in
                  let entry = visiting.entries b there (omega (arith, same, less)) in
                  (same ∙ entry, inr (stopped_later m (g b) now new (within b there) (omega (arith, least b there, entry)) room stopped))
            ] in
            subst (λ (n : ℕ). VisitsEach rules g n Under (far_of old) (far_of new)) long
            (turned_all rules g Under (to_visit (set row a done)) (set row a done) (far_of old) (far_of new) (omega (arith, inside, long)) (omega arith) later
            (turned_next rules g Under row (far_of old) (far_of now) (far_of new) a inside below entry low (inr here) turned))
        | inr marked ↦
            let some = own_is depth a value in
            let most = visiting.low (with_own depth a value) (own a inside) (own_before depth a value) in
            let capped = grounds.depths.capped (with_own depth a value) (own a inside) in
            let entry : get_or row (with_own depth a value depth) 0 ≡ get_or row a 0 = ap (λ (k : ℕ). get_or row k 0) some in
            let least_is : min now.lower m ≡ now.lower = omega (arith, most, capped, entry, marked, at) in
            let spent_is : stopped.0 ≡ now.spent = elim stopped.2 [
              | inl passed ↦ passed.1
              | inr reached ↦ absurd (omega (arith, reached.0, room.counted, at, marked))
            ] in
            let still : far_of new ≡ far_of now = ap far_of stopped.1 ∙ far_same now.best now.best now.nodes now.nodes (min now.lower m) now.lower stopped.0 now.spent refl refl least_is spent_is in
            subst (λ (s : Far). VisitsEach rules g (length row) Under (far_of old) s) (sym still)
            (turned_end rules g Under row (far_of old) (far_of now) (λ k h. (let most = low k h in omega (arith, most, marked))) turned)
      ] in
      subst (λ (ss : List ℕ). VisitsFrom ss buckets rules depth value (far_of old) (far_of new)) (sym (drop_more sizes depth 0 lt))
      (subst (λ (n : ℕ). VisitsEach rules g n Under (far_of old) (far_of new)) visiting.long each)

  -- a descent from the first variable on
  pub visited_all : (value : ℕ → ℕ) (old new : Progress) → VisitsFrom sizes buckets rules 0 value (far_of old) (far_of new) → HasVisited sizes buckets rules (far_of old) (far_of new)
  visited_all value old new visits = visits_agree sizes 0 (λ v. 0) value (far_of old) (far_of new) (omega arith) (λ v lt. absurd (omega (arith, lt))) visits
