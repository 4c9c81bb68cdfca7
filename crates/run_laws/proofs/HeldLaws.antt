-- The threshold of an ADOPT agent between its bounds, and what backTrack makes of it.
use Rattle.std.proofs.Common.{◌≡◌, ℕ, ◌+◌, ◌-◌, ◌≤◌, true, false, cond, nat_lt, if◌then◌else◌, max, List, [], Option, Some, None, refl, sym, ap, subst, ◌∙◌, arith}
use Rattle.std.proofs.lemmas.Bool.{cond_both, cond-true, ltb-false, true≢false, eq-eqb}
use Rattle.dcop_base.specs.Limits.{amount_limit}
use Rattle.adopt_context.specs.Context.{is_value, names_all}
use Rattle.adopt_context.specs.Bounds.{Entry, cap, capped, row_at, entry_at, plus_bound, lower_sum, upper_sum, lowest, is_below}
use Rattle.adopt_context.specs.Allot.{lower_to, share_sum, allot}
use Rattle.protocol_steps.specs.Adopt.{AdoptView, is_root, higher}
use Rattle.protocol_steps.specs.AdoptBounds.{delta, whole_delta, lower_of, upper_of, best_lower, best_upper, lower_bound, upper_bound, restore}
use Rattle.protocol_steps.specs.AdoptStep.{choose, to_allot, allotted, may_end, settle}
use Rattle.dcop_optimum.specs.Enclosing.{IsAtMost}
use Rattle.run_laws.proofs.BoundLaws.{at_most_below, lowered_over, lowered_at_most, plus_over, capped_over, known_over, lowest_within, lowest_least, lowest_over}
use Rattle.adopt_context.proofs.KnownLaws.{value_is}
use Rattle.adopt_context.proofs.RowLaws.{set_each, set_same}
use Rattle.run_laws.proofs.RowLaws.{InRange, shares_over, allot_lower, allot_upper, allot_none, allot_sum}

-- each share of an agent lies between the bounds of its entry
abbrev pub AreInRange : AdoptView → Type 0
AreInRange v = (d k : ℕ) → InRange (entry_at v.rows d k)

-- the threshold lies between the bounds, and is the root's where the agent is the root
pub record IsHeld (v : AdoptView) : Type 0 where
  pub low : lower_bound v ≤ v.threshold
  pub high : IsAtMost v.threshold (upper_bound v)
  pub at_root : is_root v ≡ true → v.threshold ≡ lower_to (cap (lower_bound v + v.error)) (upper_bound v)

-- the threshold pays for the value, and is its upper bound where it is the least
pub record IsPaid (v : AdoptView) : Type 0 where
  pub paid : lower_of v v.value ≤ v.threshold
  pub settled : upper_bound v ≡ Some v.threshold → upper_of v v.value ≡ Some v.threshold

-- where no sum is cut, the threshold is the cost of the value and what is allotted
abbrev pub IsAllotted : AdoptView → Type 0
IsAllotted v = names_all v.known (higher v) ≡ true → delta v v.value + lower_sum (row_at v.rows v.value) ≤ amount_limit
    → v.threshold ≡ delta v v.value + share_sum (row_at v.rows v.value)

-- what backTrack leaves
pub record IsClosed (v : AdoptView) : Type 0 where
  pub held : IsHeld v
  pub paid : IsPaid v
  pub whole : IsAllotted v

cap_low : (x : ℕ) → cap x ≤ amount_limit
cap_low x = omega arith

pub lower_capped : (v : AdoptView) → lower_bound v ≤ amount_limit
lower_capped v = cap_low (delta v (best_lower v) + lower_sum (row_at v.rows (best_lower v)))

-- LB(d) is at most UB(d), and LB at most UB
pub lower_under : (v : AdoptView) → AreInRange v → (d : ℕ) → IsAtMost (lower_of v d) (upper_of v d)
lower_under v range d =
    let row : List Entry = row_at v.rows d in
    let sums = shares_over row (range d) in
    capped_over (delta v d + lower_sum row) (plus_bound (whole_delta v d) (upper_sum row))
    (plus_over (delta v d) (lower_sum row) (whole_delta v d) (upper_sum row) (known_over (names_all v.known (higher v)) (delta v d)) (at_most_below (lower_sum row) (share_sum row) (upper_sum row) sums.0 sums.1))

pub bounds_ordered : (v : AdoptView) → AreInRange v → IsAtMost (lower_bound v) (upper_bound v)
bounds_ordered v range =
    at_most_below (lower_bound v) (lower_of v (best_upper v)) (upper_of v (best_upper v))
    (lowest_least (lower_of v) (v.own.size - 1) (best_upper v) (lowest_within is_below (upper_of v) (v.own.size - 1)))
    (lower_under v range (best_upper v))

pub restored_held : (v : AdoptView) → AreInRange v → IsHeld (restore v)
restored_held v range =
    let lower : ℕ = lower_bound v in
    let raised : ℕ = cond (is_root v) (cap (lower + v.error)) (max v.threshold lower) in
    record {
      low =
          lowered_over raised lower (upper_bound v)
          (cond_both (is_root v) (cap (lower + v.error)) (max v.threshold lower) (λ n. lower ≤ n) (λ _. within lower v.error (lower_capped v)) (λ _. over v.threshold lower))
          (bounds_ordered v range);
      high = lowered_at_most raised (upper_bound v);
      at_root = λ h. ap (λ (n : ℕ). lower_to n (upper_bound v)) (cond-true (is_root v) (cap (lower + v.error)) (max v.threshold lower) h);
    }
  where
    within : (l e : ℕ) → l ≤ amount_limit → l ≤ cap (l + e)
    within l e h = omega (arith, h)

    over : (t l : ℕ) → l ≤ max t l
    over t l = omega arith

-- the value is chosen so that the threshold pays for it
pub choose_held : (v : AdoptView) → AreInRange v → IsHeld v → IsHeld (choose v) × IsPaid (choose v)
choose_held v range a =
    cond_both (is_value (upper_bound v) v.threshold) (record v { value = best_upper v }) (if nat_lt v.threshold (lower_of v v.value) then record v { value = best_lower v } else v) (λ w. IsHeld w × IsPaid w)
    (λ e.
    let at : upper_bound v ≡ Some v.threshold = value_is (upper_bound v) v.threshold e in (
      record { low = a.low; high = a.high; at_root = a.at_root },
      record {
        paid = subst (λ (u : Option ℕ). IsAtMost (lower_of v (best_upper v)) u) at (lower_under v range (best_upper v));
        settled = λ h. h;
      },
    ))
    (λ e. cond_both (nat_lt v.threshold (lower_of v v.value)) (record v { value = best_lower v }) v (λ w. IsHeld w × IsPaid w)
    (λ less. (record { low = a.low; high = a.high; at_root = a.at_root }, record { paid = a.low; settled = λ h. absurd (apart (upper_bound v) v.threshold e h) }))
    (λ not_less. (a, record { paid = ltb-false v.threshold (lower_of v v.value) not_less; settled = λ h. absurd (apart (upper_bound v) v.threshold e h) })))
  where
    apart : (o : Option ℕ) (t : ℕ) → is_value o t ≡ false → o ≡ Some t → ⊥
    apart o t e h = true≢false (sym (ap (λ (x : Option ℕ). is_value x t) h ∙ eq-eqb t t refl) ∙ e)

-- what a lower bound that is not cut leaves of a threshold
paid_for : (t own low : ℕ) (u : Option ℕ) → cap (own + low) ≤ t → own + low ≤ amount_limit → IsAtMost t (capped (plus_bound (Some own) u))
    → (lower_to (t - own) (capped u) ≡ t - own) × (low ≤ t - own) × IsAtMost (t - own) u × (own ≤ t)
paid_for t own low None a b c = (refl, omega (arith, a, b), tt, omega (arith, a, b))
paid_for t own low (Some u) a b c = (omega (arith, a, b, c), omega (arith, a, b), omega (arith, a, b, c), omega (arith, a, b))

module _ (v : AdoptView) where
  abbrev row : List Entry
  row = row_at v.rows v.value

  same_rows : {X : Type 0} (f : List Entry → X) → ((goal : ℕ) (es : List Entry) → f (allot goal es) ≡ f es) → (d : ℕ) → f (row_at (allotted v).rows d) ≡ f (row_at v.rows d)
  same_rows f same d = set_each [] (λ i es. f es ≡ f (row_at v.rows i)) v.rows v.value (allot (to_allot v) row) (same (to_allot v) row) (λ i. refl) d

  pub same_lower : lower_of (allotted v) ≡ lower_of v
  same_lower = λ i d. cap (delta v d + same_rows lower_sum allot_lower d i)

  pub same_upper : upper_of (allotted v) ≡ upper_of v
  same_upper = λ i d. capped (plus_bound (whole_delta v d) (same_rows upper_sum allot_upper d i))

  allotted_row : row_at (allotted v).rows v.value ≡ allot (to_allot v) row
  allotted_row = set_same (allot (to_allot v)) (allot_none (to_allot v)) v.rows v.value

  allotted_whole : v.value ≤ v.own.size - 1 → AreInRange v → IsHeld v → IsPaid v → IsAllotted (allotted v)
  allotted_whole within range held paid known fit =
      let own : ℕ = delta v v.value in
      let fits : own + lower_sum row ≤ amount_limit = subst (λ (n : ℕ). own + n ≤ amount_limit) (same_rows lower_sum allot_lower v.value) fit in
      let high : IsAtMost v.threshold (upper_of v v.value) = lowest_over v.threshold (upper_of v) (v.own.size - 1) v.value within held.high in
      let high' : IsAtMost v.threshold (capped (plus_bound (Some own) (upper_sum row))) =
      subst (λ (o : Option ℕ). IsAtMost v.threshold (capped (plus_bound o (upper_sum row)))) (cond-true (names_all v.known (higher v)) (Some own) None known) high in
      let it = paid_for v.threshold own (lower_sum row) (upper_sum row) paid.paid fits high' in
      let over = it.3 in
      let sum : share_sum (allot (v.threshold - own) row) ≡ v.threshold - own = allot_sum (v.threshold - own) row (range v.value) it.1 it.2 in
      let shares : share_sum (row_at (allotted v).rows v.value) ≡ v.threshold - own = ap share_sum allotted_row ∙ ap (λ (n : ℕ). share_sum (allot n row)) it.0 ∙ sum in
      omega (arith, shares, over)

  pub allotted_closed : v.value ≤ v.own.size - 1 → AreInRange v → IsHeld v → IsPaid v → IsClosed (allotted v)
  allotted_closed within range held paid =
      let n : ℕ = v.own.size - 1 in
      let lower : lower_bound (allotted v) ≡ lower_bound v = ap (λ (f : ℕ → ℕ). f (lowest nat_lt f n)) same_lower in
      let upper : upper_bound (allotted v) ≡ upper_bound v = ap (λ (f : ℕ → Option ℕ). f (lowest is_below f n)) same_upper in
      let here : lower_of (allotted v) v.value ≡ lower_of v v.value = ap (λ (f : ℕ → ℕ). f v.value) same_lower in
      let above : upper_of (allotted v) v.value ≡ upper_of v v.value = ap (λ (f : ℕ → Option ℕ). f v.value) same_upper in
      record {
        held = record {
          low = subst (λ (x : ℕ). x ≤ v.threshold) (sym lower) held.low;
          high = subst (λ (x : Option ℕ). IsAtMost v.threshold x) (sym upper) held.high;
          at_root = λ h. held.at_root h ∙ ap (λ (x : ℕ). lower_to (cap (x + v.error)) (upper_bound v)) (sym lower) ∙ ap (λ (x : Option ℕ). lower_to (cap (lower_bound (allotted v) + v.error)) x) (sym upper);
        };
        paid = record {
          paid = subst (λ (x : ℕ). x ≤ v.threshold) (sym here) paid.paid;
          settled = λ h. above ∙ paid.settled (sym upper ∙ h);
        };
        whole = allotted_whole within range held paid;
      }

  pub settle_closed : IsClosed v → IsClosed (settle v)
  settle_closed a =
      cond_both (may_end v) (record v { phase = record v.phase { ended = true } }) v IsClosed
      (λ _. record {
        held = record { low = a.held.low; high = a.held.high; at_root = a.held.at_root };
        paid = record { paid = a.paid.paid; settled = a.paid.settled };
        whole = a.whole;
      })
      (λ _. a)
