-- Agents whose flag says that they take nothing, and the next agent whose flag says that it may.
use Rattle.std.proofs.Common.{◌≡◌, ℕ, zero, suc, ◌<◌, ◌≤◌, Bool, true, false, List, [], ◌∷◌, length, slice_index_or, Option, Some, None, IfSome, MatchOption, refl, sym, subst, ◌∙◌, inl, inr, arith}
use Rattle.std.specs.List.{slice_get, slice_set}
use Rattle.std.proofs.lemmas.Bool.{cases_eq}
use Rattle.std.proofs.lemmas.Option.{same_Some, slice_get-get_or}
use Rattle.std.proofs.lemmas.List.{length-set}
use Rattle.memchr.specs.Find.{IsFirst, Nowhere}
use Rattle.protocol_steps.proofs.EventLaws.{get_other}
use Rattle.letter_queues.specs.Flags.{IsSet}
use Rattle.delivery_core.specs.State.{SeatView}
use Rattle.delivery_core.specs.Takes.{seat_takes, TakeNothing, KnowsBusy}

-- a flag that is not set
clear : (flags : List Bool) (k : ℕ) → k < length flags → ¬ IsSet flags k → slice_get flags k ≡ Some false
clear [] k lt unset = absurd (omega (arith, lt))
clear (true ∷ flags) zero lt unset = absurd (unset refl)
clear (false ∷ flags) zero lt unset = refl
clear (b ∷ flags) (suc k) lt unset = clear flags k (omega (arith, lt)) unset

none_up_to : (busy : List Bool) (seats : List SeatView) (from to : ℕ) → KnowsBusy busy seats → to ≤ length busy → Nowhere (IsSet busy) from to → TakeNothing seats from to
none_up_to busy seats from to knows le none = λ k d low high.
    let size = knows.0 in
    knows.1 k (slice_index_or seats k d) (clear busy k (omega (arith, le, high)) (none k low high)) (slice_get-get_or seats k d (omega (arith, le, high, size)))

-- the agent of the first flag that is set, and those that are passed over
pub busy_within : (busy : List Bool) (seats : List SeatView) (from : ℕ) (r : Option ℕ) → KnowsBusy busy seats → IsFirst (IsSet busy) from (length busy) r
    → IfSome r (λ me. (from ≤ me) × (me < length seats))
busy_within busy seats from None knows first = tt
busy_within busy seats from (Some me) knows first = let size = knows.0 in (first.0.low, omega (arith, size, first.0.high))

pub busy_passed : (busy : List Bool) (seats : List SeatView) (from : ℕ) (r : Option ℕ) → KnowsBusy busy seats → IsFirst (IsSet busy) from (length busy) r
    → MatchOption r (TakeNothing seats from (length seats)) (λ me. TakeNothing seats from me)
busy_passed busy seats from None knows first = subst (λ (n : ℕ). TakeNothing seats from n) knows.0 (none_up_to busy seats from (length busy) knows (omega arith) first)
busy_passed busy seats from (Some me) knows first = none_up_to busy seats from me knows (omega (arith, first.0.high)) first.0.before

-- the flag of an agent that takes nothing is cleared
pub one_calm : (busy : List Bool) (seats : List SeatView) (k : ℕ) (x : SeatView) → KnowsBusy busy seats → slice_get seats k ≡ Some x → seat_takes x ≡ [] → KnowsBusy (slice_set busy k false) seats
one_calm busy seats k x knows there none = (
  length-set busy k false ∙ knows.0,
  λ n y h here. elim (cases_eq k n) [
    | inl same ↦
        let is : x ≡ y = same_Some x y (sym there ∙ subst (λ (m : ℕ). slice_get seats m ≡ Some y) (sym same) here) in
        subst (λ (z : SeatView). seat_takes z ≡ []) is none
    | inr other ↦ knows.1 n y (sym (get_other busy k n false other) ∙ h) here
  ],
)

-- a list of no items
pub no_items : {A : Type 0} (xs : List A) → length xs ≡ 0 → xs ≡ []
no_items [] none = refl
no_items (x ∷ xs) none = absurd (omega (arith, none))
