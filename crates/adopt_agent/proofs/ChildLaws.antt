-- How many children an agent may have.
use Rattle.std.proofs.Common.{◌≡◌, ℕ, zero, suc, ◌+◌, ◌<◌, ◌≤◌, true, eqb, List, [], ◌∷◌, length, get_or, sym, subst, ◌∙◌, arith}
use Rattle.std.specs.List.{All}
use Rattle.std.specs.List.Sorted.{IsStrictlyIncreasing}
use Rattle.std.proofs.lemmas.Bool.{eqb-true}
use Rattle.std.proofs.lemmas.List.Folds.{Any-from_list_any}
use Rattle.dcop_base.specs.Table.{has}
use Rattle.dcop_base.specs.Limits.{variable_limit}
use Rattle.dcop_base.specs.declared.knowledge.Private.{Private}
use Rattle.pseudotree.specs.declared.agent.Place.{Place}
use Rattle.protocol_steps.specs.Knowledge.{IsKnowledge}
use Rattle.protocol_steps.specs.Placing.{IsPlaceFor}

-- each of rising numbers is at least its place
rises : (xs : List ℕ) → IsStrictlyIncreasing xs → (k : ℕ) → k < length xs → k ≤ get_or xs k 0
rises xs up zero lt = omega arith
rises xs up (suc k) lt =
    let before = rises xs up k (omega (arith, lt)) in
    let plus : k + 1 ≡ suc k = omega arith in
    let step = subst (λ (n : ℕ). get_or xs k 0 < get_or xs n 0) plus (up k (omega (arith, lt))) in
    omega (arith, before, step)

-- rising numbers below a limit are no more than it
few : (xs : List ℕ) (n : ℕ) → IsStrictlyIncreasing xs → All (λ u. u < n) xs → length xs ≤ n
few [] n up below = omega arith
few (x ∷ xs) n up below =
    let last = rises (x ∷ xs) up (length xs) (omega arith) in
    let lt = below (length xs) 0 (omega arith) in
    omega (arith, last, lt)

-- what holds of all elements holds of one that stands in the list
member : (P : ℕ → Type 0) (xs : List ℕ) → All P xs → (u : ℕ) → has xs u ≡ true → P u
member P xs all u h =
    let some = Any-from_list_any (λ y. eqb y u) xs h in
    subst P (some.3 ∙ eqb-true some.1 u some.4) (all some.0 some.1 some.2)

-- an agent has no more children than a problem has variables
pub children_few : (own : Private) (place : Place) (children : List ℕ) → IsKnowledge own → IsPlaceFor own place → children ≡ place.children → length children ≤ variable_limit
children_few own place children known placed is =
    let near : (u : ℕ) → has place.lower u ≡ true → has own.neighbours u ≡ true = member (λ u. has own.neighbours u ≡ true) place.lower placed.lower.1 in
    let within : (u : ℕ) → has own.neighbours u ≡ true → u < variable_limit = member (λ u. u < variable_limit) own.neighbours known.below in
    let below : All (λ u. u < variable_limit) place.children = λ k d lt. let u : ℕ = get_or place.children k d in within u (near u (placed.children.1 k d lt)) in
    subst (λ (us : List ℕ). length us ≤ variable_limit) (sym is) (few place.children variable_limit placed.children.0 below)
