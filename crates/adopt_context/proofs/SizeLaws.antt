-- Sizes beside variables.
use Rattle.std.proofs.Common.{◌≡◌, ℕ, ◌+◌, ◌<◌, cond, eqb, List, length, drop, get_or, Some, ap₂, arith}
use Rattle.std.specs.List.{zip}
use Rattle.std.proofs.lemmas.List.{drop_more}
use Rattle.adopt_context.specs.Context.{value_in}

-- what is looked up among the pairs that are left, one pair on
pub size_next : (vars sizes : List ℕ) (k var : ℕ) → k < length vars → length sizes ≡ length vars → value_in (zip (drop k vars) (drop k sizes)) var ≡ cond (eqb (get_or vars k 0) var) (Some (get_or sizes k 0)) (value_in (zip (drop (k + 1) vars) (drop (k + 1) sizes)) var)
size_next vars sizes k var lt same =
    ap₂ (λ (xs : List ℕ) (ys : List ℕ). value_in (zip xs ys) var) (drop_more vars k 0 lt) (drop_more sizes k 0 (omega (arith, lt, same)))
