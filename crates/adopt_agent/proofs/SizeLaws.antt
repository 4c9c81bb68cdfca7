-- Sizes beside the variables of a path, looked up from the end.
use Rattle.std.proofs.Common.{◌≡◌, ℕ, zero, suc, ◌+◌, ◌<◌, false, eqb, List, [], ◌∷◌, length, drop, get_or, Some, None, sym, ap₂, ◌∙◌, inl, inr, arith}
use Rattle.std.specs.List.{zip}
use Rattle.std.proofs.lemmas.Bool.{cases_Bool, cond-true, cond-false, eqb-true, eq-eqb, or_parts, false≢true}
use Rattle.std.proofs.lemmas.List.{drop_more}
use Rattle.std.proofs.lemmas.List.Folds.{list_any_at}
use Rattle.dcop_base.specs.Table.{has, has_repeat}
use Rattle.adopt_context.specs.Context.{value_in}

-- one more variable from the end that is not the one
pub size_back : (vars sizes : List ℕ) (k var d : ℕ) → k < length vars → length sizes ≡ length vars → value_in (zip (drop (k + 1) vars) (drop (k + 1) sizes)) var ≡ None → eqb (get_or vars k d) var ≡ false → value_in (zip (drop k vars) (drop k sizes)) var ≡ None
size_back vars sizes k var d lt same none other =
    ap₂ (λ (xs : List ℕ) (ys : List ℕ). value_in (zip xs ys) var) (drop_more vars k d lt) (drop_more sizes k 0 (omega (arith, lt, same)))
    ∙ cond-false (eqb (get_or vars k d) var) (Some (get_or sizes k 0)) (value_in (zip (drop (k + 1) vars) (drop (k + 1) sizes)) var) other ∙ none

-- the size beside a variable of distinct ones
pub size_at : (vars sizes : List ℕ) (k var d : ℕ) → has_repeat vars ≡ false → k < length vars → length sizes ≡ length vars → get_or vars k d ≡ var → value_in (zip vars sizes) var ≡ Some (get_or sizes k 0)
size_at [] sizes k var d apart lt same e = absurd (omega (arith, lt))
size_at (v ∷ vs) [] k var d apart lt same e = absurd (omega (arith, same))
size_at (v ∷ vs) (s ∷ ss) zero var d apart lt same e = cond-true (eqb v var) (Some s) (value_in (zip vs ss) var) (eq-eqb v var e)
size_at (v ∷ vs) (s ∷ ss) (suc k) var d apart lt same e =
    let both = or_parts (has vs v) (has_repeat vs) apart in
    let inside : k < length vs = omega (arith, lt) in
    let other : eqb v var ≡ false = elim (cases_Bool (eqb v var)) [
      | inl here ↦ absurd (false≢true (sym both.0 ∙ list_any_at (λ y. eqb y v) vs k d inside (eq-eqb (get_or vs k d) v (e ∙ sym (eqb-true v var here)))))
      | inr differs ↦ differs
    ] in
    cond-false (eqb v var) (Some s) (value_in (zip vs ss) var) other ∙ size_at vs ss k var d both.1 inside (omega (arith, same)) e
