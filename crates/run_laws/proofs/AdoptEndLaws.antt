-- What an ADOPT agent that ends hands to its children.
use Rattle.std.proofs.Common.{◌≡◌, ℕ, zero, suc, ◌+◌, ◌≤◌, ◌<◌, true, List, [], ◌∷◌, length, get_or, Option, Some, None, sym, ap, subst, ◌∙◌, arith}
use Rattle.std.proofs.lemmas.Bool.{cond-true}
use Rattle.std.proofs.lemmas.Option.{same_Some}
use Rattle.std.proofs.lemmas.List.Sums.{sum_by-cons}
use Rattle.dcop_base.specs.Limits.{amount_limit}
use Rattle.adopt_context.specs.Context.{names_all}
use Rattle.adopt_context.specs.Bounds.{Entry, blank, cap, capped, row_at, plus_bound, lower_sum, upper_sum}
use Rattle.adopt_context.specs.Allot.{share_sum}
use Rattle.protocol_steps.specs.Adopt.{AdoptView, higher}
use Rattle.protocol_steps.specs.AdoptBounds.{delta, upper_bound, upper_of}
use Rattle.dcop_optimum.specs.Enclosing.{IsAtMost}
use Rattle.run_laws.proofs.RowLaws.{InRange, shares_over}
use Rattle.run_laws.proofs.EncloseLaws.{IsSum, plus_parts}
use Rattle.run_laws.proofs.HeldLaws.{IsClosed}

-- where the shares of a row are together what its upper bounds are, each share is its upper bound
pub row_equal : (row : List Entry) → ((k : ℕ) → InRange (get_or row k blank)) → (total : ℕ) → upper_sum row ≡ Some total → total ≤ share_sum row
    → (k : ℕ) → k < length row → (get_or row k blank).upper ≡ Some ((get_or row k blank).share)
row_equal [] h total sum le k lt = absurd (omega (arith, lt))
row_equal (e ∷ es) h total sum le k lt =
    let parts : IsSum e.upper (upper_sum es) total = plus_parts e.upper (upper_sum es) total sum in
    let here : e.share ≤ parts.one = subst (λ (u : Option ℕ). IsAtMost e.share u) parts.one_is (h 0).1 in
    let over : share_sum es ≤ parts.other = subst (λ (u : Option ℕ). IsAtMost (share_sum es) u) parts.other_is (shares_over es (λ j. h (suc j))).1 in
    let shares : share_sum (e ∷ es) ≡ e.share + share_sum es = sum_by-cons (λ (x : Entry). x.share) e es in
    let whole = parts.total_is in
    let one : parts.one ≡ e.share = omega (arith, here, over, shares, whole, le) in
    let rest : parts.other ≤ share_sum es = omega (arith, here, over, shares, whole, le) in
    at k lt (parts.one_is ∙ ap (λ (n : ℕ). Some n) one) (row_equal es (λ j. h (suc j)) parts.other parts.other_is rest)
  where
    at : (k : ℕ) → k < length (e ∷ es) → e.upper ≡ Some e.share → ((j : ℕ) → j < length es → (get_or es j blank).upper ≡ Some ((get_or es j blank).share))
        → (get_or (e ∷ es) k blank).upper ≡ Some ((get_or (e ∷ es) k blank).share)
    at zero lt first later = first
    at (suc k) lt first later = later k (omega (arith, lt))

-- where an agent has its upper bound as threshold and no sum is cut, the shares of its value are its upper bounds together
pub end_shares : (v : AdoptView) → IsClosed v → upper_bound v ≡ Some v.threshold → names_all v.known (higher v) ≡ true → delta v v.value + lower_sum (row_at v.rows v.value) ≤ amount_limit
    → (total : ℕ) → upper_sum (row_at v.rows v.value) ≡ Some total → delta v v.value + total ≤ amount_limit → total ≤ share_sum (row_at v.rows v.value)
end_shares v a end names low total sum fits =
    let own : ℕ = delta v v.value in
    let whole = a.whole names low in
    let settled : upper_of v v.value ≡ Some v.threshold = a.paid.settled end in
    let known : upper_of v v.value ≡ capped (plus_bound (Some own) (Some total)) =
    ap (λ (o : Option ℕ). capped (plus_bound o (upper_sum (row_at v.rows v.value)))) (cond-true (names_all v.known (higher v)) (Some own) None names)
    ∙ ap (λ (o : Option ℕ). capped (plus_bound (Some own) o)) sum in
    let at : cap (own + total) ≡ v.threshold = same_Some (cap (own + total)) v.threshold (sym known ∙ settled) in
    omega (arith, whole, at, fits)
