-- Laws of the nodes of a tree: each value of a row is visited once.
use Rattle.std.proofs.Common.{◌≡◌, ℕ, zero, suc, ◌+◌, ◌*◌, ◌<◌, ◌≤◌, Bool, true, cond, ltb, List, [], ◌∷◌, length, get_or, set, drop, refl, ap, subst, arith}
use Rattle.std.specs.List.{count_by}
use Rattle.std.proofs.Math.Nat.{mul-le-mul_right}
use Rattle.std.proofs.lemmas.Bool.{lt-ltb}
use Rattle.std.proofs.lemmas.List.Sums.{sum_by-set, count_by-le-length}
use Rattle.bound_search.specs.Searched.{tree_nodes}

-- an entry of a row whose value was visited
abbrev pub done : ℕ
done = 18446744073709551615

-- how many values of a row are still to be visited
abbrev pub to_visit : List ℕ → ℕ
to_visit row = count_by (λ n. ltb n done) row

pub to_visit_first : (row : List ℕ) → to_visit row ≤ length row
to_visit_first row = count_by-le-length (λ n. ltb n done) row

pub to_visit_next : (row : List ℕ) (a : ℕ) → a < length row → get_or row a 0 < done → to_visit row ≡ to_visit (set row a done) + 1
to_visit_next row a inside below =
    let both = sum_by-set (λ n. cond (ltb n done) 1 0) row a done 0 inside in
    let here : ltb (get_or row a 0) done ≡ true = lt-ltb (get_or row a 0) done below in
    let counts : Bool → ℕ = λ b. cond b 1 0 in
    let one : counts (ltb (get_or row a 0) done) ≡ 1 = ap counts here in
    omega (arith, both, one)

-- the tree below a depth has a tree of the next depth below each value
pub tree_left : (sizes : List ℕ) (p : ℕ) → p < length sizes → tree_nodes (drop p sizes) ≡ get_or sizes p 0 * (1 + tree_nodes (drop (p + 1) sizes))
tree_left [] p lt = absurd (omega (arith, lt))
tree_left (s ∷ ss) zero lt = refl
tree_left (s ∷ ss) (suc p) lt =
    let next : suc (p + 1) ≡ suc p + 1 = omega arith in
    subst (λ (n : ℕ). tree_nodes (drop p ss) ≡ get_or ss p 0 * (1 + tree_nodes (drop n (s ∷ ss)))) next (tree_left ss p (omega (arith, lt)))

-- no more than each value once
pub tree_first : (left size later nodes : ℕ) → left ≤ size → nodes + left * (1 + later) ≤ nodes + size * (1 + later)
tree_first left size later nodes le = let most = mul-le-mul_right (1 + later) le in omega (arith, most)

pub tree_next : (more left later now new whole : ℕ) → more ≡ left + 1 → now + more * (1 + later) ≤ whole → new ≤ now + 1 + later → new + left * (1 + later) ≤ whole
tree_next more left later now new whole is most le =
    let each : (left + 1) * (1 + later) ≡ left * (1 + later) + (1 + later) = omega arith in
    let most_is = ap (λ (n : ℕ). n * (1 + later)) is in
    omega (arith, most, le, each, most_is)

pub tree_end : (nodes rest whole : ℕ) → nodes + rest ≤ whole → nodes ≤ whole
tree_end nodes rest whole most = omega (arith, most)
