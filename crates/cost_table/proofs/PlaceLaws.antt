-- Laws of products and places: zeros, what a count over the sizes has so far, and the first place of a variable.
use Rattle.std.proofs.Common.{◌≡◌, ℕ, zero, suc, ◌+◌, ◌*◌, ◌<◌, ◌≤◌, Bool, true, false, not, cond, eqb, ltb, List, [], ◌∷◌, Some, None, length, get_or, drop, refl, sym, ap, ◌∙◌, inl, inr, arith}
use Rattle.std.proofs.Math.Nat.{mul-le-mul_left, mul_assoc}
use Rattle.std.specs.List.{list_any, position}
use Rattle.std.proofs.lemmas.List.{drop_all}
use Rattle.std.proofs.lemmas.List.Sums.{prefix_len-le-length}
use Rattle.std.proofs.lemmas.Bool.{cases_Bool, eqb-true, eqb-false, or_parts, ltb-false, le-ltb, lt-ltb}
use Rattle.dcop_base.specs.Table.{product, has}
use Rattle.dcop_base.proofs.TableLaws.{product-drop}
use Rattle.cost_table.specs.Cells.{place_in}

-- a product with a 0 in it
pub zero-product : (sizes : List ℕ) → list_any (λ s. eqb s 0) sizes ≡ true → product sizes ≡ 0
zero-product [] e = cc
zero-product (s ∷ ss) e = elim (cases_Bool (eqb s 0)) [
  | inl t ↦ rw (eqb-true s 0 t) (omega arith)
  | inr f ↦ (let rest : product ss ≡ 0 = zero-product ss (rw f at e) in rw rest (omega arith))
]

-- the count of sizes of which one is 0, and of sizes whose product is too large before the last
pub zero-count : (limit p : ℕ) → p ≡ 0 → Some 0 ≡ cond (ltb limit p) None (Some p)
zero-count limit p e = sym (ap (λ (n : ℕ). cond (ltb limit n) None (Some n)) e ∙ ap (λ (b : Bool). cond b None (Some 0)) (le-ltb limit 0 (omega arith)))

pub over-count : (limit p s rest total : ℕ) → limit < p * s → 1 ≤ rest → p * (s * rest) ≡ total → None ≡ cond (ltb limit total) None (Some total)
over-count limit p s rest total h some e =
    let more : p * s * 1 ≤ p * s * rest = mul-le-mul_left (p * s) some in
    let above : limit < total = omega (arith, more, mul_assoc p s rest) in
    sym (ap (λ (b : Bool). cond b None (Some total)) (lt-ltb limit total above))

pub nonzero-product : (sizes : List ℕ) (k : ℕ) → list_any (λ s. eqb s 0) sizes ≡ false → 1 ≤ product (drop k sizes)
nonzero-product [] zero e = omega arith
nonzero-product [] (suc k) e = omega arith
nonzero-product (s ∷ ss) (suc k) e = nonzero-product ss k (or_parts (eqb s 0) (list_any (λ s. eqb s 0) ss) e).1
nonzero-product (s ∷ ss) zero e =
    let both = or_parts (eqb s 0) (list_any (λ s. eqb s 0) ss) e in
    let rest : 1 ≤ product ss = nonzero-product ss zero both.1 in
    let ne = eqb-false s 0 both.0 in
    let some : 1 ≤ s = grind arith in
    omega (arith, mul-le-mul_left s rest)

-- a turn of the count
pub count-more : (sizes : List ℕ) (k p more total : ℕ) → k < length sizes → more ≡ p * get_or sizes k 0 → p * product (drop k sizes) ≡ total → more * product (drop (k + 1) sizes) ≡ total
count-more sizes k p more total lt e h =
    let r = product (drop (k + 1) sizes) in
    ap (λ n. n * r) e ∙ mul_assoc p (get_or sizes k 0) r ∙ ap (λ n. p * n) (sym (product-drop sizes k lt)) ∙ h

pub count-over : (sizes : List ℕ) (k p limit total : ℕ) → k < length sizes → limit < p * get_or sizes k 0 → list_any (λ s. eqb s 0) sizes ≡ false → p * product (drop k sizes) ≡ total → None ≡ cond (ltb limit total) None (Some total)
count-over sizes k p limit total lt h none e =
    over-count limit p (get_or sizes k 0) (product (drop (k + 1) sizes)) total h (nonzero-product sizes (k + 1) none) (ap (λ n. p * n) (sym (product-drop sizes k lt)) ∙ e)

pub count-whole : (sizes : List ℕ) (k p total : ℕ) → length sizes ≤ k → p * product (drop k sizes) ≡ total → p ≡ total
count-whole sizes k p total h e =
    let whole = rw (drop_all k sizes h) at e in
    omega (arith, whole)

-- what a search found
some-is : (b : Bool) (n k : ℕ) → Some k ≡ cond b (Some n) None → k ≡ n
some-is true n k e = cc
some-is false n k e = cc

none-is : (b : Bool) (n : ℕ) → None ≡ cond b (Some n) None → b ≡ false
none-is true n e = cc
none-is false n e = refl

pub found-some : (vars : List ℕ) (var k : ℕ) → Some k ≡ position (λ v. eqb v var) vars → k ≡ place_in vars var
found-some vars var k e = some-is (ltb (place_in vars var) (length vars)) (place_in vars var) k e

pub found-none : (vars : List ℕ) (var : ℕ) → None ≡ position (λ v. eqb v var) vars → length vars ≡ place_in vars var
found-none vars var e =
    let most : place_in vars var ≤ length vars = prefix_len-le-length (λ v. not (eqb v var)) vars in
    let least : length vars ≤ place_in vars var = ltb-false (place_in vars var) (length vars) (none-is (ltb (place_in vars var) (length vars)) (place_in vars var) e) in
    omega arith

-- a variable that stands among others has a place there
pub place_in-lt : (vars : List ℕ) (var : ℕ) → has vars var ≡ true → place_in vars var < length vars
place_in-lt [] var e = cc
place_in-lt (v ∷ vs) var e = elim (cases_Bool (eqb v var)) [
  | inl t ↦ rw t (omega arith)
  | inr f ↦ (let rest : place_in vs var < length vs = place_in-lt vs var (rw f at e) in rw f (omega arith))
]
