-- Laws of tables: what holds of one in which nothing is wrong, and the place of a cell.
use Rattle.std.proofs.Common.{◌≡◌, ℕ, zero, suc, ◌+◌, ◌*◌, ◌<◌, ◌≤◌, Bool, true, false, not, ◌||◌, cond, eqb, ltb, List, [], ◌∷◌, Option, Some, None, length, get_or, drop, min, refl, sym, ap, ◌∙◌, inl, inr, arith}
use Rattle.std.proofs.Math.Nat.{mul-le-mul_left, mul_comm, mul_assoc}
use Rattle.std.specs.List.{All, list_any}
use Rattle.std.proofs.lemmas.List.{drop_more, drop_all, length-map}
use Rattle.std.proofs.lemmas.List.Elements.{length_all_zip}
use Rattle.std.proofs.lemmas.List.Folds.{list_any_at}
use Rattle.std.proofs.lemmas.Bool.{cases_lt, ltb-false, eqb-true, eqb-false, both_ways, not-false, or_parts, cases_Bool}
use Rattle.dcop_base.specs.Table.{product, has_repeat, table_fault, AreWithin, values_at, cell_place}
use Rattle.dcop_base.specs.declared.table.TableFault.TheVariants.{Repeat, Sizes, CellCount, CellTooLarge}
use Rattle.dcop_base.specs.Limits.{amount_limit}

-- four tests that all fail, where a chain of them gave nothing
pub four-fail : {X : Type 0} (a b c d : Bool) (w x y z : X) (o : Option X) → cond a (Some w) (cond b (Some x) (cond c (Some y) (cond d (Some z) o))) ≡ None → (a ≡ false) × (b ≡ false) × (c ≡ false) × (d ≡ false) × (o ≡ None)
four-fail true b c d w x y z o e = cc
four-fail false true c d w x y z o e = cc
four-fail false false true d w x y z o e = cc
four-fail false false false true w x y z o e = cc
four-fail false false false false w x y z o e = (refl, refl, refl, refl, e)

-- a test that no element passes
pub none-passes : {X : Type 0} (p : X → Bool) (xs : List X) → list_any p xs ≡ false → All (λ x. p x ≡ false) xs
none-passes p xs e k d h = elim (cases_Bool (p (get_or xs k d))) as (λ _. p (get_or xs k d) ≡ false) [ inl passes ↦ absurd (both_ways _ e (list_any_at p xs k d h passes)) | inr fails ↦ fails ]

-- what holds of the parts of a table in which nothing is wrong
pub record AreParts (scope : List ℕ) (sizes : List ℕ) (cells : List ℕ) : Type 0 where
  pub apart : has_repeat scope ≡ false
  pub sized : length sizes ≡ length scope
  pub positive : All (λ s. 1 ≤ s) sizes
  pub full : length cells ≡ product sizes
  pub small : All (λ c. c ≤ amount_limit) cells

pub parts-of : (scope sizes cells : List ℕ) → table_fault scope sizes cells ≡ None → AreParts scope sizes cells
parts-of scope sizes cells e =
    let four-tests = four-fail (has_repeat scope) (not (eqb (length sizes) (length scope)) || list_any (λ s. eqb s 0) sizes) (not (eqb (length cells) (product sizes))) (list_any (λ c. ltb amount_limit c) cells) Repeat Sizes CellCount CellTooLarge None e in
    let two = or_parts _ _ four-tests.1 in
    record {
      apart = four-tests.0;
      sized = eqb-true _ _ (not-false _ two.0);
      positive = λ k d h. let ne = eqb-false (get_or sizes k d) 0 (none-passes (λ s. eqb s 0) sizes two.1 k d h) in grind arith;
      full = eqb-true _ _ (not-false _ four-tests.2);
      small = λ k d h. ltb-false _ _ (none-passes (λ c. ltb amount_limit c) cells four-tests.3 k d h);
    }

-- a product of sizes above values
pub product-pos : (sizes values : List ℕ) → AreWithin sizes values → 1 ≤ product sizes
product-pos [] [] h = omega arith
product-pos [] (v ∷ vs) h = absurd h
product-pos (s ∷ ss) [] h = absurd h
product-pos (s ∷ ss) (v ∷ vs) h =
    let rest = product-pos ss vs h.1 in
    let one : 1 ≤ s = omega (arith, h.0) in
    omega (arith, mul-le-mul_left s rest)

-- the place of a cell is below the number of cells
pub cell_place-lt : (sizes values : List ℕ) → AreWithin sizes values → cell_place sizes values < product sizes
cell_place-lt [] [] h = omega arith
cell_place-lt [] (v ∷ vs) h = absurd h
cell_place-lt (s ∷ ss) [] h = absurd h
cell_place-lt (s ∷ ss) (v ∷ vs) h =
    let rest = cell_place-lt ss vs h.1 in
    let more : v + 1 ≤ s = omega (arith, h.0) in
    omega (arith, mul-le-mul_left (product ss) more, mul_comm (product ss) s, mul_comm (product ss) v)

-- a product of a number that is capped is the product, capped
pub capped : (x r m : ℕ) → min (min x m * r) m ≡ min (x * r) m
capped x zero m = omega arith
capped x (suc r) m =
    let more : x ≤ x * suc r = omega arith in
    elim (cases_lt x m) [
      | inl below ↦ let e : min x m ≡ x = omega arith in rw e refl
      | inr above ↦
          let e : min x m ≡ m = omega arith in
          let most : m ≤ m * suc r = omega arith in
          let left : min (m * suc r) m ≡ m = omega arith in
          let right : min (x * suc r) m ≡ m = omega arith in
          rw e (left ∙ sym right)
    ]

-- a product that is capped at each step is the product, capped
pub capped-step : (p s r m : ℕ) → min (min (p * s) m * r) m ≡ min (p * (s * r)) m
capped-step p s r m = capped (p * s) r m ∙ ap (λ n. min n m) (mul_assoc p s r)

-- the product of the sizes from a place on
pub product-drop : (sizes : List ℕ) (k : ℕ) → k < length sizes → product (drop k sizes) ≡ get_or sizes k 0 * product (drop (k + 1) sizes)
product-drop sizes k h = ap product (drop_more sizes k 0 h)

-- one step of a capped product over a list
pub capped-more : (sizes : List ℕ) (k p q m : ℕ) → k < length sizes → q ≡ min (p * get_or sizes k 0) m → min (p * product (drop k sizes)) m ≡ min (product sizes) m → (q ≤ m) × (min (q * product (drop (k + 1) sizes)) m ≡ min (product sizes) m)
capped-more sizes k p q m lt e h =
    let r = product (drop (k + 1) sizes) in
    let s = get_or sizes k 0 in
    let one = ap (λ n. min (n * r) m) e in
    let two = capped-step p s r m in
    let three = ap (λ n. min (p * n) m) (sym (product-drop sizes k lt)) in
    (omega arith, one ∙ two ∙ three ∙ h)

-- sizes and a scope's values that fit are as many as the scope
pub within-length : (scope sizes values : List ℕ) → AreWithin sizes (values_at scope values) → length sizes ≡ length scope
within-length scope sizes values h = length_all_zip (λ s v. v < s) sizes (values_at scope values) h ∙ length-map scope (λ v. get_or values v 0)

-- what is summed up to a place is no more than the whole
bound-cons : (place s v : ℕ) (ss vs : List ℕ) → AreWithin (s ∷ ss) (v ∷ vs) → place * s + v ≤ place * product (s ∷ ss) + cell_place (s ∷ ss) (v ∷ vs)
bound-cons place s v ss vs h = omega (arith, mul-le-mul_left (place * s + v) (product-pos ss vs h.1))

pub place-bound : (scope sizes values : List ℕ) (k place : ℕ) → k < length scope → k < length sizes → AreWithin (drop k sizes) (values_at (drop k scope) values) → place * get_or sizes k 0 + get_or values (get_or scope k 0) 0 ≤ place * product (drop k sizes) + cell_place (drop k sizes) (values_at (drop k scope) values)
place-bound scope sizes values k place hc hs h =
    let h2 = rw (drop_more sizes k 0 hs, drop_more scope k 0 hc) at h in
    rw (drop_more sizes k 0 hs, drop_more scope k 0 hc) (bound-cons place (get_or sizes k 0) (get_or values (get_or scope k 0) 0) (drop (k + 1) sizes) (values_at (drop (k + 1) scope) values) h2)

-- at the end of the lists the place is the whole
pub place-whole : (scope sizes values : List ℕ) (k place total : ℕ) → length scope ≤ k → length sizes ≤ k → place * product (drop k sizes) + cell_place (drop k sizes) (values_at (drop k scope) values) ≡ total → place ≡ total
place-whole scope sizes values k place total hc hs h =
    let whole = rw (drop_all k sizes hs) at h in
    omega (arith, whole)

-- the place of the values of a scope is a cell's
pub place-lt : (scope sizes cells values : List ℕ) → table_fault scope sizes cells ≡ None → AreWithin sizes (values_at scope values) → cell_place sizes (values_at scope values) < length cells
place-lt scope sizes cells values e h = rw (parts-of scope sizes cells e).full (cell_place-lt sizes (values_at scope values) h)
