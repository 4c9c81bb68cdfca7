-- Laws of parts of a pot, and of rows of lows.
use Rattle.std.proofs.Common.{◌≡◌, ◌≢◌, ℕ, suc, ◌+◌, ◌-◌, ◌*◌, ◌/◌, ◌<◌, ◌≤◌, List, ◌++◌, length, get_or, set, take, drop, sym, ap, ◌∙◌, subst, inl, inr, length-append, length-drop, get_or-set_same, get_or-set_other, arith}
use Rattle.std.specs.List.{All}
use Rattle.std.proofs.Math.Nat.{mul-le-mul_left, mul-le-mul_right}
use Rattle.std.proofs.lemmas.Nat.{div_below, le-div}
use Rattle.util_kernel.specs.Lanes.{plus, sums}
use Rattle.std.proofs.lemmas.Simd.{get_or-zip2, length-zip2}
use Rattle.std.proofs.lemmas.List.{get_or_default, drop-append-le, take-append-le, drop_at, take_all}
use Rattle.std.proofs.lemmas.List.Elements.{All-append}
use Rattle.std.proofs.lemmas.Bool.{cases_lt}
use Rattle.dcop_base.specs.Limits.{amount_limit}
use Rattle.dcop_base.specs.Table.{CostTable}
use Rattle.shared_costs.specs.Moves.{AreLows}
use Rattle.shared_costs.specs.Rows.{table_at, row_of, rows_sum, AreLowRows, ArePotOf}

-- a part is no more than all, and all of it for the last one
pub part-most : (p r left : ℕ) → r < left → (p + r) / left ≤ p
part-most p r left lt =
    let some : 1 ≤ left = omega arith in
    let more : p * 1 ≤ p * left = mul-le-mul_left p some in
    let next : (p + 1) * left ≡ p * left + left = grind arith in
    let below = div_below (p + r) left (p + 1) (omega arith) (omega (arith, more, next)) in
    omega (arith, below)

pub part-all : (p r left : ℕ) → r < left → left ≡ 1 → (p + r) / left ≡ p
part-all p r left lt e =
    let whole : p * left ≤ p + r = (let one = ap (λ (n : ℕ). p * n) e in omega (arith, one)) in
    omega (arith, part-most p r left lt, le-div p (p + r) left (omega arith) whole)

-- one row more
pub rows-push : (ts : List CostTable) (var size : ℕ) (places : List ℕ) (j : ℕ) (rows row new : List ℕ) → AreLowRows ts var size places j rows → AreLows (table_at ts (get_or places j 0)) var row → length row ≡ size → new ≡ rows ++ row → AreLowRows ts var size places (j + 1) new
rows-push ts var size places j rows row new h low long e =
    let next : (j + 1) * size ≡ j * size + size = grind arith in
    record {
      count = omega (arith, ap (λ (xs : List ℕ). length xs) e, length-append rows row, h.count, long, next);
      small = subst (λ (xs : List ℕ). All (λ n. n ≤ amount_limit) xs) (sym e) (All-append (λ n. n ≤ amount_limit) rows row h.small low.small);
      lows = λ i lt. elim (cases_lt i j) [
        | inl before ↦ (
            let more : i + 1 ≤ j = omega arith in
            let last : (i + 1) * size ≤ j * size = mul-le-mul_right size more in
            let one : (i + 1) * size ≡ i * size + size = grind arith in
            let cut : drop (i * size) (rows ++ row) ≡ drop (i * size) rows ++ row = drop-append-le (i * size) rows row (omega (arith, last, one, h.count)) in
            let same : row_of new size i ≡ row_of rows size i =
            ap (λ (xs : List ℕ). take size (drop (i * size) xs)) e ∙ ap (λ (xs : List ℕ). take size xs) cut
            ∙ take-append-le size (drop (i * size) rows) row (omega (arith, length-drop (i * size) rows, last, one, h.count)) in
            subst (λ (xs : List ℕ). AreLows (table_at ts (get_or places i 0)) var xs) (sym same) (h.lows i before))
        | inr here ↦ (
            let is : j ≡ i = omega arith in
            let same : row_of new size j ≡ row =
            ap (λ (xs : List ℕ). take size (drop (j * size) xs)) e ∙ ap (λ (xs : List ℕ). take size xs) (drop_at rows row (j * size) h.count) ∙ take_all size row (omega (arith, long)) in
            subst (λ (n : ℕ). AreLows (table_at ts (get_or places n 0)) var (row_of new size n)) is
            (subst (λ (xs : List ℕ). AreLows (table_at ts (get_or places j 0)) var xs) (sym same) low))
      ];
    }

-- one amount more of which a part was taken
pub part-sums : (pot parts old : List ℕ) (a taken : ℕ) → a < length pot → a < length parts → taken ≤ get_or pot a 0 → get_or pot a 0 ≡ get_or old a 0 → ((k : ℕ) → k < a → get_or parts k 0 + get_or pot k 0 ≡ get_or old k 0) → (k : ℕ) → k < a + 1 → get_or (set parts a taken) k 0 + get_or (set pot a (get_or pot a 0 - taken)) k 0 ≡ get_or old k 0
part-sums pot parts old a taken hp hq most same before k lt = elim (cases_lt k a) [
  | inl less ↦ (let ne : k ≢ a = omega arith in omega (arith, get_or-set_other parts a k taken 0 ne, get_or-set_other pot a k (get_or pot a 0 - taken) 0 ne, before k less))
  | inr here ↦ (let is : a ≡ k = omega arith in
      subst (λ (n : ℕ). get_or (set parts a taken) n 0 + get_or (set pot a (get_or pot a 0 - taken)) n 0 ≡ get_or old n 0) is
      (omega (arith, get_or-set_same parts a taken 0 hq, get_or-set_same pot a (get_or pot a 0 - taken) 0 hp, most, same)))
]

pub part-last : (pot : List ℕ) (a taken : ℕ) → a < length pot → taken ≡ get_or pot a 0 → ((k : ℕ) → k < a → get_or pot k 0 ≡ 0) → (k : ℕ) → k < a + 1 → get_or (set pot a (get_or pot a 0 - taken)) k 0 ≡ 0
part-last pot a taken hp whole before k lt = elim (cases_lt k a) [
  | inl less ↦ (let ne : k ≢ a = omega arith in omega (arith, get_or-set_other pot a k (get_or pot a 0 - taken) 0 ne, before k less))
  | inr here ↦ (let is : a ≡ k = omega arith in
      subst (λ (n : ℕ). get_or (set pot a (get_or pot a 0 - taken)) n 0 ≡ 0) is (omega (arith, get_or-set_same pot a (get_or pot a 0 - taken) 0 hp, whole)))
]

pub part-rest : (pot old : List ℕ) (a x : ℕ) → ((k : ℕ) → a ≤ k → get_or pot k 0 ≡ get_or old k 0) → (k : ℕ) → a + 1 ≤ k → get_or (set pot a x) k 0 ≡ get_or old k 0
part-rest pot old a x before k le = let ne : k ≢ a = omega arith in get_or-set_other pot a k x 0 ne ∙ before k (omega arith)

pub at-most-zero : (m : ℕ) (xs : List ℕ) → ((k : ℕ) → k < length xs → get_or xs k 0 ≤ m) → All (λ n. n ≤ m) xs
at-most-zero m xs h k d lt = omega (arith, h k lt, get_or_default xs k d 0 lt)

-- one row more in the pot
pub pot-more : (rows : List ℕ) (size j : ℕ) (pot row new : List ℕ) → ArePotOf rows size j pot → length row ≡ size → ((a : ℕ) → a < size → get_or row a 0 ≡ get_or rows (j * size + a) 0) → new ≡ sums pot row → ArePotOf rows size (j + 1) new
pot-more rows size j pot row new h long at e =
    let same : (a : ℕ) → a < size → get_or new a 0 ≡ plus (get_or pot a 0) (get_or row a 0) =
    λ a lt. ap (λ (xs : List ℕ). get_or xs a 0) e ∙ get_or-zip2 plus pot row a 0 0 0 (omega (arith, h.many, lt)) (omega (arith, long, lt)) in
    let many : length new ≡ size = ap (λ (xs : List ℕ). length xs) e ∙ length-zip2 plus pot row (h.many ∙ sym long) ∙ h.many in
    let next : suc j ≡ j + 1 = omega arith in
    record {
      many = many;
      small = at-most-zero amount_limit new (λ k lt. omega (arith, same k (omega (arith, lt, many))));
      sums = λ a lt. omega (arith, same a lt, at a lt, h.sums a lt, ap (λ (n : ℕ). rows_sum rows size a n) next);
    }
