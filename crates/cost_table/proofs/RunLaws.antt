-- Laws of runs: where they stand, what one more of them keeps, and what the values of the other variables have of them.
use Rattle.std.proofs.Common.{◌≡◌, ℕ, zero, suc, ◌+◌, ◌*◌, ◌<◌, ◌≤◌, add-one, List, [], ◌∷◌, ◌++◌, length, length-append, get_or, take, drop, min, sym, ap, ap₂, ◌∙◌, subst, inl, inr, arith}
use Rattle.std.proofs.Math.Nat.{mul_comm, mul_assoc}
use Rattle.std.specs.List.{All, remove, insert}
use Rattle.std.proofs.lemmas.Nat.{mul-add-lt, mul-le}
use Rattle.std.proofs.lemmas.List.{length-take, length-drop, get_or-take, get_or-drop, get_or-append-add, get_or_append_left}
use Rattle.std.proofs.lemmas.List.Elements.{All-append, All-take, All-drop, All-head, All-tail}
use Rattle.std.proofs.lemmas.Bool.{cases_lt}
use Rattle.dcop_base.specs.Table.{product, AreWithin, cell_place}
use Rattle.dcop_base.proofs.TableLaws.{cell_place-lt}
use Rattle.cost_table.specs.Runs.{AreRuns, AreCellsAt}

-- a run lies within the cells
pub run-fits : (b blocks size number inner count : ℕ) → b < blocks → number < size → 1 ≤ inner → count ≡ blocks * (size * inner) → (b * size + number ≤ count) × ((b * size + number) * inner + inner ≤ count)
run-fits b blocks size number inner count hb hn hi e =
    let q = b * size + number in
    let below : q + 1 ≤ blocks * size = omega (arith, mul-add-lt b size number blocks hb hn, mul_comm size blocks) in
    let runs : (q + 1) * inner ≤ (blocks * size) * inner = mul-le (q + 1) inner (blocks * size) inner below (omega arith) in
    let one : q * 1 ≤ q * inner = mul-le q 1 q inner (omega arith) hi in
    let next : (q + 1) * inner ≡ q * inner + inner = grind arith in
    let whole : (blocks * size) * inner ≡ count = mul_assoc blocks size inner ∙ sym e in
    (omega arith, omega arith)

-- one more run
pub runs-more : (cells : List ℕ) (b size inner number start : ℕ) (kept more : List ℕ) → AreRuns cells b size inner number kept → start ≡ (b * size + number) * inner → start + inner ≤ length cells → more ≡ kept ++ take inner (drop start cells) → AreRuns cells (b + 1) size inner number more
runs-more cells b size inner number start kept more runs es fits em =
    let run = take inner (drop start cells) in
    let long : length run ≡ inner = omega (arith, length-take inner (drop start cells), length-drop start cells) in
    let next : (b + 1) * inner ≡ b * inner + inner = grind arith in
    let whole : length more ≡ length kept + length run = ap length em ∙ length-append kept run in
    record {
      count = omega (arith, whole, long, next, runs.count);
      each = λ c i hc hi. elim (cases_lt c b) [
        | inl lt ↦ (let below : c * inner + i < length kept = omega (arith, mul-add-lt c inner i b lt hi, mul_comm inner b, runs.count) in
            ap (λ (xs : List ℕ). get_or xs (c * inner + i) 0) em ∙ get_or_append_left kept run 0 (c * inner + i) below ∙ runs.each c i lt hi)
        | inr ge ↦ (let same : c ≡ b = omega arith in
            let at : b * inner + i ≡ length kept + i = omega (arith, runs.count) in
            ap (λ (x : ℕ). get_or more (x * inner + i) 0) same ∙ ap (λ (x : ℕ). get_or more x 0) at
            ∙ ap (λ (xs : List ℕ). get_or xs (length kept + i) 0) em ∙ get_or-append-add kept run i 0
            ∙ get_or-take inner (drop start cells) i 0 hi ∙ get_or-drop start cells i 0
            ∙ ap (λ (x : ℕ). get_or cells (x + i) 0) es ∙ ap (λ (x : ℕ). get_or cells ((x * size + number) * inner + i) 0) (sym same))
      ];
      within = λ bound all. subst (λ (xs : List ℕ). All (λ c. c ≤ bound) xs) (sym em) (All-append (λ c. c ≤ bound) kept run (runs.within bound all) (All-take (λ c. c ≤ bound) inner (drop start cells) (All-drop (λ c. c ≤ bound) start cells all)));
    }

-- the sizes before, at and behind a place make the whole product
pub product-cut : (sizes : List ℕ) (k : ℕ) → k < length sizes → product sizes ≡ product (take k sizes) * (get_or sizes k 0 * product (drop (suc k) sizes))
product-cut [] k h = absurd (omega arith)
product-cut (s ∷ ss) zero h = omega arith
product-cut (s ∷ ss) (suc k) h = ap (λ n. s * n) (product-cut ss k (omega arith)) ∙ sym (mul_assoc s (product (take k ss)) (get_or ss k 0 * product (drop (suc k) ss)))

pub product-remove : (sizes : List ℕ) (k : ℕ) → k < length sizes → product (remove sizes k) ≡ product (take k sizes) * product (drop (suc k) sizes)
product-remove [] k h = absurd (omega arith)
product-remove (s ∷ ss) zero h = omega arith
product-remove (s ∷ ss) (suc k) h = ap (λ n. s * n) (product-remove ss k (omega arith)) ∙ sym (mul_assoc s (product (take k ss)) (product (drop (suc k) ss)))

-- a product of sizes of at least 1
pub product-some : (sizes : List ℕ) → All (λ s. 1 ≤ s) sizes → 1 ≤ product sizes
product-some [] all = omega arith
product-some (s ∷ ss) all = mul-le 1 1 s (product ss) (All-head (λ s. 1 ≤ s) s ss all) (product-some ss (All-tail (λ s. 1 ≤ s) s ss all))

-- the numbers of blocks and of cells in a run, which a product that is cut off at a limit gives where all cells are within it
pub record AreCounts (sizes : List ℕ) (k blocks inner : ℕ) : Type 0 where
  pub before : blocks ≡ product (take k sizes)
  pub behind : inner ≡ product (drop (suc k) sizes)
  pub some : 1 ≤ inner

pub counts-of : (sizes front back : List ℕ) (k m blocks inner : ℕ) → k < length sizes → All (λ s. 1 ≤ s) sizes → product sizes ≤ m → front ≡ take k sizes → back ≡ drop (k + 1) sizes → blocks ≡ min (product front) m → inner ≡ min (product back) m → AreCounts sizes k blocks inner
counts-of sizes front back k m blocks inner lt all most ef eb e1 e2 =
    let a = product (take k sizes) in
    let s = get_or sizes k 0 in
    let r = product (drop (suc k) sizes) in
    let some-a : 1 ≤ a = product-some (take k sizes) (All-take (λ s. 1 ≤ s) k sizes all) in
    let some-r : 1 ≤ r = product-some (drop (suc k) sizes) (All-drop (λ s. 1 ≤ s) (suc k) sizes all) in
    let sized : 1 * r ≤ s * r = mul-le 1 r s r (all k 0 lt) (omega arith) in
    let before : a * 1 ≤ a * (s * r) = mul-le a 1 a (s * r) (omega arith) (omega arith) in
    let behind : 1 * (s * r) ≤ a * (s * r) = mul-le 1 (s * r) a (s * r) some-a (omega arith) in
    let whole = product-cut sizes k lt in
    let left : min a m ≡ a = omega arith in
    let right : min r m ≡ r = omega arith in
    let blocks-is : blocks ≡ a = e1 ∙ ap (λ (ss : List ℕ). min (product ss) m) ef ∙ left in
    let inner-is : inner ≡ r = e2 ∙ ap (λ (ss : List ℕ). min (product ss) m) (eb ∙ ap (λ (n : ℕ). drop n sizes) (add-one k)) ∙ right in
    record { before = blocks-is; behind = inner-is; some = rw inner-is some-r }

-- values of the other variables name a block and a place in its runs
pub record IsCut (sizes : List ℕ) (k : ℕ) (values : List ℕ) (b i : ℕ) : Type 0 where
  pub block : b < product (take k sizes)
  pub inner : i < product (drop (suc k) sizes)
  pub without : cell_place (remove sizes k) values ≡ b * product (drop (suc k) sizes) + i
  pub within : (x : ℕ) → cell_place sizes (insert values k x) ≡ (b * get_or sizes k 0 + x) * product (drop (suc k) sizes) + i

cut-step : (v p b r i : ℕ) → v * (p * r) + (b * r + i) ≡ (v * p + b) * r + i
cut-step v p b r i = grind arith

cut-step-at : (v p s b x r i : ℕ) → v * (p * (s * r)) + ((b * s + x) * r + i) ≡ ((v * p + b) * s + x) * r + i
cut-step-at v p s b x r i = grind arith

pub cut-at : (sizes : List ℕ) (k : ℕ) (values : List ℕ) → k < length sizes → AreWithin (remove sizes k) values → IsCut sizes k values (cell_place (take k sizes) (take k values)) (cell_place (drop (suc k) sizes) (drop k values))
cut-at [] k values h w = absurd (omega arith)
cut-at (s ∷ ss) zero values h w = record {
  block = omega arith;
  inner = cell_place-lt ss values w;
  without = omega arith;
  within = λ x. omega arith;
}
cut-at (s ∷ ss) (suc k) [] h w = absurd w
cut-at (s ∷ ss) (suc k) (v ∷ vs) h w =
    let cut = cut-at ss k vs (omega arith) w.1 in
    let b = cell_place (take k ss) (take k vs) in
    let i = cell_place (drop (suc k) ss) (drop k vs) in
    let p = product (take k ss) in
    let r = product (drop (suc k) ss) in
    let low : v * p + b < s * p = omega (arith, mul-add-lt v p b s w.0 cut.block, mul_comm p s) in
    record {
      block = low;
      inner = cut.inner;
      without = ap₂ (λ (m n : ℕ). v * m + n) (product-remove ss k (omega arith)) cut.without ∙ cut-step v p b r i;
      within = λ x. ap₂ (λ (m n : ℕ). v * m + n) (product-cut ss k (omega arith)) (cut.within x) ∙ cut-step-at v p (get_or ss k 0) b x r i;
    }

-- the count of the cells, by blocks and runs
pub count-cut : (sizes : List ℕ) (k count blocks size inner : ℕ) → k < length sizes → count ≡ product sizes → AreCounts sizes k blocks inner → size ≡ get_or sizes k 0 → count ≡ blocks * (size * inner)
count-cut sizes k count blocks size inner lt e counts es = rw (counts.before, counts.behind, es) (e ∙ product-cut sizes k lt)

-- runs are the cells at a value
pub cells-of_runs : (sizes cells : List ℕ) (k val : ℕ) (kept : List ℕ) (blocks size inner : ℕ) → k < length sizes → AreCounts sizes k blocks inner → size ≡ get_or sizes k 0 → AreRuns cells blocks size inner val kept → AreCellsAt sizes cells k val kept
cells-of_runs sizes cells k val kept blocks size inner h counts es given =
    let runs : AreRuns cells (product (take k sizes)) (get_or sizes k 0) (product (drop (suc k) sizes)) val kept = rw (← counts.before, ← counts.behind, ← es) given in
    record {
      count = runs.count ∙ sym (product-remove sizes k h);
      each = λ values w. (let cut = cut-at sizes k values h w in
          ap (λ n. get_or kept n 0) cut.without ∙ runs.each _ _ cut.block cut.inner ∙ sym (ap (λ n. get_or cells n 0) (cut.within val)));
      within = runs.within;
    }
