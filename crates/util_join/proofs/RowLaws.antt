-- Laws of rows: sums along rows, and how rows grow by one variable.
use Rattle.std.proofs.Common.{◌≡◌, ℕ, zero, suc, ◌+◌, ◌*◌, ◌-◌, ◌/◌, ◌%◌, ◌<◌, ◌≤◌, List, [], ◌∷◌, length, get_or, take, refl, sym, ap, ◌∙◌, arith}
use Rattle.std.proofs.Math.Nat.{mul-le-mul_left, mul_assoc, mul_comm}
use Rattle.std.proofs.lemmas.Nat.{div-add-mod', mod-mul-add, mod_below, mul-add-lt}
use Rattle.std.proofs.lemmas.Grind.{get_or_default_zero}
use Rattle.std.proofs.lemmas.Simd.{get_or-chunk, length-chunk}
use Rattle.dcop_base.specs.Table.{CostTable, product, cell_place, AreWithin}
use Rattle.dcop_base.proofs.TableLaws.{cell_place-lt}
use Rattle.util_kernel.specs.Lanes.{plus, sums, raised}
use Rattle.util_join.specs.Strides.{stride, strides, offset, along, IsRow, IsRowSum, AreRowSums}

-- amounts at places
raised-at : (cell : ℕ) (xs : List ℕ) (p : ℕ) → p < length xs → get_or (raised xs cell) p 0 ≡ plus (get_or xs p 0) cell
raised-at cell [] p h = absurd (omega arith)
raised-at cell (x ∷ xs) zero h = refl
raised-at cell (x ∷ xs) (suc p) h = raised-at cell xs p (omega arith)

length-raised : (cell : ℕ) (xs : List ℕ) → length (raised xs cell) ≡ length xs
length-raised cell [] = refl
length-raised cell (x ∷ xs) = ap suc (length-raised cell xs)

sums-at : (xs ys : List ℕ) (p : ℕ) → length xs ≡ length ys → p < length xs → get_or (sums xs ys) p 0 ≡ plus (get_or xs p 0) (get_or ys p 0)
sums-at [] ys p e h = absurd (omega arith)
sums-at (x ∷ xs) [] p e h = absurd (omega (arith, e))
sums-at (x ∷ xs) (y ∷ ys) zero e h = refl
sums-at (x ∷ xs) (y ∷ ys) (suc p) e h = sums-at xs ys p (omega (arith, e)) (omega arith)

length-sums : (xs ys : List ℕ) → length xs ≡ length ys → length (sums xs ys) ≡ length xs
length-sums [] ys e = refl
length-sums (x ∷ xs) [] e = absurd (omega (arith, e))
length-sums (x ∷ xs) (y ∷ ys) e = ap suc (length-sums xs ys (omega (arith, e)))

-- sums along a row are amounts
row-sum : (from : List ℕ) (step : ℕ) (old new : List ℕ) → length new ≡ length old → ((p : ℕ) → p < length old → get_or new p 0 ≡ plus (get_or old p 0) (get_or from (step * p) 0)) → IsRowSum from step old new
row-sum from step old new count cells = record {
  count = count;
  small = λ p d h. (let at : p < length old = omega (arith, count) in let is = get_or_default_zero new p d h ∙ cells p at in omega (arith, is));
  cells = cells;
}

-- a row along which the place stays, and one along which it goes from each cell to the next
pub row-raised : (from : List ℕ) (step : ℕ) (old new : List ℕ) → step ≡ 0 → new ≡ raised old (get_or from 0 0) → IsRowSum from step old new
row-raised from step old new none e =
    row-sum from step old new (ap length e ∙ length-raised (get_or from 0 0) old) (λ p h.
    let same : 0 ≡ step * p = rw none (omega arith) in
    ap (λ (xs : List ℕ). get_or xs p 0) e ∙ raised-at (get_or from 0 0) old p h ∙ ap (λ i. plus (get_or old p 0) (get_or from i 0)) same)

pub row-sums : (from : List ℕ) (step count : ℕ) (old new : List ℕ) → step ≡ 1 → count ≡ length old → count ≤ length from → new ≡ sums old (take count from) → IsRowSum from step old new
row-sums from step count old new one is room e =
    let long : length old ≡ length (take count from) = sym (length-chunk 0 count from (omega (arith, room)) ∙ is) in
    row-sum from step old new (ap length e ∙ length-sums old (take count from) long) (λ p h.
    let same : p ≡ step * p = rw one (omega arith) in
    ap (λ (xs : List ℕ). get_or xs p 0) e ∙ sums-at old (take count from) p long h
    ∙ ap (λ x. plus (get_or old p 0) x) (get_or-chunk 0 count from p 0 (omega (arith, is)) ∙ ap (λ i. get_or from i 0) (omega (arith, same))))

-- the place of a cell in its row
pub small-mod : (n w : ℕ) → n < w → n % w ≡ n
small-mod n w h =
    let none : n ≡ 0 * w + n = omega arith in
    ap (λ i. i % w) none ∙ mod-mul-add 0 w n h

rows-turn : (a q w r : ℕ) → a * w + (q * w + r) ≡ (a + q) * w + r
rows-turn a q w r = grind arith

pub mod-more : (a w c : ℕ) → 1 ≤ w → (a * w + c) % w ≡ c % w
mod-more a w c some =
    let split : c ≡ c / w * w + c % w = sym (div-add-mod' c w) in
    let whole : a * w + c ≡ (a + c / w) * w + c % w = ap (λ i. a * w + i) split ∙ rows-turn a (c / w) w (c % w) in
    ap (λ i. i % w) whole ∙ mod-mul-add (a + c / w) w (c % w) (mod_below c w (omega arith))

pub last-mod : (rows w c : ℕ) → c + 1 ≡ rows * w → 1 ≤ w → c % w ≡ w - 1
last-mod zero w c e some = absurd (omega (arith, e))
last-mod (suc rows) w c e some =
    let is : c ≡ rows * w + (w - 1) = omega (arith, e) in
    ap (λ i. i % w) is ∙ mod-mul-add rows w (w - 1) (omega arith)

-- one row as rows, of which it may be a part
pub rows-one : (from : List ℕ) (width step : ℕ) (old new : List ℕ) → length old ≤ width → IsRowSum from step old new → AreRowSums from width step old new
rows-one from width step old new short row = record {
  count = row.count;
  small = row.small;
  cells = λ p h. (let same : step * p ≡ along width step p = ap (λ n. step * n) (sym (small-mod p width (omega arith))) in
      row.cells p h ∙ ap (λ i. plus (get_or old p 0) (get_or from i 0)) same);
}

-- the row of no variable
pub row-none : IsRow [] [] 0 1 1 0
row-none = record { within = omega arith; full = refl; some = omega arith; whole = (1, refl); even = λ values h. refl }

-- rows of all variables but the first, which are no rows of all
pub row-behind : (d s : ℕ) (ds sizes : List ℕ) (start more count width step : ℕ) → more ≡ start + 1 → IsRow ds sizes start count width step → IsRow (d ∷ ds) (s ∷ sizes) more count width step
row-behind d s ds sizes start zero count width step e row = absurd (omega (arith, e))
row-behind d s ds sizes start (suc more) count width step e row =
    let same : more ≡ start = omega (arith, e) in
    let tail : IsRow ds sizes more count width step = rw same row in
    record { within = omega (arith, tail.within); full = tail.full; some = tail.some; whole = tail.whole; even = tail.even }

-- one more variable in front of one cell, in front of rows where it has one value, in front of a row where it steps over it, and in front of rows where the place stays
even-one : (d s width step : ℕ) (ds sizes values : List ℕ) → product sizes ≡ 1 → 1 ≤ width → ((vs : List ℕ) → AreWithin sizes vs → offset ds vs ≡ along width step (cell_place sizes vs)) → AreWithin (s ∷ sizes) values → offset (d ∷ ds) values ≡ along s d (cell_place (s ∷ sizes) values)
even-one d s width step ds sizes [] one some even h = absurd h
even-one d s width step ds sizes (v ∷ vs) one some even h =
    let c = cell_place sizes vs in
    let first : c ≡ 0 = omega (arith, cell_place-lt sizes vs h.1, one) in
    let none : offset ds vs ≡ 0 = even vs h.1 ∙ ap (λ n. along width step n) first ∙ ap (λ n. step * n) (small-mod 0 width (omega arith)) ∙ omega arith in
    let place : v * product sizes + c ≡ v = ap (λ n. v * n + c) one ∙ omega (arith, first) in
    let same : (v * product sizes + c) % s ≡ v = ap (λ n. n % s) place ∙ small-mod v s h.0 in
    let alone : d * v + 0 ≡ d * v = omega arith in
    ap (λ n. d * v + n) none ∙ alone ∙ ap (λ n. d * n) (sym same)

pub row-one : (d s : ℕ) (ds sizes : List ℕ) (start count width step : ℕ) → start ≡ 0 → count ≡ 1 → 1 ≤ s → IsRow ds sizes start count width step → IsRow (d ∷ ds) (s ∷ sizes) 0 s s d
row-one d s ds sizes zero count width step none one positive row =
    let p : product sizes ≡ 1 = omega (arith, row.full, one) in
    record {
      within = omega arith;
      full = rw p (omega arith);
      some = positive;
      whole = (1, omega arith);
      even = λ values h. even-one d s width step ds sizes values p row.some row.even h;
    }
row-one d s ds sizes (suc start) count width step none one positive row = absurd (omega (arith, none))

even-same : (d s width step : ℕ) (ds sizes values : List ℕ) → s ≡ 1 → ((vs : List ℕ) → AreWithin sizes vs → offset ds vs ≡ along width step (cell_place sizes vs)) → AreWithin (s ∷ sizes) values → offset (d ∷ ds) values ≡ along width step (cell_place (s ∷ sizes) values)
even-same d s width step ds sizes [] one even h = absurd h
even-same d s width step ds sizes (v ∷ vs) one even h =
    let c = cell_place sizes vs in
    let first : v ≡ 0 = omega (arith, h.0, one) in
    let place : v * product sizes + c ≡ c = ap (λ n. n * product sizes + c) first ∙ omega arith in
    let alone : d * 0 + offset ds vs ≡ offset ds vs = omega arith in
    ap (λ n. d * n + offset ds vs) first ∙ alone ∙ even vs h.1 ∙ ap (λ n. along width step n) (sym place)

pub row-same : (d s : ℕ) (ds sizes : List ℕ) (start count width step : ℕ) → start ≡ 0 → s ≡ 1 → IsRow ds sizes start count width step → IsRow (d ∷ ds) (s ∷ sizes) start count width step
row-same d s ds sizes zero count width step none one row = record {
  within = omega arith;
  full = rw one (omega (arith, row.full));
  some = row.some;
  whole = row.whole;
  even = λ values h. even-same d s width step ds sizes values one row.even h;
}
row-same d s ds sizes (suc start) count width step none one row = absurd (omega (arith, none))

more-turn : (step w v c : ℕ) → step * w * v + step * c ≡ step * (v * w + c)
more-turn step w v c = grind arith

even-more : (d s width step : ℕ) (ds sizes values : List ℕ) → width ≡ product sizes → d ≡ step * width → ((vs : List ℕ) → AreWithin sizes vs → offset ds vs ≡ along width step (cell_place sizes vs)) → AreWithin (s ∷ sizes) values → offset (d ∷ ds) values ≡ along (s * width) step (cell_place (s ∷ sizes) values)
even-more d s width step ds sizes [] full e even h = absurd h
even-more d s width step ds sizes (v ∷ vs) full e even h =
    let c = cell_place sizes vs in
    let below : c < width = omega (arith, cell_place-lt sizes vs h.1, full) in
    let inner : offset ds vs ≡ step * c = even vs h.1 ∙ ap (λ n. step * n) (small-mod c width below) in
    let place : v * product sizes + c ≡ v * width + c = ap (λ n. v * n + c) (sym full) in
    let all : v * width + c < s * width = omega (arith, mul-add-lt v width c s h.0 below, mul_comm width s) in
    let same : (v * product sizes + c) % (s * width) ≡ v * width + c = ap (λ n. n % (s * width)) place ∙ small-mod (v * width + c) (s * width) all in
    ap (λ n. n * v + offset ds vs) e ∙ ap (λ n. step * width * v + n) inner ∙ more-turn step width v c ∙ ap (λ n. step * n) (sym same)

pub row-more : (d s : ℕ) (ds sizes : List ℕ) (start count width step : ℕ) → start ≡ 0 → count ≡ width → d ≡ step * count → 1 ≤ s → IsRow ds sizes start count width step → IsRow (d ∷ ds) (s ∷ sizes) 0 (s * count) (s * count) step
row-more d s ds sizes zero count width step none alone e positive row =
    let even : (vs : List ℕ) → AreWithin sizes vs → offset ds vs ≡ along count step (cell_place sizes vs) = λ vs h. row.even vs h ∙ ap (λ n. along n step (cell_place sizes vs)) (sym alone) in
    record {
      within = omega arith;
      full = ap (λ n. s * n) row.full;
      some = omega (arith, mul-le-mul_left s row.some, ap (λ n. s * n) alone);
      whole = (1, omega arith);
      even = λ values h. even-more d s count step ds sizes values row.full e even h;
    }
row-more d s ds sizes (suc start) count width step none alone e positive row = absurd (omega (arith, none))

even-again : (d s count width step rows : ℕ) (ds sizes values : List ℕ) → d ≡ 0 → count ≡ product sizes → count ≡ rows * width → 1 ≤ width → ((vs : List ℕ) → AreWithin sizes vs → offset ds vs ≡ along width step (cell_place sizes vs)) → AreWithin (s ∷ sizes) values → offset (d ∷ ds) values ≡ along width step (cell_place (s ∷ sizes) values)
even-again d s count width step rows ds sizes [] none full whole some even h = absurd h
even-again d s count width step rows ds sizes (v ∷ vs) none full whole some even h =
    let c = cell_place sizes vs in
    let place : v * product sizes + c ≡ v * rows * width + c = ap (λ n. v * n + c) (sym full ∙ whole) ∙ ap (λ n. n + c) (sym (mul_assoc v rows width)) in
    let same : (v * product sizes + c) % width ≡ c % width = ap (λ n. n % width) place ∙ mod-more (v * rows) width c some in
    let alone : 0 * v + offset ds vs ≡ offset ds vs = omega arith in
    ap (λ n. n * v + offset ds vs) none ∙ alone ∙ even vs h.1 ∙ ap (λ n. step * n) (sym same)

pub row-again : (d s : ℕ) (ds sizes : List ℕ) (start count width step : ℕ) → start ≡ 0 → d ≡ 0 → IsRow ds sizes start count width step → IsRow (d ∷ ds) (s ∷ sizes) start (s * count) width step
row-again d s ds sizes zero count width step none still row = record {
  within = omega arith;
  full = ap (λ n. s * n) row.full;
  some = row.some;
  whole = (s * row.whole.0, ap (λ n. s * n) row.whole.1 ∙ sym (mul_assoc s row.whole.0 width));
  even = λ values h. even-again d s count width step row.whole.0 ds sizes values still row.full row.whole.1 row.some row.even h;
}
row-again d s ds sizes (suc start) count width step none still row = absurd (omega (arith, none))

-- rows of all variables, the first of which is told apart
pub row-whole : (t : CostTable) (over rest_over sizes rest : List ℕ) (var size d s start count width step : ℕ) → over ≡ var ∷ rest_over → sizes ≡ size ∷ rest → d ≡ stride t.scope t.sizes var → s ≡ size → IsRow (d ∷ strides t rest_over) (s ∷ rest) start count width step → IsRow (strides t over) sizes start count width step
row-whole t over rest_over sizes rest var size d s start count width step over-is sizes-is d-is s-is row = let whole = rw (d-is, s-is) at row in rw (over-is, sizes-is) whole
