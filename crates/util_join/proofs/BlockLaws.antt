-- Laws of blocks: how a block is summed row by row, and one value of its first variable after the other.
use Rattle.std.proofs.Common.{◌≡◌, ℕ, zero, suc, ◌+◌, ◌*◌, ◌-◌, ◌<◌, ◌≤◌, List, [], ◌∷◌, ◌++◌, length, get_or, take, drop, min, refl, ap, ◌∙◌, subst, inl, inr, arith}
use Rattle.std.specs.List.{All}
use Rattle.std.proofs.Math.Nat.{mul-le-mul_left, mul-le-mul_right, mul_assoc}
use Rattle.std.proofs.lemmas.Bool.{cases_lt}
use Rattle.std.proofs.lemmas.List.{get_or-drop}
use Rattle.std.proofs.lemmas.List.Elements.{All-append, All-take, All-drop}
use Rattle.std.proofs.lemmas.Simd.{get_or-chunk, length-chunk}
use borrow.Rule.Slice.PartMut.{put_mid, mid_of}
use Rattle.dcop_base.specs.Limits.{amount_limit}
use Rattle.dcop_base.specs.Table.{CostTable, product, cell_place, AreWithin}
use Rattle.dcop_base.proofs.TableLaws.{cell_place-lt, capped}
use Rattle.util_kernel.specs.Lanes.{plus}
use Rattle.util_join.specs.Strides.{stride, strides, offset, last_values, along, AreRowSums, IsBlockSum}

-- a block of which the first values of its first variable are done: so many, each with the rows of the other variables
pub record IsPartSum (from ds sizes : List ℕ) (width : ℕ) (far : ℕ → ℕ) (stride done : ℕ) (old new : List ℕ) : Type 0 where
  pub count : length new ≡ length old
  pub small : All (λ n. n ≤ amount_limit) new
  pub cells : (v : ℕ) (values : List ℕ) (p : ℕ) → v < done → AreWithin sizes values → p < width → get_or new ((v * product sizes + cell_place sizes values) * width + p) 0 ≡ plus (get_or old ((v * product sizes + cell_place sizes values) * width + p) 0) (get_or from (stride * v + offset ds values + far p) 0)
  pub rest : (p : ℕ) → done * (product sizes * width) ≤ p → get_or new p 0 ≡ get_or old p 0

-- places behind, in and before a part of a list that was written
pub put-below : (a k : ℕ) (xs ys : List ℕ) (p : ℕ) → p < a → a ≤ length xs → get_or (put_mid a k xs ys) p 0 ≡ get_or xs p 0
put-below zero k xs ys p h l = absurd (omega arith)
put-below (suc a) k [] ys p h l = absurd (omega arith)
put-below (suc a) k (x ∷ xs) ys zero h l = refl
put-below (suc a) k (x ∷ xs) ys (suc p) h l = put-below a k xs ys p (omega arith) (omega arith)

first-of : (ys zs : List ℕ) (j : ℕ) → j < length ys → get_or (ys ++ zs) j 0 ≡ get_or ys j 0
first-of [] zs j h = absurd (omega arith)
first-of (y ∷ ys) zs zero h = refl
first-of (y ∷ ys) zs (suc j) h = first-of ys zs j (omega arith)

pub put-in : (a k : ℕ) (xs ys : List ℕ) (j p : ℕ) → a + j ≡ p → j < length ys → a ≤ length xs → get_or (put_mid a k xs ys) p 0 ≡ get_or ys j 0
put-in zero k xs ys j p e h l =
    let same : p ≡ j = omega (arith, e) in
    ap (λ i. get_or (put_mid zero k xs ys) i 0) same ∙ first-of ys (drop k xs) j h
put-in (suc a) k [] ys j p e h l = absurd (omega arith)
put-in (suc a) k (x ∷ xs) ys j zero e h l = absurd (omega (arith, e))
put-in (suc a) k (x ∷ xs) ys j (suc p) e h l = put-in a k xs ys j p (omega (arith, e)) h (omega arith)

later-of : (ys xs : List ℕ) (k p : ℕ) → length ys ≡ k → k ≤ length xs → k ≤ p → get_or (ys ++ drop k xs) p 0 ≡ get_or xs p 0
later-of [] xs zero p e l h = refl
later-of [] xs (suc k) p e l h = absurd (omega (arith, e))
later-of (y ∷ ys) xs zero p e l h = absurd (omega (arith, e))
later-of (y ∷ ys) [] (suc k) p e l h = absurd (omega arith)
later-of (y ∷ ys) (x ∷ xs) (suc k) zero e l h = absurd (omega arith)
later-of (y ∷ ys) (x ∷ xs) (suc k) (suc p) e l h = later-of ys xs k p (omega (arith, e)) (omega arith) (omega arith)

pub put-above : (a k : ℕ) (xs ys : List ℕ) (p : ℕ) → length ys ≡ k → a + k ≤ length xs → a + k ≤ p → get_or (put_mid a k xs ys) p 0 ≡ get_or xs p 0
put-above zero k xs ys p e l h = later-of ys xs k p e (omega arith) (omega arith)
put-above (suc a) k [] ys p e l h = absurd (omega arith)
put-above (suc a) k (x ∷ xs) ys zero e l h = absurd (omega arith)
put-above (suc a) k (x ∷ xs) ys (suc p) e l h = put-above a k xs ys p e (omega arith) (omega arith)

length-later : (ys xs : List ℕ) (k : ℕ) → length ys ≡ k → k ≤ length xs → length (ys ++ drop k xs) ≡ length xs
length-later [] xs zero e l = refl
length-later [] xs (suc k) e l = absurd (omega (arith, e))
length-later (y ∷ ys) xs zero e l = absurd (omega (arith, e))
length-later (y ∷ ys) [] (suc k) e l = absurd (omega arith)
length-later (y ∷ ys) (x ∷ xs) (suc k) e l = ap suc (length-later ys xs k (omega (arith, e)) (omega arith))

pub length-put : (a k : ℕ) (xs ys : List ℕ) → length ys ≡ k → a + k ≤ length xs → length (put_mid a k xs ys) ≡ length xs
length-put zero k xs ys e l = length-later ys xs k e (omega arith)
length-put (suc a) k [] ys e l = absurd (omega arith)
length-put (suc a) k (x ∷ xs) ys e l = ap suc (length-put a k xs ys e (omega arith))

pub all-put : (P : ℕ → Type 0) (a k : ℕ) (xs ys : List ℕ) → All P xs → All P ys → All P (put_mid a k xs ys)
all-put P a k xs ys hx hy = All-append P (take a xs) (ys ++ drop k (drop a xs)) (All-take P a xs hx) (All-append P ys (drop k (drop a xs)) hy (All-drop P k (drop a xs) (All-drop P a xs hx)))

-- how wide a part is, and that it lies within the block
pub part-width : (v s product width count most block : ℕ) → v < s → count ≡ s * product * width → count ≤ most → block ≡ min (min product most * width) most → (block ≡ product * width) × (v * block + block ≤ count)
part-width v s p w n m b h e fits is =
    let more : v + 1 ≤ s = omega arith in
    let whole = mul-le-mul_right (p * w) more in
    let assoc = mul_assoc s p w in
    let part : v * (p * w) + p * w ≤ n = omega (arith, whole, assoc, e) in
    let all : b ≡ p * w = is ∙ capped p w m ∙ (omega (arith, part)) in
    (all, rw all part)

pub part-room : (sizes rest : List ℕ) (size width k count most found block : ℕ) → sizes ≡ size ∷ rest → count ≡ product sizes * width → k < size → count ≤ most → found ≡ min (product rest) most → block ≡ min (found * width) most → (block ≡ product rest * width) × (k * block + block ≤ count)
part-room sizes rest size width k count most found block cons full h fits found-is block-is =
    part-width k size (product rest) width count most block h (full ∙ ap (λ (xs : List ℕ). product xs * width) cons) fits (block-is ∙ ap (λ n. min (n * width) most) found-is)

-- a value moves the place within the table
inside-cons : (d size k rest far count : ℕ) → k < size → d * (size - 1) + rest + far < count → (d * k ≤ count) × (rest + far < count - d * k)
inside-cons d size k rest far count h inside =
    let most : k ≤ size - 1 = omega arith in
    let less = mul-le-mul_left d most in
    (omega (arith, less, inside), omega (arith, less, inside))

pub inside-more : (t : CostTable) (over rest_over sizes rest : List ℕ) (var size d k far count : ℕ) → over ≡ var ∷ rest_over → sizes ≡ size ∷ rest → d ≡ stride t.scope t.sizes var → k < size → offset (strides t over) (last_values sizes) + far < count → (d * k ≤ count) × (offset (strides t rest_over) (last_values rest) + far < count - d * k)
inside-more t over rest_over sizes rest var size d k far count over-is sizes-is d-is h inside =
    let both = rw (over-is, sizes-is, ← d-is) at inside in
    inside-cons d size k (offset (strides t rest_over) (last_values rest)) far count h both

-- a place in the rows of a value, as one in the part of that value
place-in-part : (v p c w j : ℕ) → (v * p + c) * w + j ≡ v * (p * w) + (c * w + j)
place-in-part v p c w j = grind arith

part-below : (c p w j : ℕ) → c < p → j < w → c * w + j < p * w
part-below c p w j hc hj =
    let more : c + 1 ≤ p = omega arith in
    omega (arith, mul-le-mul_right w more)

-- the rows of the value that is added, and one more value
part-now : (from ds sizes : List ℕ) (width : ℕ) (far : ℕ → ℕ) (stride v at size : ℕ) (old now part values : List ℕ) (p : ℕ) → at ≡ v * (product sizes * width) → size ≡ product sizes * width → at + size ≤ length now → IsPartSum from ds sizes width far stride v old now → IsBlockSum (drop (stride * v) from) ds sizes width far (mid_of at size now) part → length part ≡ size → AreWithin sizes values → p < width → get_or (put_mid at size now part) ((v * product sizes + cell_place sizes values) * width + p) 0 ≡ plus (get_or old ((v * product sizes + cell_place sizes values) * width + p) 0) (get_or from (stride * v + offset ds values + far p) 0)
part-now from ds sizes width far stride v at size old now part values p at-is size-is fits so_far sum count within below =
    let place = cell_place sizes values * width + p in
    let q = (v * product sizes + cell_place sizes values) * width + p in
    let away = offset ds values + far p in
    let inside : place < product sizes * width = part-below (cell_place sizes values) (product sizes) width p (cell_place-lt sizes values within) below in
    let here : at + place ≡ q = omega (arith, at-is, place-in-part v (product sizes) (cell_place sizes values) width p) in
    let there : stride * v + away ≡ stride * v + offset ds values + far p = omega arith in
    let before : get_or (mid_of at size now) place 0 ≡ get_or old q 0 =
    get_or-chunk at size now place 0 (omega (arith, inside, size-is)) ∙ ap (λ i. get_or now i 0) here ∙ so_far.rest q (omega (arith, here, at-is)) in
    let added : get_or (drop (stride * v) from) away 0 ≡ get_or from (stride * v + offset ds values + far p) 0 =
    get_or-drop (stride * v) from away 0 ∙ ap (λ i. get_or from i 0) there in
    put-in at size now part place q here (omega (arith, count, inside, size-is)) (omega arith)
    ∙ sum.cells values p within below ∙ ap (λ a. plus a (get_or (drop (stride * v) from) away 0)) before ∙ ap (λ b. plus (get_or old q 0) b) added

pub part-more : (from ds sizes : List ℕ) (width : ℕ) (far : ℕ → ℕ) (stride v at size : ℕ) (old now part : List ℕ) → at ≡ v * (product sizes * width) → size ≡ product sizes * width → at + size ≤ length old → IsPartSum from ds sizes width far stride v old now → IsBlockSum (drop (stride * v) from) ds sizes width far (mid_of at size now) part → IsPartSum from ds sizes width far stride (v + 1) old (put_mid at size now part)
part-more from ds sizes width far stride v at size old now part at-is size-is room so_far sum =
    let fits : at + size ≤ length now = omega (arith, so_far.count) in
    let count : length part ≡ size = sum.counted ∙ length-chunk at size now fits in
    let next : (v + 1) * (product sizes * width) ≡ at + size = omega (arith, at-is, size-is) in
    record {
      count = length-put at size now part count fits ∙ so_far.count;
      small = all-put (λ n. n ≤ amount_limit) at size now part so_far.small sum.small;
      rest = λ p h. put-above at size now part p count fits (omega (arith, next)) ∙ so_far.rest p (omega (arith, next, at-is));
      cells = λ u values p h within below. elim (cases_lt u v) [
        | inl earlier ↦ (
            let more : u + 1 ≤ v = omega arith in
            let inside = part-below (cell_place sizes values) (product sizes) width p (cell_place-lt sizes values within) below in
            let split = place-in-part u (product sizes) (cell_place sizes values) width p in
            let before : (u * product sizes + cell_place sizes values) * width + p < at = omega (arith, mul-le-mul_right (product sizes * width) more, split, inside, at-is) in
            put-below at size now part ((u * product sizes + cell_place sizes values) * width + p) before (omega arith) ∙ so_far.cells u values p earlier within below)
        | inr later ↦ (
            let same : v ≡ u = omega arith in
            subst (λ n. get_or (put_mid at size now part) ((n * product sizes + cell_place sizes values) * width + p) 0 ≡ plus (get_or old ((n * product sizes + cell_place sizes values) * width + p) 0) (get_or from (stride * n + offset ds values + far p) 0)) same
            (part-now from ds sizes width far stride v at size old now part values p at-is size-is fits so_far sum count within below))
      ];
    }

-- no value done, and all
pub part-none : (from ds sizes : List ℕ) (width : ℕ) (far : ℕ → ℕ) (stride : ℕ) (old : List ℕ) → All (λ n. n ≤ amount_limit) old → IsPartSum from ds sizes width far stride 0 old old
part-none from ds sizes width far stride old small = record {
  count = refl;
  small = small;
  cells = λ v values p h within below. absurd (omega arith);
  rest = λ p h. refl;
}

whole-cell : (from ds sizes : List ℕ) (width : ℕ) (far : ℕ → ℕ) (stride size : ℕ) (old new values : List ℕ) (p : ℕ) → IsPartSum from ds sizes width far stride size old new → AreWithin (size ∷ sizes) values → p < width → get_or new (cell_place (size ∷ sizes) values * width + p) 0 ≡ plus (get_or old (cell_place (size ∷ sizes) values * width + p) 0) (get_or from (offset (stride ∷ ds) values + far p) 0)
whole-cell from ds sizes width far stride size old new [] p part within below = absurd within
whole-cell from ds sizes width far stride size old new (v ∷ vs) p part within below = part.cells v vs p within.0 within.1 below

pub part-whole : (from ds sizes : List ℕ) (width : ℕ) (far : ℕ → ℕ) (stride size done : ℕ) (old new : List ℕ) → done ≡ size → IsPartSum from ds sizes width far stride done old new → IsBlockSum from (stride ∷ ds) (size ∷ sizes) width far old new
part-whole from ds sizes width far stride size done old new e part =
    let all = subst (λ n. IsPartSum from ds sizes width far stride n old new) e part in
    record { counted = part.count; small = part.small; cells = λ values p within below. whole-cell from ds sizes width far stride size old new values p all within below }

-- rows as a block of no variable
row-cell : (from values : List ℕ) (count width step : ℕ) (old new : List ℕ) (p : ℕ) → length old ≡ count → AreRowSums from width step old new → p < count → get_or new (0 * count + p) 0 ≡ plus (get_or old (0 * count + p) 0) (get_or from (0 + along width step p) 0)
row-cell from values count width step old new p e rows below =
    let place : p ≡ 0 * count + p = omega arith in
    let away : along width step p ≡ 0 + along width step p = omega arith in
    subst (λ i. get_or new i 0 ≡ plus (get_or old i 0) (get_or from (0 + along width step p) 0)) place
    (subst (λ i. get_or new p 0 ≡ plus (get_or old p 0) (get_or from i 0)) away (rows.cells p (omega (arith, e))))

pub row-block : (from : List ℕ) (count width step : ℕ) (old new : List ℕ) → length old ≡ count → AreRowSums from width step old new → IsBlockSum from [] [] count (along width step) old new
row-block from count width step old new e rows = record { counted = rows.count; small = rows.small; cells = λ values p within below. row-cell from values count width step old new p e rows below }
