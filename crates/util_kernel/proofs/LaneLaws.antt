-- Laws of lanes: what the operators on blocks give, and how blocks make a whole.
use Rattle.std.proofs.Common.{◌≡◌, ℕ, zero, suc, ◌+◌, ◌-◌, ◌%◌, ◌^◌, ◌<◌, ◌≤◌, Bool, cond, ltb, List, [], ◌∷◌, length, get_or, set, take, drop, map, min, replicate, refl, sym, ap, ◌∙◌, subst, inl, inr, arith}
use Rattle.std.specs.List.{All}
use Rattle.std.proofs.lemmas.Simd.{tops_compared, zip2_splat, length-chunk, get_or-chunk}
use Rattle.std.proofs.lemmas.Bool.{cases_Bool, ltb-true, ltb-false}
use Rattle.std.proofs.lemmas.List.Elements.{All-head, All-tail}
use Rattle.std.proofs.lemmas.List.{drop-replicate}
use lib.Lanes.{zip2, sel_l, chunk, put_chunk, top}
use mir.Syntax.{w64}
use Rattle.util_kernel.specs.Lanes.{plus, sums, leasts, raised}
use Rattle.dcop_base.specs.Limits.{amount_limit}

-- the lesser of two, chosen by a test
chosen : (x y : ℕ) → cond (ltb x y) x y ≡ min x y
chosen x y = elim (cases_Bool (ltb x y)) [
  | inl t ↦ let lt : x < y = ltb-true x y t in let e : min x y ≡ x = omega arith in rw t (sym e)
  | inr f ↦ let le : y ≤ x = ltb-false x y f in let e : min x y ≡ y = omega arith in rw f (sym e)
]

selected : (xs ys : List ℕ) → sel_l (zip2 ltb xs ys) xs ys ≡ zip2 min xs ys
selected [] ys = refl
selected (x ∷ xs) [] = refl
selected (x ∷ xs) (y ∷ ys) = let head = chosen x y in let tail = selected xs ys in cc

-- what the lesser of two blocks is
pub least-block : (xs ys : List ℕ) → sel_l (map (top 63) (zip2 (λ (a b : ℕ). cond (ltb a b) (2 ^ 64 - 1) 0) xs ys)) xs ys ≡ leasts xs ys
least-block xs ys = ap (λ (bs : List Bool). sel_l bs xs ys) (tops_compared w64 ltb xs ys) ∙ selected xs ys

-- the sums of two blocks, of which none wraps
sum-wraps : (x y : ℕ) → x ≤ amount_limit → y ≤ amount_limit → (x + y) % 2 ^ 64 ≡ x + y
sum-wraps x y hx hy = omega arith

pub sum-block : (xs ys : List ℕ) → All (λ x. x ≤ amount_limit) xs → All (λ y. y ≤ amount_limit) ys → zip2 (λ (a b : ℕ). (a + b) % 2 ^ 64) xs ys ≡ zip2 (λ (a b : ℕ). a + b) xs ys
sum-block [] ys hx hy = refl
sum-block (x ∷ xs) [] hx hy = refl
sum-block (x ∷ xs) (y ∷ ys) hx hy =
    let head = sum-wraps x y (All-head (λ x. x ≤ amount_limit) x xs hx) (All-head (λ x. x ≤ amount_limit) y ys hy) in
    let tail = sum-block xs ys (All-tail (λ x. x ≤ amount_limit) x xs hx) (All-tail (λ x. x ≤ amount_limit) y ys hy) in
    cc

-- a list of which the first amounts are combined with those of another, and the rest are not
abbrev pub combined : (ℕ → ℕ → ℕ) → ℕ → List ℕ → List ℕ → List ℕ
combined f zero xs ys = xs
combined f (suc k) [] ys = []
combined f (suc k) (x ∷ xs) [] = x ∷ xs
combined f (suc k) (x ∷ xs) (y ∷ ys) = f x y ∷ combined f k xs ys

pub length-combined : (f : ℕ → ℕ → ℕ) (k : ℕ) (xs ys : List ℕ) → length (combined f k xs ys) ≡ length xs
length-combined f zero xs ys = refl
length-combined f (suc k) [] ys = refl
length-combined f (suc k) (x ∷ xs) [] = refl
length-combined f (suc k) (x ∷ xs) (y ∷ ys) = ap suc (length-combined f k xs ys)

-- all are combined where the number is the length
pub combined-all : (f : ℕ → ℕ → ℕ) (k : ℕ) (xs ys : List ℕ) → length xs ≡ length ys → length xs ≤ k → combined f k xs ys ≡ zip2 f xs ys
combined-all f zero [] ys e h = refl
combined-all f zero (x ∷ xs) ys e h = absurd (omega arith)
combined-all f (suc k) [] ys e h = refl
combined-all f (suc k) (x ∷ xs) [] e h = absurd (omega (arith, e))
combined-all f (suc k) (x ∷ xs) (y ∷ ys) e h = ap (λ zs. f x y ∷ zs) (combined-all f k xs ys (omega (arith, e)) (omega arith))

-- from the number on nothing is changed
pub drop-combined : (f : ℕ → ℕ → ℕ) (k : ℕ) (xs ys : List ℕ) → drop k (combined f k xs ys) ≡ drop k xs
drop-combined f zero xs ys = refl
drop-combined f (suc k) [] ys = refl
drop-combined f (suc k) (x ∷ xs) [] = refl
drop-combined f (suc k) (x ∷ xs) (y ∷ ys) = drop-combined f k xs ys

-- a first block that is combined
first-block : (f : ℕ → ℕ → ℕ) (n : ℕ) (xs ys : List ℕ) → n ≤ length xs → length xs ≡ length ys → put_chunk zero xs (zip2 f (take n xs) (take n ys)) ≡ combined f n xs ys
first-block f zero [] ys h e = refl
first-block f zero (x ∷ xs) ys h e = refl
first-block f (suc n) [] ys h e = absurd (omega arith)
first-block f (suc n) (x ∷ xs) [] h e = absurd (omega (arith, e))
first-block f (suc n) (x ∷ xs) (y ∷ ys) h e = ap (λ zs. f x y ∷ zs) (first-block f n xs ys (omega arith) (omega (arith, e)))

-- one more block that is combined
pub combined-block : (f : ℕ → ℕ → ℕ) (n k m : ℕ) (xs ys : List ℕ) → k + n ≡ m → m ≤ length xs → length xs ≡ length ys → put_chunk k (combined f k xs ys) (zip2 f (chunk k n (combined f k xs ys)) (chunk k n ys)) ≡ combined f m xs ys
combined-block f n zero m xs ys em h e =
    let same : n ≡ m = omega (arith, em) in
    first-block f n xs ys (omega arith) e ∙ ap (λ i. combined f i xs ys) same
combined-block f n (suc k) zero xs ys em h e = absurd (omega (arith, em))
combined-block f n (suc k) (suc m) [] ys em h e = absurd (omega arith)
combined-block f n (suc k) (suc m) (x ∷ xs) [] em h e = absurd (omega (arith, e))
combined-block f n (suc k) (suc m) (x ∷ xs) (y ∷ ys) em h e = ap (λ zs. f x y ∷ zs) (combined-block f n k m xs ys (omega (arith, em)) (omega arith) (omega (arith, e)))

-- one more amount that is combined
pub combined-one : (f : ℕ → ℕ → ℕ) (k : ℕ) (xs ys : List ℕ) (c d : ℕ) → k < length xs → length xs ≡ length ys → set (combined f k xs ys) k (f (get_or (combined f k xs ys) k c) (get_or ys k d)) ≡ combined f (k + 1) xs ys
combined-one f zero [] ys c d h e = absurd (omega arith)
combined-one f zero (x ∷ xs) [] c d h e = absurd (omega (arith, e))
combined-one f zero (x ∷ xs) (y ∷ ys) c d h e = refl
combined-one f (suc k) [] ys c d h e = absurd (omega arith)
combined-one f (suc k) (x ∷ xs) [] c d h e = absurd (omega (arith, e))
combined-one f (suc k) (x ∷ xs) (y ∷ ys) c d h e =
    let next : suc k + 1 ≡ suc (k + 1) = omega arith in
    ap (λ zs. f x y ∷ zs) (combined-one f k xs ys c d (omega arith) (omega (arith, e))) ∙ ap (λ i. combined f i (x ∷ xs) (y ∷ ys)) (sym next)

-- what holds of all amounts holds of those that are not combined yet
pub chunk-combined : (f : ℕ → ℕ → ℕ) (k n : ℕ) (xs ys : List ℕ) → chunk k n (combined f k xs ys) ≡ chunk k n xs
chunk-combined f k n xs ys = ap (λ zs. take n zs) (drop-combined f k xs ys)

pub All-chunk : (P : ℕ → Type 0) (k n : ℕ) (xs : List ℕ) → k + n ≤ length xs → All P xs → All P (chunk k n xs)
All-chunk P k n xs h all j d lt =
    let below : j < n = omega (arith, length-chunk k n xs h) in
    subst P (sym (get_or-chunk k n xs j d below)) (all (k + j) d (omega arith))

-- the block that is still to be combined, where all amounts of a list are within a limit
pub All-chunk-combined : (f : ℕ → ℕ → ℕ) (m k n : ℕ) (xs ys : List ℕ) → k + n ≤ length xs → All (λ x. x ≤ m) xs → All (λ x. x ≤ m) (chunk k n (combined f k xs ys))
All-chunk-combined f m k n xs ys h all = subst (λ (zs : List ℕ). All (λ x. x ≤ m) zs) (sym (chunk-combined f k n xs ys)) (All-chunk (λ x. x ≤ m) k n xs h all)

-- an amount that is not combined yet
pub get_or-combined : (f : ℕ → ℕ → ℕ) (k : ℕ) (xs ys : List ℕ) (d : ℕ) → get_or (combined f k xs ys) k d ≡ get_or xs k d
get_or-combined f zero xs ys d = refl
get_or-combined f (suc k) [] ys d = refl
get_or-combined f (suc k) (x ∷ xs) [] d = refl
get_or-combined f (suc k) (x ∷ xs) (y ∷ ys) d = get_or-combined f k xs ys d

-- a sum with one amount is a sum with as many of it
pub raised-is : (cell : ℕ) (xs : List ℕ) (n : ℕ) → length xs ≡ n → sums xs (replicate n cell) ≡ raised xs cell
raised-is cell xs n e = zip2_splat plus xs n cell e

take-replicate_more : (cell n m : ℕ) → n ≤ m → take n (replicate m cell) ≡ replicate n cell
take-replicate_more cell zero m h = refl
take-replicate_more cell (suc n) zero h = absurd (omega arith)
take-replicate_more cell (suc n) (suc m) h = ap (λ xs. cell ∷ xs) (take-replicate_more cell n m (omega arith))

pub chunk-replicate : (cell k n m : ℕ) → k + n ≤ m → chunk k n (replicate m cell) ≡ replicate n cell
chunk-replicate cell k n m h = ap (λ (xs : List ℕ). take n xs) (drop-replicate k m cell) ∙ take-replicate_more cell n (m - k) (omega arith)

-- a turn of a loop over blocks
pub block-turn : (f : ℕ → ℕ → ℕ) (n k m : ℕ) (old now new from : List ℕ) → now ≡ combined f k old from → new ≡ put_chunk k now (zip2 f (chunk k n now) (chunk k n from)) → k + n ≡ m → m ≤ length old → length old ≡ length from → new ≡ combined f m old from
block-turn f n k m old now new from so_far step em h e =
    step ∙ ap (λ (xs : List ℕ). put_chunk k xs (zip2 f (chunk k n xs) (chunk k n from))) so_far ∙ combined-block f n k m old from em h e

-- a turn of a loop over single amounts
pub one-turn : (f : ℕ → ℕ → ℕ) (k v : ℕ) (old now from : List ℕ) → now ≡ combined f k old from → v ≡ f (get_or now k 0) (get_or from k 0) → k < length old → length old ≡ length from → set now k v ≡ combined f (k + 1) old from
one-turn f k v old now from so_far is h e =
    ap (λ (w : ℕ). set now k w) is ∙ ap (λ (xs : List ℕ). set xs k (f (get_or xs k 0) (get_or from k 0))) so_far ∙ combined-one f k old from 0 0 h e

-- the end of such a loop
pub all-turns : (f : ℕ → ℕ → ℕ) (k : ℕ) (old now from : List ℕ) → now ≡ combined f k old from → length old ≤ k → length old ≡ length from → now ≡ zip2 f old from
all-turns f k old now from so_far h e = so_far ∙ combined-all f k old from e h

-- the next amount and the next block are as they were
pub next-amount : (f : ℕ → ℕ → ℕ) (m k : ℕ) (old now from : List ℕ) → now ≡ combined f k old from → k < length old → All (λ x. x ≤ m) old → get_or now k 0 ≤ m
next-amount f m k old now from so_far h all =
    subst (λ x. x ≤ m) (sym (ap (λ (xs : List ℕ). get_or xs k 0) so_far ∙ get_or-combined f k old from 0)) (all k 0 h)

pub next-block : (f : ℕ → ℕ → ℕ) (m k n : ℕ) (old now from : List ℕ) → now ≡ combined f k old from → k + n ≤ length old → All (λ x. x ≤ m) old → All (λ x. x ≤ m) (chunk k n now)
next-block f m k n old now from so_far h all = subst (λ (xs : List ℕ). All (λ x. x ≤ m) (chunk k n xs)) (sym so_far) (All-chunk-combined f m k n old from h all)
