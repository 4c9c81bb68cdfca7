-- Laws of sums that are capped after they were made, where the bits that they have tell that one may be above the cap.
use Rattle.std.proofs.Common.{◌≡◌, ℕ, zero, suc, ◌+◌, ◌≤◌, List, [], ◌∷◌, ◌++◌, length, take, map, min, replicate, bit_or, refl, sym, ap, ◌∙◌, subst, arith}
use Rattle.std.specs.List.{All}
use Rattle.std.proofs.lemmas.Nat.{le_or_l, le_or_r}
use Rattle.std.proofs.lemmas.Simd.{length-replicate, take_more_put_chunk}
use Rattle.std.proofs.lemmas.List.Elements.{All-nil, All-cons, All-head, All-tail, All-append}
use lib.Lanes.{zip2, put_chunk, fold_l}
use Rattle.util_kernel.specs.Lanes.{plus}
use Rattle.util_kernel.proofs.LaneLaws.{combined}
use Rattle.dcop_base.specs.Limits.{amount_limit}

-- the sum of two amounts, without a cap
abbrev pub total : ℕ → ℕ → ℕ
total a b = a + b

-- the bits of all lanes hold those of each
fold-above : (a : ℕ) (xs : List ℕ) → a ≤ fold_l bit_or a xs
fold-above a [] = omega arith
fold-above a (x ∷ xs) = omega (arith, le_or_l a x, fold-above (bit_or a x) xs)

pub fold-all : (a : ℕ) (xs : List ℕ) → All (λ x. x ≤ fold_l bit_or a xs) xs
fold-all a [] = All-nil (λ x. x ≤ a)
fold-all a (x ∷ xs) = All-cons (λ y. y ≤ fold_l bit_or (bit_or a x) xs) x xs (omega (arith, le_or_r a x, fold-above (bit_or a x) xs)) (fold-all (bit_or a x) xs)

-- bits that hold those of all these amounts: no amount is above a bound of the bits
pub record IsGathered (bits done : List ℕ) : Type 0 where
  pub lanes : length bits ≡ 4
  pub bound : (m : ℕ) → All (λ x. x ≤ m) bits → All (λ x. x ≤ m) done

pub gathered-none : (n : ℕ) → IsGathered (replicate 4 n) []
gathered-none n = record { lanes = length-replicate 4 n; bound = λ m all. All-nil (λ x. x ≤ m) }

either : (m : ℕ) (xs ys : List ℕ) → length xs ≡ length ys → All (λ x. x ≤ m) (zip2 bit_or xs ys) → All (λ x. x ≤ m) xs × All (λ x. x ≤ m) ys
either m [] [] e all = (All-nil (λ x. x ≤ m), All-nil (λ x. x ≤ m))
either m [] (y ∷ ys) e all = absurd (omega (arith, e))
either m (x ∷ xs) [] e all = absurd (omega (arith, e))
either m (x ∷ xs) (y ∷ ys) e all =
    let head : bit_or x y ≤ m = All-head (λ x. x ≤ m) (bit_or x y) (zip2 bit_or xs ys) all in
    let tail = either m xs ys (omega (arith, e)) (All-tail (λ x. x ≤ m) (bit_or x y) (zip2 bit_or xs ys) all) in
    (All-cons (λ x. x ≤ m) x xs (omega (arith, head, le_or_l x y)) tail.0, All-cons (λ x. x ≤ m) y ys (omega (arith, head, le_or_r x y)) tail.1)

pub length-both : (f : ℕ → ℕ → ℕ) (xs ys : List ℕ) → length xs ≡ length ys → length (zip2 f xs ys) ≡ length xs
length-both f [] ys e = refl
length-both f (x ∷ xs) [] e = absurd (omega (arith, e))
length-both f (x ∷ xs) (y ∷ ys) e = ap suc (length-both f xs ys (omega (arith, e)))

-- one more block
pub gathered-more : (bits next sums now new : List ℕ) (at m : ℕ) → IsGathered bits (take at now) → length sums ≡ 4 → next ≡ zip2 bit_or bits sums → new ≡ put_chunk at now sums → m ≡ at + 4 → m ≤ length now → IsGathered next (take m new)
gathered-more bits next sums now new at m so_far four is stored em room =
    let same : length bits ≡ length sums = so_far.lanes ∙ sym four in
    let done : take m new ≡ take at now ++ sums = ap (λ (xs : List ℕ). take m xs) stored ∙ take_more_put_chunk at now sums m (omega (arith, em, four)) room in
    record {
      lanes = ap (λ (xs : List ℕ). length xs) is ∙ length-both bit_or bits sums same ∙ so_far.lanes;
      bound = λ b all.
          let parts = either b bits sums same (subst (λ (xs : List ℕ). All (λ x. x ≤ b) xs) is all) in
          subst (λ (xs : List ℕ). All (λ x. x ≤ b) xs) (sym done) (All-append (λ x. x ≤ b) (take at now) sums (so_far.bound b parts.0) parts.1);
    }

-- sums that are capped after, and such as need no cap
cap-within : (xs : List ℕ) → All (λ x. x ≤ amount_limit) xs → map (λ x. min x amount_limit) xs ≡ xs
cap-within [] all = refl
cap-within (x ∷ xs) all =
    let head : x ≤ amount_limit = All-head (λ x. x ≤ amount_limit) x xs all in
    let same : min x amount_limit ≡ x = omega (arith, head) in
    let tail = cap-within xs (All-tail (λ x. x ≤ amount_limit) x xs all) in
    cc

pub capped-after : (k : ℕ) (xs ys : List ℕ) → All (λ x. x ≤ amount_limit) xs → map (λ x. min x amount_limit) (combined total k xs ys) ≡ combined plus k xs ys
capped-after zero xs ys all = cap-within xs all
capped-after (suc k) [] ys all = refl
capped-after (suc k) (x ∷ xs) [] all = cap-within (x ∷ xs) all
capped-after (suc k) (x ∷ xs) (y ∷ ys) all = ap (λ zs. plus x y ∷ zs) (capped-after k xs ys (All-tail (λ x. x ≤ amount_limit) x xs all))

pub needs-no-cap : (k : ℕ) (xs ys : List ℕ) → All (λ x. x ≤ amount_limit) (take k (combined total k xs ys)) → combined total k xs ys ≡ combined plus k xs ys
needs-no-cap zero xs ys all = refl
needs-no-cap (suc k) [] ys all = refl
needs-no-cap (suc k) (x ∷ xs) [] all = refl
needs-no-cap (suc k) (x ∷ xs) (y ∷ ys) all =
    let rest = take k (combined total k xs ys) in
    let head : x + y ≤ amount_limit = All-head (λ x. x ≤ amount_limit) (x + y) rest all in
    let same : x + y ≡ plus x y = omega (arith, head) in
    let tail = needs-no-cap k xs ys (All-tail (λ x. x ≤ amount_limit) (x + y) rest all) in
    cc

-- the cap of all amounts of a list, one after the other
pub capped-all : (xs : List ℕ) → zip2 (λ (a b : ℕ). min a amount_limit) xs xs ≡ map (λ x. min x amount_limit) xs
capped-all [] = refl
capped-all (x ∷ xs) = ap (λ zs. min x amount_limit ∷ zs) (capped-all xs)

-- the end of a loop over blocks, where a cap was needed and where not
pub capped-so-far : (k : ℕ) (old now new from : List ℕ) → now ≡ combined total k old from → new ≡ map (λ x. min x amount_limit) now → All (λ x. x ≤ amount_limit) old → new ≡ combined plus k old from
capped-so-far k old now new from so_far is all = is ∙ ap (λ (xs : List ℕ). map (λ x. min x amount_limit) xs) so_far ∙ capped-after k old from all

pub gathered-so-far : (bits : List ℕ) (k : ℕ) (old now new from : List ℕ) → now ≡ combined total k old from → new ≡ now → IsGathered bits (take k now) → All (λ x. x ≤ amount_limit) bits → new ≡ combined plus k old from
gathered-so-far bits k old now new from so_far is gathered all =
    is ∙ so_far ∙ needs-no-cap k old from (subst (λ (xs : List ℕ). All (λ x. x ≤ amount_limit) (take k xs)) so_far (gathered.bound amount_limit all))
