-- The greatest of numbers.
use Rattle.std.proofs.Common.{◌≡◌, ℕ, zero, suc, ◌≤◌, max, List, [], ◌∷◌, ◌++◌, take, drop, replicate, ◌∙◌, arith}
use Rattle.std.specs.List.{fold, flat_map}
use Rattle.std.proofs.lemmas.List.Sums.{fold-append}

abbrev pub greatest : List ℕ → ℕ
greatest ns = fold max 0 ns

pub from_first : (m : ℕ) (ns : List ℕ) → fold max m ns ≡ max m (greatest ns)
from_first m [] = omega arith
from_first m (n ∷ ns) =
    let a = from_first (max m n) ns in
    let b = from_first (max 0 n) ns in
    omega (arith, a, b)

pub greatest_append : (ms ns : List ℕ) → greatest (ms ++ ns) ≡ max (greatest ms) (greatest ns)
greatest_append ms ns = fold-append max 0 ms ns ∙ from_first (greatest ms) ns

pub greatest_cons : (n : ℕ) (ns : List ℕ) → greatest (n ∷ ns) ≡ max n (greatest ns)
greatest_cons n ns = let a = from_first (max 0 n) ns in omega (arith, a)

pub greatest_take : (k : ℕ) (ns : List ℕ) → greatest (take k ns) ≤ greatest ns
greatest_take zero ns = omega arith
greatest_take (suc k) [] = omega arith
greatest_take (suc k) (n ∷ ns) =
    let a = greatest_cons n (take k ns) in
    let b = greatest_cons n ns in
    let c = greatest_take k ns in
    omega (arith, a, b, c)

pub greatest_drop : (k : ℕ) (ns : List ℕ) → greatest (drop k ns) ≤ greatest ns
greatest_drop zero ns = omega arith
greatest_drop (suc k) [] = omega arith
greatest_drop (suc k) (n ∷ ns) =
    let b = greatest_cons n ns in
    let c = greatest_drop k ns in
    omega (arith, b, c)

pub greatest_replicate : (k n : ℕ) → greatest (replicate k n) ≤ n
greatest_replicate zero n = omega arith
greatest_replicate (suc k) n =
    let a = greatest_cons n (replicate k n) in
    let b = greatest_replicate k n in
    omega (arith, a, b)

pub greatest_all : {X : Type 0} (f : X → List ℕ) (m : ℕ) (xs : List X) → ((x : X) → greatest (f x) ≤ m) → greatest (flat_map f xs) ≤ m
greatest_all f m [] each = omega arith
greatest_all f m (x ∷ xs) each =
    let a = greatest_append (f x) (flat_map f xs) in
    let b = each x in
    let c = greatest_all f m xs each in
    omega (arith, a, b, c)
