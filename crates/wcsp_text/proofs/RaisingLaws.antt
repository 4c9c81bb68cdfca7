-- Cells as they are raised, one after another.
use Rattle.std.proofs.Common.{◌≡◌, ℕ, zero, suc, ◌+◌, ◌<◌, List, [], ◌∷◌, ◌++◌, length, get_or, set, take, drop, map, refl, ap, add-one, arith}

raise-at : (f : ℕ → ℕ) (old : List ℕ) (k : ℕ) → k < length old → set (map f (take k old) ++ drop k old) k (f (get_or (map f (take k old) ++ drop k old) k 0)) ≡ map f (take (suc k) old) ++ drop (suc k) old
raise-at f [] k lt = absurd (omega arith)
raise-at f (c ∷ cs) zero lt = refl
raise-at f (c ∷ cs) (suc k) lt = ap (λ (xs : List ℕ). f c ∷ xs) (raise-at f cs k (omega arith))

-- a further cell
pub raise-more : (f : ℕ → ℕ) (old now : List ℕ) (k cell : ℕ) → k < length old → now ≡ map f (take k old) ++ drop k old → cell ≡ f (get_or now k 0) → set now k cell ≡ map f (take (k + 1) old) ++ drop (k + 1) old
raise-more f old now k cell lt is at = rw (at, is, add-one) (raise-at f old k lt)
