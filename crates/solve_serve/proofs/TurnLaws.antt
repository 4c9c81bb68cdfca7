-- Calls with the first element and with those after it are calls with all.
use Rattle.std.proofs.Common.{◌≡◌, ℕ, zero, suc, ◌+◌, ◌<◌, List, [], ◌∷◌, ◌++◌, length, refl, sym, ap, subst, arith}
use Rattle.std.specs.Prelude.{slice_index_or}
use Rattle.std.specs.Fork.{AcceptsAt, ChangesAt, AcceptsEach, ChangesEach}
use Rattle.solve_serve.specs.Turns.{AcceptsFrom, ChangesFrom}
use denote.Ref.{MutBor}
use denote.Param.Members.{Shared}

module _ {F T : Type 0} (g : Shared F (ℕ × (MutBor T × Unit {0})) ((Unit {0}) × (MutBor T × Unit {0}))) (f : F) where
  -- calls that are allowed at each place are allowed from the first place on
  pub accepts_all : (xs : List T) → AcceptsEach g f xs → AcceptsFrom g f 0 xs
  accepts_all xs h = record { each = λ i k p at lt now. let same : i ≡ k = omega (arith, at) in subst (λ (n : ℕ). g.pre f (n, (p, tt))) (sym same) (h k p lt now) }

  pub accepts_first : (place : ℕ) (all : List T) (x : T) (xs : List T) → all ≡ x ∷ xs → AcceptsFrom g f place all → AcceptsAt g f place x
  accepts_first place all x xs is h p now =
      (subst (λ (ys : List T). AcceptsFrom g f place ys) is h).each place 0 p (omega arith) (omega arith) now

  accepts_one : (place : ℕ) (x : T) → AcceptsAt g f place x → (i k : ℕ) (p : MutBor T) → i ≡ place + k → k < 1 → p.now ≡ slice_index_or (x ∷ []) k p.now → g.pre f (i, (p, tt))
  accepts_one place x h i zero p at lt now = let same : i ≡ place = omega (arith, at) in subst (λ (n : ℕ). g.pre f (n, (p, tt))) (sym same) (h p now)
  accepts_one place x h i (suc k) p at lt now = absurd (omega (arith, lt))

  -- calls that are allowed with all elements are allowed with the first alone, and with those after
  -- it
  pub accepts_own : (place : ℕ) (all own rest : List T) → all ≡ own ++ rest → length own ≡ 1 → AcceptsFrom g f place all → AcceptsFrom g f place own
  accepts_own place all [] rest is one h = absurd (omega (arith, one))
  accepts_own place all (x ∷ []) rest is one h = record { each = accepts_one place x (accepts_first place all x rest is h) }
  accepts_own place all (x ∷ y ∷ ys) rest is one h = absurd (omega (arith, one))

  pub accepts_rest : (place : ℕ) (all own rest : List T) → all ≡ own ++ rest → length own ≡ 1 → AcceptsFrom g f place all → AcceptsFrom g f (place + 1) rest
  accepts_rest place all [] rest is one h = absurd (omega (arith, one))
  accepts_rest place all (x ∷ []) rest is one h = record {
    each = λ i k p at lt now.
        (subst (λ (ys : List T). AcceptsFrom g f place ys) is h).each i (suc k) p (omega (arith, at)) (omega (arith, lt)) now;
  }
  accepts_rest place all (x ∷ y ∷ ys) rest is one h = absurd (omega (arith, one))

  change_each : (place : ℕ) (x y : T) (xs ys : List T) → ChangesAt g f place x y → ChangesFrom g f (place + 1) xs ys → (i k : ℕ) (d : T) → i ≡ place + k → k < length (x ∷ xs)
      → ChangesAt g f i (slice_index_or (x ∷ xs) k d) (slice_index_or (y ∷ ys) k d)
  change_each place x y xs ys one rest i zero d at lt = let same : i ≡ place = omega (arith, at) in subst (λ (n : ℕ). ChangesAt g f n x y) (sym same) one
  change_each place x y xs ys one rest i (suc k) d at lt = rest.each i k d (omega (arith, at)) (omega (arith, lt))

  pub changes_both : (place : ℕ) (old new : List T) (x y : T) (xs ys : List T) → old ≡ x ∷ xs → new ≡ y ∷ ys → ChangesAt g f place x y → ChangesFrom g f (place + 1) xs ys → ChangesFrom g f place old new
  changes_both place old new x y xs ys was is one rest =
      subst (λ (zs : List T). ChangesFrom g f place zs new) (sym was) (subst (λ (zs : List T). ChangesFrom g f place (x ∷ xs) zs) (sym is) (record { each = change_each place x y xs ys one rest }))

  -- a call with the one element of a list
  pub changes_one : (place : ℕ) (old new : List T) (x y : T) (xs : List T) → old ≡ x ∷ xs → new ≡ y ∷ xs → length old ≡ 1 → ChangesAt g f place x y → ChangesFrom g f place old new
  changes_one place old new x y xs was is one h = changes_both place old new x y xs xs was is h
      (record { each = λ i k d at lt. absurd (omega (arith, lt, one, ap length was)) })

  -- the one element and those after it
  pub changes_own : (place : ℕ) (all own rest own' rest' : List T) → all ≡ own ++ rest → length own ≡ 1 → length own' ≡ 1 → ChangesFrom g f place own own' → ChangesFrom g f (place + 1) rest rest' → ChangesFrom g f place all (own' ++ rest')
  changes_own place all [] rest own' rest' is one one' h behind = absurd (omega (arith, one))
  changes_own place all (x ∷ y ∷ ys) rest own' rest' is one one' h behind = absurd (omega (arith, one))
  changes_own place all (x ∷ []) rest [] rest' is one one' h behind = absurd (omega (arith, one'))
  changes_own place all (x ∷ []) rest (x' ∷ y ∷ ys) rest' is one one' h behind = absurd (omega (arith, one'))
  changes_own place all (x ∷ []) rest (x' ∷ []) rest' is one one' h behind =
      changes_both place all (x' ∷ rest') x x' rest rest' is refl (h.each place 0 x (omega arith) (omega arith)) behind

  -- no element
  pub changes_none : (place : ℕ) (old new : List T) → length old ≡ 0 → ChangesFrom g f place old new
  changes_none place old new none = record { each = λ i k d at lt. absurd (omega (arith, lt, none)) }

  pub changes_all : (xs ys : List T) → ChangesFrom g f 0 xs ys → ChangesEach g f xs ys
  changes_all xs ys h i d lt = (refl, h.each i i d (omega arith) lt)
