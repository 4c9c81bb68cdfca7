-- The first difference that a test tells of numbers in order.
use Rattle.std.proofs.Common.{◌≡◌, ℕ, zero, suc, ◌+◌, ◌<◌, true, false, Option, Some, None, refl, sym, ap, ◌∙◌, arith}
use Rattle.std.specs.List.{range_with_len}
use Rattle.std.specs.Option.{option_or, is_some}
use Rattle.std.proofs.lemmas.Option.{none-some}
use Rattle.certificate_text.specs.declared.verdict.Differs.{Differs}
use Rattle.certificate_check.specs.Differences.{first_of}

-- neither of two answers
pub or_none : (a b : Option Differs) → a ≡ None → b ≡ None → option_or a b ≡ None
or_none a b e f = ap (λ (o : Option Differs). option_or o b) e ∙ f

pub or_parts : (a b : Option Differs) → option_or a b ≡ None → (a ≡ None) × (b ≡ None)
or_parts None b e = (refl, e)
or_parts (Some x) b e = absurd (none-some x (sym e))

pub or_else : (a b : Option Differs) → a ≡ None → option_or a b ≡ b
or_else a b e = ap (λ (o : Option Differs). option_or o b) e

pub or_first : (a b : Option Differs) (x : Differs) → a ≡ Some x → option_or a b ≡ Some x
or_first a b x e = ap (λ (o : Option Differs). option_or o b) e

-- one more number of which nothing is told
none_from : (test : ℕ → Option Differs) (s k : ℕ) → first_of test (range_with_len s k) ≡ None → test (s + k) ≡ None → first_of test (range_with_len s (suc k)) ≡ None
none_from test s zero none here = or_none (test s) None (ap test (let e : s ≡ s + 0 = omega arith in e) ∙ here) refl
none_from test s (suc k) none here =
    let parts = or_parts (test s) (first_of test (range_with_len (s + 1) k)) none in
    or_none (test s) (first_of test (range_with_len (s + 1) (suc k))) parts.0
    (none_from test (s + 1) k parts.1 (ap test (let e : s + 1 + k ≡ s + suc k = omega arith in e) ∙ here))

pub none_more : (test : ℕ → Option Differs) (k : ℕ) → first_of test (range_with_len 0 k) ≡ None → test k ≡ None → first_of test (range_with_len 0 (k + 1)) ≡ None
none_more test k none here =
    ap (λ (n : ℕ). first_of test (range_with_len 0 n)) (let e : k + 1 ≡ suc k = omega arith in e)
    ∙ none_from test 0 k none (ap test (let e : 0 + k ≡ k = omega arith in e) ∙ here)

-- the first number of which something is told
found_from : (test : ℕ → Option Differs) (s k n : ℕ) (x : Differs) → first_of test (range_with_len s k) ≡ None → k < n → test (s + k) ≡ Some x → first_of test (range_with_len s n) ≡ Some x
found_from test s k zero x none lt here = absurd (omega arith)
found_from test s zero (suc n) x none lt here = or_first (test s) (first_of test (range_with_len (s + 1) n)) x (ap test (let e : s ≡ s + 0 = omega arith in e) ∙ here)
found_from test s (suc k) (suc n) x none lt here =
    let parts = or_parts (test s) (first_of test (range_with_len (s + 1) k)) none in
    or_else (test s) (first_of test (range_with_len (s + 1) n)) parts.0
    ∙ found_from test (s + 1) k n x parts.1 (omega arith) (ap test (let e : s + 1 + k ≡ s + suc k = omega arith in e) ∙ here)

pub found_first : (test : ℕ → Option Differs) (k n : ℕ) (x : Differs) → first_of test (range_with_len 0 k) ≡ None → k < n → test k ≡ Some x → first_of test (range_with_len 0 n) ≡ Some x
found_first test k n x none lt here = found_from test 0 k n x none lt (ap test (let e : 0 + k ≡ k = omega arith in e) ∙ here)

-- of each number nothing is told, and back
at_from : (test : ℕ → Option Differs) (s n k : ℕ) → first_of test (range_with_len s n) ≡ None → k < n → test (s + k) ≡ None
at_from test s zero k none lt = absurd (omega arith)
at_from test s (suc n) zero none lt =
    let parts = or_parts (test s) (first_of test (range_with_len (s + 1) n)) none in
    ap test (let e : s + 0 ≡ s = omega arith in e) ∙ parts.0
at_from test s (suc n) (suc k) none lt =
    let parts = or_parts (test s) (first_of test (range_with_len (s + 1) n)) none in
    ap test (let e : s + suc k ≡ s + 1 + k = omega arith in e) ∙ at_from test (s + 1) n k parts.1 (omega arith)

pub none_at : (test : ℕ → Option Differs) (n k : ℕ) → first_of test (range_with_len 0 n) ≡ None → k < n → test k ≡ None
none_at test n k none lt = ap test (let e : k ≡ 0 + k = omega arith in e) ∙ at_from test 0 n k none lt

each_from : (test : ℕ → Option Differs) (s n : ℕ) → ((k : ℕ) → k < n → test (s + k) ≡ None) → first_of test (range_with_len s n) ≡ None
each_from test s zero each = refl
each_from test s (suc n) each =
    or_none (test s) (first_of test (range_with_len (s + 1) n)) (ap test (let e : s ≡ s + 0 = omega arith in e) ∙ each 0 (omega arith))
    (each_from test (s + 1) n (λ k lt. ap test (let e : s + 1 + k ≡ s + suc k = omega arith in e) ∙ each (suc k) (omega arith)))

pub none_each : (test : ℕ → Option Differs) (n : ℕ) → ((k : ℕ) → k < n → test k ≡ None) → first_of test (range_with_len 0 n) ≡ None
none_each test n each = each_from test 0 n (λ k lt. ap test (let e : 0 + k ≡ k = omega arith in e) ∙ each k lt)

-- what a test tells of the next number: the first that is told, or one more of which nothing is
pub found_given : (test : ℕ → Option Differs) (k n : ℕ) (o : Option Differs) → first_of test (range_with_len 0 k) ≡ None → k < n → o ≡ test k → is_some o ≡ true → o ≡ first_of test (range_with_len 0 n)
found_given test k n None none lt is some = absurd (cc)
found_given test k n (Some x) none lt is some = sym (found_first test k n x none lt (sym is))

pub none_given : (test : ℕ → Option Differs) (k : ℕ) (o : Option Differs) → first_of test (range_with_len 0 k) ≡ None → o ≡ test k → is_some o ≡ false → first_of test (range_with_len 0 (k + 1)) ≡ None
none_given test k None none is some = none_more test k none (sym is)
none_given test k (Some x) none is some = absurd (cc)

-- nothing is told of all numbers where nothing is told of those below their count
pub none_all : (test : ℕ → Option Differs) (k n : ℕ) → first_of test (range_with_len 0 k) ≡ None → k ≡ n → None ≡ first_of test (range_with_len 0 n)
none_all test k n none e = sym none ∙ ap (λ (m : ℕ). first_of test (range_with_len 0 m)) e

pub not_told : (o : Option Differs) → is_some o ≡ false → o ≡ None
not_told None h = refl
not_told (Some x) h = absurd (cc)
