-- Decimal words: numbers as they are written, and read again.
use Rattle.std.proofs.Common.{◌≡◌, ℕ, ◌+◌, ◌*◌, ◌-◌, ◌/◌, ◌%◌, ◌^◌, ◌<◌, ◌≤◌, suc, true, false, List, [], ◌∷◌, ◌++◌, length, map, get_or, Some, nat_eq, nat_lt, refl, ◌∙◌, arith, lit<}
use Rattle.std.specs.List.{list_all}
use Rattle.std.specs.Fmt.{decimal}
use Rattle.std.specs.Char.{is_ascii_digit}
use Rattle.std.proofs.lemmas.Fmt.{decimal_by_steps, length-decimal-le}
use Rattle.std.proofs.lemmas.Bool.Decides.{nat_tests}
use Rattle.std.proofs.lemmas.Bool.{and_parts, false≢true}
use Rattle.std.proofs.lemmas.List.Folds.{list_all-append}
use Rattle.std.proofs.lemmas.List.Sums.{fold_push}
use Rattle.dcop_base.specs.NumberWord.{number_of, value_of}
use Rattle.problem_text.specs.Lines.{has_some}
use Rattle.problem_text.specs.Tables.{numbers_of, is_colon}
use Rattle.problem_text.proofs.RoundTripLaws.{is_plain, is_word}

-- a word of digits that writes a number
pub record Writes (n : ℕ) (word : List ℕ) : Type 0 where
  pub some : has_some word ≡ true
  pub digits : list_all is_ascii_digit word ≡ true
  pub value : value_of word ≡ n

has_some-push : (xs : List ℕ) (x : ℕ) → has_some (xs ++ (x ∷ [])) ≡ true
has_some-push [] x = refl
has_some-push (y ∷ ys) x = refl

digit-of : (d : ℕ) → d < 10 → is_ascii_digit (48 + d) ≡ true
digit-of d h = grind (arith, nat_tests)

one-digit : (n : ℕ) → n < 10 → Writes n ((48 + n) ∷ [])
one-digit n h = record { some = refl; digits = rw (digit-of n h) refl; value = omega arith }

more-digits : (n : ℕ) (ds : List ℕ) → 10 ≤ n → Writes (n / 10) ds → Writes n (ds ++ ((48 + n % 10) ∷ []))
more-digits n ds h w =
    let last : n % 10 < 10 = omega arith in
    let value : value_of ds ≡ n / 10 = w.value in
    record {
      some = has_some-push ds (48 + n % 10);
      digits = rw (list_all-append is_ascii_digit ds ((48 + n % 10) ∷ []), w.digits, digit-of (n % 10) last) refl;
      value = fold_push (λ value digit. value * 10 + (digit - 48)) 0 ds (48 + n % 10) ∙ (rw value (omega arith));
    }

-- a number's decimal word writes it
pub decimal-writes : (n : ℕ) → n < 2 ^ 64 → Writes n (decimal n)
decimal-writes n h = decimal_by_steps Writes one-digit more-digits n h

number-step : (word : List ℕ) (n : ℕ) → Writes n word → length word ≤ 19 → number_of word ≡ Some n
number-step [] n w short = absurd (false≢true w.some)
number-step (d ∷ ds) n w short =
    let some : nat_eq (length (d ∷ ds)) 0 ≡ false = grind (arith, nat_tests) in
    let few : nat_lt 19 (length (d ∷ ds)) ≡ false = grind (arith, nat_tests, short) in
    rw (some, few, w.digits, w.value) refl

-- a number's decimal word is read as that number
pub number-decimal : (n : ℕ) → n < 10 ^ 19 → number_of (decimal n) ≡ Some n
number-decimal n h =
    let fits : n < 2 ^ 64 = omega arith in
    number-step (decimal n) n (decimal-writes n fits) (length-decimal-le 19 n (lit< tt) h fits)

-- decimal words are read as their numbers
pub numbers-decimals : (ns : List ℕ) → ((k : ℕ) (d : ℕ) → k < length ns → get_or ns k d < 10 ^ 19) → numbers_of (map decimal ns) ≡ Some ns
numbers-decimals [] h = refl
numbers-decimals (n ∷ ns) h = rw (number-decimal n (h 0 0 (omega arith)), numbers-decimals ns (λ k d l. h (suc k) d (omega arith))) refl

digit-plain : (d : ℕ) → is_ascii_digit d ≡ true → is_plain d ≡ true
digit-plain d h = grind (arith, nat_tests)

digits-plain : (ds : List ℕ) → list_all is_ascii_digit ds ≡ true → list_all is_plain ds ≡ true
digits-plain [] h = refl
digits-plain (d ∷ ds) h =
    let parts = and_parts (is_ascii_digit d) (list_all is_ascii_digit ds) h in
    rw (digit-plain d parts.0, digits-plain ds parts.1) refl

-- a decimal word is a plain word
pub decimal-word : (n : ℕ) → n < 2 ^ 64 → is_word (decimal n) ≡ true
decimal-word n h = let w = decimal-writes n h in rw (w.some, digits-plain (decimal n) w.digits) refl

digit-other : (d : ℕ) → is_ascii_digit d ≡ true → nat_eq d 58 ≡ false
digit-other d h = grind (arith, nat_tests)

colon-step : (word : List ℕ) (n : ℕ) → Writes n word → is_colon word ≡ false
colon-step [] n w = refl
colon-step (d ∷ ds) n w =
    let parts = and_parts (is_ascii_digit d) (list_all is_ascii_digit ds) w.digits in
    rw (digit-other d parts.0) refl

-- a decimal word is no `:`
pub decimal-colon : (n : ℕ) → n < 2 ^ 64 → is_colon (decimal n) ≡ false
decimal-colon n h = colon-step (decimal n) n (decimal-writes n h)
