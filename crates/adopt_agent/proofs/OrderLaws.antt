-- Binary search among variables that ascend.
use Rattle.std.proofs.Common.{◌≡◌, ℕ, ◌<◌, ◌≤◌, ◌==◌, false, cond, List, length, get_or, Option, Some, None, Result, Ok, Err, is_some, nat_cmp, sym, ap, ◌∙◌, inl, inr, arith}
use Rattle.std.specs.Prelude.{nat_lt}
use Rattle.std.specs.Result.{result_ok}
use Rattle.std.specs.List.{position, position_or_len}
use Rattle.std.specs.List.Sorted.{IsStrictlyIncreasing, IsBinarySearchResult}
use Rattle.std.proofs.lemmas.Bool.{cases_Bool, cases_eq, cases_lt, eq-eqb, ne_eqb, lt-ltb, ltb-true, ltb-false}
use Rattle.std.proofs.lemmas.Option.{none-some}
use Rattle.std.proofs.lemmas.List.Folds.{list_any_at, list_any_none}
use Rattle.std.proofs.lemmas.List.Kept.{AllPairs-from_increasing}
use Rattle.std.proofs.lemmas.List.Quantifiers.{position-Some}
use Rattle.std.proofs.lemmas.List.Sorted.{searched}
use Rattle.std.proofs.lemmas.List.Sums.{fails_before_first, position_or_len_is}
use Rattle.dcop_base.specs.Table.{has}

-- a later variable is greater
pub rise : (xs : List ℕ) (i k : ℕ) → IsStrictlyIncreasing xs → i < k → k < length xs → get_or xs i 0 < get_or xs k 0
rise xs i k up lt inside = AllPairs-from_increasing xs up i k 0 lt inside

never_fall : (xs : List ℕ) → IsStrictlyIncreasing xs → (i k : ℕ) → i ≤ k → k < length xs → get_or xs i 0 ≤ get_or xs k 0
never_fall xs up i k le inside = elim (cases_eq i k) [
  | inl same ↦ let here : get_or xs i 0 ≡ get_or xs k 0 = ap (λ (n : ℕ). get_or xs n 0) same in omega (arith, here)
  | inr apart ↦ let less = rise xs i k up (omega (arith, le, apart)) inside in omega (arith, less)
]

-- the place of a variable that is there
place_found : (xs : List ℕ) (sought k : ℕ) → IsStrictlyIncreasing xs → k < length xs → get_or xs k 0 ≡ sought → position (λ x. x == sought) xs ≡ Some k
place_found xs sought k up inside here =
    let first : position_or_len (λ (x : ℕ). x == sought) xs ≡ k = position_or_len_is (λ (x : ℕ). x == sought) xs k 0 (omega (arith, inside))
    (λ i lt. let low = rise xs i k up lt inside in ne_eqb (get_or xs i 0) sought (λ same. omega (arith, low, same, here))) (λ _. eq-eqb (get_or xs k 0) sought here) in
    ap (λ n. cond (nat_lt n (length xs)) (Some n) None) first ∙ ap (λ b. cond b (Some k) None) (lt-ltb k (length xs) inside)

-- a variable that is not there has no place
no_place : (xs : List ℕ) (sought : ℕ) → ((i : ℕ) → i < length xs → get_or xs i 0 ≡ sought → ⊥) → position (λ x. x == sought) xs ≡ None
no_place xs sought none =
    let first : position_or_len (λ (x : ℕ). x == sought) xs ≡ length xs = position_or_len_is (λ (x : ℕ). x == sought) xs (length xs) 0 (omega arith)
    (λ i lt. ne_eqb (get_or xs i 0) sought (none i lt)) (λ (lt : length xs < length xs). absurd (omega (arith, lt))) in
    ap (λ n. cond (nat_lt n (length xs)) (Some n) None) first ∙ ap (λ b. cond b (Some (length xs)) None) (not_below (length xs))
  where
    not_below : (n : ℕ) → nat_lt n n ≡ false
    not_below n = elim (cases_Bool (nat_lt n n)) [
      | inl less ↦ let low = ltb-true n n less in absurd (omega (arith, low))
      | inr past ↦ past
    ]

-- what a binary search finds is the place of the variable
pub search_places : (xs : List ℕ) (sought : ℕ) (r : Result ℕ ℕ) → IsStrictlyIncreasing xs → IsBinarySearchResult (λ y. nat_cmp y sought) xs r → result_ok r ≡ position (λ x. x == sought) xs
search_places xs sought (Ok i) up h =
    let at = searched xs sought (Ok i) h (never_fall xs up) in
    sym (place_found xs sought i up at.0 at.1)
search_places xs sought (Err i) up h =
    let at = searched xs sought (Err i) h (never_fall xs up) in
    sym (no_place xs sought (λ k inside is. elim (cases_lt k i) [
      | inl before ↦ let low = at.1 k before in omega (arith, low, is)
      | inr behind ↦ let more = at.2 k behind inside in omega (arith, more, is)
    ]))

-- a variable stands in a list exactly if it has a place there
pub has_place : (xs : List ℕ) (sought : ℕ) (o : Option ℕ) → o ≡ position (λ x. x == sought) xs → is_some o ≡ has xs sought
has_place xs sought None e = sym (list_any_none (λ x. x == sought) xs (λ k d inside. fails_before_first (λ x. x == sought) xs k d (omega (arith, inside, past))))
  where
    none_past : (n m : ℕ) → cond (nat_lt n m) (Some n) None ≡ (let none : Option ℕ = None in none) → m ≤ n
    none_past n m h = elim (cases_Bool (nat_lt n m)) [
      | inl less ↦ absurd (none-some n (sym h ∙ ap (λ b. cond b (Some n) None) less))
      | inr more ↦ ltb-false n m more
    ]

    past : length xs ≤ position_or_len (λ x. x == sought) xs
    past = none_past (position_or_len (λ x. x == sought) xs) (length xs) (sym e)
has_place xs sought (Some k) e = let at = position-Some (λ x. x == sought) xs k 0 (sym e) in sym (list_any_at (λ x. x == sought) xs k 0 at.0 at.1)
