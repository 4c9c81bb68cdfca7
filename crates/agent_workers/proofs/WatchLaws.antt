-- Marks, by the bits of words.
use Rattle.std.proofs.Common.{◌≡◌, ◌≢◌, ℕ, zero, suc, ◌+◌, ◌-◌, ◌*◌, ◌/◌, ◌%◌, ◌^◌, ◌<◌, ◌≤◌, List, [], ◌∷◌, Bool, false, Some, slice_get, length, get_or, set, slice_index, refl, bit_and, bit_or, w64, sym, ap, subst, ◌∙◌, inl, inr, arith, get_or-set_same, get_or-set_other}
use Rattle.std.specs.Int.{bit_at, bit_not, trailing_zeros}
use Rattle.std.proofs.lemmas.Bool.{cases_eq, cases_lt}
use Rattle.std.proofs.lemmas.List.{get_or_past}
use Rattle.std.proofs.lemmas.Nat.{shr-shr, shr_le}
use Rattle.std.proofs.lemmas.Nat.Bits.{shr_and_one, bit_at-zero, bit_at_above, bit_at-trailing_zeros, bit_at_set_same, bit_at_set_other, bit_at_clear_other}
use Rattle.dcop_base.specs.Limits.{variable_limit}
use Rattle.agent_workers.specs.Watched.{IsUnmarked, AreCellsUnmarked}

-- a bit of a number that is shifted to the right
shifted : (n j i : ℕ) → bit_at (n / 2 ^ j) i ≡ bit_at n (j + i)
shifted n j i = ap (λ x. x % 2) (shr-shr n j i)

-- the bits of words after one word is written
written_here : (words : List ℕ) (place word : ℕ) → place / 64 < length words → bit_at (slice_index (set words (place / 64) word) (place / 64)) (place % 64) ≡ bit_at word (place % 64)
written_here words place word within = ap (λ n. bit_at n (place % 64)) (get_or-set_same words (place / 64) word 0 within)

written_other : (words : List ℕ) (place word : ℕ) → place / 64 < length words → ((i : ℕ) → i < 64 → i ≢ place % 64 → bit_at word i ≡ bit_at (slice_index words (place / 64)) i) → (k : ℕ) → k ≢ place
    → bit_at (slice_index (set words (place / 64) word) (k / 64)) (k % 64) ≡ bit_at (slice_index words (k / 64)) (k % 64)
written_other words place word within kept k other = elim (cases_eq (k / 64) (place / 64)) [
  | inl same ↦ rw (same, get_or-set_same words (place / 64) word 0 within) (kept (k % 64) (omega arith) (λ index. other (omega arith)))
  | inr apart ↦ ap (λ n. bit_at n (k % 64)) (get_or-set_other words (place / 64) (k / 64) word 0 apart)
]

-- the mark of one place is taken away
pub cleared : (words : List ℕ) (place : ℕ) → place / 64 < length words → (k : ℕ) → k ≢ place → IsUnmarked (set words (place / 64) (bit_and (slice_index words (place / 64)) (bit_not w64 (1 * 2 ^ (place % 64) % 2 ^ 64)))) k → IsUnmarked words k
cleared words place within k other un =
    sym (written_other words place _ within (λ i below differs. bit_at_clear_other w64 (slice_index words (place / 64)) (place % 64) (omega arith) i below differs) k other) ∙ un

-- one place is marked
pub marked_other : (words : List ℕ) (place : ℕ) → place / 64 < length words → (k : ℕ) → k ≢ place → IsUnmarked (set words (place / 64) (bit_or (slice_index words (place / 64)) (1 * 2 ^ (place % 64) % 2 ^ 64))) k → IsUnmarked words k
marked_other words place within k other un =
    sym (written_other words place _ within (λ i below differs. bit_at_set_other w64 (slice_index words (place / 64)) (place % 64) (omega arith) i differs) k other) ∙ un

pub marked_here : (words : List ℕ) (place : ℕ) → place / 64 < length words → IsUnmarked (set words (place / 64) (bit_or (slice_index words (place / 64)) (1 * 2 ^ (place % 64) % 2 ^ 64))) place → ⊥
marked_here words place within un =
    let is = written_here words place (bit_or (slice_index words (place / 64)) (1 * 2 ^ (place % 64) % 2 ^ 64)) within in
    let one = bit_at_set_same w64 (slice_index words (place / 64)) (place % 64) (omega arith) in
    omega (arith, is, one, un)

-- there is no mark after the last word
pub past_words : (words : List ℕ) (from : ℕ) → length words ≤ from / 64 → (to : ℕ) → AreCellsUnmarked words from to
past_words words from past to = λ k low high. ap (λ n. bit_at n (k % 64)) (get_or_past words (k / 64) 0 (omega (arith, past, low))) ∙ bit_at-zero (k % 64)

pub past_word : (words : List ℕ) (word : ℕ) → length words ≤ 16 → 16 ≤ word → (to : ℕ) → AreCellsUnmarked words (word * 64) to
past_word words word few past to = λ k low high. ap (λ n. bit_at n (k % 64)) (get_or_past words (k / 64) 0 (omega (arith, few, past, low))) ∙ bit_at-zero (k % 64)

pub then_unmarked : (words : List ℕ) (a b c : ℕ) → AreCellsUnmarked words a b → AreCellsUnmarked words b c → AreCellsUnmarked words a c
then_unmarked words a b c p q = λ k low high. elim (cases_lt k b) [
  | inl below ↦ p k low below
  | inr above ↦ q k above high
]

-- the marks of the word of a place, from the place on
pub rest_unmarked : (words : List ℕ) (from : ℕ) → slice_index words (from / 64) / 2 ^ (from % 64) ≡ 0 → AreCellsUnmarked words from ((from / 64 + 1) * 64)
rest_unmarked words from none = λ k low high.
    let word : k / 64 ≡ from / 64 = omega (arith, low, high) in
    let bit : from % 64 + (k % 64 - from % 64) ≡ k % 64 = omega (arith, low, word) in
    let w : ℕ = slice_index words (from / 64) in
    ap (λ n. bit_at (slice_index words n) (k % 64)) word ∙ ap (λ n. bit_at w n) (sym bit) ∙ sym (shifted w (from % 64) (k % 64 - from % 64)) ∙ ap (λ n. bit_at n (k % 64 - from % 64)) none ∙ bit_at-zero (k % 64 - from % 64)

pub first_of_rest : (words : List ℕ) (from : ℕ) → slice_index words (from / 64) < 2 ^ 64 → 0 < slice_index words (from / 64) / 2 ^ (from % 64)
    → AreCellsUnmarked words from (from + trailing_zeros w64 (slice_index words (from / 64) / 2 ^ (from % 64)))
first_of_rest words from fits some = λ k low high.
    let w : ℕ = slice_index words (from / 64) in
    let ahead : ℕ = w / 2 ^ (from % 64) in
    let small : ahead < 2 ^ 64 = let le = shr_le w (from % 64) in omega (arith, le, fits) in
    let first = bit_at-trailing_zeros w64 ahead some small in
    let set_bit : bit_at w (from % 64 + trailing_zeros w64 ahead) ≡ 1 = sym (shifted w (from % 64) (trailing_zeros w64 ahead)) ∙ first.1 in
    let within : from % 64 + trailing_zeros w64 ahead < 64 = elim (cases_lt (from % 64 + trailing_zeros w64 ahead) 64) [
      | inl lt ↦ lt
      | inr ge ↦ let no = bit_at_above w 64 (from % 64 + trailing_zeros w64 ahead) fits ge in absurd (omega (arith, no, set_bit))
    ] in
    let word : k / 64 ≡ from / 64 = omega (arith, low, high, within) in
    let bit : from % 64 + (k - from) ≡ k % 64 = omega (arith, low, high, within) in
    let before : k - from < trailing_zeros w64 ahead = omega (arith, low, high) in
    ap (λ n. bit_at (slice_index words n) (k % 64)) word ∙ ap (λ n. bit_at w n) (sym bit) ∙ sym (shifted w (from % 64) (k - from)) ∙ first.2 (k - from) before

-- the marks of a word
pub word_unmarked : (words : List ℕ) (word : ℕ) → slice_index words word ≡ 0 → AreCellsUnmarked words (word * 64) ((word + 1) * 64)
word_unmarked words word none = λ k low high.
    let at : k / 64 ≡ word = omega (arith, low, high) in
    ap (λ n. bit_at (slice_index words n) (k % 64)) at ∙ ap (λ n. bit_at n (k % 64)) none ∙ bit_at-zero (k % 64)

pub first_of_word : (words : List ℕ) (word : ℕ) → slice_index words word < 2 ^ 64 → 0 < slice_index words word → AreCellsUnmarked words (word * 64) (word * 64 + trailing_zeros w64 (slice_index words word))
first_of_word words word fits some = λ k low high.
    let first = bit_at-trailing_zeros w64 (slice_index words word) some fits in
    let within = first.0 in
    let at : k / 64 ≡ word = omega (arith, low, high, within) in
    ap (λ n. bit_at (slice_index words n) (k % 64)) at ∙ first.2 (k % 64) (omega (arith, low, high, within))

-- a flag after one flag is written
pub set_other : {A : Type 0} (xs : List A) (p k : ℕ) (y : A) → k ≢ p → slice_get (set xs p y) k ≡ slice_get xs k
set_other [] p k y other = refl
set_other (x ∷ xs) zero zero y other = absurd (other refl)
set_other (x ∷ xs) zero (suc k) y other = refl
set_other (x ∷ xs) (suc p) zero y other = refl
set_other (x ∷ xs) (suc p) (suc k) y other = set_other xs p k y (λ same. other (omega (arith, same)))

pub unset_at : (flags : List Bool) (p : ℕ) → p < length flags → get_or flags p false ≡ false → slice_get flags p ≡ Some false
unset_at [] p lt is = absurd (omega (arith, lt))
unset_at (x ∷ xs) zero lt is = ap Some is
unset_at (x ∷ xs) (suc p) lt is = unset_at xs p (omega (arith, lt)) is

-- the marks and flags after one place is marked
pub marked_kept : (words : List ℕ) (place : ℕ) → place / 64 < length words → (k : ℕ) → IsUnmarked (set words (place / 64) (bit_or (slice_index words (place / 64)) (1 * 2 ^ (place % 64) % 2 ^ 64))) k → IsUnmarked words k
marked_kept words place within k un = elim (cases_eq k place) [
  | inl same ↦ absurd (marked_here words place within (subst (λ (n : ℕ). IsUnmarked (set words (place / 64) (bit_or (slice_index words (place / 64)) (1 * 2 ^ (place % 64) % 2 ^ 64))) n) same un))
  | inr other ↦ marked_other words place within k other un
]

pub marked_same : (words : List ℕ) (place : ℕ) → (IsUnmarked words place → ⊥) → (flags : List Bool) (k : ℕ) → IsUnmarked words k → slice_get (set flags place false) k ≡ slice_get flags k
marked_same words place marked flags k un = elim (cases_eq k place) [
  | inl same ↦ absurd (marked (subst (λ (n : ℕ). IsUnmarked words n) same un))
  | inr other ↦ set_other flags place k false other
]

-- the marks of the first `done` of these places were kept
pub record IsKeeping (places : List ℕ) (done : ℕ) (first : List ℕ) (flags : List Bool) (words : List ℕ) (left : List Bool) : Type 0 where
  pub kept : (k : ℕ) → IsUnmarked words k → IsUnmarked first k
  pub same : (k : ℕ) → IsUnmarked words k → slice_get left k ≡ slice_get flags k
  pub sent : (q : ℕ) → q < done → get_or places q 0 < variable_limit → IsUnmarked words (get_or places q 0) → slice_get left (get_or places q 0) ≡ Some false

pub keeping_none : (places first : List ℕ) (flags : List Bool) → IsKeeping places 0 first flags first flags
keeping_none places first flags = record { kept = λ k un. un; same = λ k un. refl; sent = λ q lt small un. absurd (omega (arith, lt)) }

pub keeping_more : (places : List ℕ) (done : ℕ) (first : List ℕ) (flags : List Bool) (words : List ℕ) (left : List Bool) (place : ℕ) (more : List ℕ) (rest : List Bool) → place ≡ get_or places done 0
    → ((k : ℕ) → IsUnmarked more k → IsUnmarked words k) → ((k : ℕ) → IsUnmarked more k → slice_get rest k ≡ slice_get left k) → (place < variable_limit → IsUnmarked more place → slice_get rest place ≡ Some false)
    → IsKeeping places done first flags words left → IsKeeping places (done + 1) first flags more rest
keeping_more places done first flags words left place more rest is kept same sent h = record {
  kept = λ k un. h.kept k (kept k un);
  same = λ k un. same k un ∙ h.same k (kept k un);
  sent = λ q lt small un. elim (cases_eq q done) [
    | inl here ↦
        let at : place ≡ get_or places q 0 = is ∙ ap (λ (n : ℕ). get_or places n 0) (sym here) in
        subst (λ (n : ℕ). slice_get rest n ≡ Some false) at (sent (subst (λ (n : ℕ). n < variable_limit) (sym at) small) (subst (λ (n : ℕ). IsUnmarked more n) (sym at) un))
    | inr other ↦ same (get_or places q 0) un ∙ h.sent q (omega (arith, lt, other)) small (kept (get_or places q 0) un)
  ];
}

pub keeping_all : (places : List ℕ) (done : ℕ) (first : List ℕ) (flags : List Bool) (words : List ℕ) (left : List Bool) → length places ≤ done → IsKeeping places done first flags words left
    → (q : ℕ) → q < length places → get_or places q 0 < variable_limit → IsUnmarked words (get_or places q 0) → slice_get flags (get_or places q 0) ≡ Some false
keeping_all places done first flags words left all h q lt small un = sym (h.same (get_or places q 0) un) ∙ h.sent q (omega (arith, lt, all)) small un

-- the mark of a place, read by itself
pub unmarked_bit : (words : List ℕ) (place : ℕ) → bit_and (slice_index words (place / 64) / 2 ^ (place % 64)) 1 ≡ 0 → IsUnmarked words place
unmarked_bit words place none = sym (shr_and_one (slice_index words (place / 64)) (place % 64)) ∙ none
