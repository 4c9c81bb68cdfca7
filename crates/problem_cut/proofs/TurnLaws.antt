-- The values of a turn, from its number.
use Rattle.std.proofs.Common.{◌≡◌, ℕ, ◌*◌, ◌/◌, ◌%◌, ◌<◌, ◌≤◌, min, List, [], ◌∷◌, ◌++◌, get_or, sym, ap, ◌∙◌, inl, inr, arith}
use Rattle.std.specs.Prelude.{Result, Ok, Err, OnOk}
use Rattle.std.proofs.lemmas.Bool.{cases_lt}
use Rattle.std.proofs.lemmas.Nat.{div-add-mod', div_below}
use Rattle.std.proofs.lemmas.List.{append_assoc}
use Rattle.std.proofs.Math.Nat.{mul-le-mul_right}
use Rattle.dcop_base.specs.Table.{product}
use Rattle.protocol_steps.specs.Values.{choices}
use Rattle.run_laws.proofs.TurnLaws.{StandsAt, stands_at, choice_is}

-- a product with a number below it has no factor 0
pub some-block : (number s block : ℕ) → number < s * block → 0 < block
some-block number s block lt = elim (cases_lt 0 block) [
  | inl some ↦ some
  | inr none ↦ (let zero_is : block ≡ 0 = omega arith in let times = ap (λ (n : ℕ). s * n) zero_is in absurd (omega (arith, lt, times)))
]

-- and of a product within a limit no factor is above it
pub whole-block : (number s block most : ℕ) → number < s * block → s * block ≤ most → min block most ≡ block
whole-block number s block most lt le = elim (cases_lt 0 s) [
  | inl some ↦ (let least : 1 * block ≤ s * block = mul-le-mul_right block some in omega (arith, le, least))
  | inr none ↦ (let zero_is : s ≡ 0 = omega arith in let times = ap (λ (n : ℕ). n * block) zero_is in absurd (omega (arith, lt, times)))
]

pub first-below : (number s block : ℕ) → number < s * block → number / block < s
first-below number s block lt = div_below number block s (some-block number s block lt) lt

pub rest-below : (number s block : ℕ) → number < s * block → number % block < block
rest-below number s block lt = let some = some-block number s block lt in omega arith

-- the first value of a turn, and then those of the turn of the other variables
pub choice-parts : (s : ℕ) (ss : List ℕ) (number : ℕ) → number < s * product ss → get_or (choices (s ∷ ss)) number [] ≡ number / product ss ∷ get_or (choices ss) (number % product ss) []
choice-parts s ss number lt =
    let block = product ss in
    let rest = stands_at ss (number % block) (rest-below number s block lt) in
    let whole = div-add-mod' number block in
    let at = rest.is in
    let stands : StandsAt (s ∷ ss) number = record {
      values = number / block ∷ rest.values;
      within = (first-below number s block lt, rest.within);
      is = omega (arith, whole, at);
    } in
    choice_is (s ∷ ss) number stands ∙ ap (λ (vs : List ℕ). number / block ∷ vs) (sym (choice_is ss (number % block) rest))

-- one more value, and then the rest
pub values-more : (s : ℕ) (ss : List ℕ) (number block : ℕ) (old mid new : List ℕ) → number < s * product ss → block ≡ product ss → mid ≡ old ++ (number / block ∷ [])
    → new ≡ mid ++ get_or (choices ss) (number % block) [] → new ≡ old ++ get_or (choices (s ∷ ss)) number []
values-more s ss number block old mid new lt eb em en =
    en ∙ ap (λ (xs : List ℕ). xs ++ get_or (choices ss) (number % block) []) em
    ∙ append_assoc old (number / block ∷ []) (get_or (choices ss) (number % block) [])
    ∙ ap (λ (n : ℕ). old ++ (number / n ∷ get_or (choices ss) (number % n) [])) eb
    ∙ ap (λ (xs : List ℕ). old ++ xs) (sym (choice-parts s ss number lt))

-- what follows of an answer that is there
pub on-ok : {A E : Type 0} (r : Result A E) (P Q : Type 0) → (P → Q) → OnOk r P → OnOk r Q
on-ok (Ok x) P Q f h = f h
on-ok (Err e) P Q f h = tt
