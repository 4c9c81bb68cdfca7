-- Words, numbers and lines, as they are written piece by piece.
use Rattle.std.proofs.Common.{◌≡◌, ℕ, ◌+◌, ◌/◌, ◌%◌, ◌^◌, ◌<◌, ◌≤◌, List, [], ◌∷◌, ◌++◌, Result, Ok, Err, OnOk, sym, ap, ◌∙◌, append_assoc, arith}
use Rattle.std.specs.Fmt.{decimal}
use Rattle.std.proofs.lemmas.Fmt.{decimal_digit, decimal_step}
use Rattle.std.proofs.lemmas.Grind.{flat_map-append}
use Rattle.std.proofs.lemmas.List.{append-nil}
use Rattle.problem_text.specs.Canonical.{line}
use Rattle.problem_text.proofs.LineLaws.{line-cons}
use Rattle.trace_text.specs.Spaced.{spaced}

-- what holds of a success still holds if more follows from it
pub on-ok : {A E : Type 0} (r : Result A E) (P Q : Type 0) → (P → Q) → OnOk r P → OnOk r Q
on-ok (Ok x) P Q f h = f h
on-ok (Err e) P Q f h = tt

-- a number of one digit
pub digit-written : (old new : List ℕ) (n : ℕ) → n < 10 → new ≡ old ++ ((48 + n) ∷ []) → new ≡ old ++ decimal n
digit-written old new n small h = h ∙ ap (λ (text : List ℕ). old ++ text) (sym (decimal_digit n small))

-- a number of more digits: first all but its last digit
pub number-written : (old mid new : List ℕ) (n : ℕ) → 10 ≤ n → n < 2 ^ 64 → mid ≡ old ++ decimal (n / 10) → new ≡ mid ++ decimal (n % 10) → new ≡ old ++ decimal n
number-written old mid new n long below first last =
    let small : n % 10 < 10 = omega arith in
    last
    ∙ ap (λ (text : List ℕ). text ++ decimal (n % 10)) first
    ∙ append_assoc old (decimal (n / 10)) (decimal (n % 10))
    ∙ ap (λ (text : List ℕ). old ++ (decimal (n / 10) ++ text)) (decimal_digit (n % 10) small)
    ∙ ap (λ (text : List ℕ). old ++ text) (sym (decimal_step n long below))

-- a word after a space
pub word-written : (old mid new space word : List ℕ) → space ≡ 32 ∷ [] → mid ≡ old ++ space → new ≡ mid ++ word → new ≡ old ++ spaced (word ∷ [])
word-written old mid new space word is first last =
    last
    ∙ ap (λ (text : List ℕ). text ++ word) (first ∙ ap (λ (text : List ℕ). old ++ text) is)
    ∙ append_assoc old (32 ∷ []) word
    ∙ ap (λ (text : List ℕ). old ++ (32 ∷ text)) (sym (append-nil word))

-- further words after these
pub words-more : (old mid new : List ℕ) (words more : List (List ℕ)) → mid ≡ old ++ spaced words → new ≡ mid ++ spaced more → new ≡ old ++ spaced (words ++ more)
words-more old mid new words more first last =
    last
    ∙ ap (λ (text : List ℕ). text ++ spaced more) first
    ∙ append_assoc old (spaced words) (spaced more)
    ∙ ap (λ (text : List ℕ). old ++ text) (sym (flat_map-append (λ (word : List ℕ). 32 ∷ word) words more))

-- a line of a word and further words, written in two parts
pub line-written : (old first second third new word : List ℕ) (words more : List (List ℕ))
    → first ≡ old ++ word → second ≡ first ++ spaced words → third ≡ second ++ spaced more → new ≡ third ++ (10 ∷ [])
    → new ≡ old ++ line (word ∷ (words ++ more))
line-written old first second third new word words more h1 h2 h3 h4 =
    let behind : List ℕ = spaced (words ++ more) in
    h4
    ∙ ap (λ (text : List ℕ). text ++ (10 ∷ [])) (words-more first second third words more h2 h3 ∙ ap (λ (text : List ℕ). text ++ behind) h1)
    ∙ append_assoc (old ++ word) behind (10 ∷ [])
    ∙ append_assoc old word (behind ++ (10 ∷ []))
    ∙ ap (λ (text : List ℕ). old ++ text) (sym (append_assoc word behind (10 ∷ [])) ∙ sym (line-cons word (words ++ more)))
