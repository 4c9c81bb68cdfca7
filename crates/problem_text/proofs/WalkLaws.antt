-- Lines in a row: what they declare one after the other, and what a text of such lines is read as.
use Rattle.std.proofs.Common.{◌≡◌, ℕ, ◌+◌, ◌<◌, Bool, false, List, [], ◌∷◌, ◌++◌, length, Ok, nat_eq, refl, sym, ap, ◌∙◌, subst, arith, length-append}
use Rattle.std.specs.List.{flat_map}
use Rattle.std.proofs.lemmas.List.{append-nil}
use Rattle.std.proofs.lemmas.Bool.Decides.{nat_tests}
use Rattle.problem_text.specs.Canonical.{line}
use Rattle.problem_text.specs.Declarations.{Declared, Outcome, Declares, Ends}
use Rattle.problem_text.specs.Reading.{later_line, line_outcome, lines_read}
use Rattle.problem_text.proofs.RoundTripLaws.{worded}

-- each of these lines declares more, behind a header, and together they declare this
abbrev pub Walks : Declared → List (List (List ℕ)) → Declared → Type 0
Walks d [] last = d ≡ last
Walks d (ws ∷ later) last = (more : Declared) × ((is_second : Bool) → later_line is_second d ws ≡ Declares more) × Walks more later last

-- some lines and further ones
pub Walks-append : (d middle last : Declared) (xs ys : List (List (List ℕ))) → Walks d xs middle → Walks middle ys last → Walks d (xs ++ ys) last
Walks-append d middle last [] ys first second = subst (λ (m : Declared). Walks m ys last) (sym first) second
Walks-append d middle last (x ∷ xs) ys first second = (first.0, first.1, Walks-append first.0 middle last xs ys first.2 second)

behind-header : (before : ℕ) (d : Declared) (ws : List (List ℕ)) (o : Outcome) → 0 < before → ((is_second : Bool) → later_line is_second d ws ≡ o) → line_outcome before d ws ≡ o
behind-header before d ws o some h =
    let later : nat_eq before 0 ≡ false = grind (arith, nat_tests) in
    rw later (h (nat_eq before 1))

-- lines that declare, and the line that ends the text
pub walk-read : (over before number used : ℕ) (d last : Declared) (wss : List (List (List ℕ))) (end : List (List ℕ)) → 0 < before → Walks d wss last → ((is_second : Bool) → later_line is_second last end ≡ Ends) → lines_read over before d (worded number used (wss ++ (end ∷ []))) ≡ Ok (record { declared = last; used = used + length (flat_map line (wss ++ (end ∷ []))) })
walk-read over before number used d last [] end some walk ends =
    let outcome = behind-header before last end Ends some ends in
    rw (walk, outcome, append-nil (line end)) refl
walk-read over before number used d last (ws ∷ wss) end some walk ends =
    let outcome = behind-header before d ws (Declares walk.0) some walk.1 in
    let rest = walk-read over (before + 1) (number + 1) (used + length (line ws)) walk.0 last wss end (omega arith) walk.2 ends in
    let many : (used + length (line ws)) + length (flat_map line (wss ++ (end ∷ []))) ≡ used + length (line ws ++ flat_map line (wss ++ (end ∷ []))) = omega (arith, length-append (line ws) (flat_map line (wss ++ (end ∷ [])))) in
    rw outcome (rest ∙ ap (λ n. Ok (record { declared = last; used = n })) many)
