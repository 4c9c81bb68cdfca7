-- The text of a summary, as it is written line by line.
use Rattle.std.proofs.Common.{◌≡◌, ℕ, List, [], ◌∷◌, ◌++◌, sym, ap, ◌∙◌, append_assoc, codes}
use Rattle.std.specs.List.{flat_map}
use Rattle.std.proofs.lemmas.List.{append-nil}
use Rattle.std.proofs.lemmas.Grind.{flat_map-append}
use Rattle.problem_text.specs.Canonical.{line}
use Rattle.solve_report.specs.Summary.{end_lines}

-- nothing was written at first
pub lines-none : (old : List ℕ) → old ≡ old ++ flat_map line []
lines-none old = sym (append-nil old)

-- one line more
pub lines-more : (old mid new : List ℕ) (done : List (List (List ℕ))) (words : List (List ℕ)) → mid ≡ old ++ flat_map line done → new ≡ mid ++ line words → new ≡ old ++ flat_map line (done ++ (words ∷ []))
lines-more old mid new done words before is =
    let one : flat_map line (words ∷ []) ≡ line words = append-nil (line words) in
    is
    ∙ ap (λ (text : List ℕ). text ++ line words) before
    ∙ append_assoc old (flat_map line done) (line words)
    ∙ ap (λ (text : List ℕ). old ++ (flat_map line done ++ text)) (sym one)
    ∙ ap (λ (text : List ℕ). old ++ text) (sym (flat_map-append line done (words ∷ [])))

-- all parts, and the last line
pub parts-written : (run made found : List (List (List ℕ))) (a b c d e : List ℕ) → a ≡ [] → b ≡ a ++ flat_map line run → c ≡ b ++ flat_map line made → d ≡ c ++ flat_map line found
    → e ≡ d ++ codes "end\n" → e ≡ flat_map line (run ++ made ++ found ++ end_lines)
parts-written run made found a b c d e start first second third last =
    last
    ∙ ap (λ (text : List ℕ). text ++ codes "end\n") (third ∙ ap (λ (text : List ℕ). text ++ flat_map line found) (second ∙ ap (λ (text : List ℕ). text ++ flat_map line made) (first ∙ ap (λ (text : List ℕ). text ++ flat_map line run) start)))
    ∙ sym (flat_map-append line (run ++ made ++ found) end_lines
    ∙ ap (λ (text : List ℕ). text ++ codes "end\n") (flat_map-append line (run ++ made) found ∙ ap (λ (text : List ℕ). text ++ flat_map line found) (flat_map-append line run made)))
