use Rattle.std.proofs.Common.{List, ℕ, [], ◌∷◌, ◌++◌, codes, ap, ◌∙◌}
use Rattle.std.specs.Fmt.{decimal}
use Rattle.std.specs.String.{string_bytes}
use Rattle.solve_report.specs.Replay.{bound_word, ended_word}
use Rattle.trace_text.specs.Spaced.{spaced}
use Rattle.trace_text.proofs.WordLaws.{on-ok, words-more}
use Rattle.trace_text.proofs.words.write_standing.Goals as goal

pub returns : goal.returns
returns c =
    let old = string_bytes c.args.text.now in
    let value : List (List ℕ) = codes "value" ∷ decimal c.args.value ∷ [] in
    let lower : List (List ℕ) = codes "lower" ∷ decimal c.args.standing.lower ∷ [] in
    let threshold : List (List ℕ) = codes "threshold" ∷ decimal c.args.standing.threshold ∷ [] in
    let upper : List (List ℕ) = bound_word c.args.standing.upper ∷ [] in
    let first = c.in_ok-write_numbered.ensures ∙ ap (λ (n : ℕ). old ++ spaced (codes "value" ∷ decimal n ∷ [])) c.number_of.ensures in
    let second = words-more old (string_bytes c.write_numbered.new.text) (string_bytes c.write_numbered-2.new.text) value lower first c.in_ok-write_numbered-2.ensures in
    let third = words-more old (string_bytes c.write_numbered-2.new.text) (string_bytes c.write_word.new.text) (value ++ lower) (codes "upper" ∷ []) second c.in_ok-write_word.ensures in
    let fourth = words-more old (string_bytes c.write_word.new.text) (string_bytes c.write_bound.new.text) (value ++ lower ++ (codes "upper" ∷ [])) upper third c.in_ok-write_bound.ensures in
    let fifth = words-more old (string_bytes c.write_bound.new.text) (string_bytes c.write_numbered-3.new.text) (value ++ lower ++ (codes "upper" ∷ []) ++ upper) threshold fourth c.in_ok-write_numbered-3.ensures in
    let sixth = words-more old (string_bytes c.write_numbered-3.new.text) (string_bytes c.write_word-2.new.text) (value ++ lower ++ (codes "upper" ∷ []) ++ upper ++ threshold) (codes "ended" ∷ []) fifth c.in_ok-write_word-2.ensures in
    on-ok c.write_word-3.result _ _
    (λ h. words-more old (string_bytes c.write_word-2.new.text) (string_bytes c.write_word-3.new.text) (value ++ lower ++ (codes "upper" ∷ []) ++ upper ++ threshold ++ (codes "ended" ∷ [])) (ended_word c.args.ended ∷ []) sixth
    (h ∙ ap (λ (w : List ℕ). string_bytes c.write_word-2.new.text ++ spaced (w ∷ [])) c.ended_word.ensures))
    c.write_word-3.ensures
