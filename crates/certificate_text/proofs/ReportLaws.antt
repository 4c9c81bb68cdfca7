-- The lines of a report, as they are written piece by piece.
use Rattle.std.proofs.Common.{◌≡◌, ℕ, ◌<◌, ◌+◌, List, [], ◌∷◌, ◌++◌, map, length, drop, get_or, refl, sym, ap, ◌∙◌, append_assoc, arith, Some, slice_get, codes, drop-cons, add-one, subst, suc, zero}
use Rattle.std.specs.List.{flat_map, slice_index_or, AllZip}
use Rattle.std.specs.Fmt.{decimal}
use Rattle.std.proofs.lemmas.Grind.{flat_map-append}
use Rattle.std.proofs.lemmas.Option.{get_or_from_slice_get, slice_get_within}
use Rattle.problem_text.specs.Canonical.{line}
use Rattle.problem_text.proofs.LineLaws.{spaced, line-cons, flat_map-map}
use Rattle.certificate_text.specs.Named.{HasWord}
use Rattle.certificate_text.specs.CertificateText.{parent_word, util_words, cut_words, turn_words}
use Rattle.certificate_text.specs.ReportText.{value_words, value_lines}
use Rattle.certificate_text.specs.declared.certificate.Util.{Util}

-- a UTIL table's words, with the end of the line
pub util-pieces : (name parent scope cells : List ℕ)
    → (name ++ (32 ∷ (parent ++ (32 ∷ 58 ∷ (scope ++ (32 ∷ 58 ∷ cells)))))) ++ (10 ∷ [])
    ≡ name ++ (32 ∷ (parent ++ (32 ∷ 58 ∷ (scope ++ (32 ∷ 58 ∷ (cells ++ (10 ∷ [])))))))
util-pieces name parent scope cells = simp append_assoc

-- a UTIL table's line: its scope and its cells, each word behind a space
pub util-line : (names : List (List ℕ)) (u : Util) → line (util_words names u)
    ≡ (codes "util " ++ (slice_index_or names u.var [] ++ (32 ∷ (parent_word names u.parent ++ (codes " :" ++ (flat_map (λ v. 32 ∷ slice_index_or names v []) u.scope ++ (codes " :" ++ (flat_map (λ cell. 32 ∷ decimal cell) u.cells ++ (10 ∷ [])))))))))
util-line names u =
    line-cons (codes "util") (slice_index_or names u.var [] ∷ parent_word names u.parent ∷ codes ":" ∷ map (λ v. slice_index_or names v []) u.scope ++ (codes ":" ∷ map decimal u.cells))
    ∙ rw (flat_map-append spaced (map (λ v. slice_index_or names v []) u.scope) (codes ":" ∷ map decimal u.cells), flat_map-map (λ v. slice_index_or names v []) u.scope, flat_map-map decimal u.cells) (ap (λ rest. codes "util " ++ rest) (util-pieces (slice_index_or names u.var []) (parent_word names u.parent) (flat_map (λ v. 32 ∷ slice_index_or names v []) u.scope) (flat_map (λ cell. 32 ∷ decimal cell) u.cells)))

-- a UTIL table's line, written word by word
pub util-written : (old new : List ℕ) (names : List (List ℕ)) (u : Util)
    → new ≡ old ++ (codes "util " ++ (slice_index_or names u.var [] ++ (32 ∷ (parent_word names u.parent ++ (codes " :" ++ (flat_map (λ v. 32 ∷ slice_index_or names v []) u.scope ++ (codes " :" ++ (flat_map (λ cell. 32 ∷ decimal cell) u.cells ++ (10 ∷ [])))))))))
    → new ≡ old ++ line (util_words names u)
util-written old new names u h = h ∙ ap (λ text. old ++ text) (sym (util-line names u))

-- the line of a cut's variables, each behind a space
pub cut-written : (old new : List ℕ) (names : List (List ℕ)) (cut : List ℕ)
    → new ≡ old ++ (codes "certificate cut" ++ (flat_map (λ v. 32 ∷ slice_index_or names v []) cut ++ (10 ∷ [])))
    → new ≡ old ++ line (cut_words names cut)
cut-written old new names cut h =
    let same : line (cut_words names cut) ≡ codes "certificate cut" ++ (flat_map (λ v. 32 ∷ slice_index_or names v []) cut ++ (10 ∷ [])) =
    line-cons (codes "certificate") (codes "cut" ∷ map (λ v. slice_index_or names v []) cut) ∙ rw (flat_map-map (λ v. slice_index_or names v []) cut) refl in
    h ∙ ap (λ (text : List ℕ). old ++ text) (sym same)

-- the line of a turn's values, each behind a space
pub turn-written : (old new values : List ℕ)
    → new ≡ old ++ (codes "turn" ++ (flat_map (λ value. 32 ∷ decimal value) values ++ (10 ∷ [])))
    → new ≡ old ++ line (turn_words values)
turn-written old new values h =
    let same : line (turn_words values) ≡ codes "turn" ++ (flat_map (λ value. 32 ∷ decimal value) values ++ (10 ∷ [])) =
    line-cons (codes "turn") (map decimal values) ∙ rw (flat_map-map decimal values) refl in
    h ∙ ap (λ (text : List ℕ). old ++ text) (sym same)

-- the next value's line
pub value_lines-next : (names : List (List ℕ)) (labels : List (List (List ℕ))) (values : List ℕ) (place : ℕ) (name : List ℕ) (here : List (List ℕ)) (value : ℕ)
    → slice_get names place ≡ Some name → place < length labels → place < length values
    → here ≡ get_or labels place here → value ≡ get_or values place value
    → value_lines (drop place names) (drop place labels) (drop place values)
    ≡ value_words name here value ∷ value_lines (drop (place + 1) names) (drop (place + 1) labels) (drop (place + 1) values)
value_lines-next names labels values place name here value is-name in-labels in-values is-here is-value =
    let in-names : place < length names = slice_get_within names place name is-name in
    let e : get_or names place name ≡ name = get_or_from_slice_get names place name name is-name in
    rw (add-one place, drop-cons names place name, drop-cons labels place here, drop-cons values place value, e, ← is-here, ← is-value) refl

-- each value has its word
pub get_or-worded : (labels : List (List (List ℕ))) (values : List ℕ) (place : ℕ) (here : List (List ℕ)) (value : ℕ)
    → AllZip HasWord labels values → place < length values → HasWord (get_or labels place here) (get_or values place value)
get_or-worded (here ∷ labels) (value ∷ values) zero d e all lt = all.0
get_or-worded (here ∷ labels) (value ∷ values) (suc place) d e all lt = get_or-worded labels values place d e all.1 (omega arith)
get_or-worded [] (value ∷ values) place d e all lt = absurd all
get_or-worded [] [] place d e all lt = absurd (omega arith)
get_or-worded (here ∷ labels) [] place d e all lt = absurd all

-- the value at a place has its word
pub worded-at : (labels : List (List (List ℕ))) (values : List ℕ) (place : ℕ) (here : List (List ℕ)) (value : ℕ)
    → AllZip HasWord labels values → place < length values
    → here ≡ get_or labels place here → value ≡ get_or values place value → HasWord here value
worded-at labels values place here value all lt is-here is-value =
    let h : HasWord (get_or labels place here) (get_or values place value) = get_or-worded labels values place here value all lt in
    let h2 : HasWord here (get_or values place value) = subst (λ (x : List (List ℕ)). HasWord x (get_or values place value)) (sym is-here) h in
    subst (λ (x : ℕ). HasWord here x) (sym is-value) h2
