-- Lines as their words come: a first word, and each further one behind a space.
use Rattle.std.proofs.Common.{◌≡◌, ℕ, ◌<◌, ◌+◌, List, [], ◌∷◌, ◌++◌, map, length, drop, get_or, refl, sym, ap, ◌∙◌, append_assoc, arith, Some, slice_index, slice_get, codes, drop-cons, add-one}
use Rattle.std.specs.List.{flat_map, join_with_byte, slice_index_or}
use Rattle.std.specs.Fmt.{decimal}
use Rattle.std.proofs.lemmas.Grind.{common_steps, flat_map-append}
use Rattle.problem_text.specs.Canonical.{line, value_words, variable_words, variable_lines, table_words}
use Rattle.dcop_base.specs.Table.{CostTable}
use Rattle.std.proofs.lemmas.Option.{get_or_from_slice_get, slice_get_within}

-- a word behind a space
abbrev pub spaced : List ℕ → List ℕ
spaced word = 32 ∷ word

-- words joined by spaces
pub join-cons : (word : List ℕ) (words : List (List ℕ)) → join_with_byte 32 (word ∷ words) ≡ word ++ flat_map spaced words
join-cons word [] = grind (arith, common_steps)
join-cons word (next ∷ words) = ap (λ rest. word ++ (32 ∷ rest)) (join-cons next words)

-- a line of a first word and further ones
pub line-cons : (word : List ℕ) (words : List (List ℕ)) → line (word ∷ words) ≡ (word ++ flat_map spaced words) ++ (10 ∷ [])
line-cons word words = ap (λ text. text ++ (10 ∷ [])) (join-cons word words)

-- words that are made of elements
pub flat_map-map : {A : Type 0} (g : A → List ℕ) (xs : List A) → flat_map spaced (map g xs) ≡ flat_map (λ x. 32 ∷ g x) xs
flat_map-map g [] = refl
flat_map-map g (x ∷ xs) = ap (λ rest. (32 ∷ g x) ++ rest) (flat_map-map g xs)

-- the words of values that have names
pub value_words-named : (size : ℕ) (labels : List (List ℕ)) → 0 < length labels → flat_map spaced (value_words size labels) ≡ (32 ∷ 58 ∷ []) ++ flat_map spaced labels
value_words-named size [] h = absurd (omega arith)
value_words-named size (label ∷ labels) h = refl

-- the line of a table: its scope and its cells, each word behind a space
pub table-line : (names : List (List ℕ)) (t : CostTable) → line (table_words names t)
    ≡ (codes "table" ++ (flat_map (λ v. 32 ∷ slice_index_or names v []) t.scope ++ (codes " :" ++ (flat_map (λ cell. 32 ∷ decimal cell) t.cells ++ (10 ∷ [])))))
table-line names t =
    line-cons (codes "table") (map (λ v. slice_index_or names v []) t.scope ++ (codes ":" ∷ map decimal t.cells))
    ∙ rw (flat_map-append spaced (map (λ v. slice_index_or names v []) t.scope) (codes ":" ∷ map decimal t.cells), flat_map-map (λ v. slice_index_or names v []) t.scope, flat_map-map decimal t.cells) (ap (λ rest. codes "table" ++ rest) (append_assoc (flat_map (λ v. 32 ∷ slice_index_or names v []) t.scope) (codes " :" ++ flat_map (λ cell. 32 ∷ decimal cell) t.cells) (10 ∷ [])))

-- a table's line, written word by word
pub table-written : (old new : List ℕ) (names : List (List ℕ)) (t : CostTable)
    → new ≡ old ++ (codes "table" ++ (flat_map (λ v. 32 ∷ slice_index_or names v []) t.scope ++ (codes " :" ++ (flat_map (λ cell. 32 ∷ decimal cell) t.cells ++ (10 ∷ [])))))
    → new ≡ old ++ line (table_words names t)
table-written old new names t h = h ∙ ap (λ text. old ++ text) (sym (table-line names t))

-- the next variable's line
pub variable_lines-next : (names : List (List ℕ)) (sizes : List ℕ) (labels : List (List (List ℕ))) (place : ℕ) (name : List ℕ) (here : List (List ℕ))
    → slice_get names place ≡ Some name → place < length sizes → place < length labels → here ≡ get_or labels place here
    → variable_lines (drop place names) (drop place sizes) (drop place labels)
    ≡ variable_words name (slice_index sizes place) here ∷ variable_lines (drop (place + 1) names) (drop (place + 1) sizes) (drop (place + 1) labels)
variable_lines-next names sizes labels place name here is-name in-sizes in-labels is-here =
    let in-names : place < length names = slice_get_within names place name is-name in
    let e : get_or names place name ≡ name = get_or_from_slice_get names place name name is-name in
    rw (add-one place, drop-cons names place name, drop-cons sizes place 0, drop-cons labels place here, e, ← is-here) refl

-- one more piece of a text
pub piece-next : (old new piece rest whole : List ℕ) → new ≡ old ++ piece → old ++ (piece ++ rest) ≡ whole → new ++ rest ≡ whole
piece-next old new piece rest whole e h = rw (e, append_assoc) h
