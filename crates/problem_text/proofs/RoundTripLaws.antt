-- Lines of plain words: what a text of such lines is cut into.
use Rattle.std.proofs.Common.{◌≡◌, ℕ, ◌+◌, suc, Bool, true, false, not, List, [], ◌∷◌, ◌++◌, length, nat_eq, ◌||◌, ◌&&◌, refl, ap, ◌∙◌, arith}
use Rattle.std.specs.List.{list_all, filter, flat_map, join_with_byte, position_or_len}
use Rattle.std.proofs.lemmas.Bool.{and_parts, false≢true}
use Rattle.std.proofs.lemmas.List.Folds.{list_all-append}
use Rattle.problem_text.specs.Lines.{has_some, lines, without_last, content, before_comment, is_blank, between_blanks, words, Line, numbered, with_words}
use Rattle.problem_text.specs.Canonical.{line}
use Rattle.problem_text.specs.PlainLines.{Plain, plain_content, plain_lines}
use Rattle.problem_text.proofs.SplitLaws.{without_last-there}

-- a byte that neither ends a line nor a word nor begins a comment
abbrev pub is_plain : ℕ → Bool
is_plain b = not (nat_eq b 10 || nat_eq b 13 || nat_eq b 35 || is_blank b)

-- a word of such bytes
abbrev pub is_word : List ℕ → Bool
is_word word = has_some word && list_all is_plain word

abbrev is_inner : ℕ → Bool
is_inner b = not (nat_eq b 10 || nat_eq b 13 || nat_eq b 35)

plain-inner : (b : ℕ) → is_plain b ≡ true → is_inner b ≡ true
plain-inner b h = step (nat_eq b 10) (nat_eq b 13) (nat_eq b 35) (is_blank b) h
  where
    step : (p q r s : Bool) → not (p || q || r || s) ≡ true → not (p || q || r) ≡ true
    step false false false s h = refl
    step true q r s h = h
    step false true r s h = h
    step false false true s h = h

inner-all : (bs : List ℕ) → list_all is_plain bs ≡ true → list_all is_inner bs ≡ true
inner-all [] h = refl
inner-all (b ∷ bs) h =
    let parts = and_parts (is_plain b) (list_all is_plain bs) h in
    rw (plain-inner b parts.0, inner-all bs parts.1) refl

inner-parts : (p q r : Bool) → not (p || q || r) ≡ true → (p ≡ false) × (q ≡ false) × (r ≡ false)
inner-parts false false false h = (refl, refl, refl)
inner-parts true q r h = absurd (false≢true h)
inner-parts false true r h = absurd (false≢true h)
inner-parts false false true h = absurd (false≢true h)

-- words with a space between them have no such byte either
join-inner : (ws : List (List ℕ)) → list_all is_word ws ≡ true → list_all is_inner (join_with_byte 32 ws) ≡ true
join-inner [] h = refl
join-inner (w ∷ []) h =
    let parts = and_parts (is_word w) true h in
    inner-all w (and_parts (has_some w) (list_all is_plain w) parts.0).1
join-inner (w ∷ v ∷ vs) h =
    let parts = and_parts (is_word w) (list_all is_word (v ∷ vs)) h in
    rw (list_all-append is_inner w (32 ∷ join_with_byte 32 (v ∷ vs)), inner-all w (and_parts (has_some w) (list_all is_plain w) parts.0).1, join-inner (v ∷ vs) parts.1) refl

-- a line that ends with LF is a text's first
lines-first : (bs rest : List ℕ) → list_all is_inner bs ≡ true → lines ((bs ++ (10 ∷ [])) ++ rest) ≡ (bs ++ (10 ∷ [])) ∷ lines rest
lines-first [] rest h = refl
lines-first (b ∷ bs) rest h =
    let parts = and_parts (is_inner b) (list_all is_inner bs) h in
    let here = inner-parts (nat_eq b 10) (nat_eq b 13) (nat_eq b 35) parts.0 in
    rw (here.0, lines-first bs rest parts.1) refl

no-cr : (bs : List ℕ) → list_all is_inner bs ≡ true → without_last 13 bs ≡ bs
no-cr [] h = refl
no-cr (b ∷ []) h =
    let parts = and_parts (is_inner b) true h in
    let here = inner-parts (nat_eq b 10) (nat_eq b 13) (nat_eq b 35) parts.0 in
    rw here.1 refl
no-cr (b ∷ c ∷ cs) h =
    let parts = and_parts (is_inner b) (list_all is_inner (c ∷ cs)) h in
    rw (no-cr (c ∷ cs) parts.1) refl

no-comment : (bs : List ℕ) → list_all is_inner bs ≡ true → before_comment bs ≡ bs
no-comment [] h = refl
no-comment (b ∷ bs) h =
    let parts = and_parts (is_inner b) (list_all is_inner bs) h in
    let here = inner-parts (nat_eq b 10) (nat_eq b 13) (nat_eq b 35) parts.0 in
    let e : 1 + position_or_len (λ b. nat_eq b 35) bs ≡ suc (position_or_len (λ b. nat_eq b 35) bs) = omega arith in
    rw (here.2, e, no-comment bs parts.1) refl

-- what a line of such bytes says
content-line : (bs : List ℕ) → list_all is_inner bs ≡ true → content (bs ++ (10 ∷ [])) ≡ bs
content-line bs h = rw (without_last-there 10 10 bs refl, no-cr bs h) (no-comment bs h)

plain-blank : (p q r s : Bool) → not (p || q || r || s) ≡ true → s ≡ false
plain-blank false false false false h = refl
plain-blank false false false true h = absurd (false≢true h)
plain-blank true q r s h = absurd (false≢true h)
plain-blank false true r s h = absurd (false≢true h)
plain-blank false false true s h = absurd (false≢true h)

between-word : (w rest : List ℕ) → list_all is_plain w ≡ true → between_blanks (w ++ (32 ∷ rest)) ≡ w ∷ between_blanks rest
between-word [] rest h = refl
between-word (b ∷ bs) rest h =
    let parts = and_parts (is_plain b) (list_all is_plain bs) h in
    rw (plain-blank (nat_eq b 10) (nat_eq b 13) (nat_eq b 35) (is_blank b) parts.0, between-word bs rest parts.1) refl

between-last : (w : List ℕ) → list_all is_plain w ≡ true → between_blanks w ≡ w ∷ []
between-last [] h = refl
between-last (b ∷ bs) h =
    let parts = and_parts (is_plain b) (list_all is_plain bs) h in
    rw (plain-blank (nat_eq b 10) (nat_eq b 13) (nat_eq b 35) (is_blank b) parts.0, between-last bs parts.1) refl

filter-word : (w : List ℕ) (ws : List (List ℕ)) → has_some w ≡ true → filter has_some (w ∷ ws) ≡ w ∷ filter has_some ws
filter-word w ws h = rw h refl

-- words with a space between them are those words
words-join : (ws : List (List ℕ)) → list_all is_word ws ≡ true → words (join_with_byte 32 ws) ≡ ws
words-join [] h = refl
words-join (w ∷ []) h =
    let parts = and_parts (is_word w) true h in
    let plain = and_parts (has_some w) (list_all is_plain w) parts.0 in
    ap (λ runs. filter has_some runs) (between-last w plain.1) ∙ filter-word w [] plain.0
words-join (w ∷ v ∷ vs) h =
    let parts = and_parts (is_word w) (list_all is_word (v ∷ vs)) h in
    let plain = and_parts (has_some w) (list_all is_plain w) parts.0 in
    ap (λ runs. filter has_some runs) (between-word w (join_with_byte 32 (v ∷ vs)) plain.1)
    ∙ filter-word w (between_blanks (join_with_byte 32 (v ∷ vs))) plain.0
    ∙ ap (λ ws. w ∷ ws) (words-join (v ∷ vs) parts.1)

-- whether a line is of plain words, and of one at least
abbrev pub is_line : List (List ℕ) → Bool
is_line ws = has_some ws && list_all is_word ws

-- lines of words, numbered from here on and behind so many bytes
abbrev pub worded : ℕ → ℕ → List (List (List ℕ)) → List Line
worded number used [] = []
worded number used (ws ∷ later) = record { number = number; words = ws; used = used + length (line ws) } ∷ worded (number + 1) (used + length (line ws)) later

-- a text of such lines is those lines
pub lines-of-words : (number used : ℕ) (wss : List (List (List ℕ))) → list_all is_line wss ≡ true → with_words (numbered number used (lines (flat_map line wss))) ≡ worded number used wss
lines-of-words number used [] h = refl
lines-of-words number used (ws ∷ later) h =
    let parts = and_parts (is_line ws) (list_all is_line later) h in
    let own = and_parts (has_some ws) (list_all is_word ws) parts.0 in
    let inner = join-inner ws own.1 in
    rw (lines-first (join_with_byte 32 ws) (flat_map line later) inner, content-line (join_with_byte 32 ws) inner, words-join ws own.1, own.0, lines-of-words (number + 1) (used + length (line ws)) later parts.1) refl

-- what a line of such bytes says where no byte begins a comment
plain_content-line : (bs : List ℕ) → list_all is_inner bs ≡ true → plain_content (bs ++ (10 ∷ [])) ≡ bs
plain_content-line bs h = rw (without_last-there 10 10 bs refl) (no-cr bs h)

-- lines of words in a text without comments, numbered from here on
abbrev pub plain_worded : ℕ → List (List (List ℕ)) → List Plain
plain_worded number [] = []
plain_worded number (ws ∷ later) = record { number = number; words = ws } ∷ plain_worded (number + 1) later

-- a text of such lines is those lines
pub plain-lines-of-words : (number : ℕ) (wss : List (List (List ℕ))) → list_all is_line wss ≡ true → plain_lines number (flat_map line wss) ≡ plain_worded number wss
plain-lines-of-words number [] h = refl
plain-lines-of-words number (ws ∷ later) h =
    let parts = and_parts (is_line ws) (list_all is_line later) h in
    let own = and_parts (has_some ws) (list_all is_word ws) parts.0 in
    let inner = join-inner ws own.1 in
    rw (lines-first (join_with_byte 32 ws) (flat_map line later) inner, plain_content-line (join_with_byte 32 ws) inner, words-join ws own.1, own.0, plain-lines-of-words (number + 1) later parts.1) refl
