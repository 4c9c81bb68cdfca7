-- Lines of plain words: what they are made of is what they are cut into.
use Rattle.std.proofs.Common.{◌≡◌, ℕ, ◌+◌, suc, Bool, true, false, ◌&&◌, ◌||◌, List, [], ◌∷◌, ◌++◌, map, length, nat_eq, nat_lt, refl, ap, ◌∙◌, append_assoc, arith}
use Rattle.std.specs.List.{list_all, flat_map, filter, join_with_byte, position_or_len}
use Rattle.std.specs.Cmp.{first_so, second_so}
use Rattle.std.proofs.lemmas.Bool.{false≢true}
use Rattle.std.proofs.lemmas.Bool.Decides.{nat_tests}
use Rattle.std.proofs.lemmas.List.Folds.{list_all-append}
use Rattle.problem_text.specs.Lines.{Line, has_some, lines, without_last, before_comment, content, is_blank, between_blanks, words, numbered, with_words}
use Rattle.problem_text.specs.Canonical.{line}

-- a byte at which neither a text nor a line is cut
abbrev pub is_plain : ℕ → Bool
is_plain b = nat_lt 35 b

-- a plain byte or the space between words
abbrev pub is_inner : ℕ → Bool
is_inner b = nat_lt 35 b || nat_eq b 32

-- a word of plain bytes
abbrev pub is_plain_word : List ℕ → Bool
is_plain_word word = has_some word && list_all is_plain word

-- a line's words: one or more, of plain bytes
abbrev pub is_plain_line : List (List ℕ) → Bool
is_plain_line words = has_some words && list_all is_plain_word words

plain-inner : (b : ℕ) → is_plain b ≡ true → is_inner b ≡ true
plain-inner b h = rw h refl

no-lf : (b : ℕ) → is_inner b ≡ true → nat_eq b 10 ≡ false
no-lf b h = grind (arith, nat_tests)

no-cr : (b : ℕ) → is_inner b ≡ true → nat_eq b 13 ≡ false
no-cr b h = grind (arith, nat_tests)

no-hash : (b : ℕ) → is_inner b ≡ true → nat_eq b 35 ≡ false
no-hash b h = grind (arith, nat_tests)

no-blank : (b : ℕ) → is_plain b ≡ true → is_blank b ≡ false
no-blank b h = grind (arith, nat_tests)

-- a text that begins with bytes and LF: its first line
pub lines-line : (bytes rest : List ℕ) → list_all is_inner bytes ≡ true → lines (bytes ++ (10 ∷ rest)) ≡ (bytes ++ (10 ∷ [])) ∷ lines rest
lines-line [] rest h = refl
lines-line (b ∷ bs) rest h =
    rw (no-lf b (first_so (is_inner b) (list_all is_inner bs) h), lines-line bs rest (second_so (is_inner b) (list_all is_inner bs) h)) refl

-- bytes that are plain may stand inside of a line
pub inner-word : (word : List ℕ) → list_all is_plain word ≡ true → list_all is_inner word ≡ true
inner-word [] h = refl
inner-word (b ∷ bs) h =
    rw (plain-inner b (first_so (is_plain b) (list_all is_plain bs) h), inner-word bs (second_so (is_plain b) (list_all is_plain bs) h)) refl

-- so may plain words with spaces between them
pub inner-join : (ws : List (List ℕ)) → list_all is_plain_word ws ≡ true → list_all is_inner (join_with_byte 32 ws) ≡ true
inner-join [] h = refl
inner-join (w ∷ []) h = inner-word w (second_so (has_some w) (list_all is_plain w) (first_so (is_plain_word w) true h))
inner-join (w ∷ v ∷ ws) h =
    rw (
      list_all-append is_inner w (32 ∷ join_with_byte 32 (v ∷ ws)),
      inner-word w (second_so (has_some w) (list_all is_plain w) (first_so (is_plain_word w) (list_all is_plain_word (v ∷ ws)) h)),
      inner-join (v ∷ ws) (second_so (is_plain_word w) (list_all is_plain_word (v ∷ ws)) h),
    ) refl

-- lines one behind the other are cut into these lines
pub lines-lines : (wss : List (List (List ℕ))) → list_all is_plain_line wss ≡ true → lines (flat_map line wss) ≡ map line wss
lines-lines [] h = refl
lines-lines (ws ∷ wss) h =
    let here = second_so (has_some ws) (list_all is_plain_word ws) (first_so (is_plain_line ws) (list_all is_plain_line wss) h) in
    rw (append_assoc (join_with_byte 32 ws) (10 ∷ []) (flat_map line wss))
    (lines-line (join_with_byte 32 ws) (flat_map line wss) (inner-join ws here)
    ∙ ap (λ ls. line ws ∷ ls) (lines-lines wss (second_so (is_plain_line ws) (list_all is_plain_line wss) h)))

without-lf : (bytes : List ℕ) → without_last 10 (bytes ++ (10 ∷ [])) ≡ bytes
without-lf [] = refl
without-lf (b ∷ []) = refl
without-lf (b ∷ c ∷ bs) = ap (λ t. b ∷ t) (without-lf (c ∷ bs))

without-cr : (bytes : List ℕ) → list_all is_inner bytes ≡ true → without_last 13 bytes ≡ bytes
without-cr [] h = refl
without-cr (b ∷ []) h = rw (no-cr b (first_so (is_inner b) true h)) refl
without-cr (b ∷ c ∷ bs) h = ap (λ t. b ∷ t) (without-cr (c ∷ bs) (second_so (is_inner b) (list_all is_inner (c ∷ bs)) h))

without-hash : (bytes : List ℕ) → list_all is_inner bytes ≡ true → before_comment bytes ≡ bytes
without-hash [] h = refl
without-hash (b ∷ bs) h =
    let e : 1 + position_or_len (λ x. nat_eq x 35) bs ≡ suc (position_or_len (λ x. nat_eq x 35) bs) = omega arith in
    rw (no-hash b (first_so (is_inner b) (list_all is_inner bs) h), e)
    (ap (λ t. b ∷ t) (without-hash bs (second_so (is_inner b) (list_all is_inner bs) h)))

-- what a line says is what stands before its LF
pub content-line : (bytes : List ℕ) → list_all is_inner bytes ≡ true → content (bytes ++ (10 ∷ [])) ≡ bytes
content-line bytes h = rw (without-lf bytes, without-cr bytes h) (without-hash bytes h)

between-word : (word rest : List ℕ) → list_all is_plain word ≡ true → between_blanks (word ++ (32 ∷ rest)) ≡ word ∷ between_blanks rest
between-word [] rest h = refl
between-word (b ∷ bs) rest h =
    rw (no-blank b (first_so (is_plain b) (list_all is_plain bs) h), between-word bs rest (second_so (is_plain b) (list_all is_plain bs) h)) refl

between-last : (word : List ℕ) → list_all is_plain word ≡ true → between_blanks word ≡ word ∷ []
between-last [] h = refl
between-last (b ∷ bs) h =
    rw (no-blank b (first_so (is_plain b) (list_all is_plain bs) h), between-last bs (second_so (is_plain b) (list_all is_plain bs) h)) refl

between-join : (word : List ℕ) (later : List (List ℕ)) → list_all is_plain_word (word ∷ later) ≡ true → between_blanks (join_with_byte 32 (word ∷ later)) ≡ word ∷ later
between-join w [] h = between-last w (second_so (has_some w) (list_all is_plain w) (first_so (is_plain_word w) true h))
between-join w (v ∷ ws) h =
    between-word w (join_with_byte 32 (v ∷ ws)) (second_so (has_some w) (list_all is_plain w) (first_so (is_plain_word w) (list_all is_plain_word (v ∷ ws)) h))
    ∙ ap (λ t. w ∷ t) (between-join v ws (second_so (is_plain_word w) (list_all is_plain_word (v ∷ ws)) h))

all-some : (ws : List (List ℕ)) → list_all is_plain_word ws ≡ true → filter has_some ws ≡ ws
all-some [] h = refl
all-some (w ∷ ws) h =
    rw (first_so (has_some w) (list_all is_plain w) (first_so (is_plain_word w) (list_all is_plain_word ws) h))
    (ap (λ t. w ∷ t) (all-some ws (second_so (is_plain_word w) (list_all is_plain_word ws) h)))

-- plain words joined by spaces are cut into these words
pub words-join : (ws : List (List ℕ)) → is_plain_line ws ≡ true → words (join_with_byte 32 ws) ≡ ws
words-join [] h = absurd (false≢true h)
words-join (w ∷ ws) h = rw (between-join w ws h) (all-some (w ∷ ws) h)

-- the words of a line
pub words-line : (ws : List (List ℕ)) → is_plain_line ws ≡ true → words (content (line ws)) ≡ ws
words-line ws h = rw (content-line (join_with_byte 32 ws) (inner-join ws (second_so (has_some ws) (list_all is_plain_word ws) h))) (words-join ws h)

-- lines of these words, from this number on and behind so many bytes
abbrev pub told : ℕ → ℕ → List (List (List ℕ)) → List Line
told number used [] = []
told number used (ws ∷ wss) = record { number = number; words = ws; used = used + length (line ws) } ∷ told (number + 1) (used + length (line ws)) wss

-- lines that were written are read with their words
pub lines-told : (number used : ℕ) (wss : List (List (List ℕ))) → list_all is_plain_line wss ≡ true → with_words (numbered number used (map line wss)) ≡ told number used wss
lines-told number used [] h = refl
lines-told number used (ws ∷ wss) h =
    let here = first_so (is_plain_line ws) (list_all is_plain_line wss) h in
    rw (words-line ws here, first_so (has_some ws) (list_all is_plain_word ws) here)
    (ap (λ t. record { number = number; words = ws; used = used + length (line ws) } ∷ t)
    (lines-told (number + 1) (used + length (line ws)) wss (second_so (is_plain_line ws) (list_all is_plain_line wss) h)))
