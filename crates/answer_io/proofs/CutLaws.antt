-- The words of a text that ends with line_feed, and of a text that follows it.
use Rattle.std.proofs.Common.{◌≡◌, ℕ, ◌+◌, ◌≤◌, Bool, true, false, cond, List, [], ◌∷◌, ◌++◌, length, map, refl, sym, ap, subst, ◌∙◌, arith}
use Rattle.std.specs.List.{filter}
use Rattle.std.proofs.lemmas.List.{length-append, append-nil}
use Rattle.std.proofs.lemmas.List.Elements.{filter-append}
use Rattle.problem_text.specs.Bytes.{line_feed}
use Rattle.problem_text.specs.Lines.{has_some}
use Rattle.wcsp_text.specs.Words.{Word, is_separator, onto_first, pieces, words}

-- a word with `n` more bytes after it
abbrev pub moved_word : ℕ → Word → Word
moved_word n w = record { text = w.text; after = w.after + n }

-- each of these words has a byte after it
abbrev pub AllBefore : List Word → Type 0
AllBefore [] = Unit {0}
AllBefore (w ∷ ws) = (1 ≤ w.after) × AllBefore ws

-- each of these words has at most `most` bytes after it
abbrev pub AllWithin : ℕ → List Word → Type 0
AllWithin most [] = Unit {0}
AllWithin most (w ∷ ws) = (w.after ≤ most) × AllWithin most ws

abbrev HasSome : List Word → Type 0
HasSome [] = ⊥
HasSome (w ∷ ws) = Unit {0}

abbrev has_bytes : Word → Bool
has_bytes w = has_some w.text

-- the pieces of a text before the line_feed that ends the last of them
abbrev front : List ℕ → List Word
front [] = record { text = []; after = 1 } ∷ []
front (b ∷ bs) =
    cond (is_separator b) (record { text = []; after = length (b ∷ (bs ++ line_feed ∷ [])) } ∷ front bs) (onto_first b (front bs))

step_some : (t : Bool) (b : ℕ) (w : Word) (ps : List Word) → HasSome ps → HasSome (cond t (w ∷ ps) (onto_first b ps))
step_some true b w ps some = tt
step_some false b w [] some = absurd some
step_some false b w (p ∷ ps) some = tt

front_some : (bytes : List ℕ) → HasSome (front bytes)
front_some [] = tt
front_some (b ∷ bs) = step_some (is_separator b) b (record { text = []; after = length (b ∷ (bs ++ line_feed ∷ [])) }) (front bs) (front_some bs)

step_before : (t : Bool) (b : ℕ) (w : Word) (ps : List Word) → 1 ≤ w.after → AllBefore ps → AllBefore (cond t (w ∷ ps) (onto_first b ps))
step_before true b w ps here all = (here, all)
step_before false b w [] here all = tt
step_before false b w (p ∷ ps) here all = all

front_before : (bytes : List ℕ) → AllBefore (front bytes)
front_before [] = (omega arith, tt)
front_before (b ∷ bs) =
    step_before (is_separator b) b (record { text = []; after = length (b ∷ (bs ++ line_feed ∷ [])) }) (front bs) (omega arith) (front_before bs)

kept_before : (t : Bool) (w : Word) (ws : List Word) → 1 ≤ w.after → AllBefore ws → AllBefore (cond t (w ∷ ws) ws)
kept_before true w ws here all = (here, all)
kept_before false w ws here all = all

words_before : (ps : List Word) → AllBefore ps → AllBefore (filter has_bytes ps)
words_before [] all = tt
words_before (p ∷ ps) all = kept_before (has_bytes p) p (filter has_bytes ps) all.0 (words_before ps all.1)

step_within : (t : Bool) (most b : ℕ) (w : Word) (ps : List Word) → w.after ≤ most → AllWithin most ps → AllWithin most (cond t (w ∷ ps) (onto_first b ps))
step_within true most b w ps here all = (here, all)
step_within false most b w [] here all = tt
step_within false most b w (p ∷ ps) here all = all

pieces_within : (most : ℕ) (bytes : List ℕ) → length bytes ≤ most → AllWithin most (pieces bytes)
pieces_within most [] within = (omega arith, tt)
pieces_within most (b ∷ bs) within =
    step_within (is_separator b) most b (record { text = []; after = length (b ∷ bs) }) (pieces bs) within (pieces_within most bs (omega (arith, within)))

kept_within : (t : Bool) (most : ℕ) (w : Word) (ws : List Word) → w.after ≤ most → AllWithin most ws → AllWithin most (cond t (w ∷ ws) ws)
kept_within true most w ws here all = (here, all)
kept_within false most w ws here all = all

filter_within : (most : ℕ) (ps : List Word) → AllWithin most ps → AllWithin most (filter has_bytes ps)
filter_within most [] all = tt
filter_within most (p ∷ ps) all = kept_within (has_bytes p) most p (filter has_bytes ps) all.0 (filter_within most ps all.1)

-- each word of a text has at most as many bytes after it as the text has
pub words_within : (bytes : List ℕ) → AllWithin (length bytes) (words bytes)
words_within bytes = filter_within (length bytes) (pieces bytes) (pieces_within (length bytes) bytes (omega arith))

onto_join : (b : ℕ) (ps more : List Word) → HasSome ps → onto_first b (ps ++ more) ≡ onto_first b ps ++ more
onto_join b [] more some = absurd some
onto_join b (p ∷ ps) more some = refl

onto_moved : (n b : ℕ) (ps : List Word) → onto_first b (map (moved_word n) ps) ≡ map (moved_word n) (onto_first b ps)
onto_moved n b [] = refl
onto_moved n b (p ∷ ps) = refl

step_alone : (t : Bool) (b : ℕ) (w : Word) (ps all more : List Word) → HasSome ps → all ≡ ps ++ more → cond t (w ∷ all) (onto_first b all) ≡ cond t (w ∷ ps) (onto_first b ps) ++ more
step_alone true b w ps all more some is = ap (λ (ws : List Word). w ∷ ws) is
step_alone false b w ps all more some is = ap (onto_first b) is ∙ onto_join b ps more some

-- the pieces of a text that ends with line_feed
pieces_alone : (bytes : List ℕ) → pieces (bytes ++ line_feed ∷ []) ≡ front bytes ++ (record { text = []; after = 0 } ∷ [])
pieces_alone [] = refl
pieces_alone (b ∷ bs) =
    step_alone (is_separator b) b (record { text = []; after = length (b ∷ (bs ++ line_feed ∷ [])) }) (front bs) (pieces (bs ++ line_feed ∷ [])) (record { text = []; after = 0 } ∷ [])
    (front_some bs) (pieces_alone bs)

some_moved : (n : ℕ) (ps : List Word) → HasSome ps → HasSome (map (moved_word n) ps)
some_moved n [] some = some
some_moved n (p ∷ ps) some = tt

step_join : (t : Bool) (n b : ℕ) (v w : Word) (ps all more : List Word) → HasSome ps → v ≡ moved_word n w → all ≡ map (moved_word n) ps ++ more
    → cond t (v ∷ all) (onto_first b all) ≡ map (moved_word n) (cond t (w ∷ ps) (onto_first b ps)) ++ more
step_join true n b v w ps all more some same is =
    ap (λ (x : Word). x ∷ all) same ∙ ap (λ (ws : List Word). moved_word n w ∷ ws) is
step_join false n b v w ps all more some same is =
    ap (onto_first b) is ∙ onto_join b (map (moved_word n) ps) more (some_moved n ps some) ∙ ap (λ (ws : List Word). ws ++ more) (onto_moved n b ps)

-- an empty piece, given how many bytes follow it
blank_same : (m n : ℕ) → m ≡ n → ◌≡◌ {A = Word} (record { text = []; after = m }) (record { text = []; after = n })
blank_same m n same = ap (λ (k : ℕ). record { text = []; after = k }) same

-- the pieces of a text that ends with line_feed, and of a text that follows it
pieces_join : (bytes rest : List ℕ) → pieces ((bytes ++ line_feed ∷ []) ++ rest) ≡ map (moved_word (length rest)) (front bytes) ++ pieces rest
pieces_join [] rest =
    ap (λ (w : Word). w ∷ pieces rest) (blank_same (length (line_feed ∷ rest)) (1 + length rest) (omega arith))
pieces_join (b ∷ bs) rest =
    let size : length (b ∷ ((bs ++ line_feed ∷ []) ++ rest)) ≡ length (b ∷ (bs ++ line_feed ∷ [])) + length rest =
    let all = length-append (bs ++ line_feed ∷ []) rest in omega (arith, all) in
    step_join (is_separator b) (length rest) b (record { text = []; after = length (b ∷ ((bs ++ line_feed ∷ []) ++ rest)) })
    (record { text = []; after = length (b ∷ (bs ++ line_feed ∷ [])) }) (front bs) (pieces ((bs ++ line_feed ∷ []) ++ rest)) (pieces rest)
    (front_some bs) (blank_same _ _ size) (pieces_join bs rest)

kept_moved : (t : Bool) (n : ℕ) (w : Word) (ws : List Word) → cond t (moved_word n w ∷ map (moved_word n) ws) (map (moved_word n) ws) ≡ map (moved_word n) (cond t (w ∷ ws) ws)
kept_moved true n w ws = refl
kept_moved false n w ws = refl

filter_moved : (n : ℕ) (ps : List Word) → filter has_bytes (map (moved_word n) ps) ≡ map (moved_word n) (filter has_bytes ps)
filter_moved n [] = refl
filter_moved n (p ∷ ps) =
    ap (λ (ws : List Word). cond (has_bytes p) (moved_word n p ∷ ws) ws) (filter_moved n ps) ∙ kept_moved (has_bytes p) n p (filter has_bytes ps)

-- the words of a text that ends with line_feed are those of its pieces before it
words_alone : (bytes : List ℕ) → words (bytes ++ line_feed ∷ []) ≡ filter has_bytes (front bytes)
words_alone bytes =
    ap (filter has_bytes) (pieces_alone bytes) ∙ filter-append has_bytes (front bytes) (record { text = []; after = 0 } ∷ [])
    ∙ append-nil (filter has_bytes (front bytes))

-- each of these words has a byte after it
pub alone_before : (bytes : List ℕ) → AllBefore (words (bytes ++ line_feed ∷ []))
alone_before bytes = subst AllBefore (sym (words_alone bytes)) (words_before (front bytes) (front_before bytes))

-- the words of a text that ends with line_feed, and those of a text that follows it
pub words_join : (bytes rest : List ℕ) → words ((bytes ++ line_feed ∷ []) ++ rest) ≡ map (moved_word (length rest)) (words (bytes ++ line_feed ∷ [])) ++ words rest
words_join bytes rest =
    ap (filter has_bytes) (pieces_join bytes rest)
    ∙ filter-append has_bytes (map (moved_word (length rest)) (front bytes)) (pieces rest)
    ∙ ap (λ (ws : List Word). ws ++ words rest) (filter_moved (length rest) (front bytes) ∙ ap (map (moved_word (length rest))) (sym (words_alone bytes)))
