-- What follows the line `end` of a problem text changes nothing in what is read before it.
use Rattle.std.proofs.Common.{◌≡◌, ℕ, ◌+◌, Bool, true, false, cond, nat_eq, List, [], ◌∷◌, ◌++◌, length, count_by, Result, Ok, refl, sym, ap, ap₂, subst, ◌∙◌, arith}
use Rattle.problem_text.specs.Bytes.{line_feed}
use Rattle.problem_text.specs.Declarations.{Declared, Outcome, Declares, Ends, Fails, version_alone}
use Rattle.problem_text.specs.Lines.{Line, has_some, words, content, lines, onto_first, numbered, with_words}
use Rattle.problem_text.specs.Reading.{Fault, Parts, line_outcome, read_on, lines_read, text_read}
use Rattle.answer_io.proofs.UsedLaws.{total}

-- a text that ends with line_feed has lines
pub data HasLines : List (List ℕ) → Type 0 where
  has_lines : (l : List ℕ) (ls : List (List ℕ)) → HasLines (l ∷ ls)

step_has : (c : Bool) (b : ℕ) (ls : List (List ℕ)) → HasLines (cond c ((b ∷ []) ∷ ls) (onto_first b ls))
step_has true b ls = has_lines (b ∷ []) ls
step_has false b [] = has_lines (b ∷ []) []
step_has false b (l ∷ ls) = has_lines (b ∷ l) ls

pub some_lines : (bytes : List ℕ) → HasLines (lines (bytes ++ line_feed ∷ []))
some_lines [] = has_lines (line_feed ∷ []) []
some_lines (b ∷ bs) = step_has (nat_eq b line_feed) b (lines (bs ++ line_feed ∷ []))

step_join : (c : Bool) (b : ℕ) (ls more : List (List ℕ)) → HasLines ls
    → cond c ((b ∷ []) ∷ (ls ++ more)) (onto_first b (ls ++ more)) ≡ cond c ((b ∷ []) ∷ ls) (onto_first b ls) ++ more
step_join true b ls more some = refl
step_join false b [] more some = elim some [ ]
step_join false b (l ∷ ls) more some = refl

-- the lines of a text that ends with line_feed, and of a text that follows it
pub lines_join : (bytes rest : List ℕ) → lines ((bytes ++ line_feed ∷ []) ++ rest) ≡ lines (bytes ++ line_feed ∷ []) ++ lines rest
lines_join [] rest = refl
lines_join (b ∷ bs) rest =
    ap (λ (ls : List (List ℕ)). cond (nat_eq b line_feed) ((b ∷ []) ∷ ls) (onto_first b ls)) (lines_join bs rest)
    ∙ step_join (nat_eq b line_feed) b (lines (bs ++ line_feed ∷ [])) (lines rest) (some_lines bs)

numbered_join : (number used : ℕ) (ls more : List (List ℕ))
    → numbered number used (ls ++ more) ≡ numbered number used ls ++ numbered (number + length ls) (used + total ls) more
numbered_join number used [] more =
    let numbers : number ≡ number + length {A = List ℕ} [] = omega arith in
    let bytes : used ≡ used + total [] = omega arith in
    ap₂ (λ (n u : ℕ). numbered n u more) numbers bytes
numbered_join number used (l ∷ ls) more =
    let first : Line = record { number = number; words = words (content l); used = used + length l } in
    let numbers : (number + 1) + length ls ≡ number + length (l ∷ ls) = omega arith in
    let bytes : (used + length l) + total ls ≡ used + total (l ∷ ls) = omega arith in
    ap (λ (xs : List Line). first ∷ xs) (numbered_join (number + 1) (used + length l) ls more)
    ∙ ap₂ (λ (n u : ℕ). first ∷ (numbered (number + 1) (used + length l) ls ++ numbered n u more)) numbers bytes

kept_join : (c : Bool) (line : Line) (ls more : List Line) → cond c (line ∷ (ls ++ more)) (ls ++ more) ≡ cond c (line ∷ ls) ls ++ more
kept_join true line ls more = refl
kept_join false line ls more = refl

worded_join : (ls more : List Line) → with_words (ls ++ more) ≡ with_words ls ++ with_words more
worded_join [] more = refl
worded_join (line ∷ ls) more =
    ap (λ (xs : List Line). cond (has_some line.words) (line ∷ xs) xs) (worded_join ls more)
    ∙ kept_join (has_some line.words) line (with_words ls) (with_words more)

-- a reading that ends within some lines ends there, whatever follows them
step_kept : (line : Line) (d : Declared) (o : Outcome) (later later' : Declared → Result Parts Fault) (parts : Parts)
    → ((more : Declared) → later more ≡ Ok parts → later' more ≡ Ok parts) → read_on line d o later ≡ Ok parts → read_on line d o later' ≡ Ok parts
step_kept line d (Declares more) later later' parts on is = on more is
step_kept line d Ends later later' parts on is = is
step_kept line d (Fails kind) later later' parts on is = absurd (cc)

read_kept : (over over' before : ℕ) (d : Declared) (ls more : List Line) (parts : Parts) → lines_read over before d ls ≡ Ok parts
    → lines_read over' before d (ls ++ more) ≡ Ok parts
read_kept over over' before d [] more parts is = absurd (cc)
read_kept over over' before d (line ∷ ls) more parts is =
    step_kept line d (line_outcome before d line.words) (λ m. lines_read over (before + 1) m ls) (λ m. lines_read over' (before + 1) m (ls ++ more)) parts
    (λ m on. read_kept over over' (before + 1) m ls more parts on) is

-- a problem text that ends with line_feed is read as it is alone, whatever follows it
pub text_kept : (problem before rest : List ℕ) (parts : Parts) → problem ≡ before ++ line_feed ∷ [] → text_read problem ≡ Ok parts → text_read (problem ++ rest) ≡ Ok parts
text_kept problem before rest parts ends is =
    let moved : text_read (before ++ line_feed ∷ []) ≡ Ok parts = subst (λ (t : List ℕ). text_read t ≡ Ok parts) ends is in
    let head : List (List ℕ) = lines (before ++ line_feed ∷ []) in
    let joined : with_words (numbered 1 0 (lines ((before ++ line_feed ∷ []) ++ rest))) ≡ with_words (numbered 1 0 head) ++ with_words (numbered (1 + length head) (0 + total head) (lines rest)) =
    ap (λ (ls : List (List ℕ)). with_words (numbered 1 0 ls)) (lines_join before rest)
    ∙ ap with_words (numbered_join 1 0 head (lines rest))
    ∙ worded_join (numbered 1 0 head) (numbered (1 + length head) (0 + total head) (lines rest)) in
    let over : ℕ = 1 + count_by (λ b. nat_eq b line_feed) ((before ++ line_feed ∷ []) ++ rest) in
    subst (λ (t : List ℕ). text_read (t ++ rest) ≡ Ok parts) (sym ends)
    (subst (λ (ls : List Line). lines_read over 0 (version_alone 1) ls ≡ Ok parts) (sym joined)
    (read_kept _ over 0 (version_alone 1) (with_words (numbered 1 0 head)) _ parts moved))
