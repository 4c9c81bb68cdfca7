-- Lines without words before a report change nothing in what it is read as.
use Rattle.std.proofs.Common.{◌≡◌, ℕ, ◌+◌, ◌≤◌, zero, suc, Bool, true, false, cond, nat_eq, List, [], ◌∷◌, ◌++◌, length, drop, count_by, ◌⊎◌, inl, inr, Ok, refl, sym, ap, subst, ◌∙◌, arith}
use Rattle.std.specs.List.{filter}
use Rattle.std.proofs.lemmas.List.{drop-append-le}
use Rattle.problem_text.specs.Bytes.{line_feed}
use Rattle.problem_text.specs.File.{TextFile}
use Rattle.problem_text.specs.Lines.{has_some, lines, words}
use Rattle.problem_text.specs.PlainLines.{Plain, plain_content, plain_numbered, plain_lines}
use Rattle.certificate_text.specs.declared.report.Report.{Report}
use Rattle.report_reader.specs.ReportLines.{Left, whole}
use Rattle.report_reader.specs.ReportReading.{lines_read, report_read}
use Rattle.report_reader.proofs.NumberLaws.{SameWords, read-same}
use Rattle.answer_io.proofs.PrefixLaws.{lines_join}

kept_same : (c : Bool) (x y : Plain) (xs ys : List Plain) → x.words ≡ y.words → SameWords xs ys → SameWords (cond c (x ∷ xs) xs) (cond c (y ∷ ys) ys)
kept_same true x y xs ys same later = (same, later)
kept_same false x y xs ys same later = later

abbrev worded : List Plain → List Plain
worded ls = filter (λ line. has_some line.words) ls

numbers_free : (n m : ℕ) (ls : List (List ℕ)) → SameWords (worded (plain_numbered n ls)) (worded (plain_numbered m ls))
numbers_free n m [] = tt
numbers_free n m (l ∷ ls) =
    kept_same (has_some (words (plain_content l))) (record { number = n; words = words (plain_content l) }) (record { number = m; words = words (plain_content l) })
    (worded (plain_numbered (n + 1) ls)) (worded (plain_numbered (m + 1) ls)) refl (numbers_free (n + 1) (m + 1) ls)

numbered_join : (n : ℕ) (ls more : List (List ℕ)) → plain_numbered n (ls ++ more) ≡ plain_numbered n ls ++ plain_numbered (n + length ls) more
numbered_join n [] more = ap (λ (k : ℕ). plain_numbered k more) (let e : n ≡ n + length {A = List ℕ} [] = omega arith in e)
numbered_join n (l ∷ ls) more =
    let first : Plain = record { number = n; words = words (plain_content l) } in
    let number : (n + 1) + length ls ≡ n + length (l ∷ ls) = omega arith in
    ap (λ (xs : List Plain). first ∷ xs) (numbered_join (n + 1) ls more)
    ∙ ap (λ (k : ℕ). first ∷ (plain_numbered (n + 1) ls ++ plain_numbered k more)) number

kept_join : (c : Bool) (x : Plain) (ls more : List Plain) → cond c (x ∷ (ls ++ more)) (ls ++ more) ≡ cond c (x ∷ ls) ls ++ more
kept_join true x ls more = refl
kept_join false x ls more = refl

worded_join : (ls more : List Plain) → worded (ls ++ more) ≡ worded ls ++ worded more
worded_join [] more = refl
worded_join (x ∷ ls) more =
    ap (λ (xs : List Plain). cond (has_some x.words) (x ∷ xs) xs) (worded_join ls more) ∙ kept_join (has_some x.words) x (worded ls) (worded more)

-- bytes that end with line_feed and in which no line has words, in front of a report
ended_kept : (bytes text : List ℕ) (f : TextFile) (r : Report) → plain_lines 1 (bytes ++ line_feed ∷ []) ≡ [] → report_read text f ≡ Ok r
    → report_read ((bytes ++ line_feed ∷ []) ++ text) f ≡ Ok r
ended_kept bytes text f r none is =
    let tail : List ℕ = bytes ++ line_feed ∷ [] in
    let number : ℕ = 1 + length (lines tail) in
    let joined : plain_lines 1 (tail ++ text) ≡ worded (plain_numbered number (lines text)) =
    ap (λ (ls : List (List ℕ)). worded (plain_numbered 1 ls)) (lines_join bytes text)
    ∙ ap worded (numbered_join 1 (lines tail) (lines text))
    ∙ worded_join (plain_numbered 1 (lines tail)) (plain_numbered number (lines text))
    ∙ ap (λ (ls : List Plain). ls ++ worded (plain_numbered number (lines text))) none in
    let over : ℕ = 1 + count_by (λ b. nat_eq b line_feed) (tail ++ text) in
    let later : Left = record { lines = worded (plain_numbered number (lines text)); over = over } in
    let told : lines_read f later ≡ Ok r = read-same f (whole text) later r (numbers_free 1 number (lines text)) is in
    subst (λ (ls : List Plain). lines_read f (record { lines = ls; over = over }) ≡ Ok r) (sym joined) told

-- what follows the first bytes of a text that ends with line_feed: nothing, or it ends with
-- line_feed too
abbrev IsTail : List ℕ → Type 0
IsTail tail = (tail ≡ []) ⊎ ((bytes : List ℕ) × (tail ≡ bytes ++ line_feed ∷ []))

drop_tail : (before : List ℕ) (used : ℕ) → IsTail (drop used (before ++ line_feed ∷ []))
drop_tail before zero = inr (before, refl)
drop_tail [] (suc zero) = inl refl
drop_tail [] (suc (suc n)) = inl refl
drop_tail (b ∷ bs) (suc n) = drop_tail bs n

tail_kept : (tail text : List ℕ) (f : TextFile) (r : Report) → IsTail tail → plain_lines 1 tail ≡ [] → report_read text f ≡ Ok r → report_read (tail ++ text) f ≡ Ok r
tail_kept tail text f r (inl empty) none is = subst (λ (t : List ℕ). report_read (t ++ text) f ≡ Ok r) (sym empty) is
tail_kept tail text f r (inr (bytes, ends)) none is =
    subst (λ (t : List ℕ). report_read (t ++ text) f ≡ Ok r) (sym ends)
    (ended_kept bytes text f r (subst (λ (t : List ℕ). plain_lines 1 t ≡ []) ends none) is)

-- a report is read as it is alone if it follows a text that ends with line_feed and has no words in
-- the lines after its first `used` bytes
pub rest_kept : (problem before text : List ℕ) (used : ℕ) (f : TextFile) (r : Report) → problem ≡ before ++ line_feed ∷ [] → used ≤ length problem → plain_lines 1 (drop used problem) ≡ []
    → report_read text f ≡ Ok r → report_read (drop used (problem ++ text)) f ≡ Ok r
rest_kept problem before text used f r ends within none is =
    let tail : IsTail (drop used problem) = subst (λ (t : List ℕ). IsTail (drop used t)) (sym ends) (drop_tail before used) in
    subst (λ (t : List ℕ). report_read t f ≡ Ok r) (sym (drop-append-le used problem text within)) (tail_kept (drop used problem) text f r tail none is)
