-- A text that is read as a problem has at least as many bytes as its problem uses.
use Rattle.std.proofs.Common.{◌≡◌, ℕ, ◌+◌, ◌≤◌, Bool, true, false, cond, nat_eq, List, [], ◌∷◌, length, Result, Ok, refl, ap, ◌∙◌, arith}
use Rattle.problem_text.specs.Declarations.{Declared, Outcome, Declares, Ends, Fails}
use Rattle.problem_text.specs.Bytes.{line_feed}
use Rattle.problem_text.specs.Lines.{Line, has_some, lines, onto_first, numbered, with_words}
use Rattle.problem_text.specs.Reading.{Fault, Parts, line_outcome, read_on, lines_read, text_read}

-- how many bytes these lines have together
abbrev pub total : List (List ℕ) → ℕ
total [] = 0
total (line ∷ later) = length line + total later

onto_total : (b : ℕ) (ls : List (List ℕ)) → total (onto_first b ls) ≡ 1 + total ls
onto_total b [] = refl
onto_total b (l ∷ ls) = omega arith

step_total : (c : Bool) (b : ℕ) (ls : List (List ℕ)) → total (cond c ((b ∷ []) ∷ ls) (onto_first b ls)) ≡ 1 + total ls
step_total true b ls = refl
step_total false b ls = onto_total b ls

-- the lines of a text have its bytes
lines_total : (bytes : List ℕ) → total (lines bytes) ≡ length bytes
lines_total [] = refl
lines_total (b ∷ bs) = step_total (nat_eq b line_feed) b (lines bs) ∙ ap (λ n. 1 + n) (lines_total bs) ∙ omega arith

-- each of these lines ends after at most `most` bytes
abbrev AllUsed : ℕ → List Line → Type 0
AllUsed most [] = Unit {0}
AllUsed most (line ∷ later) = (line.used ≤ most) × AllUsed most later

numbered_used : (number used most : ℕ) (ls : List (List ℕ)) → used + total ls ≤ most → AllUsed most (numbered number used ls)
numbered_used number used most [] within = tt
numbered_used number used most (l ∷ ls) within =
    (omega (arith, within), numbered_used (number + 1) (used + length l) most ls (omega (arith, within)))

kept_used : (c : Bool) (most : ℕ) (line : Line) (later : List Line) → line.used ≤ most → AllUsed most later → AllUsed most (cond c (line ∷ later) later)
kept_used true most line later within all = (within, all)
kept_used false most line later within all = all

worded_used : (most : ℕ) (ls : List Line) → AllUsed most ls → AllUsed most (with_words ls)
worded_used most [] all = tt
worded_used most (line ∷ later) all = kept_used (has_some line.words) most line (with_words later) all.0 (worded_used most later all.1)

used_same : (d : Declared) (used : ℕ) (p : Parts) → ◌≡◌ {A = Result Parts Fault} (Ok (record { declared = d; used = used })) (Ok p) → used ≡ p.used
used_same d used p e = cc

-- the reading ends at this line, or at one of the later ones
step_used : (most : ℕ) (d : Declared) (line : Line) (o : Outcome) (later : Declared → Result Parts Fault) (parts : Parts) → line.used ≤ most
    → ((more : Declared) → later more ≡ Ok parts → parts.used ≤ most) → read_on line d o later ≡ Ok parts → parts.used ≤ most
step_used most d line (Declares more) later parts within on is = on more is
step_used most d line Ends later parts within on is = let same = used_same d line.used parts is in omega (arith, same, within)
step_used most d line (Fails kind) later parts within on is = absurd (cc)

read_used : (over before most : ℕ) (d : Declared) (ls : List Line) (parts : Parts) → AllUsed most ls → lines_read over before d ls ≡ Ok parts → parts.used ≤ most
read_used over before most d [] parts all is = absurd (cc)
read_used over before most d (line ∷ later) parts all is =
    step_used most d line (line_outcome before d line.words) (λ more. lines_read over (before + 1) more later) parts all.0
    (λ more on. read_used over (before + 1) most more later parts all.1 on) is

pub text_used : (bytes : List ℕ) (parts : Parts) → text_read bytes ≡ Ok parts → parts.used ≤ length bytes
text_used bytes parts is =
    read_used _ 0 (length bytes) _ (with_words (numbered 1 0 (lines bytes))) parts
    (worded_used (length bytes) (numbered 1 0 (lines bytes)) (numbered_used 1 0 (length bytes) (lines bytes) (let all = lines_total bytes in omega (arith, all)))) is
