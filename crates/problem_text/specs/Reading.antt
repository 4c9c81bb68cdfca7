-- What a text is read as: what it declares, or its first fault.
use Rattle.std.specs.Prelude.{ℕ, ◌+◌, Bool, ◌&&◌, List, [], ◌∷◌, Result, Ok, Err, ◌==◌, if◌then◌else◌, codes, count_by}
use Rattle.problem_text.specs.declared.fault.TextKind.{TextKind}
use Rattle.problem_text.specs.declared.fault.TextKind.TheVariants.{BadWord, NoEnd}
use Rattle.problem_text.specs.Bytes.{line_feed}
use Rattle.std.specs.Str.{bytes_eq}
use Rattle.problem_text.specs.Lines.{Line, lines, numbered, with_words}
use Rattle.problem_text.specs.Declarations.{Declared, version_alone, Outcome, Declares, Ends, Fails}
use Rattle.problem_text.specs.Variables.{header, goal_line, var_line, end_line}
use Rattle.problem_text.specs.Tables.{table_line}

-- the outcome of a line after the header: its first word says what it declares
abbrev pub later_line : Bool → Declared → List (List ℕ) → Outcome
later_line is_second d [] = Fails BadWord
later_line is_second d (first ∷ further) =
    if bytes_eq first (codes "var") then var_line d further
    else (if bytes_eq first (codes "table") then table_line d further
    else (if bytes_eq first (codes "end") then end_line d further
    else (if d.version == 2 && bytes_eq first (codes "goal") then goal_line is_second d further
    else Fails BadWord)))

-- the outcome of a line with words, which `before` others precede: the first such line is the
-- header
abbrev pub line_outcome : ℕ → Declared → List (List ℕ) → Outcome
line_outcome before d words = if before == 0 then header words else later_line (before == 1) d words

-- the first fault of a text: its line and its kind
pub record Fault : Type 0 where
  pub line : ℕ
  pub kind : TextKind

-- the parts of a text as it is read: what it declares, and how many bytes it has up to and
-- including the line `end`
pub record Parts : Type 0 where
  pub declared : Declared
  pub used : ℕ

-- how reading continues after a line with this outcome
abbrev pub read_on : Line → Declared → Outcome → (Declared → Result Parts Fault) → Result Parts Fault
read_on line d (Declares more) later = later more
read_on line d Ends later = Ok (record { declared = d; used = line.used })
read_on line d (Fails kind) later = Err (record { line = line.number; kind = kind })

-- what lines with words are read as, after `before` others that declare this; if no line is left,
-- `end` is missing at line `over`
abbrev pub lines_read : ℕ → ℕ → Declared → List Line → Result Parts Fault
lines_read over before d [] = Err (record { line = over; kind = NoEnd })
lines_read over before d (line ∷ later) =
    read_on line d (line_outcome before d line.words) (λ more. lines_read over (before + 1) more later)

-- what a text is read as; if it ends without `end`, the line of the fault is 1 plus the number of
-- line_feed bytes
abbrev pub text_read : List ℕ → Result Parts Fault
text_read bytes =
    lines_read (1 + count_by (λ b. b == line_feed) bytes) 0 (version_alone 1) (with_words (numbered 1 0 (lines bytes)))
