-- How lines are read in order: each must have the form that its position requires, and the first
-- that does not gives the fault.
use Rattle.std.specs.Prelude.{ℕ, ◌+◌, ◌==◌, List, [], ◌∷◌, Result, Ok, Err, count_by}
use Rattle.problem_text.specs.declared.fault.ReportKind.{ReportKind}
use Rattle.problem_text.specs.declared.fault.ReportKind.TheVariants.{NoEnd}
use Rattle.problem_text.specs.Bytes.{line_feed}
use Rattle.problem_text.specs.PlainLines.{Plain, plain_lines}

-- the first fault of a report: its line and its kind
pub record Fault : Type 0 where
  pub line : ℕ
  pub kind : ReportKind

-- what is left of a text: its lines with words, and the line at which a missing `end` is reported
-- if no line is left
pub record Left : Type 0 where
  pub lines : List Plain
  pub over : ℕ

-- a whole text; if it ends without `end`, the line of the fault is 1 plus the number of line_feed
-- bytes
abbrev pub whole : List ℕ → Left
whole bytes = record { lines = plain_lines 1 bytes; over = 1 + count_by (λ b. b == line_feed) bytes }

-- what the line with this number gives, with what is left after it; if the line is wrong, the fault
-- has its number
abbrev pub told_at : {A : Type 0} → ℕ → Result A ReportKind → Left → Result (A × Left) Fault
told_at number (Ok x) left = Ok (x, left)
told_at number (Err kind) left = Err (record { line = number; kind = kind })

-- the result of reading the first of these lines, which must have this form
abbrev pub first_of : {A : Type 0} → (List (List ℕ) → Result A ReportKind) → ℕ → List Plain → Result (A × Left) Fault
first_of form over [] = Err (record { line = over; kind = NoEnd })
first_of form over (line ∷ later) = told_at line.number (form line.words) (record { lines = later; over = over })

-- the result of reading one line of this form: what its words give, or what is wrong with it
abbrev pub one_line : {A : Type 0} → (List (List ℕ) → Result A ReportKind) → Left → Result (A × Left) Fault
one_line form left = first_of form left.over left.lines

-- reading continues after what was read; a fault ends it
abbrev pub and_then : {A B : Type 0} → Result (A × Left) Fault → (A → Left → Result B Fault) → Result B Fault
and_then (Ok read) next = next read.0 read.1
and_then (Err fault) next = Err fault
