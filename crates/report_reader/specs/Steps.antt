-- How the results of reading lines agree with what the lines are read as. If memory runs out,
-- nothing is promised.
use Rattle.std.specs.Prelude.{◌≡◌, ℕ, [], ◌∷◌, Option, Some, None, Result, Ok, Err}
use Rattle.problem_text.specs.Lines.{words}
use Rattle.problem_text.specs.PlainLines.{Plain}
use Rattle.problem_text.specs.declared.line_end.LineEnd.{LineEnd}
use Rattle.problem_text.specs.declared.line_end.LineEnd.TheVariants as ends
use Rattle.problem_text.specs.declared.fault.ReportFault.{ReportFault}
use Rattle.problem_text.specs.declared.fault.ReportFault.TheVariants.{Bad, NoMemory}
use Rattle.problem_text.specs.declared.fault.ReportKind.{ReportKind}
use Rattle.problem_text.specs.declared.fault.ReportKind.TheVariants.{NoEnd}
use Rattle.report_reader.specs.declared.lines.Line.{Line}
use Rattle.report_reader.specs.ReportLines.{Fault, Left}

-- a line as its number and its words
abbrev pub plain : Line → Plain
plain line = record { number = line.number; words = words line.text.now }

-- what was left is the next line and then what is left now; or there is no next line, nothing was
-- left, and nothing changed
abbrev pub IsNext : Left → Option Line → Left → Type 0
IsNext old None new = (old.lines ≡ []) × (new ≡ old)
IsNext old (Some line) new = old ≡ record { lines = plain line ∷ new.lines; over = new.over }

-- the next line, or the fault if no line is left
abbrev pub IsLine : Left → Result Line ReportFault → Left → Type 0
IsLine old (Ok line) new = old ≡ record { lines = plain line ∷ new.lines; over = new.over }
IsLine old (Err fault) new = (old.lines ≡ []) × (fault ≡ Bad old.over NoEnd)

-- what the line with this number gives, or its fault with the number
abbrev pub IsTold : {A : Type 0} → ℕ → Result A (LineEnd ReportKind) → Result A ReportFault → Type 0
IsTold number (Ok x) result = result ≡ Ok x
IsTold number (Err ends.NoMemory) result = result ≡ Err NoMemory
IsTold number (Err (ends.Fault kind)) result = result ≡ Err (Bad number kind)

-- a fault is the first fault of what is read
abbrev pub IsFault : {A : Type 0} → Result A Fault → ReportFault → Type 0
IsFault read NoMemory = Unit {0}
IsFault read (Bad line kind) = read ≡ Err (record { line = line; kind = kind })

-- a result agrees with what the lines are read as, and with what is left
abbrev pub IsRead : {A : Type 0} → Result (A × Left) Fault → Result A ReportFault → Left → Type 0
IsRead read (Ok x) left = read ≡ Ok (x, left)
IsRead read (Err fault) left = IsFault read fault
