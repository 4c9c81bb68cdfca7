-- How the results of the reader, for a line and for a whole text, agree with what the text says. If
-- memory runs out, nothing is promised.
use Rattle.std.specs.Prelude.{◌≡◌, ◌<◌, ℕ, List, length, Result, Ok, Err}
use Rattle.problem_text.specs.declared.fault.TextKind.{TextKind}
use Rattle.problem_text.specs.declared.line_end.LineEnd.{LineEnd}
use Rattle.problem_text.specs.declared.reader.Step.{Step}
use Rattle.problem_text.specs.declared.reader.Step.TheVariants as steps
use Rattle.problem_text.specs.declared.fault.TextFault.{TextFault}
use Rattle.problem_text.specs.declared.fault.TextFault.TheVariants.{Bad, NoMemory}
use Rattle.problem_text.specs.declared.file.ReadFile.{ReadFile}
use Rattle.problem_text.specs.File.{TextFile}
use Rattle.problem_text.specs.LineEnds as line_ends
use Rattle.problem_text.specs.Declarations.{Declared, Outcome, Declares, Ends}
use Rattle.problem_text.specs.Reading.{text_read}

-- a step of a draft agrees with the line's outcome; a text that ends has declared at least one
-- variable
abbrev pub IsStep : Declared → Result Step (LineEnd TextKind) → Outcome → Type 0
IsStep d (Ok (steps.Declares more)) outcome = outcome ≡ Declares more
IsStep d (Ok (steps.Ends same)) outcome = (outcome ≡ Ends) × (same ≡ d) × (0 < length d.sizes)
IsStep d (Err e) outcome = line_ends.Ends e outcome

-- a fault agrees with the text: it is the text's first fault
abbrev pub IsFault : List ℕ → TextFault → Type 0
IsFault bytes NoMemory = Unit {0}
IsFault bytes (Bad line kind) = text_read bytes ≡ Err (record { line = line; kind = kind })

-- what the lines declare and the number of bytes used agree with the text, which declares at least
-- one variable
abbrev pub ReadsDraft : List ℕ → Result (Declared × ℕ) TextFault → Type 0
ReadsDraft bytes (Ok r) = (text_read bytes ≡ Ok (record { declared = r.0; used = r.1 })) × (0 < length r.0.sizes)
ReadsDraft bytes (Err e) = IsFault bytes e

-- what a file declares
abbrev pub declared_by : TextFile → Declared
declared_by f = record { version = f.version; goal = f.goal; names = f.names; labels = f.labels; sizes = f.problem.sizes; tables = f.problem.tables }

-- the result of reading a text: a file is what the text declares, with the number of bytes up to
-- and including the line `end`; a fault is the text's first fault
abbrev pub Reads : List ℕ → Result ReadFile TextFault → Type 0
Reads bytes (Ok r) = text_read bytes ≡ Ok (record { declared = declared_by r.file; used = r.used })
Reads bytes (Err e) = IsFault bytes e

-- a text is read as this file, and all of its bytes are used
abbrev pub IsReadAs : List ℕ → TextFile → Type 0
IsReadAs bytes f = text_read bytes ≡ Ok (record { declared = declared_by f; used = length bytes })
