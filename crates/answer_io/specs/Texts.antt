-- What reading a whole input gives, as the code gives it. If memory runs out, nothing is promised.
use Rattle.std.specs.Prelude.{◌≡◌, ℕ, List, Result, Ok, Err}
use Rattle.problem_text.specs.File.{TextFile}
use Rattle.problem_text.specs.Steps.{declared_by}
use Rattle.problem_text.specs.declared.fault.TextFault.{TextFault}
use Rattle.problem_text.specs.declared.fault.TextFault.TheVariants.{Bad, NoMemory}
use Rattle.answer_io.specs.Whole.{whole_read}

-- reading a whole input gave the file of what it declares, or its first fault
abbrev pub IsWholeRead : List ℕ → Result TextFile TextFault → Type 0
IsWholeRead bytes (Ok file) = whole_read bytes ≡ Ok (declared_by file)
IsWholeRead bytes (Err (Bad line kind)) = whole_read bytes ≡ Err (record { line = line; kind = kind })
IsWholeRead bytes (Err NoMemory) = Unit {0}
