-- What reading an input gives, as the code gives it, against what the input is read as. If memory
-- runs out, nothing is promised.
use Rattle.std.specs.Prelude.{◌≡◌, Result, Ok, Err}
use Rattle.problem_text.specs.Kinds.{number_of_text, number_of_problem}
use Rattle.problem_text.specs.Reading.{Parts}
use Rattle.problem_text.specs.Steps.{declared_by}
use Rattle.problem_text.specs.declared.fault.TextFault.{TextFault}
use Rattle.problem_text.specs.declared.fault.TextFault.TheVariants as texts
use Rattle.problem_text.specs.declared.file.ReadFile.{ReadFile}
use Rattle.wcsp_text.specs.Kinds.{number_of_kind, number_of_problem as number_of_wcsp_problem}
use Rattle.wcsp_text.specs.declared.fault.WcspFault.{WcspFault}
use Rattle.wcsp_text.specs.declared.fault.WcspFault.TheVariants as wcsps
use Rattle.solve_report.specs.declared.answer.Answer.{Answer}
use Rattle.solve_report.specs.declared.answer.Answer.TheVariants.{ProblemText, WcspText}
use Rattle.answer_io.specs.declared.fault.InputFault.{InputFault}
use Rattle.answer_io.specs.declared.fault.InputFault.TheVariants.{Text, Wcsp, NoMemory}
use Rattle.answer_io.specs.declared.input.ReadInput.{ReadInput}
use Rattle.answer_io.specs.InputTold.{DeclaredInput, told_of}

-- a fault of a problem text, as a fault of an input
abbrev pub fault_of_text : TextFault → InputFault
fault_of_text (texts.Bad line kind) = Text line kind
fault_of_text texts.NoMemory = NoMemory

-- a fault of a WCSP text, as a fault of an input
abbrev pub fault_of_wcsp : WcspFault → InputFault
fault_of_wcsp (wcsps.Bad line kind) = Wcsp line kind
fault_of_wcsp wcsps.NoMemory = NoMemory

-- the result of reading an input is the answer that refuses it for this fault; if the fault is that
-- memory ran out, nothing is promised
abbrev pub IsInputRefused : {A : Type 0} → Result A Answer → InputFault → Type 0
IsInputRefused outcome (Text line kind) = outcome ≡ Err (ProblemText line (number_of_text kind) (number_of_problem kind))
IsInputRefused outcome (Wcsp line kind) = outcome ≡ Err (WcspText line (number_of_kind kind) (number_of_wcsp_problem kind))
IsInputRefused outcome NoMemory = Unit {0}

-- reading a whole input gave this result
abbrev pub IsInput : Result DeclaredInput Answer → Result ReadInput InputFault → Type 0
IsInput outcome (Ok read) = outcome ≡ Ok (told_of read.file read.bar)
IsInput outcome (Err fault) = IsInputRefused outcome fault

-- reading the problem that an input begins with gave this result
abbrev pub IsInputFront : Result Parts Answer → Result ReadFile InputFault → Type 0
IsInputFront outcome (Ok read) = outcome ≡ Ok (record { declared = declared_by read.file; used = read.used })
IsInputFront outcome (Err fault) = IsInputRefused outcome fault
