-- The numbers that a user sees for the kinds of a refused text and of a refused report.
use Rattle.std.specs.Prelude.{ℕ}
use Rattle.problem_text.specs.declared.fault.TextKind.{TextKind}
use Rattle.problem_text.specs.declared.fault.TextKind.TheVariants as texts
use Rattle.problem_text.specs.declared.fault.ReportKind.{ReportKind}
use Rattle.problem_text.specs.declared.fault.ReportKind.TheVariants as reports

-- the number of the kind of a text that is refused for a fault of its problem
abbrev pub problem_kind : ℕ
problem_kind = 7

-- the number of a kind of refused text
abbrev pub number_of_text : TextKind → ℕ
number_of_text texts.BadHeader = 1
number_of_text texts.BadWord = 2
number_of_text texts.BadNumber = 3
number_of_text texts.UnknownName = 4
number_of_text texts.NameTwice = 5
number_of_text texts.NoEnd = 6
number_of_text (texts.Problem number) = problem_kind
number_of_text texts.AfterEnd = 8
number_of_text texts.TooLong = 9

-- the number of the problem's fault if a text is refused for one, and 0 otherwise
abbrev pub number_of_problem : TextKind → ℕ
number_of_problem (texts.Problem number) = number
number_of_problem _ = 0

-- the number of a kind of refused report
abbrev pub number_of_report : ReportKind → ℕ
number_of_report reports.BadLine = 1
number_of_report reports.BadNumber = 2
number_of_report reports.UnknownName = 3
number_of_report reports.CellCount = 4
number_of_report reports.NoCertificate = 5
number_of_report reports.NoEnd = 6
number_of_report reports.AfterEnd = 7
number_of_report reports.BadValue = 8
number_of_report reports.NoLog = 9
