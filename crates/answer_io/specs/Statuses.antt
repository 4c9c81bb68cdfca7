-- The status of an answer, and the code of a status.
use Rattle.std.specs.Prelude.{ℕ}
use Rattle.certificate_text.specs.declared.report.Ending.{Ending}
use Rattle.certificate_text.specs.declared.report.Ending.TheVariants as endings
use Rattle.certificate_text.specs.declared.verdict.Verdict.{Verdict}
use Rattle.certificate_text.specs.declared.verdict.Verdict.TheVariants as verdicts
use Rattle.solve_report.specs.declared.answer.Answer.{Answer}
use Rattle.solve_report.specs.declared.answer.Answer.TheVariants as answers
use Rattle.answer_io.specs.declared.status.Status.{Status}
use Rattle.answer_io.specs.declared.status.Status.TheVariants.{Solved, Spent, No, BadWords, BadText, TooWide, ReadFault, WriteFault, NoMemory, LinkFault, LinkDiffers, TooMany}

-- the status of a report
abbrev pub status_of_ending : Ending → Status
status_of_ending endings.Solved = Solved
status_of_ending endings.Spent = Spent

-- the status of a verdict
abbrev pub status_of_verdict : Verdict → Status
status_of_verdict (verdicts.Yes cost error) = Solved
status_of_verdict (verdicts.No differs) = No

-- the status of each answer
abbrev pub status_of : Answer → Status
status_of (answers.Report report file) = status_of_ending report.status
status_of (answers.Tree deliveries nodes names) = Solved
status_of (answers.Verdict verdict names) = status_of_verdict verdict
status_of (answers.Replay events agents names) = Solved
status_of (answers.Drill summary) = status_of_ending summary.status
status_of (answers.Upgraded file) = Solved
status_of (answers.UpgradedWcsp bar file) = Solved
status_of (answers.Edits optima file) = Solved
status_of (answers.Words at kind) = BadWords
status_of (answers.ProblemText line kind problem) = BadText
status_of (answers.WcspText line kind problem) = BadText
status_of (answers.ReportText line kind) = BadText
status_of (answers.EditText line kind) = BadText
status_of (answers.WideAgent var cells names) = TooWide
status_of (answers.WideTotal cells) = TooWide
status_of answers.Read = ReadFault
status_of answers.Link = LinkFault
status_of (answers.LinkDiffers from to at sent taken names) = LinkDiffers
status_of (answers.LinkBytes round from_node to_node place sent taken) = LinkDiffers
status_of (answers.Many assignments) = TooMany
status_of (answers.ManyTurns turns) = TooMany

-- the exit code of each status
abbrev pub code_of : Status → ℕ
code_of Solved = 0
code_of Spent = 1
code_of BadWords = 2
code_of BadText = 3
code_of TooWide = 4
code_of ReadFault = 5
code_of WriteFault = 6
code_of NoMemory = 7
code_of LinkFault = 8
code_of LinkDiffers = 9
code_of No = 10
code_of TooMany = 11
