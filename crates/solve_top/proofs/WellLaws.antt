-- Words and a text that `solve` accepts go well, and so does a drill within its limits.
use Rattle.std.proofs.Common.{◌≡◌, ◌≢◌, ℕ, Bool, List, Option, Some, None, Result, sym, ap, subst, arith, ◌∙◌}
use Rattle.dcop_edge.specs.Faults.{Rose}
use Rattle.pseudotree.specs.declared.width.Wide.{Wide}
use Rattle.problem_text.specs.File.{TextFile}
use Rattle.problem_text.specs.Reading.{Parts}
use Rattle.solve_words.specs.declared.command.Command.{Command}
use Rattle.solve_words.specs.declared.fault.WordFault.{WordFault}
use Rattle.certificate_text.specs.declared.report.Ending.{Ending}
use Rattle.certificate_text.specs.declared.report.Ending.TheVariants as endings
use Rattle.solve_report.specs.declared.answer.Answer.{Answer}
use Rattle.solve_report.specs.declared.answer.Answer.TheVariants as answers
use Rattle.answer_io.specs.declared.status.Status.{Status}
use Rattle.answer_io.specs.declared.status.Status.TheVariants.{Solved, LinkFault, LinkDiffers}
use Rattle.solve_answers.specs.declared.task.Task.{Task}
use Rattle.solve_answers.specs.declared.task.Task.TheVariants.{File, Check, Replay, Edit}
use Rattle.solve_answers.specs.declared.task.FileTask.{FileTask}
use Rattle.solve_answers.specs.declared.task.FileTask.TheVariants as tasks
use Rattle.solve_answers.specs.Answering.{IsFileAnswer, IsTextAnswer, IsEditsAnswer, IsTaskAnswer, IsInputAnswer, IsDrillAnswer, IsUnreadAnswer, IsServedAnswer, IsCommandAnswer, IsAnswer}
use Rattle.solve_methods.specs.Adopt.{IsAdoptAnswer}
use Rattle.solve_methods.specs.Auto.{IsAutoAnswer}
use Rattle.solve_methods.specs.Dpop.{wide_in, IsAnswerBy, IsDpopAnswer}
use Rattle.minimised_problem.specs.Goal.{solved, problem_solved}
use Rattle.answer_io.proofs.InputLaws.{taken-least}
use Rattle.answer_io.specs.Input.{Input, Unread, Broken, TooLong, Whole, SourceState, IsAllOf, IsReadFrom}
use Rattle.solve_answers.specs.Drilling.{made_for}
use Rattle.solve_answers.specs.declared.drilling.Drill.{Drill}
use Rattle.solve_answers.specs.Answered.{Answered}
use Rattle.solve_top.specs.Solving.{IsWithinLimits, IsTextFor, Accepts, AsksDrill, GoesWell}
use Rattle.answer_io.specs.Statuses.{status_of, status_of_ending}
use Rattle.solve_words.specs.declared.command.Format.{Format}
use Rattle.solve_words.specs.declared.command.Format.TheVariants.{Dcop as Own}
use Rattle.answer_io.specs.InputTold.{DeclaredInput, told_of}
use Rattle.solve_answers.proofs.GivenLaws.{linkless-belongs}
use Rattle.solve_answers.proofs.AnswerLaws.{task-IsAnswer, report-solved, tree-solved, upgraded-solved, fit-none, adopt-status, auto-status, drilled-status}
use Rattle.solve_top.proofs.PrintedLaws.{printed_solved, logged_solved}
use Rattle.solve_top.proofs.EditedLaws.{edits_solved}
use Rattle.pseudotree.proofs.SearchLaws.{depth_first_trees_are_linked}
use Rattle.run_laws.proofs.CutSetLaws.{cut_sets_are_one}
use Rattle.solve_cut.specs.Allowed.{IsSolvedReport}
use Rattle.solve_cut.proofs.AllowedLaws.{allowed-solved}

-- what is solved goes well
solved-well : (status : Status) (task : Task) → status ≡ Solved → GoesWell status task
solved-well status task is = subst (λ (s : Status). GoesWell s task) (sym is) tt

-- an answer that is a solved report is solved
cut-solved : (answer : Answer) → IsSolvedReport answer → status_of answer ≡ Solved
cut-solved answer is = ap status_of is.is ∙ ap status_of_ending is.solved

-- an answer of DPOP is solved if nothing is too wide
dpop-solved : (file : TextFile) (certified : Bool) (answer : Answer) → wide_in (solved file.goal file.problem) ≡ None → IsDpopAnswer file certified answer → status_of answer ≡ Solved
dpop-solved file certified answer none is = report-solved file certified answer (subst (λ (wide : Option Wide). IsAnswerBy file certified wide answer) none is)

-- a report of ADOPT goes well
ending-well : (format : Format) (error budget : ℕ) (certified : Bool) (ending : Ending) → GoesWell (status_of_ending ending) (File format (tasks.Adopt error budget certified))
ending-well format error budget certified endings.Solved = tt
ending-well format error budget certified endings.Spent = tt

adopt-well : (format : Format) (file : TextFile) (error budget : ℕ) (certified : Bool) (answer : Answer) → IsAdoptAnswer file error budget certified answer → GoesWell (status_of answer) (File format (tasks.Adopt error budget certified))
adopt-well format file error budget certified answer is =
    let told = adopt-status file error budget certified answer is in
    subst (λ (s : Status). GoesWell s (File format (tasks.Adopt error budget certified))) (sym told.1) (ending-well format error budget certified told.0)

-- so does one of auto
auto-ending : (format : Format) (error budget : ℕ) (certified : Bool) (ending : Ending) → GoesWell (status_of_ending ending) (File format (tasks.Auto error budget certified))
auto-ending format error budget certified endings.Solved = tt
auto-ending format error budget certified endings.Spent = tt

auto-well : (format : Format) (file : TextFile) (error budget : ℕ) (certified : Bool) (answer : Answer) → IsAutoAnswer file error budget certified answer → GoesWell (status_of answer) (File format (tasks.Auto error budget certified))
auto-well format file error budget certified answer is =
    let told = auto-status file error budget certified (wide_in (problem_solved file)) answer is in
    subst (λ (s : Status). GoesWell s (File format (tasks.Auto error budget certified))) (sym told.1) (auto-ending format error budget certified told.0)

-- a task on what a text declares goes well if it is within its limits
file-well : (format : Format) (task : FileTask) (t : DeclaredInput) (answer : Answer) → IsWithinLimits task t.declared → IsFileAnswer task t answer → GoesWell (status_of answer) (File format task)
file-well format tasks.Plain t (answers.Report report file) few is = solved-well (status_of_ending report.status) (File format tasks.Plain) (ap status_of_ending is.2.status)
file-well format tasks.Plain t (answers.Many n) few is = absurd (omega (arith, few, is.0))
file-well format tasks.Plain t (answers.ManyTurns n) few is = absurd is
file-well format tasks.Plain t (answers.Tree deliveries nodes names) few is = absurd is
file-well format tasks.Plain t (answers.Verdict verdict names) few is = absurd is
file-well format tasks.Plain t (answers.Replay events agents names) few is = absurd is
file-well format tasks.Plain t (answers.Drill summary) few is = absurd is
file-well format tasks.Plain t (answers.Upgraded file) few is = absurd is
file-well format tasks.Plain t (answers.UpgradedWcsp bar file) few is = absurd is
file-well format tasks.Plain t (answers.Edits optima file) few is = absurd is
file-well format tasks.Plain t (answers.Words at kind) few is = absurd is
file-well format tasks.Plain t (answers.ProblemText line kind problem) few is = absurd is
file-well format tasks.Plain t (answers.WcspText line kind problem) few is = absurd is
file-well format tasks.Plain t (answers.ReportText line kind) few is = absurd is
file-well format tasks.Plain t (answers.EditText line kind) few is = absurd is
file-well format tasks.Plain t (answers.WideAgent var cells names) few is = absurd is
file-well format tasks.Plain t (answers.WideTotal cells) few is = absurd is
file-well format tasks.Plain t answers.Read few is = absurd is
file-well format tasks.Plain t answers.Link few is = absurd is
file-well format tasks.Plain t (answers.LinkDiffers from to at sent taken links) few is = absurd is
file-well format tasks.Plain t (answers.LinkBytes round from_node to_node place sent taken) few is = absurd is
file-well format (tasks.Dpop certified) t answer few is =
    solved-well (status_of answer) (File format (tasks.Dpop certified)) (dpop-solved is.file certified answer (fit-none t.declared few is.file is.whole is.declared) is.is)
file-well format (tasks.Adopt error budget certified) t answer few is = adopt-well format is.file error budget certified answer is.is
file-well format (tasks.Auto error budget certified) t answer few is = auto-well format is.file error budget certified answer is.is
file-well format (tasks.Cut limit certified) t answer few is =
    solved-well (status_of answer) (File format (tasks.Cut limit certified)) (cut-solved answer (allowed-solved cut_sets_are_one depth_first_trees_are_linked t.declared limit certified answer few.0 few.1 is))
file-well format tasks.Tree t answer few is = solved-well (status_of answer) (File format tasks.Tree) (tree-solved is.file answer is.is)
file-well format tasks.Upgrade t answer few is = solved-well (status_of answer) (File format tasks.Upgrade) (upgraded-solved t.declared t.bar answer is)

-- so does each task on a text for it
task-well : (task : Task) (text : List ℕ) (answer : Answer) → IsTextFor task text → IsTaskAnswer task text answer → GoesWell (status_of answer) task
task-well (File format task) text answer fits is =
    file-well format task fits.told answer fits.within (subst (λ (r : Result DeclaredInput Answer). IsTextAnswer task r answer) fits.read is)
task-well (Check format) text answer fits is = solved-well (status_of answer) (Check format) (printed_solved format text answer fits is)
task-well (Replay format after) text answer fits is = solved-well (status_of answer) (Replay format after) (logged_solved format after text answer fits is)
task-well Edit text answer fits is = solved-well (status_of answer) Edit (edits_solved text answer fits (subst (λ (r : Result Parts Answer). IsEditsAnswer text r answer) fits.read is))

-- an accepted text whose source is known is read whole and goes well
input-well : (text : List ℕ) (words : List (List ℕ)) (accepts : Accepts words text) (before after : SourceState) (input : Input) (answer : Answer)
    → before.left ≡ Some text → ¬ Rose before.faults after.faults → IsReadFrom input before after → IsInputAnswer accepts.task input answer → GoesWell (status_of answer) accepts.task
input-well text words accepts before after Unread answer told steady read is = absurd is
input-well text words accepts before after Broken answer told steady read is = absurd (steady read.0)
input-well text words accepts before after TooLong answer told steady read is =
    let more = taken-least _ _ before after text told read.0 in absurd (omega (arith, more, accepts.short))
input-well text words accepts before after (Whole bytes) answer told steady read is =
    let all = subst (λ (l : Option (List ℕ)). IsAllOf bytes l after.left) told read.1 in
    task-well accepts.task text answer accepts.fits (subst (λ (t : List ℕ). IsTaskAnswer accepts.task t answer) all.0 is)

pub well-answered : (words : List (List ℕ)) (text : List ℕ) (before after : SourceState) (answer : Answer) → Answered words before after answer
    → before.left ≡ Some text → (accepts : Accepts words text) → ¬ Rose before.faults after.faults → status_of answer ≢ LinkFault → status_of answer ≢ LinkDiffers
    → GoesWell (status_of answer) accepts.task
well-answered words text before after answer done told accepts steady fine same =
    input-well text words accepts before after done.input answer told steady done.read
    (task-IsAnswer words accepts.command accepts.task done.input answer accepts.asked accepts.served (linkless-belongs words done.input answer done.belongs fine same))

-- the answer if words ask for a drill
drill-IsAnswer : (words : List (List ℕ)) (asks : AsksDrill words) (input : Input) (answer : Answer) → IsAnswer words input answer → IsDrillAnswer asks.drill answer
drill-IsAnswer words asks input answer is =
    subst (λ (d : Option Drill). IsUnreadAnswer d answer) asks.served
    (subst (λ (t : Option Task). IsServedAnswer asks.command t input answer) asks.unread
    (subst (λ (r : Result Command WordFault). IsCommandAnswer r input answer) asks.asked is)).1

-- a drill goes well
pub drill-well : (words : List (List ℕ)) (before after : SourceState) (answer : Answer) → Answered words before after answer → (asks : AsksDrill words)
    → status_of answer ≢ LinkFault → status_of answer ≢ LinkDiffers → GoesWell (status_of answer) (File Own asks.drill.task)
drill-well words before after answer done asks fine same =
    let is = drill-IsAnswer words asks done.input answer (linkless-belongs words done.input answer done.belongs fine same) in
    let told : status_of answer ≡ status_of is.solved = ap status_of is.told ∙ drilled-status asks.drill.seed is.solved in
    subst (λ (s : Status). GoesWell s (File Own asks.drill.task)) (sym told) (file-well Own asks.drill.task (told_of (made_for asks.drill) None) is.solved asks.within is.is)
