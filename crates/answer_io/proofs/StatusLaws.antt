-- What the status of an answer says about the answer.
use Rattle.std.proofs.Common.{◌≡◌, ◌≢◌, refl}
use Rattle.certificate_text.specs.declared.report.Ending.{Ending}
use Rattle.certificate_text.specs.declared.report.Ending.TheVariants as endings
use Rattle.certificate_text.specs.declared.verdict.Verdict.{Verdict}
use Rattle.certificate_text.specs.declared.verdict.Verdict.TheVariants as verdicts
use Rattle.solve_report.specs.declared.answer.Answer.{Answer}
use Rattle.solve_report.specs.declared.answer.Answer.TheVariants as answers
use Rattle.answer_io.specs.declared.status.Status.TheVariants.{ReadFault, WriteFault, LinkFault, LinkDiffers, NoMemory as no_memory}
use Rattle.answer_io.specs.Statuses.{status_of, status_of_ending, status_of_verdict}

-- the status of a report is no failure of writing or reading, and not that of running out of memory
pub ending-told : (ending : Ending) → (status_of_ending ending ≢ WriteFault) × (status_of_ending ending ≢ no_memory) × (status_of_ending ending ≢ ReadFault)
ending-told endings.Solved = (λ e. cc, λ e. cc, λ e. cc)
ending-told endings.Spent = (λ e. cc, λ e. cc, λ e. cc)

-- the same holds for the status of a verdict
verdict-told : (verdict : Verdict) → (status_of_verdict verdict ≢ WriteFault) × (status_of_verdict verdict ≢ no_memory) × (status_of_verdict verdict ≢ ReadFault)
verdict-told (verdicts.Yes cost error) = (λ e. cc, λ e. cc, λ e. cc)
verdict-told (verdicts.No differs) = (λ e. cc, λ e. cc, λ e. cc)

-- no answer has the status of a failed sink or of running out of memory
pub told-status : (answer : Answer) → (status_of answer ≢ WriteFault) × (status_of answer ≢ no_memory)
told-status (answers.Report report file) = let told = ending-told report.status in (told.0, told.1)
told-status (answers.Verdict verdict names) = let told = verdict-told verdict in (told.0, told.1)
told-status (answers.Tree deliveries nodes names) = (λ e. cc, λ e. cc)
told-status (answers.Replay events agents names) = (λ e. cc, λ e. cc)
told-status (answers.Drill summary) = let told = ending-told summary.status in (told.0, told.1)
told-status (answers.Upgraded file) = (λ e. cc, λ e. cc)
told-status (answers.UpgradedWcsp bar file) = (λ e. cc, λ e. cc)
told-status (answers.Edits optima file) = (λ e. cc, λ e. cc)
told-status (answers.Words at kind) = (λ e. cc, λ e. cc)
told-status (answers.ProblemText line kind problem) = (λ e. cc, λ e. cc)
told-status (answers.WcspText line kind problem) = (λ e. cc, λ e. cc)
told-status (answers.ReportText line kind) = (λ e. cc, λ e. cc)
told-status (answers.EditText line kind) = (λ e. cc, λ e. cc)
told-status (answers.Many n) = (λ e. cc, λ e. cc)
told-status (answers.ManyTurns n) = (λ e. cc, λ e. cc)
told-status (answers.WideAgent var cells names) = (λ e. cc, λ e. cc)
told-status (answers.WideTotal cells) = (λ e. cc, λ e. cc)
told-status answers.Read = (λ e. cc, λ e. cc)
told-status answers.Link = (λ e. cc, λ e. cc)
told-status (answers.LinkDiffers from to at sent taken names) = (λ e. cc, λ e. cc)
told-status (answers.LinkBytes round from_node to_node place sent taken) = (λ e. cc, λ e. cc)

-- only one answer has the status of a failed source
pub read-alone : (answer : Answer) → status_of answer ≡ ReadFault → answer ≡ answers.Read
read-alone (answers.Report report file) e = absurd ((ending-told report.status).2 e)
read-alone (answers.Drill summary) e = absurd ((ending-told summary.status).2 e)
read-alone (answers.Verdict verdict names) e = absurd ((verdict-told verdict).2 e)
read-alone answers.Read e = refl
read-alone (answers.Tree deliveries nodes names) e = cc
read-alone (answers.Replay events agents names) e = cc
read-alone (answers.Upgraded file) e = cc
read-alone (answers.UpgradedWcsp bar file) e = cc
read-alone (answers.Edits optima file) e = cc
read-alone (answers.Words at kind) e = cc
read-alone (answers.ProblemText line kind problem) e = cc
read-alone (answers.WcspText line kind problem) e = cc
read-alone (answers.ReportText line kind) e = cc
read-alone (answers.EditText line kind) e = cc
read-alone (answers.Many n) e = cc
read-alone (answers.ManyTurns n) e = cc
read-alone (answers.WideAgent var cells names) e = cc
read-alone (answers.WideTotal cells) e = cc
read-alone answers.Link e = cc
read-alone (answers.LinkDiffers from to at sent taken names) e = cc
read-alone (answers.LinkBytes round from_node to_node place sent taken) e = cc

-- the status of a report is not that of failed links or of links that differ
ending-fine : (ending : Ending) → status_of_ending ending ≢ LinkFault
ending-fine endings.Solved e = cc
ending-fine endings.Spent e = cc

ending-same : (ending : Ending) → status_of_ending ending ≢ LinkDiffers
ending-same endings.Solved e = cc
ending-same endings.Spent e = cc

-- the same holds for the status of a verdict
verdict-fine : (verdict : Verdict) → status_of_verdict verdict ≢ LinkFault
verdict-fine (verdicts.Yes cost error) e = cc
verdict-fine (verdicts.No differs) e = cc

verdict-same : (verdict : Verdict) → status_of_verdict verdict ≢ LinkDiffers
verdict-same (verdicts.Yes cost error) e = cc
verdict-same (verdicts.No differs) e = cc

-- only one answer has the status of failed links
pub link-alone : (answer : Answer) → status_of answer ≡ LinkFault → answer ≡ answers.Link
link-alone (answers.Report report file) e = absurd (ending-fine report.status e)
link-alone (answers.Drill summary) e = absurd (ending-fine summary.status e)
link-alone (answers.Verdict verdict names) e = absurd (verdict-fine verdict e)
link-alone answers.Read e = cc
link-alone (answers.Tree deliveries nodes names) e = cc
link-alone (answers.Replay events agents names) e = cc
link-alone (answers.Upgraded file) e = cc
link-alone (answers.UpgradedWcsp bar file) e = cc
link-alone (answers.Edits optima file) e = cc
link-alone (answers.Words at kind) e = cc
link-alone (answers.ProblemText line kind problem) e = cc
link-alone (answers.WcspText line kind problem) e = cc
link-alone (answers.ReportText line kind) e = cc
link-alone (answers.EditText line kind) e = cc
link-alone (answers.Many n) e = cc
link-alone (answers.ManyTurns n) e = cc
link-alone (answers.WideAgent var cells names) e = cc
link-alone (answers.WideTotal cells) e = cc
link-alone answers.Link e = refl
link-alone (answers.LinkDiffers from to at sent taken names) e = cc
link-alone (answers.LinkBytes round from_node to_node place sent taken) e = cc

-- an answer that reports a difference between what was sent on a link and what was taken
abbrev pub IsOfDifference : Answer → Type 0
IsOfDifference (answers.LinkDiffers from to at sent taken names) = Unit {0}
IsOfDifference (answers.LinkBytes round from_node to_node place sent taken) = Unit {0}
IsOfDifference answer = ⊥

-- only such an answer has the status of links that differ
pub differs-alone : (answer : Answer) → status_of answer ≡ LinkDiffers → IsOfDifference answer
differs-alone (answers.Report report file) e = absurd (ending-same report.status e)
differs-alone (answers.Drill summary) e = absurd (ending-same summary.status e)
differs-alone (answers.Verdict verdict names) e = absurd (verdict-same verdict e)
differs-alone answers.Read e = cc
differs-alone (answers.Tree deliveries nodes names) e = cc
differs-alone (answers.Replay events agents names) e = cc
differs-alone (answers.Upgraded file) e = cc
differs-alone (answers.UpgradedWcsp bar file) e = cc
differs-alone (answers.Edits optima file) e = cc
differs-alone (answers.Words at kind) e = cc
differs-alone (answers.ProblemText line kind problem) e = cc
differs-alone (answers.WcspText line kind problem) e = cc
differs-alone (answers.ReportText line kind) e = cc
differs-alone (answers.EditText line kind) e = cc
differs-alone (answers.Many n) e = cc
differs-alone (answers.ManyTurns n) e = cc
differs-alone (answers.WideAgent var cells names) e = cc
differs-alone (answers.WideTotal cells) e = cc
differs-alone answers.Link e = cc
differs-alone (answers.LinkDiffers from to at sent taken names) e = tt
differs-alone (answers.LinkBytes round from_node to_node place sent taken) e = tt
