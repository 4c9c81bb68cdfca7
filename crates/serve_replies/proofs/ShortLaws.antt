-- What `solve --method dpop` writes for a key is short.
use Rattle.std.proofs.Common.{◌≡◌, ℕ, ◌+◌, ◌≤◌, Bool, true, false, List, [], ◌∷◌, length, All, Option, Some, None, Result, Ok, Err, refl, sym, ap, subst, arith, if◌then◌else◌, nat_lt, codes}
use Rattle.std.proofs.Math.Nat.{min-le_right}
use Rattle.std.proofs.lemmas.Bool.{ltb-false}
use Rattle.std.specs.List.{flat_map, slice_index_or}
use Rattle.dcop_base.proofs.ProblemLaws.{cost-le-greatest_sum}
use Rattle.dcop_base.specs.Limits.{input_limit, count_limit, size_limit, sent_limit}
use Rattle.dcop_base.specs.Problem.{Dcop}
use Rattle.dcop_base.specs.Table.{AreWithin}
use Rattle.dcop_base.specs.Whole.{IsProblem}
use Rattle.pseudotree.specs.DepthFirst.{dfs}
use Rattle.pseudotree.specs.Width.{wide_by, told, joined_cells, sent_total, first_wide}
use Rattle.pseudotree.specs.declared.width.Wide.{Wide}
use Rattle.pseudotree.specs.declared.width.Wide.TheVariants.{Agent, Total}
use Rattle.reply_cache.specs.Limits.{reply_limit}
use Rattle.problem_text.specs.Canonical.{line}
use Rattle.problem_text.specs.Declarations.{Declared}
use Rattle.problem_text.specs.File.{TextFile}
use Rattle.problem_text.specs.Kinds.{number_of_text, number_of_problem}
use Rattle.problem_text.specs.Reading.{Fault}
use Rattle.problem_text.specs.Steps.{declared_by}
use Rattle.problem_text.specs.declared.fault.TextKind.{TextKind}
use Rattle.problem_text.specs.declared.fault.TextKind.TheVariants as texts
use Rattle.problem_text.specs.declared.file.Goal.{Goal}
use Rattle.problem_text.specs.declared.file.Goal.TheVariants.{Min, Max}
use Rattle.minimised_problem.specs.Goal.{solved}
use Rattle.certificate_text.specs.CertificateText.{evidence_lines}
use Rattle.certificate_text.specs.ReportText.{head_lines, bound_lines, value_lines, report_text}
use Rattle.certificate_text.specs.declared.certificate.Certificate.{Certificate}
use Rattle.certificate_text.specs.declared.report.Report.{Report}
use Rattle.solve_methods.specs.Dpop.{wide_in, IsFirstOfTree, IsDpopReport, IsDpopSolved, IsAnswerBy}
use Rattle.answer_io.specs.Input.{TooLong, Whole}
use Rattle.answer_io.specs.Whole.{whole_read}
use Rattle.answer_io.specs.Inputs.{own_input}
use Rattle.solve_report.specs.AnswerText.{answer_text}
use Rattle.solve_report.specs.declared.answer.Answer.{Answer}
use Rattle.solve_report.specs.declared.answer.Answer.TheVariants as answers
use Rattle.solve_words.specs.declared.command.Format.TheVariants.{Dcop as Own}
use Rattle.solve_answers.specs.Answering.{IsInputAnswer, IsTextAnswer}
use Rattle.solve_answers.specs.declared.task.Task.TheVariants.{File}
use Rattle.solve_answers.specs.declared.task.FileTask.TheVariants as tasks
use Rattle.serve_replies.specs.Reply.{input_of, IsReply}
use Rattle.serve_replies.proofs.WordLaws.{of_words}
use Rattle.serve_replies.proofs.NameReadLaws.{IsNamed, IsWholeSo, read_so}
use Rattle.serve_replies.proofs.TextLaws.{named_short, head_short, bounds_short, values_short, lines_short, five_parts, end_short, text_refusal_short, wide_refusal_short, total_refusal_short}

-- the values of a report of DPOP are below the domain sizes of the file's problem
within_of : (goal : Goal) (p : Dcop) (values : List ℕ) → IsFirstOfTree (solved goal p) values → AreWithin p.sizes values
within_of Min p values first = first.assignment
within_of Max p values first = first.assignment

sizes_few : (sizes : List ℕ) → All (λ s. (1 ≤ s) × (s ≤ size_limit)) sizes → All (λ s. s ≤ count_limit) sizes
sizes_few sizes all k d lt = let s = all k d lt in omega (arith, s.1)

report_short : (file : TextFile) (report : Report) → IsDpopReport file false report → IsNamed (declared_by file) → IsProblem file.problem → length (report_text report file) ≤ reply_limit
report_short file report is named whole =
    let cost : report.cost ≤ count_limit = let sum = cost-le-greatest_sum file.problem report.values in omega (arith, is.cost, sum, whole.sums) in
    let lower : report.lower ≤ count_limit = omega (arith, is.lower, cost) in
    let upper : report.upper ≤ count_limit = omega (arith, is.upper, cost) in
    let error : report.error ≤ count_limit = omega (arith, is.error) in
    let deliveries : report.deliveries ≤ count_limit = omega (arith, is.deliveries, whole.few) in
    let head = head_short file.goal report is.status is.method is.goal error deliveries in
    let bounds = bounds_short report cost lower upper in
    let values = values_short file.problem.sizes file.names file.labels report.values named.names named.labels (sizes_few file.problem.sizes whole.sizes) (within_of file.goal file.problem report.values is.first) in
    let told = lines_short (value_lines file.names file.labels report.values) values.short in
    let none : length (flat_map line (evidence_lines file.names report.certificate)) ≡ 0 = ap (λ (c : Option Certificate). length (flat_map line (evidence_lines file.names c))) is.certificate in
    let parts = five_parts (head_lines report) (bound_lines report) (value_lines file.names file.labels report.values) (evidence_lines file.names report.certificate) ((codes "end" ∷ []) ∷ []) in
    omega (arith, parts, head, bounds, told, values.few, none, end_short, whole.few)

solved_short : (file : TextFile) (answer : Answer) → IsDpopSolved file false answer → IsNamed (declared_by file) → IsProblem file.problem → length (answer_text answer) ≤ reply_limit
solved_short file (answers.Report report same) is named whole = subst (λ (f : TextFile). length (report_text report f) ≤ reply_limit) (sym is.0) (report_short file report is.1 named whole)
solved_short file (answers.Tree deliveries nodes names) is named whole = absurd is
solved_short file (answers.Many n) is named whole = absurd is
solved_short file (answers.ManyTurns n) is named whole = absurd is
solved_short file (answers.WideAgent var cells names) is named whole = absurd is
solved_short file (answers.WideTotal cells) is named whole = absurd is
solved_short file (answers.Verdict verdict names) is named whole = absurd is
solved_short file (answers.Drill summary) is named whole = absurd is
solved_short file (answers.Replay events agents names) is named whole = absurd is
solved_short file (answers.Upgraded same) is named whole = absurd is
solved_short file (answers.UpgradedWcsp bar same) is named whole = absurd is
solved_short file (answers.Edits optima same) is named whole = absurd is
solved_short file (answers.WcspText line kind problem) is named whole = absurd is
solved_short file (answers.ReportText line kind) is named whole = absurd is
solved_short file (answers.EditText line kind) is named whole = absurd is
solved_short file (answers.Words at kind) is named whole = absurd is
solved_short file (answers.ProblemText line kind problem) is named whole = absurd is
solved_short file answers.Read is named whole = absurd is
solved_short file answers.Link is named whole = absurd is
solved_short file (answers.LinkDiffers from to at sent taken links) is named whole = absurd is
solved_short file (answers.LinkBytes round from_node to_node place sent taken) is named whole = absurd is

-- a count of cells within the greatest count
abbrev IsLow : Option Wide → Type 0
IsLow None = Unit {0}
IsLow (Some (Agent var cells)) = cells ≤ count_limit
IsLow (Some (Total cells)) = cells ≤ count_limit

total_low : (b : Bool) (cells : ℕ) → IsLow (if b then Some (Total (told cells)) else None)
total_low true cells = min-le_right cells count_limit
total_low false cells = tt

by_low : (p : Dcop) (paths : List (List ℕ)) (o : Option ℕ) → IsLow (wide_by p paths o)
by_low p paths (Some i) = min-le_right (joined_cells p paths i) count_limit
by_low p paths None = total_low (nat_lt sent_limit (sent_total p paths)) (sent_total p paths)

answer_short : (file : TextFile) (wide : Option Wide) (answer : Answer) → IsLow wide → IsAnswerBy file false wide answer → IsNamed (declared_by file) → IsProblem file.problem → length (answer_text answer) ≤ reply_limit
answer_short file (Some (Agent var cells)) answer low is named whole =
    let short = wide_refusal_short (slice_index_or file.names var []) cells (named_short file.names var named.names) low in
    subst (λ (a : Answer). length (answer_text a) ≤ reply_limit) (sym is) (omega (arith, short))
answer_short file (Some (Total cells)) answer low is named whole =
    let short = total_refusal_short cells low in
    subst (λ (a : Answer). length (answer_text a) ≤ reply_limit) (sym is) (omega (arith, short))
answer_short file None answer low is named whole = solved_short file answer is named whole

kind_low : (kind : TextKind) → number_of_text kind ≤ 10
kind_low texts.BadHeader = omega arith
kind_low texts.BadWord = omega arith
kind_low texts.BadNumber = omega arith
kind_low texts.UnknownName = omega arith
kind_low texts.NameTwice = omega arith
kind_low texts.NoEnd = omega arith
kind_low (texts.Problem number) = omega arith
kind_low texts.AfterEnd = omega arith
kind_low texts.TooLong = omega arith

-- the answer to an input that is read as this
text_short : (most : ℕ) (read : Result Declared Fault) (answer : Answer) → most ≤ count_limit → IsWholeSo most read → IsTextAnswer (tasks.Dpop false) (own_input read) answer → length (answer_text answer) ≤ reply_limit
text_short most (Ok d) answer le so is =
    let named : IsNamed (declared_by is.file) = subst (λ (e : Declared). IsNamed e) (sym is.declared) so in
    let p : Dcop = solved is.file.goal is.file.problem in
    answer_short is.file (wide_in p) answer (by_low p (dfs p) (first_wide p (dfs p))) is.is named is.whole
text_short most (Err fault) answer le so is =
    let kind = kind_low fault.kind in
    let short = text_refusal_short fault.line (number_of_text fault.kind) (number_of_problem fault.kind) (omega (arith, so.line, le)) (omega (arith, kind)) (omega (arith, so.problem)) in
    subst (λ (a : Answer). length (answer_text a) ≤ reply_limit) (sym is) (omega (arith, short))

by_length : (key : List ℕ) (answer : Answer) (b : Bool) → nat_lt input_limit (length key) ≡ b → IsInputAnswer (File Own (tasks.Dpop false)) (if b then TooLong else Whole key) answer → length (answer_text answer) ≤ reply_limit
by_length key answer true long is =
    let short = text_refusal_short 0 9 0 (omega arith) (omega arith) (omega arith) in
    subst (λ (a : Answer). length (answer_text a) ≤ reply_limit) (sym is) (omega (arith, short))
by_length key answer false long is =
    let few = ltb-false input_limit (length key) long in
    text_short (1 + length key) (whole_read key) answer (omega (arith, few)) (read_so key) is

-- no reply is longer than the limit
pub short_reply : (key reply : List ℕ) → IsReply key reply → length reply ≤ reply_limit
short_reply key reply is =
    subst (λ (text : List ℕ). length text ≤ reply_limit) (sym is.written) (by_length key is.answer (nat_lt input_limit (length key)) refl (of_words (input_of key) is.answer is.belongs))
