-- The text of each answer.
use Rattle.std.specs.Prelude.{ℕ, ◌<◌, List, [], length, ⊤}
use Rattle.std.specs.List.{All, slice_index_or}
use Rattle.problem_text.specs.Canonical.{line, canonical}
use Rattle.certificate_text.specs.Named.{CanTell}
use Rattle.certificate_text.specs.ReportText.{report_text}
use Rattle.solve_report.specs.Edits.{IsNamedOptimum, edits_text}
use Rattle.solve_report.specs.Links.{link_refusal, differs_refusal, bytes_refusal}
use Rattle.solve_report.specs.Refusal.{words_refusal, text_refusal, wcsp_refusal, report_refusal, edit_refusal}
use Rattle.solve_report.specs.Refusal.{many_refusal, turns_refusal, wide_refusal, total_refusal, read_refusal}
use Rattle.solve_report.specs.Replay.{IsNamedAgent, replay_text}
use Rattle.solve_report.specs.Summary.{summary_text}
use Rattle.solve_report.specs.Tree.{IsNamedRow, tree_text}
use Rattle.solve_report.specs.Upgrade.{barred_text}
use Rattle.solve_report.specs.Verdict.{IsNamedVerdict, verdict_text}
use Rattle.solve_report.specs.declared.answer.Answer.{Answer}
use Rattle.solve_report.specs.declared.answer.Answer.TheVariants.{Report, Tree, Verdict, Replay, Drill, Upgraded, UpgradedWcsp, Edits}
use Rattle.solve_report.specs.declared.answer.Answer.TheVariants.{Words, ProblemText, WcspText, ReportText, EditText, Many, ManyTurns, WideAgent, WideTotal, Read, Link, LinkDiffers, LinkBytes}

-- an answer has a text: a report or optima can be written with the names of their file, and the
-- names include every variable of a tree, of a replay, of a verdict's difference, of a table that
-- is too wide, and of the ends of a link
abbrev pub HasText : Answer → Type 0
HasText (Report report file) = CanTell report file
HasText (Tree deliveries nodes names) = All (IsNamedRow (length names)) nodes
HasText (Verdict verdict names) = IsNamedVerdict (length names) verdict
HasText (Replay events agents names) = All (IsNamedAgent (length names)) agents
HasText (Edits answers file) = All (IsNamedOptimum file) answers
HasText (WideAgent var cells names) = var < length names
HasText (LinkDiffers from to at sent taken names) = (from < length names) × (to < length names)
HasText _ = ⊤

-- the text of an answer
abbrev pub answer_text : Answer → List ℕ
answer_text (Report report file) = report_text report file
answer_text (Tree deliveries nodes names) = tree_text deliveries nodes names
answer_text (Verdict verdict names) = verdict_text names verdict
answer_text (Replay events agents names) = replay_text events agents names
answer_text (Drill summary) = summary_text summary
answer_text (Upgraded file) = canonical file
answer_text (UpgradedWcsp bar file) = barred_text bar file
answer_text (Edits answers file) = edits_text answers file
answer_text (Words at kind) = line (words_refusal at kind)
answer_text (ProblemText at kind problem) = line (text_refusal at kind problem)
answer_text (WcspText at kind problem) = line (wcsp_refusal at kind problem)
answer_text (ReportText at kind) = line (report_refusal at kind)
answer_text (EditText at kind) = line (edit_refusal at kind)
answer_text (Many assignments) = line (many_refusal assignments)
answer_text (ManyTurns turns) = line (turns_refusal turns)
answer_text (WideAgent var cells names) = line (wide_refusal (slice_index_or names var []) cells)
answer_text (WideTotal cells) = line (total_refusal cells)
answer_text Read = line read_refusal
answer_text Link = line link_refusal
answer_text (LinkDiffers from to at sent taken names) = line (differs_refusal (slice_index_or names from []) (slice_index_or names to []) at sent taken)
answer_text (LinkBytes round from_node to_node place sent taken) = line (bytes_refusal round from_node to_node place sent taken)
