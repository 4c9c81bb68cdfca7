-- The law of reports that are printed with the log of their run.
use Rattle.std.specs.Prelude.{◌≡◌, ℕ, ◌≤◌, List, length, Ok}
use Rattle.dcop_base.specs.Limits.{input_limit}
use Rattle.program_frame.specs.Program.{IsAccepted}
use Rattle.solve_top.specs.Solving.{IsLoggedFor}
use Rattle.trace_top.specs.Tracing.{trace_program}
use Rattle.trace_top.specs.Words.{trace_answer_to}
use Rattle.trace_top.specs.declared.words.Asked.{Asked}

-- if words of `dcop_trace` are not refused, it accepts each text that is no longer than an input
-- may be, and that consists of a problem, in the format that the words ask for, and a report with a
-- log that a method prints for it
abbrev pub PrintedReportsAreTraced : Type 0
PrintedReportsAreTraced = (words : List (List ℕ)) (text : List ℕ) (asked : Asked) → trace_answer_to words ≡ Ok asked → length text ≤ input_limit → IsLoggedFor asked.format text → IsAccepted trace_program words text
