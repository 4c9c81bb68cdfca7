use Rattle.std.proofs.Common.{◌+◌, ◌<◌, ◌^◌, length}
use Rattle.problem_text.specs.PlainLines.{plain_lines}
use Rattle.solve_edit.specs.Editing.{line_behind}
use Rattle.solve_edit.proofs.StepLaws.{HasRun}
use Rattle.solve_edit.proofs.running.run_lines.Given as goal

-- what comes of the lines that are left comes of all, behind the optima
abbrev pub invariant-loop-line : goal.invariant-loop-line
invariant-loop-line g l =
    (l.number + length l.rest < 2 ^ 64)
    × HasRun l.fn.session.state (line_behind l.fn.before l.fn.text) (plain_lines (l.fn.before + 1) l.fn.text) l.session.state (plain_lines l.number l.rest) l.answers.items

abbrev pub decreases-loop-line : goal.decreases-loop-line
decreases-loop-line g l = length l.rest
