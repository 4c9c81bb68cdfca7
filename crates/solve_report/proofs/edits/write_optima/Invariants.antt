use Rattle.std.proofs.Common.{◌≡◌, ◌++◌, ◌+◌, drop}
use Rattle.std.specs.List.{flat_map}
use Rattle.std.specs.String.{string_bytes}
use Rattle.problem_text.specs.Canonical.{line}
use Rattle.solve_report.specs.Edits.{optima_lines}
use Rattle.solve_report.proofs.edits.write_optima.Given as goal

abbrev pub invariant-loop-place : goal.invariant-loop-place
invariant-loop-place l =
    string_bytes l.text ++ flat_map line (optima_lines l.file (l.place + 1) (drop l.place l.answers))
    ≡ string_bytes l.fn.text ++ flat_map line (optima_lines l.file 1 l.answers)
