use Rattle.std.proofs.Common.{◌≡◌, ◌++◌, drop}
use Rattle.std.specs.List.{flat_map}
use Rattle.std.specs.String.{string_bytes}
use Rattle.problem_text.specs.Canonical.{line, variable_lines}
use Rattle.problem_text.proofs.canonical.write_variables.Given as goal

abbrev pub invariant-loop-place : goal.invariant-loop-place
invariant-loop-place l =
    string_bytes l.text ++ flat_map line (variable_lines (drop l.place l.names) (drop l.place l.sizes) (drop l.place l.labels))
    ≡ string_bytes l.fn.text ++ flat_map line (variable_lines l.names l.sizes l.labels)
