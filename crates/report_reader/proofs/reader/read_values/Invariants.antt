use Rattle.std.proofs.Common.{◌≡◌}
use Rattle.report_reader.specs.ReportReading.{values_read}
use Rattle.report_reader.proofs.StepLaws.{after, values_from}
use Rattle.report_reader.proofs.reader.read_values.Given as goal

-- the values, with those that are read of what is left, are all values
abbrev pub invariant-loop-place : goal.invariant-loop-place
invariant-loop-place l =
    after l.values.items (values_from l.file.names l.file.labels l.file.problem.sizes l.place l.lines)
    ≡ values_read l.file.names l.file.labels l.file.problem.sizes l.fn.lines
