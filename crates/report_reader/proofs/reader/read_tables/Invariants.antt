use Rattle.std.proofs.Common.{◌≡◌, [], length}
use Rattle.report_reader.specs.ReportReading.{tables_read}
use Rattle.report_reader.proofs.reader.read_tables.Given as goal

-- what is left, read behind the tables, is all of them
abbrev pub invariant-loop-line : goal.invariant-loop-line
invariant-loop-line l =
    tables_read l.file.names l.file.problem.sizes l.lines.over l.utils.items l.lines.lines
    ≡ tables_read l.file.names l.file.problem.sizes l.fn.lines.over [] l.fn.lines.lines

abbrev pub decreases-loop-line : goal.decreases-loop-line
decreases-loop-line l = length l.lines.lines
