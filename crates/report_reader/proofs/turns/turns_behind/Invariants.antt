use Rattle.std.proofs.Common.{◌≡◌, [], length}
use Rattle.report_reader.specs.TurnReading.{turns_read}
use Rattle.report_reader.proofs.turns.turns_behind.Given as goal

-- what is left, read behind the turns and the tables of this one, is all of them
abbrev pub invariant-loop-line : goal.invariant-loop-line
invariant-loop-line l =
    turns_read l.names l.sizes l.lines.over l.turns.items (record { values = l.values; tables = l.tables.items }) l.lines.lines
    ≡ turns_read l.names l.sizes l.fn.lines.over [] (record { values = l.fn.first; tables = [] }) l.fn.lines.lines

abbrev pub decreases-loop-line : goal.decreases-loop-line
decreases-loop-line l = length l.lines.lines
