use Rattle.std.proofs.Common.{◌≡◌, ◌≤◌, ◌+◌, ◌*◌, min, drop}
use Rattle.dcop_base.specs.Table.{product, cell_place}
use Rattle.report_reader.proofs.turn_line.number_of.Given as goal

-- the number so far, with the values that are left, is the turn's, capped
abbrev pub invariant-loop-place : goal.invariant-loop-place
invariant-loop-place l =
    (l.number ≤ 18446744073709551615)
    × (min (l.number * product (drop l.place l.sizes) + cell_place (drop l.place l.sizes) (drop l.place l.values)) 18446744073709551615
    ≡ min (cell_place l.sizes l.values) 18446744073709551615)
