-- The turns of a cut in a report.
use Rattle.std.specs.Prelude.{List, [], ◌∷◌}
use Rattle.certificate_text.specs.declared.certificate.Turn.{Turn}
use Rattle.certificate_text.specs.declared.certificate.Util.{Util}

-- the tables of the first of these turns of a cut
abbrev pub first_tables : List Turn → List Util
first_tables [] = []
first_tables (turn ∷ turns) = turn.tables
