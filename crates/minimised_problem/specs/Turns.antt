-- What the tables of the turns of a cut say.
use Rattle.std.specs.Prelude.{ℕ, List, [], slice_index_or}
use Rattle.dcop_base.specs.Table.{cell_place}
use Rattle.dcop_base.specs.Problem.{Dcop}
use Rattle.pseudotree.specs.Place.{sizes_of}
use Rattle.run_laws.specs.Slice.{slice_of}
use Rattle.certificate_text.specs.declared.certificate.Turn.{Turn}
use Rattle.minimised_problem.specs.Told.{scopes_told, cells_told}

-- the turn with this number; numbers count from 0
abbrev pub turn_at : List Turn → ℕ → Turn
turn_at turns number = slice_index_or turns number (record { values = []; tables = [] })

-- the turn with these values of the cut variables; its number is their position in lexicographic
-- order
abbrev pub turn_by : Dcop → List ℕ → List Turn → List ℕ → Turn
turn_by p cut turns values = turn_at turns (cell_place (sizes_of p cut) values)

-- the scopes of the turn with these values, one for each variable
abbrev pub turn_scopes : Dcop → List ℕ → List Turn → List ℕ → List (List ℕ)
turn_scopes p cut turns values = scopes_told (slice_of p cut values) (turn_by p cut turns values).tables

-- the cells of the turn with these values, a list for each variable
abbrev pub turn_cells : Dcop → List ℕ → List Turn → List ℕ → List (List ℕ)
turn_cells p cut turns values = cells_told (slice_of p cut values) (turn_by p cut turns values).tables
