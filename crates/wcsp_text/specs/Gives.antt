-- How the results of reading agree with what the words say. If memory runs out, nothing is
-- promised.
use Rattle.std.specs.Prelude.{◌≡◌, ℕ, ◌*◌, ◌+◌, List, map, length, Result, Ok, Err, slice_index}
use Rattle.std.specs.List.{range_with_len}
use Rattle.dcop_base.specs.Table.{product, cell_place}
use Rattle.problem_text.specs.declared.line_end.LineEnd.{LineEnd}
use Rattle.problem_text.specs.declared.line_end.LineEnd.TheVariants as ends
use Rattle.wcsp_text.specs.declared.fault.Fault.{Fault}
use Rattle.wcsp_text.specs.Numbers.{Place}
use Rattle.wcsp_text.specs.Cells.{Tuple, last_cost}

-- an end of reading agrees with what the words say: a fault is the first fault
abbrev pub Ends : {B : Type 0} → LineEnd Fault → Result B Fault → Type 0
Ends (ends.Fault fault) outcome = outcome ≡ Err fault
Ends ends.NoMemory outcome = Unit {0}

-- a result of reading agrees with what the words say; the function `view` turns a value that was
-- read into the form in which the words say it
abbrev pub Gives : {A B : Type 0} → (A → B) → Result A (LineEnd Fault) → Result B Fault → Type 0
Gives view (Ok x) outcome = outcome ≡ Ok (view x)
Gives view (Err end) outcome = Ends end outcome

-- these cells, each with the cost of the last tuple that names it, or its own cost if none does
abbrev pub cells_with : List ℕ → List ℕ → List Tuple → List ℕ
cells_with sizes cells tuples =
    map (λ k. last_cost sizes k (slice_index cells k) tuples) (range_with_len 0 (length cells))

-- these cells changed by the tuples that are read; a fault stays
abbrev pub filled : List ℕ → List ℕ → Result (List Tuple × Place) Fault → Result (List ℕ × Place) Fault
filled sizes cells (Ok r) = Ok (cells_with sizes cells r.0, r.1)
filled sizes cells (Err fault) = Err fault

-- the position of the cell named by the values that are read, after earlier values that lead to
-- position `before`
abbrev pub named : ℕ → List ℕ → Result (List ℕ × Place) Fault → Result (ℕ × Place) Fault
named before sizes (Ok r) = Ok (before * product sizes + cell_place sizes r.0, r.1)
named before sizes (Err fault) = Err fault
