-- The tuples of a function, and the cells that they give it.
use Rattle.std.specs.Prelude.{ℕ, zero, suc, List, [], ◌∷◌, map, Result, Ok, ◌==◌, nat_le, if◌then◌else◌}
use Rattle.std.specs.List.{range_with_len}
use Rattle.dcop_base.specs.Table.{product, cell_place}
use Rattle.wcsp_text.specs.declared.fault.WcspKind.TheVariants.{Value}
use Rattle.wcsp_text.specs.declared.fault.Fault.{Fault}
use Rattle.wcsp_text.specs.Numbers.{Place, number, fails, read_on, onto}

-- a tuple: a value for each variable of the scope, and the cost of these values
pub record Tuple : Type 0 where
  pub values : List ℕ
  pub cost : ℕ

-- the cost of the last of these tuples that names the cell at this position, or `cost` if none does
abbrev pub last_cost : List ℕ → ℕ → ℕ → List Tuple → ℕ
last_cost sizes place cost [] = cost
last_cost sizes place cost (t ∷ later) =
    last_cost sizes place (if cell_place sizes t.values == place then t.cost else cost) later

-- the cells of a function whose variables have these sizes: each has the cost of the last tuple
-- that names it, or the default cost if none does
abbrev pub written_cells : List ℕ → ℕ → List Tuple → List ℕ
written_cells sizes default tuples = map (λ place. last_cost sizes place default tuples) (range_with_len 0 (product sizes))

-- the result of reading a value for each of these sizes, below that size
abbrev pub values_read : List ℕ → Place → Result (List ℕ × Place) Fault
values_read [] p = Ok ([], p)
values_read (size ∷ sizes) p =
    read_on (number p.words) (λ value q. if nat_le size value then fails q Value else onto value (values_read sizes q))

-- the result of reading a tuple: its values, then its cost
abbrev pub tuple_read : List ℕ → Place → Result (Tuple × Place) Fault
tuple_read sizes p =
    read_on (values_read sizes p) (λ values q.
    read_on (number q.words) (λ cost r. Ok (record { values = values; cost = cost }, r)))

-- the result of reading `count` tuples
abbrev pub tuples_read : List ℕ → ℕ → Place → Result (List Tuple × Place) Fault
tuples_read sizes zero p = Ok ([], p)
tuples_read sizes (suc count) p = read_on (tuple_read sizes p) (λ t q. onto t (tuples_read sizes count q))

-- the result of reading a default cost, a number of tuples and the tuples, as the cells of a
-- function
abbrev pub cells_read : List ℕ → Place → Result (List ℕ × Place) Fault
cells_read sizes p =
    read_on (number p.words) (λ default q.
    read_on (number q.words) (λ count r.
    read_on (tuples_read sizes count r) (λ tuples s. Ok (written_cells sizes default tuples, s))))
