-- The problem that is made from a seed.
use Rattle.std.specs.Prelude.{ℕ, ◌+◌, ◌-◌, ◌*◌, ◌%◌, List, [], ◌∷◌, map, min, replicate}
use Rattle.std.specs.List.{flat_map, range_with_len}
use Rattle.dcop_base.specs.Table.{CostTable}
use Rattle.dcop_base.specs.Problem.{Dcop}
use Rattle.instance_make.specs.Stream.{state_after, word_at}

-- a cell made from a word, which is a random number: at most `top`, the greatest cost that is asked
-- for
abbrev pub cell_of : ℕ → ℕ → ℕ
cell_of top word = word % (top + 1)

-- `count` cells, each drawn from one word; the words start at this state of the stream
abbrev pub drawn_cells : ℕ → ℕ → ℕ → List ℕ
drawn_cells top state count = map (λ place. cell_of top (word_at state place)) (range_with_len 0 count)

-- how many words a table takes: one for the partner, and one for each cell
abbrev pub table_words : ℕ → ℕ
table_words size = 1 + size * size

-- the table of a variable and its partner, an earlier variable drawn from the first word; the cells
-- are drawn from the words after it
abbrev pub drawn_table : ℕ → ℕ → ℕ → ℕ → CostTable
drawn_table size top state var = record {
  scope = word_at state 0 % var ∷ var ∷ [];
  sizes = size ∷ size ∷ [];
  cells = drawn_cells top (state_after state 1) (size * size);
}

-- the tables of these variables, one after the other
abbrev pub drawn_tables : ℕ → ℕ → ℕ → List ℕ → List CostTable
drawn_tables size top state [] = []
drawn_tables size top state (var ∷ vars) =
    drawn_table size top state var ∷ drawn_tables size top (state_after state (table_words size)) vars

-- a variable, once for each table that it draws: the lesser of the degree and the number of earlier
-- variables
abbrev pub draws_of : ℕ → ℕ → List ℕ
draws_of degree var = replicate (min var degree) var

-- the `count` variables from the second on, each repeated once for each table that it draws
abbrev pub draws_behind : ℕ → ℕ → List ℕ
draws_behind degree count = flat_map (draws_of degree) (range_with_len 1 count)

-- the problem that is made from a seed: variables of one size, each but the first with tables on
-- earlier ones. It has no joints
abbrev pub made_problem : ℕ → ℕ → ℕ → ℕ → ℕ → Dcop
made_problem seed vars size degree top = record {
  sizes = replicate vars size;
  tables = drawn_tables size top seed (draws_behind degree (vars - 1));
  joints = [];
}
