-- How the place of a table's cell moves with the values of variables that need not be in the table's order.
use Rattle.std.specs.Prelude.{◌≡◌, ℕ, ◌+◌, ◌*◌, ◌-◌, ◌%◌, ◌<◌, ◌≤◌, ◌==◌, List, [], ◌∷◌, map, length, drop, if◌then◌else◌, slice_index}
use Rattle.std.specs.List.{All}
use Rattle.dcop_base.specs.Limits.{amount_limit}
use Rattle.dcop_base.specs.Table.{CostTable, AreWithin, product, cell_place}
use Rattle.util_kernel.specs.Lanes.{plus}

-- how far the place of a cell moves when a variable's value grows by one: by the number of cells over the later variables of the scope; 0 if the scope does not name the variable
abbrev pub stride : List ℕ → List ℕ → ℕ → ℕ
stride [] sizes var = 0
stride (v ∷ vs) [] var = 0
stride (v ∷ vs) (s ∷ ss) var = if var == v then product ss else stride vs ss var

-- the strides of variables in a table
abbrev pub strides : CostTable → List ℕ → List ℕ
strides t over = map (λ v. stride t.scope t.sizes v) over

-- how far the values of variables with these strides move the place together
abbrev pub offset : List ℕ → List ℕ → ℕ
offset [] values = 0
offset (d ∷ ds) [] = 0
offset (d ∷ ds) (v ∷ vs) = d * v + offset ds vs

-- the last value of a variable of each size
abbrev pub last_values : List ℕ → List ℕ
last_values sizes = map (λ s. s - 1) sizes

-- how far the place moves from the first cell of rows to the one at p: by `step` from each cell of a row to the next, and anew in each row of `width` cells
abbrev pub along : ℕ → ℕ → ℕ → ℕ
along width step p = step * (p % width)

-- the variables with these strides and sizes form whole rows from `start` on: they have `count` cells, in rows of `width` cells, along which the place moves by `step` from each cell to the next, and anew in each row
pub record IsRow (ds sizes : List ℕ) (start count width step : ℕ) : Type 0 where
  pub within : start ≤ length sizes
  pub full : count ≡ product (drop start sizes)
  pub some : 1 ≤ width
  pub whole : (rows : ℕ) × (count ≡ rows * width)
  pub even : (values : List ℕ) → AreWithin (drop start sizes) values → offset (drop start ds) values ≡ along width step (cell_place (drop start sizes) values)

-- each cell of a row gained, by the capped sum, the amount at `step` times its place, and no cell is above amount_limit
pub record IsRowSum (from : List ℕ) (step : ℕ) (old new : List ℕ) : Type 0 where
  pub count : length new ≡ length old
  pub small : All (λ n. n ≤ amount_limit) new
  pub cells : (p : ℕ) → p < length old → slice_index new p ≡ plus (slice_index old p) (slice_index from (step * p))

-- each cell of rows gained, by the capped sum, the amount to which the place moves along the rows, and no cell is above amount_limit
pub record AreRowSums (from : List ℕ) (width step : ℕ) (old new : List ℕ) : Type 0 where
  pub count : length new ≡ length old
  pub small : All (λ n. n ≤ amount_limit) new
  pub cells : (p : ℕ) → p < length old → slice_index new p ≡ plus (slice_index old p) (slice_index from (along width step p))

-- there are `count` cells for each choice of values of these sizes; each of them gained, by the capped sum, the amount at the offset of the values, moved on as far as the place of the cell among the `count` says
pub record IsBlockSum (from ds sizes : List ℕ) (count : ℕ) (far : ℕ → ℕ) (old new : List ℕ) : Type 0 where
  pub counted : length new ≡ length old
  pub small : All (λ n. n ≤ amount_limit) new
  pub cells : (values : List ℕ) (p : ℕ) → AreWithin sizes values → p < count → slice_index new (cell_place sizes values * count + p) ≡ plus (slice_index old (cell_place sizes values * count + p)) (slice_index from (offset ds values + far p))
