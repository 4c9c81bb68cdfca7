-- The ranges of what a search is asked for.
use Rattle.std.specs.Prelude.{ℕ, ◌≤◌, IfSome}
use Rattle.dcop_base.specs.Limits.{amount_limit}
use Rattle.search_stages.specs.declared.asked.Asked.{Asked}

-- the greatest error, and the greatest sum to be bettered; no sum is above it
abbrev pub error_limit : ℕ
error_limit = amount_limit

-- the greatest budget of nodes
abbrev pub node_limit : ℕ
node_limit = 1000000000000

-- the least value of `--cells`
abbrev pub fewest_cells : ℕ
fewest_cells = 1024

-- the greatest value of `--cells`, 2^28
abbrev pub cell_limit : ℕ
cell_limit = 268435456

-- what is asked for is within the options' ranges
pub record IsServed (asked : Asked) : Type 0 where
  pub error : asked.error ≤ error_limit
  pub some : 1 ≤ asked.budget
  pub few : asked.budget ≤ node_limit
  pub cells : fewest_cells ≤ asked.cells
  pub room : asked.cells ≤ cell_limit
  pub better : IfSome asked.better (λ sum. sum ≤ error_limit)
