-- What holds of everything that the lines have declared so far: it is the beginning of a problem
-- file.
use Rattle.std.specs.Prelude.{◌≡◌, ℕ, ◌≤◌, true, ◌||◌, ◌⊎◌, [], length, None}
use Rattle.std.specs.List.{list_all, AllZip, IsDistinct, position}
use Rattle.std.specs.Str.{bytes_eq}
use Rattle.dcop_base.specs.Faults.{is_bad_size, tables_fault, cell_count, greatest_sum}
use Rattle.dcop_base.specs.Limits.{amount_limit, variable_limit, cell_limit}
use Rattle.problem_text.specs.Name.{is_name}
use Rattle.problem_text.specs.File.{is_max, has_wide_table, has_labels, AreLabels}
use Rattle.problem_text.specs.Declarations.{Declared}

-- what the lines have declared is within the limits of a problem and of its version
pub record IsDraft (d : Declared) : Type 0 where
  pub version : (d.version ≡ 1) ⊎ (d.version ≡ 2)
  pub second : has_wide_table d.tables || is_max d.goal || has_labels d.labels ≡ true → d.version ≡ 2
  pub named : length d.names ≡ length d.sizes
  pub distinct : IsDistinct bytes_eq d.names
  pub names : list_all is_name d.names ≡ true
  pub labels : AllZip AreLabels d.sizes d.labels
  pub few : length d.sizes ≤ variable_limit
  pub sizes : position is_bad_size d.sizes ≡ None
  pub tables : tables_fault d.sizes [] d.tables ≡ None

-- a draft, with the count of its cells and the sum of its tables' greatest cells
pub record IsCounted (count total : ℕ) (d : Declared) : Type 0 where
  pub draft : IsDraft d
  pub cells : count ≡ cell_count d.tables
  pub room : count ≤ cell_limit
  pub sum : total ≡ greatest_sum d.tables
  pub fits : total ≤ amount_limit
