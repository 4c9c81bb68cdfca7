-- A problem file: a problem with its version, its goal, and the names of its variables and values.
use Rattle.std.specs.Prelude.{◌≡◌, ℕ, Bool, true, false, ◌||◌, ◌⊎◌, List, [], length, nat_lt}
use Rattle.std.specs.List.{list_any, list_all, AllZip, IsDistinct}
use Rattle.std.specs.Str.{bytes_eq}
use Rattle.dcop_base.specs.Problem.{Dcop}
use Rattle.dcop_base.specs.Table.{CostTable}
use Rattle.problem_text.specs.Name.{is_name}
use Rattle.problem_text.specs.declared.file.Goal.{Goal}
use Rattle.problem_text.specs.declared.file.Goal.TheVariants.{Min, Max}

-- a problem with its version, its goal, the names of its variables, and the value names of each
-- variable (an empty list if the file gives none)
pub record TextFile : Type 0 where
  pub version : ℕ
  pub goal : Goal
  pub names : List (List ℕ)
  pub labels : List (List (List ℕ))
  pub problem : Dcop

-- whether a goal is max
abbrev pub is_max : Goal → Bool
is_max Min = false
is_max Max = true

-- whether some table has more than two variables
abbrev pub has_wide_table : List CostTable → Bool
has_wide_table tables = list_any (λ t. nat_lt 2 (length t.scope)) tables

-- whether some variable has value names
abbrev pub has_labels : List (List (List ℕ)) → Bool
has_labels labels = list_any (λ names. nat_lt 0 (length names)) labels

-- whether only version 2 can express the file
abbrev pub needs_second : TextFile → Bool
needs_second f = has_wide_table f.problem.tables || is_max f.goal || has_labels f.labels

-- the value names of a variable of this size: none, or one for each value; all are names, and they
-- are distinct
pub record AreLabels (size : ℕ) (labels : List (List ℕ)) : Type 0 where
  pub many : (labels ≡ []) ⊎ (length labels ≡ size)
  pub distinct : IsDistinct bytes_eq labels
  pub names : list_all is_name labels ≡ true

-- a well-formed file: the version is 1 or 2, and 2 if it is needed; there is one name for each
-- variable; all are names, and they are distinct; and the value names fit the sizes
pub record IsFile (f : TextFile) : Type 0 where
  pub version : (f.version ≡ 1) ⊎ (f.version ≡ 2)
  pub second : needs_second f ≡ true → f.version ≡ 2
  pub named : length f.names ≡ length f.problem.sizes
  pub distinct : IsDistinct bytes_eq f.names
  pub names : list_all is_name f.names ≡ true
  pub labels : AllZip AreLabels f.problem.sizes f.labels
