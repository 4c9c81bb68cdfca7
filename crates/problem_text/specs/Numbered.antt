-- The file of a problem whose variables are named by their numbers.
use Rattle.std.specs.Prelude.{ℕ, List, [], ◌++◌, map, length, replicate, codes, if◌then◌else◌}
use Rattle.std.specs.List.{range_with_len}
use Rattle.std.specs.Fmt.{decimal}
use Rattle.dcop_base.specs.Table.{CostTable}
use Rattle.dcop_base.specs.Problem.{Dcop}
use Rattle.problem_text.specs.File.{TextFile, has_wide_table}
use Rattle.problem_text.specs.declared.file.Goal.TheVariants.{Min}

-- `v` and the variable's number
abbrev pub numbered_name : ℕ → List ℕ
numbered_name var = codes "v" ++ decimal var

-- the names of `count` variables
abbrev pub numbered_names : ℕ → List (List ℕ)
numbered_names count = map numbered_name (range_with_len 0 count)

-- the lowest version that the tables allow
abbrev pub lower_version : List CostTable → ℕ
lower_version tables = if has_wide_table tables then 2 else 1

-- the problem with numbered names, in the lowest version that its tables allow, with goal min and
-- no value names
abbrev pub numbered_file : Dcop → TextFile
numbered_file p = record {
  version = lower_version p.tables;
  goal = Min;
  names = numbered_names (length p.sizes);
  labels = replicate (length p.sizes) [];
  problem = p;
}
