-- What the lines of a text declare, and the outcome of a line.
use Rattle.std.specs.Prelude.{ℕ, ◌∷◌, ◌++◌, Option, Some, None, List, [], Bool}
use Rattle.std.specs.List.{list_any}
use Rattle.dcop_base.specs.Table.{CostTable}
use Rattle.problem_text.specs.declared.file.Goal.{Goal}
use Rattle.problem_text.specs.declared.file.Goal.TheVariants.{Min}
use Rattle.problem_text.specs.declared.fault.TextKind.{TextKind}
use Rattle.std.specs.Str.{bytes_eq}

-- what the lines up to here declare: the version, the goal, the name, value names and size of each
-- variable, and the tables
pub record Declared : Type 0 where
  pub version : ℕ
  pub goal : Goal
  pub names : List (List ℕ)
  pub labels : List (List (List ℕ))
  pub sizes : List ℕ
  pub tables : List CostTable

-- what is declared by the version alone
abbrev pub version_alone : ℕ → Declared
version_alone version =
    record { version = version; goal = Min; names = []; labels = []; sizes = []; tables = [] }

-- whether a name is among names
abbrev pub is_among : List (List ℕ) → List ℕ → Bool
is_among names name = list_any (bytes_eq name) names

-- what is declared, with one more variable: its name, its value names and its size
abbrev pub with_variable : Declared → List ℕ → List (List ℕ) → ℕ → Declared
with_variable d name values size =
    record d { names = d.names ++ (name ∷ []); labels = d.labels ++ (values ∷ []); sizes = d.sizes ++ (size ∷ []) }

-- what is declared, with one more table
abbrev pub with_table : Declared → CostTable → Declared
with_table d t = record d { tables = d.tables ++ (t ∷ []) }

-- the outcome of a line with words: it declares more, it is the last line of the text, or it is
-- refused
pub data Outcome : Type 0 where
  Declares : Declared → Outcome
  Ends : Outcome
  Fails : TextKind → Outcome

-- the outcome of a line that declares this, unless it has a fault
abbrev pub unless : Option TextKind → Declared → Outcome
unless (Some kind) d = Fails kind
unless None d = Declares d
