-- The canonical text of a file: its lines in order, with one space between the words of a line.
use Rattle.std.specs.Prelude.{ℕ, List, [], ◌∷◌, ◌++◌, map, codes}
use Rattle.std.specs.List.{flat_map, join_with_byte, slice_index_or}
use Rattle.std.specs.Fmt.{decimal}
use Rattle.dcop_base.specs.Table.{CostTable}
use Rattle.problem_text.specs.Bytes.{line_feed, space}
use Rattle.problem_text.specs.File.{TextFile}
use Rattle.problem_text.specs.declared.file.Goal.{Goal}
use Rattle.problem_text.specs.declared.file.Goal.TheVariants.{Min, Max}

-- the line of these words: one space between words, LF at the end
abbrev pub line : List (List ℕ) → List ℕ
line words = join_with_byte space words ++ (line_feed ∷ [])

-- the line `goal max` if the goal is max, and no line otherwise
abbrev pub goal_lines : Goal → List (List (List ℕ))
goal_lines Min = []
goal_lines Max = (codes "goal" ∷ codes "max" ∷ []) ∷ []

-- the first lines: `dcop` and the version, and the goal
abbrev pub opening_lines : ℕ → Goal → List (List (List ℕ))
opening_lines version goal = (codes "dcop" ∷ decimal version ∷ []) ∷ goal_lines goal

-- the words for the values of a variable: its size, or `:` and its value names
abbrev pub value_words : ℕ → List (List ℕ) → List (List ℕ)
value_words size [] = decimal size ∷ []
value_words size (label ∷ labels) = codes ":" ∷ label ∷ labels

-- `var NAME SIZE`, or `var NAME : VALUES`
abbrev pub variable_words : List ℕ → ℕ → List (List ℕ) → List (List ℕ)
variable_words name size labels = codes "var" ∷ name ∷ value_words size labels

-- a line for each variable, in order
abbrev pub variable_lines : List (List ℕ) → List ℕ → List (List (List ℕ)) → List (List (List ℕ))
variable_lines (name ∷ names) (size ∷ sizes) (labels ∷ more) = variable_words name size labels ∷ variable_lines names sizes more
variable_lines _ _ _ = []

-- `table NAMES : CELLS`
abbrev pub table_words : List (List ℕ) → CostTable → List (List ℕ)
table_words names t = codes "table" ∷ map (λ v. slice_index_or names v []) t.scope ++ (codes ":" ∷ map decimal t.cells)

-- the words of each line of the canonical text
abbrev pub canonical_lines : TextFile → List (List (List ℕ))
canonical_lines f =
    opening_lines f.version f.goal
    ++ variable_lines f.names f.problem.sizes f.labels
    ++ map (table_words f.names) f.problem.tables
    ++ ((codes "end" ∷ []) ∷ [])

-- the canonical text of a file
abbrev pub canonical : TextFile → List ℕ
canonical f = flat_map line (canonical_lines f)
