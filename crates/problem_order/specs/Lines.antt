-- The canonical text of a file with its variables in another order.
use Rattle.std.specs.Prelude.{◌≡◌, ℕ, List, [], ◌∷◌, ◌++◌, map, codes, slice_index, slice_index_or}
use Rattle.dcop_base.specs.Whole.{IsProblem}
use Rattle.problem_text.specs.File.{TextFile, IsFile}
use Rattle.problem_text.specs.Canonical.{opening_lines, variable_words, table_words, canonical_lines}
use Rattle.problem_order.specs.Reordered.{IsReordered}

-- the line of a variable of a file
abbrev pub variable_line_of : TextFile → ℕ → List (List ℕ)
variable_line_of f v = variable_words (slice_index_or f.names v []) (slice_index f.problem.sizes v) (slice_index_or f.labels v [])

-- the lines of a file, with those of its variables in this order and all others as they are
abbrev pub lines_in : TextFile → List ℕ → List (List (List ℕ))
lines_in f order =
    opening_lines f.version f.goal
    ++ map (variable_line_of f) order
    ++ map (table_words f.names) f.problem.tables
    ++ ((codes "end" ∷ []) ∷ [])

-- a file in another order has the same lines, those of its variables in that order; so its text is
-- one function of the old file and the order
abbrev pub ReorderedFilesKeepTheirLines : Type 0
ReorderedFilesKeepTheirLines = (old new : TextFile) (order : List ℕ) → IsFile old → IsFile new → IsProblem old.problem → IsProblem new.problem
    → IsReordered old order new → canonical_lines new ≡ lines_in old order
