-- The text of the report of a search: its lines in order, each as the words of the line.
use Rattle.std.specs.Prelude.{◌≡◌, ℕ, List, [], ◌∷◌, ◌++◌, length, codes, Option, Some, None}
use Rattle.std.specs.List.{AllZip, flat_map}
use Rattle.std.specs.Fmt.{decimal}
use Rattle.problem_text.specs.Canonical.{line, goal_lines}
use Rattle.problem_text.specs.File.{TextFile}
use Rattle.problem_text.specs.declared.file.Goal.{Goal}
use Rattle.problem_text.specs.declared.file.Goal.TheVariants.{Min, Max}
use Rattle.certificate_text.specs.Named.{HasWord}
use Rattle.certificate_text.specs.ReportText.{value_lines}
use Rattle.search_stages.specs.declared.report.Found.{Found}
use Rattle.search_stages.specs.declared.report.SearchEnding.{SearchEnding}
use Rattle.search_stages.specs.declared.report.SearchEnding.TheVariants.{Solved, Spent, NoneBetter}
use Rattle.search_stages.specs.declared.report.SearchReport.{SearchReport}

-- the word of an ending
abbrev pub ending_word : SearchEnding → List ℕ
ending_word Solved = codes "solved"
ending_word Spent = codes "spent"
ending_word NoneBetter = codes "none"

-- `WORD N`
abbrev pub number_line : List ℕ → ℕ → List (List ℕ)
number_line word number = word ∷ decimal number ∷ []

-- the lines above the cost
abbrev pub head_lines : SearchReport → List (List (List ℕ))
head_lines r =
    ((codes "status" ∷ ending_word r.ending ∷ []) ∷ (codes "method" ∷ codes "search" ∷ []) ∷ goal_lines r.goal)
    ++ (number_line (codes "error") r.error ∷ number_line (codes "nodes") r.nodes ∷ [])

-- the lines of the cost and the two bounds; for goal min the upper bound, and for goal max the
-- lower bound, is the cost of the assignment; if there is no assignment, the cost and this bound
-- are left out
abbrev pub bound_lines : Goal → ℕ → Option Found → List (List (List ℕ))
bound_lines Min bound None = number_line (codes "lower") bound ∷ []
bound_lines Max bound None = number_line (codes "upper") bound ∷ []
bound_lines Min bound (Some found) = number_line (codes "cost") found.cost ∷ number_line (codes "lower") bound ∷ number_line (codes "upper") found.cost ∷ []
bound_lines Max bound (Some found) = number_line (codes "cost") found.cost ∷ number_line (codes "lower") found.cost ∷ number_line (codes "upper") bound ∷ []

-- a line for each value, in order
abbrev pub found_lines : TextFile → Option Found → List (List (List ℕ))
found_lines f None = []
found_lines f (Some found) = value_lines f.names f.labels found.values

-- the text of the report of a search on a file
abbrev pub search_text : SearchReport → TextFile → List ℕ
search_text r f = flat_map line (head_lines r ++ bound_lines r.goal r.bound r.found ++ found_lines f r.found ++ ((codes "end" ∷ []) ∷ []))

-- values that the names of a file can express: one for each name, and each has a name if its variable has value names
pub record AreTold (f : TextFile) (found : Found) : Type 0 where
  pub many : length found.values ≡ length f.names
  pub worded : AllZip HasWord f.labels found.values
