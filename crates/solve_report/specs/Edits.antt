-- The lines of an edit session's answers, each as its words.
use Rattle.std.specs.Prelude.{◌≡◌, ℕ, ◌+◌, List, [], ◌∷◌, ◌++◌, length, codes}
use Rattle.std.specs.List.{AllZip, flat_map}
use Rattle.std.specs.Fmt.{decimal}
use Rattle.problem_text.specs.Canonical.{line}
use Rattle.problem_text.specs.File.{TextFile}
use Rattle.problem_text.specs.declared.edited.Edited.{Edited}
use Rattle.certificate_text.specs.Named.{HasWord}
use Rattle.certificate_text.specs.ReportText.{value_lines}

-- an optimum can be written with the names of a file: it has one value for each variable, and if
-- the values of the variable have names, this value has one
pub record IsNamedOptimum (file : TextFile) (edited : Edited) : Type 0 where
  pub many : length edited.values ≡ length file.names
  pub worded : AllZip HasWord file.labels edited.values

-- the words of each line of the answer with this number: how many agents' tables were recomputed,
-- the cost and the values
abbrev pub optimum_lines : TextFile → ℕ → Edited → List (List (List ℕ))
optimum_lines file number edited =
    ((codes "answer" ∷ decimal number ∷ []) ∷ (codes "remade" ∷ decimal edited.remade ∷ []) ∷ (codes "cost" ∷ decimal edited.cost ∷ []) ∷ [])
    ++ value_lines file.names file.labels edited.values

-- the words of each line of these answers; the first has this number
abbrev pub optima_lines : TextFile → ℕ → List Edited → List (List (List ℕ))
optima_lines file number [] = []
optima_lines file number (edited ∷ more) = optimum_lines file number edited ++ optima_lines file (number + 1) more

-- the text of a session: its answers, numbered from 1, and `end`
abbrev pub edits_text : List Edited → TextFile → List ℕ
edits_text answers file = flat_map line (optima_lines file 1 answers ++ ((codes "end" ∷ []) ∷ []))
