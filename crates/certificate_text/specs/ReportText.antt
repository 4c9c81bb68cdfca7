-- The text of a report: its lines in order, each the words of that line.
use Rattle.std.specs.Prelude.{ℕ, List, [], ◌∷◌, ◌++◌, codes}
use Rattle.std.specs.List.{flat_map, slice_index_or}
use Rattle.std.specs.Fmt.{decimal}
use Rattle.problem_text.specs.File.{TextFile}
use Rattle.problem_text.specs.Canonical.{line, goal_lines}
use Rattle.certificate_text.specs.CertificateText.{evidence_lines}
use Rattle.certificate_text.specs.declared.report.Ending.{Ending}
use Rattle.certificate_text.specs.declared.report.Ending.TheVariants.{Solved, Spent}
use Rattle.certificate_text.specs.declared.report.Method.{Method}
use Rattle.certificate_text.specs.declared.report.Method.TheVariants.{Plain, Dpop, Adopt, Cut}
use Rattle.certificate_text.specs.declared.report.Report.{Report}

-- the word for an ending
abbrev pub ending_word : Ending → List ℕ
ending_word Solved = codes "solved"
ending_word Spent = codes "spent"

-- the word for a method
abbrev pub method_word : Method → List ℕ
method_word Plain = codes "plain"
method_word Dpop = codes "dpop"
method_word Adopt = codes "adopt"
method_word Cut = codes "cut"

-- the lines before the cost
abbrev pub head_lines : Report → List (List (List ℕ))
head_lines r =
    ((codes "status" ∷ ending_word r.status ∷ []) ∷ (codes "method" ∷ method_word r.method ∷ []) ∷ goal_lines r.goal)
    ++ ((codes "error" ∷ decimal r.error ∷ []) ∷ (codes "deliveries" ∷ decimal r.deliveries ∷ []) ∷ [])

-- the lines of the cost and the bounds
abbrev pub bound_lines : Report → List (List (List ℕ))
bound_lines r = (codes "cost" ∷ decimal r.cost ∷ []) ∷ (codes "lower" ∷ decimal r.lower ∷ []) ∷ (codes "upper" ∷ decimal r.upper ∷ []) ∷ []

-- the word for a value: its name if its variable has value names, and its number otherwise
abbrev pub value_word : List (List ℕ) → ℕ → List ℕ
value_word [] value = decimal value
value_word (label ∷ labels) value = slice_index_or (label ∷ labels) value []

-- `value NAME V`
abbrev pub value_words : List ℕ → List (List ℕ) → ℕ → List (List ℕ)
value_words name labels value = codes "value" ∷ name ∷ value_word labels value ∷ []

-- a line for each value, in order
abbrev pub value_lines : List (List ℕ) → List (List (List ℕ)) → List ℕ → List (List (List ℕ))
value_lines (name ∷ names) (labels ∷ more) (value ∷ values) = value_words name labels value ∷ value_lines names more values
value_lines _ _ _ = []

-- the words of each line of a report
abbrev pub report_lines : Report → TextFile → List (List (List ℕ))
report_lines r f =
    head_lines r
    ++ bound_lines r
    ++ value_lines f.names f.labels r.values
    ++ evidence_lines f.names r.certificate
    ++ ((codes "end" ∷ []) ∷ [])

-- the text of a report on a file
abbrev pub report_text : Report → TextFile → List ℕ
report_text r f = flat_map line (report_lines r f)
