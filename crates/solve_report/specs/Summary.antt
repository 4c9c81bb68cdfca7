-- The lines of a summary, each as its words.
use Rattle.std.specs.Prelude.{ℕ, List, [], ◌∷◌, ◌++◌, codes}
use Rattle.std.specs.List.{flat_map}
use Rattle.std.specs.Fmt.{decimal}
use Rattle.problem_text.specs.Canonical.{line}
use Rattle.certificate_text.specs.ReportText.{ending_word, method_word}
use Rattle.certificate_text.specs.declared.report.Ending.{Ending}
use Rattle.certificate_text.specs.declared.report.Method.{Method}
use Rattle.solve_report.specs.declared.summary.Summary.{Summary}

-- `WORD N`
abbrev pub number_words : List ℕ → ℕ → List (List ℕ)
number_words word number = word ∷ decimal number ∷ []

-- how a run ended, and the method
abbrev pub run_lines : Ending → Method → List (List (List ℕ))
run_lines status method = (codes "status" ∷ ending_word status ∷ []) ∷ (codes "method" ∷ method_word method ∷ []) ∷ []

-- the lines of the made problem: its seed, and its numbers of variables, tables and cells
abbrev pub made_lines : Summary → List (List (List ℕ))
made_lines s =
    number_words (codes "seed") s.seed ∷ number_words (codes "vars") s.vars ∷ number_words (codes "tables") s.tables
    ∷ number_words (codes "cells") s.cells ∷ []

-- the lines of the result: deliveries, cost, both bounds and mark
abbrev pub found_lines : Summary → List (List (List ℕ))
found_lines s =
    number_words (codes "deliveries") s.deliveries ∷ number_words (codes "cost") s.cost ∷ number_words (codes "lower") s.lower
    ∷ number_words (codes "upper") s.upper ∷ number_words (codes "mark") s.mark ∷ []

-- the last line
abbrev pub end_lines : List (List (List ℕ))
end_lines = (codes "end" ∷ []) ∷ []

-- the text of a summary
abbrev pub summary_text : Summary → List ℕ
summary_text s = flat_map line (run_lines s.status s.method ++ made_lines s ++ found_lines s ++ end_lines)
