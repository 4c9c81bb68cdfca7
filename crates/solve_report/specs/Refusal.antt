-- The words of each refusal's line.
use Rattle.std.specs.Prelude.{ℕ, List, [], ◌∷◌, codes, ◌==◌, if◌then◌else◌}
use Rattle.std.specs.Fmt.{decimal}
use Rattle.dcop_base.specs.Limits.{assignment_limit, joined_limit, sent_limit, turn_limit}
use Rattle.problem_text.specs.Kinds.{problem_kind}

-- `refused words at A kind K`
abbrev pub words_refusal : ℕ → ℕ → List (List ℕ)
words_refusal at kind = codes "refused" ∷ codes "words" ∷ codes "at" ∷ decimal at ∷ codes "kind" ∷ decimal kind ∷ []

-- `problem P` after kind 7, and nothing after any other kind
abbrev pub problem_words : ℕ → ℕ → List (List ℕ)
problem_words kind problem = if kind == problem_kind then codes "problem" ∷ decimal problem ∷ [] else []

-- `refused WORD line L kind K`, and `problem P` after kind 7
abbrev pub problem_refusal : List ℕ → ℕ → ℕ → ℕ → List (List ℕ)
problem_refusal word at kind problem =
    codes "refused" ∷ word ∷ codes "line" ∷ decimal at ∷ codes "kind" ∷ decimal kind ∷ problem_words kind problem

-- `refused text line L kind K`, and `problem P` after kind 7
abbrev pub text_refusal : ℕ → ℕ → ℕ → List (List ℕ)
text_refusal at kind problem = problem_refusal (codes "text") at kind problem

-- `refused wcsp line L kind K`, and `problem P` after kind 7
abbrev pub wcsp_refusal : ℕ → ℕ → ℕ → List (List ℕ)
wcsp_refusal at kind problem = problem_refusal (codes "wcsp") at kind problem

-- `refused WORD line L kind K`
abbrev pub line_refusal : List ℕ → ℕ → ℕ → List (List ℕ)
line_refusal word at kind = codes "refused" ∷ word ∷ codes "line" ∷ decimal at ∷ codes "kind" ∷ decimal kind ∷ []

-- `refused report line L kind K`
abbrev pub report_refusal : ℕ → ℕ → List (List ℕ)
report_refusal at kind = line_refusal (codes "report") at kind

-- `refused edit line L kind K`
abbrev pub edit_refusal : ℕ → ℕ → List (List ℕ)
edit_refusal at kind = line_refusal (codes "edit") at kind

-- `refused many assignments N limit 65536`
abbrev pub many_refusal : ℕ → List (List ℕ)
many_refusal assignments = codes "refused" ∷ codes "many" ∷ codes "assignments" ∷ decimal assignments ∷ codes "limit" ∷ decimal assignment_limit ∷ []

-- `refused many turns N limit 65536`
abbrev pub turns_refusal : ℕ → List (List ℕ)
turns_refusal turns = codes "refused" ∷ codes "many" ∷ codes "turns" ∷ decimal turns ∷ codes "limit" ∷ decimal turn_limit ∷ []

-- `refused wide agent NAME cells N limit 1048576`
abbrev pub wide_refusal : List ℕ → ℕ → List (List ℕ)
wide_refusal name cells =
    codes "refused" ∷ codes "wide" ∷ codes "agent" ∷ name ∷ codes "cells" ∷ decimal cells ∷ codes "limit" ∷ decimal joined_limit ∷ []

-- `refused wide total cells N limit 4194304`
abbrev pub total_refusal : ℕ → List (List ℕ)
total_refusal cells = codes "refused" ∷ codes "wide" ∷ codes "total" ∷ codes "cells" ∷ decimal cells ∷ codes "limit" ∷ decimal sent_limit ∷ []

-- `refused read`
abbrev pub read_refusal : List (List ℕ)
read_refusal = codes "refused" ∷ codes "read" ∷ []
