-- The lines of a verdict, each as its words.
use Rattle.std.specs.Prelude.{ℕ, ◌<◌, List, [], ◌∷◌, codes, ⊤}
use Rattle.std.specs.List.{flat_map, slice_index_or}
use Rattle.std.specs.Fmt.{decimal}
use Rattle.problem_text.specs.Canonical.{line}
use Rattle.certificate_text.specs.ReportText.{ending_word}
use Rattle.certificate_text.specs.declared.verdict.Verdict.{Verdict}
use Rattle.certificate_text.specs.declared.verdict.Verdict.TheVariants.{Yes, No}
use Rattle.certificate_text.specs.declared.verdict.Differs.{Differs}
use Rattle.certificate_text.specs.declared.verdict.Differs.TheVariants.{TreeRoots, TreeLoop, TreePair, Scope, Cell, TurnScope, TurnCell, Cost, Root, Lower, Upper, Error, Deliveries, Status, Event, Stamp, Value}
use Rattle.protocol_steps.specs.declared.event.EventFault.{EventFault}
use Rattle.protocol_steps.specs.declared.event.EventFault.TheVariants.{Nobody, Ended, Nothing, Order, TooMany}

-- an event's fault whose sender, if it has one, is below `count`
abbrev pub IsNamedFault : ℕ → EventFault → Type 0
IsNamedFault count (TooMany from asked there) = from < count
IsNamedFault count _ = ⊤

-- a difference all of whose variables are below `count`
abbrev pub IsNamedDifference : ℕ → Differs → Type 0
IsNamedDifference count (TreeLoop var) = var < count
IsNamedDifference count (TreePair one other) = (one < count) × (other < count)
IsNamedDifference count (Scope var) = var < count
IsNamedDifference count (Cell var cell value left right) = var < count
IsNamedDifference count (TurnScope turn var) = var < count
IsNamedDifference count (TurnCell turn var cell value left right) = var < count
IsNamedDifference count (Event at fault) = IsNamedFault count fault
IsNamedDifference count (Value var) = var < count
IsNamedDifference count _ = ⊤

-- a verdict all of whose variables are below `count`
abbrev pub IsNamedVerdict : ℕ → Verdict → Type 0
IsNamedVerdict count (Yes cost error) = ⊤
IsNamedVerdict count (No differs) = IsNamedDifference count differs

-- the name of a variable
abbrev pub name_in : List (List ℕ) → ℕ → List ℕ
name_in names var = slice_index_or names var []

-- `WORD left L right R`
abbrev pub left_right : List ℕ → ℕ → ℕ → List (List ℕ)
left_right word left right = word ∷ codes "left" ∷ decimal left ∷ codes "right" ∷ decimal right ∷ []

-- the words for what is wrong with an event, after its number
abbrev pub fault_words : List (List ℕ) → EventFault → List (List ℕ)
fault_words names Nobody = codes "nobody" ∷ []
fault_words names Ended = codes "ended" ∷ []
fault_words names Nothing = codes "nothing" ∷ []
fault_words names Order = codes "order" ∷ []
fault_words names (TooMany from asked there) = codes "too-many" ∷ left_right (name_in names from) asked there

-- `scope NAME`
abbrev pub scope_words : List ℕ → List (List ℕ)
scope_words name = codes "scope" ∷ name ∷ []

-- `cell NAME K V left L right R`
abbrev pub cell_words : List ℕ → ℕ → ℕ → ℕ → ℕ → List (List ℕ)
cell_words name cell value left right = codes "cell" ∷ name ∷ decimal cell ∷ left_right (decimal value) left right

-- the words for what differs, after the word `differs`
abbrev pub difference_words : List (List ℕ) → Differs → List (List ℕ)
difference_words names (TreeRoots count) = codes "tree" ∷ codes "roots" ∷ decimal count ∷ []
difference_words names (TreeLoop var) = codes "tree" ∷ codes "loop" ∷ name_in names var ∷ []
difference_words names (TreePair one other) = codes "tree" ∷ codes "pair" ∷ name_in names one ∷ name_in names other ∷ []
difference_words names (Scope var) = scope_words (name_in names var)
difference_words names (Cell var cell value left right) = cell_words (name_in names var) cell value left right
difference_words names (TurnScope turn var) = codes "turn" ∷ decimal turn ∷ scope_words (name_in names var)
difference_words names (TurnCell turn var cell value left right) = codes "turn" ∷ decimal turn ∷ cell_words (name_in names var) cell value left right
difference_words names (Cost left right) = left_right (codes "cost") left right
difference_words names (Root left right) = left_right (codes "root") left right
difference_words names (Lower left right) = left_right (codes "lower") left right
difference_words names (Upper left right) = left_right (codes "upper") left right
difference_words names (Error left right) = left_right (codes "error") left right
difference_words names (Deliveries left right) = left_right (codes "deliveries") left right
difference_words names (Status ending) = codes "status" ∷ ending_word ending ∷ []
difference_words names (Event at fault) = codes "event" ∷ decimal at ∷ fault_words names fault
difference_words names (Stamp at left right) = codes "stamp" ∷ left_right (decimal at) left right
difference_words names (Value var) = codes "value" ∷ name_in names var ∷ []

-- the words of each line of a verdict: yes, with a line for the cost and the line `error` for the
-- gap; or no, with what differs
abbrev pub verdict_lines : List (List ℕ) → Verdict → List (List (List ℕ))
verdict_lines names (Yes cost error) =
    (codes "status" ∷ codes "yes" ∷ []) ∷ (codes "cost" ∷ decimal cost ∷ []) ∷ (codes "error" ∷ decimal error ∷ [])
    ∷ (codes "end" ∷ []) ∷ []
verdict_lines names (No differs) =
    (codes "status" ∷ codes "no" ∷ []) ∷ (codes "differs" ∷ difference_words names differs) ∷ (codes "end" ∷ []) ∷ []

-- the text of a verdict
abbrev pub verdict_text : List (List ℕ) → Verdict → List ℕ
verdict_text names verdict = flat_map line (verdict_lines names verdict)
