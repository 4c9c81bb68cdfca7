-- What a line of a report gives: a value, or the line's first fault.
use Rattle.std.specs.Prelude.{ℕ, Bool, false, List, [], ◌∷◌, Option, Some, None, Result, Ok, Err, if◌then◌else◌}
use Rattle.std.specs.Str.{bytes_eq}
use Rattle.problem_text.specs.declared.fault.ReportKind.{ReportKind}
use Rattle.problem_text.specs.Tables.{onto}
use Rattle.dcop_base.specs.Limits.{amount_limit}
use Rattle.run_log.specs.EventLine.{number_within}

-- what is given, or a fault of this kind if nothing is given
abbrev pub or_fails : {A : Type 0} → ReportKind → Option A → Result A ReportKind
or_fails kind (Some x) = Ok x
or_fails kind None = Err kind

-- the word after this one, in a line of these two words
abbrev pub word_behind : List ℕ → List (List ℕ) → Option (List ℕ)
word_behind key (first ∷ word ∷ []) = if bytes_eq first key then Some word else None
word_behind key _ = None

-- whether a line consists of this word alone
abbrev pub is_alone : List ℕ → List (List ℕ) → Bool
is_alone key (word ∷ []) = bytes_eq word key
is_alone key _ = false

-- whether words begin with this one
abbrev pub begins_with : List ℕ → List (List ℕ) → Bool
begins_with key [] = false
begins_with key (word ∷ further) = bytes_eq word key

-- the numbers that these words write, if each word is a number of at most amount_limit
abbrev pub amounts_of : List (List ℕ) → Option (List ℕ)
amounts_of [] = Some []
amounts_of (word ∷ later) = onto (number_within amount_limit word) (amounts_of later)
