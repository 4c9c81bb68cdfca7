-- The line of an event. Each test is for one fault; the first test that fails gives the fault.
use Rattle.std.specs.Prelude.{ℕ, Bool, true, false, not, ◌||◌, List, [], ◌∷◌, Option, Some, None, Result, Ok, Err, nat_lt, position, if◌then◌else◌, codes}
use Rattle.std.specs.Str.{bytes_eq}
use Rattle.dcop_base.specs.Limits.{amount_limit}
use Rattle.dcop_base.specs.NumberWord.{number_of}
use Rattle.protocol_steps.specs.declared.event.Take.{Take}
use Rattle.problem_text.specs.declared.fault.ReportKind.{ReportKind}
use Rattle.problem_text.specs.declared.fault.ReportKind.TheVariants.{BadLine, BadNumber, UnknownName}
use Rattle.run_log.specs.declared.log.LogEvent.{LogEvent}

-- the greatest count of one take, 2^32 - 1
abbrev pub take_limit : ℕ
take_limit = 4294967295

-- a number, if it is at most `most`
abbrev pub capped_at : ℕ → Option ℕ → Option ℕ
capped_at most None = None
capped_at most (Some n) = if nat_lt most n then None else Some n

-- the number that a word writes, if it is at most `most`
abbrev pub number_within : ℕ → List ℕ → Option ℕ
number_within most word = capped_at most (number_of word)

-- whether words form pairs
abbrev pub are_pairs : List (List ℕ) → Bool
are_pairs [] = true
are_pairs (word ∷ []) = false
are_pairs (word ∷ next ∷ later) = are_pairs later

-- the take of this sender and this count; a fault if a word did not give one of them
abbrev pub take_told : Option ℕ → Option ℕ → Result Take ReportKind
take_told None count = Err UnknownName
take_told (Some from) None = Err BadNumber
take_told (Some from) (Some count) = Ok (record { from = from; count = count })

-- a take put before others; the first fault is kept
abbrev pub take_before : Result Take ReportKind → Result (List Take) ReportKind → Result (List Take) ReportKind
take_before (Err kind) later = Err kind
take_before (Ok t) (Err kind) = Err kind
take_before (Ok t) (Ok ts) = Ok (t ∷ ts)

-- the takes that pairs of words give, pair by pair
abbrev pub takes_told : List (List ℕ) → List (List ℕ) → Result (List Take) ReportKind
takes_told names [] = Ok []
takes_told names (sender ∷ []) = Err BadLine
takes_told names (sender ∷ count ∷ later) =
    take_before (take_told (position (bytes_eq sender) names) (number_within take_limit count)) (takes_told names later)

-- the event with these parts; the first fault if words did not give one of them
abbrev pub event_told : Option ℕ → Option ℕ → Result (List Take) ReportKind → Result LogEvent ReportKind
event_told None stamp takes = Err UnknownName
event_told (Some agent) None takes = Err BadNumber
event_told (Some agent) (Some stamp) (Err kind) = Err kind
event_told (Some agent) (Some stamp) (Ok takes) = Ok (record { agent = agent; stamp = stamp; takes = takes })

-- the event that the words of its parts give: its agent's name, its stamp and the pairs of its
-- takes
abbrev pub event_parts : List (List ℕ) → List ℕ → List ℕ → List (List ℕ) → Result LogEvent ReportKind
event_parts names agent stamp pairs =
    event_told (position (bytes_eq agent) names) (number_within amount_limit stamp) (takes_told names pairs)

-- the event of a line `event AGENT STAMP` with pairs `SENDER COUNT`
abbrev pub event_line : List (List ℕ) → List (List ℕ) → Result LogEvent ReportKind
event_line names (first ∷ agent ∷ stamp ∷ pairs) =
    if not (bytes_eq first (codes "event")) || not (are_pairs pairs) then Err BadLine
    else event_parts names agent stamp pairs
event_line names _ = Err BadLine
