-- The text of a log: a line of words for each event.
use Rattle.std.specs.Prelude.{ℕ, ◌<◌, ◌≤◌, List, [], ◌∷◌, map, codes, slice_index_or}
use Rattle.std.specs.List.{All, flat_map}
use Rattle.std.specs.Fmt.{decimal}
use Rattle.dcop_base.specs.Limits.{amount_limit}
use Rattle.protocol_steps.specs.declared.event.Take.{Take}
use Rattle.problem_text.specs.Canonical.{line}
use Rattle.run_log.specs.declared.log.LogEvent.{LogEvent}
use Rattle.run_log.specs.EventLine.{take_limit}

-- `SENDER COUNT`
abbrev pub take_words : List (List ℕ) → Take → List (List ℕ)
take_words names t = slice_index_or names t.from [] ∷ decimal t.count ∷ []

-- `event AGENT STAMP` and the pairs of its takes
abbrev pub event_words : List (List ℕ) → LogEvent → List (List ℕ)
event_words names e = codes "event" ∷ slice_index_or names e.agent [] ∷ decimal e.stamp ∷ flat_map (take_words names) e.takes

-- the text of a log
abbrev pub log_text : List (List ℕ) → List LogEvent → List ℕ
log_text names log = flat_map line (map (event_words names) log)

-- an event whose agent and senders are below `count`
pub record IsNamedEvent (count : ℕ) (e : LogEvent) : Type 0 where
  pub agent : e.agent < count
  pub senders : All (λ t. t.from < count) e.takes

-- an event whose agent and senders are below `count`, with a stamp and counts that can be read
pub record FitsEvent (count : ℕ) (e : LogEvent) : Type 0 where
  pub named : IsNamedEvent count e
  pub stamp : e.stamp ≤ amount_limit
  pub counts : All (λ t. t.count ≤ take_limit) e.takes
