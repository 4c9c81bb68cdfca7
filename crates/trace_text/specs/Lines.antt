-- The lines of a trace, each as its words.
use Rattle.std.specs.Prelude.{ℕ, List, [], ◌∷◌, ◌++◌, codes, Option, Some, None, slice_index_or}
use Rattle.std.specs.Fmt.{decimal}
use Rattle.adopt_context.specs.Context.{Context}
use Rattle.protocol_steps.specs.declared.message.Message.{Message}
use Rattle.protocol_steps.specs.declared.message.Message.TheVariants.{Token, Done, Util, ValueAll, Value, Cost, Threshold, Terminate}
use Rattle.protocol_steps.specs.View.{View, value_of, standing_of, ended_of, context_of}
use Rattle.run_log.specs.declared.log.LogEvent.{LogEvent}
use Rattle.solve_report.specs.Replay.{bound_word, standing_words}

-- the name of a variable
abbrev pub name_in : List (List ℕ) → ℕ → List ℕ
name_in names i = slice_index_or names i []

-- NAME VALUE for each variable of a context, ascending
abbrev pub pair_words : List (List ℕ) → Context → List (List ℕ)
pair_words names [] = []
pair_words names (p ∷ ps) = name_in names p.0 ∷ decimal p.1 ∷ pair_words names ps

-- what a message says; agents of ADOPT send only VALUE, COST, THRESHOLD and TERMINATE, and for
-- other messages there are no words
abbrev pub message_words : List (List ℕ) → Message → List (List ℕ)
message_words names (Token path) = []
message_words names (Done visited) = []
message_words names (Util scope cells) = []
message_words names (ValueAll values) = []
message_words names (Value value) = codes "value" ∷ decimal value ∷ []
message_words names (Cost context lower upper) = codes "cost" ∷ decimal lower ∷ bound_word upper ∷ pair_words names context
message_words names (Threshold amount context) = codes "threshold" ∷ decimal amount ∷ pair_words names context
message_words names (Terminate context) = codes "terminate" ∷ pair_words names context

-- `took FROM MESSAGE`
abbrev pub took_words : List (List ℕ) → ℕ × Message → List (List ℕ)
took_words names letter = codes "took" ∷ name_in names letter.0 ∷ message_words names letter.1

-- `sent TO MESSAGE`
abbrev pub sent_words : List (List ℕ) → ℕ × Message → List (List ℕ)
sent_words names parcel = codes "sent" ∷ name_in names parcel.0 ∷ message_words names parcel.1

-- the pairs of a context, if there is one
abbrev pub known_words : List (List ℕ) → Option Context → List (List ℕ)
known_words names None = []
known_words names (Some context) = pair_words names context

-- the state of an agent: the line `state ..`, and the line `context ..` of what it knows about
-- other agents' values
abbrev pub agent_lines : List (List ℕ) → Option View → List (List (List ℕ))
agent_lines names None = []
agent_lines names (Some v) =
    (codes "state" ∷ standing_words (value_of v) (standing_of v) (ended_of v))
    ∷ (codes "context" ∷ known_words names (context_of v)) ∷ []

-- `start NAME`
abbrev pub start_words : List (List ℕ) → ℕ → List (List ℕ)
start_words names i = codes "start" ∷ name_in names i ∷ []

-- `event K NAME STAMP`
abbrev pub event_words : List (List ℕ) → ℕ → LogEvent → List (List ℕ)
event_words names number e = codes "event" ∷ decimal number ∷ name_in names e.agent ∷ decimal e.stamp ∷ []
