-- The lines of a replay, each as its words.
use Rattle.std.specs.Prelude.{ℕ, ◌<◌, Bool, List, [], ◌∷◌, ◌++◌, map, codes, Option, Some, None, if◌then◌else◌}
use Rattle.std.specs.List.{flat_map, slice_index_or}
use Rattle.std.specs.Fmt.{decimal}
use Rattle.protocol_steps.specs.declared.standing.Standing.{Standing}
use Rattle.problem_text.specs.Canonical.{line}
use Rattle.solve_report.specs.declared.replay.AgentRow.{AgentRow}

-- an agent whose variable is below `count`
abbrev pub IsNamedAgent : ℕ → AgentRow → Type 0
IsNamedAgent count row = row.agent < count

-- the word for an upper bound, or `-` if there is none
abbrev pub bound_word : Option ℕ → List ℕ
bound_word None = codes "-"
bound_word (Some bound) = decimal bound

-- the word for whether an agent has ended
abbrev pub ended_word : Bool → List ℕ
ended_word ended = if ended then codes "yes" else codes "no"

-- `value V lower L upper U threshold T ended E`
abbrev pub standing_words : ℕ → Standing → Bool → List (List ℕ)
standing_words value standing ended =
    codes "value" ∷ decimal value ∷ codes "lower" ∷ decimal standing.lower ∷ codes "upper" ∷ bound_word standing.upper
    ∷ codes "threshold" ∷ decimal standing.threshold ∷ codes "ended" ∷ ended_word ended ∷ []

-- `agent NAME` and the state of the agent
abbrev pub state_words : List ℕ → ℕ → Standing → Bool → List (List ℕ)
state_words name value standing ended = codes "agent" ∷ name ∷ standing_words value standing ended

-- the state of an agent, after the name of its variable
abbrev pub agent_words : List (List ℕ) → AgentRow → List (List ℕ)
agent_words names row = state_words (slice_index_or names row.agent []) row.value row.standing row.ended

-- the words of each line of a replay: how many events were replayed, and the agents in order
abbrev pub replay_lines : ℕ → List AgentRow → List (List ℕ) → List (List (List ℕ))
replay_lines events agents names =
    ((codes "status" ∷ codes "replay" ∷ []) ∷ (codes "events" ∷ decimal events ∷ []) ∷ [])
    ++ map (agent_words names) agents
    ++ ((codes "end" ∷ []) ∷ [])

-- the text of a replay
abbrev pub replay_text : ℕ → List AgentRow → List (List ℕ) → List ℕ
replay_text events agents names = flat_map line (replay_lines events agents names)
