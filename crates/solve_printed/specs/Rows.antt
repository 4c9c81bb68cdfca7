-- The states of agents, in the form of an answer.
use Rattle.std.specs.Prelude.{ℕ, ◌+◌, List, [], ◌∷◌}
use Rattle.protocol_steps.specs.View.{View, value_of, standing_of, ended_of}
use Rattle.solve_report.specs.declared.replay.AgentRow.{AgentRow}

-- the state of the agent of this variable
abbrev pub row_of : ℕ → View → AgentRow
row_of i v = record { agent = i; value = value_of v; standing = standing_of v; ended = ended_of v }

-- the states of these agents; the first one is that of this variable
abbrev pub rows_from : ℕ → List View → List AgentRow
rows_from i [] = []
rows_from i (v ∷ vs) = row_of i v ∷ rows_from (i + 1) vs
