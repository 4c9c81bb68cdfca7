-- What a call wrote to its sink.
use Rattle.std.specs.Prelude.{ℕ, ◌≤◌, Bool, List, length, take, Option}
use Rattle.dcop_edge.specs.Sink.{Adds}

-- the state of a sink: the bytes that it holds, if they are known, and whether it is finished
pub record SinkState : Type 0 where
  pub held : Option (List ℕ)
  pub finished : Bool

-- the state of a sink that holds these bytes, finished or not
abbrev pub sink_state : Option (List ℕ) → Bool → SinkState
sink_state held finished = record { held = held; finished = finished }

-- a prefix of this text was written
abbrev pub AddsPrefix : Option (List ℕ) → List ℕ → Option (List ℕ) → Type 0
AddsPrefix before text after = (count : ℕ) × (count ≤ length text) × Adds before (take count text) after
