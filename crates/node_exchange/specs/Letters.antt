-- What one node sends to another in an exchange: letters in frames.
use Rattle.std.specs.Prelude.{ℕ, ◌<◌, ◌^◌, List, [], ◌∷◌, ◌==◌, ◌&&◌, if◌then◌else◌}
use Rattle.std.specs.List.{flat_map}
use Rattle.protocol_steps.specs.declared.message.Message.{Message}
use Rattle.wire_frames.specs.Frame.{framed}
use Rattle.message_code.specs.Decode.{IsEnvelope}
use Rattle.node_exchange.specs.declared.payload.Addressed.{Addressed}
use Rattle.node_exchange.specs.Payloads.{payload_code}

-- an envelope from one agent to another
abbrev pub letter : ℕ → ℕ → ℕ × Message → Addressed
letter from to e = record { from = from; to = to; envelope = e }

-- the payload of a letter
abbrev pub letter_code : Addressed → List ℕ
letter_code l = payload_code l.from l.to l.envelope

-- the frames of letters, one after the other
abbrev pub stream_of : List Addressed → List ℕ
stream_of ls = flat_map (λ l. framed (letter_code l)) ls

-- the sender and the receiver of a letter are below 2^32, and its envelope is within its ranges
pub record IsLetter (l : Addressed) : Type 0 where
  pub from : l.from < 2 ^ 32
  pub to : l.to < 2 ^ 32
  pub envelope : IsEnvelope l.envelope

-- the envelopes of those letters that go from one agent to another, in order
abbrev pub carried : ℕ → ℕ → List Addressed → List (ℕ × Message)
carried from to ls = flat_map (λ l. if l.from == from && l.to == to then l.envelope ∷ [] else []) ls
