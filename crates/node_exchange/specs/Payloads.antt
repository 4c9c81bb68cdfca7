-- The payload of a message between two nodes.
use Rattle.std.specs.Prelude.{◌≡◌, ℕ, List, ◌++◌, Option, Some, None}
use Rattle.std.specs.Int.{w32, to_be_bytes}
use Rattle.protocol_steps.specs.declared.message.Message.{Message}
use Rattle.message_code.specs.Code.{code_of}
use Rattle.node_exchange.specs.declared.payload.Addressed.{Addressed}

-- the payload of a letter: the sender and the receiver in four bytes each, big-endian, and then the
-- code of the envelope
abbrev pub payload_code : ℕ → ℕ → ℕ × Message → List ℕ
payload_code from to e = to_be_bytes w32 from ++ (to_be_bytes w32 to ++ code_of e)

-- a letter was found, with this sender, this receiver and this envelope
abbrev pub IsFoundAs : Option Addressed → ℕ → ℕ → ℕ × Message → Type 0
IsFoundAs (Some a) from to e = (a.from ≡ from) × (a.to ≡ to) × (a.envelope ≡ e)
IsFoundAs None from to e = ⊥
