-- What decoding answers, and the laws of codes.
use Rattle.std.specs.Prelude.{◌≡◌, ℕ, ◌≤◌, List, Some, None, Result, Ok, Err}
use Rattle.dcop_base.specs.Limits.{amount_limit}
use Rattle.adopt_context.specs.Context.{AscendsFrom}
use Rattle.protocol_steps.specs.declared.message.Message.{Message}
use Rattle.protocol_steps.specs.declared.message.Message.TheVariants.{Token, Done, Util, ValueAll, Value, Cost, Threshold, Terminate}
use Rattle.protocol_steps.specs.Ranges.{IsInRange}
use Rattle.message_code.specs.declared.fault.DecodeFault.{DecodeFault}
use Rattle.message_code.specs.declared.fault.DecodeFault.TheVariants.{Bad, NoMemory}
use Rattle.message_code.specs.Code.{code_of}
use Rattle.message_code.specs.Form.{bad_place}

-- if a message has a context, its variables ascend
abbrev pub HasContext : Message → Type 0
HasContext (Token path) = Unit {0}
HasContext (Done visited) = Unit {0}
HasContext (Util scope cells) = Unit {0}
HasContext (ValueAll values) = AscendsFrom 0 values
HasContext (Value value) = Unit {0}
HasContext (Cost context lower upper) = AscendsFrom 0 context
HasContext (Threshold amount context) = AscendsFrom 0 context
HasContext (Terminate context) = AscendsFrom 0 context

-- the stamp and the message of an envelope are within their ranges, and the variables of its
-- context ascend
pub record IsEnvelope (e : ℕ × Message) : Type 0 where
  pub stamp : e.0 ≤ amount_limit
  pub message : IsInRange e.1
  pub context : HasContext e.1

-- a refusal gives the first bad position of the bytes; if memory runs out, nothing is said of them
abbrev pub IsFault : List ℕ → DecodeFault → Type 0
IsFault bytes (Bad place) = bad_place bytes ≡ Some place
IsFault bytes NoMemory = Unit {0}

-- if decoding gives an envelope, it is within its ranges and the bytes are its code; a refusal
-- gives the first bad position
abbrev pub Decodes : List ℕ → Result (ℕ × Message) DecodeFault → Type 0
Decodes bytes (Ok e) = IsEnvelope e × (bytes ≡ code_of e)
Decodes bytes (Err fault) = IsFault bytes fault

-- if the bytes are the code of an envelope, decoding gives that envelope or runs out of memory
abbrev pub Finds : List ℕ → Result (ℕ × Message) DecodeFault → Type 0
Finds bytes (Ok found) = (e : ℕ × Message) → IsEnvelope e → bytes ≡ code_of e → found ≡ e
Finds bytes (Err (Bad place)) = (e : ℕ × Message) → IsEnvelope e → bytes ≡ code_of e → ⊥
Finds bytes (Err NoMemory) = Unit {0}

-- envelopes with the same code are the same
abbrev pub CodesDiffer : Type 0
CodesDiffer = (d e : ℕ × Message) → IsEnvelope d → IsEnvelope e → code_of d ≡ code_of e → d ≡ e

-- the code of an envelope has no bad position
abbrev pub CodesAreGood : Type 0
CodesAreGood = (e : ℕ × Message) → IsEnvelope e → bad_place (code_of e) ≡ None
