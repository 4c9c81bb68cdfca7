-- Reading the parts of a code from the front of bytes.
use Rattle.std.specs.Prelude.{◌≡◌, ℕ, ◌+◌, ◌≤◌, List, ◌++◌, length, Some, Result, Ok, Err}
use Rattle.std.specs.Borrow.{Bor}
use Rattle.protocol_steps.specs.declared.message.Message.{Message}
use Rattle.protocol_steps.specs.Ranges.{IsInRange}
use Rattle.message_code.specs.Code.{tag_of, fields_code, code_of}
use Rattle.message_code.specs.Decode.{HasContext, IsEnvelope}
use Rattle.message_code.specs.declared.stop.Stop.{Stop}
use Rattle.message_code.specs.declared.stop.Stop.TheVariants as stops
use Rattle.message_code.specs.Form.{Form, ended, fields, envelope, first_fault}

-- the first fault of the bytes under this form is `left` bytes before their end, whatever form
-- comes next
pub record IsRefused {N : Type 0} (form : N → Form) (bytes : List ℕ) (left : ℕ) : Type 0 where
  pub within : left ≤ length bytes
  pub place : (next : N) (before place : ℕ) → place + left ≡ before + length bytes → first_fault (form next) before bytes ≡ Some place

-- why a part was not read: the first fault, or that memory ran out, which says nothing
abbrev pub Stopped : {N : Type 0} → (N → Form) → List ℕ → Stop → Type 0
Stopped form bytes (stops.Bad left) = IsRefused form bytes left
Stopped form bytes stops.NoMemory = Unit {0}

-- if reading a part gives a value, the bytes are its code, which includes the bytes after it; else
-- why it was not read
abbrev pub Reads : {X N : Type 0} → (X → List ℕ) → (N → Form) → List ℕ → Result X Stop → Type 0
Reads code form bytes (Ok x) = bytes ≡ code x
Reads code form bytes (Err stop) = Stopped form bytes stop

-- if a message is read, it has this tag, it is within its ranges and its context ascends, and the
-- bytes are the codes of its fields and the rest; else why it was not read
abbrev pub IsRead : ℕ → List ℕ → Result (Message × Bor (List ℕ)) Stop → Type 0
IsRead tag bytes (Ok x) = (bytes ≡ fields_code x.0 ++ x.1.now) × (tag_of x.0 ≡ tag) × IsInRange x.0 × HasContext x.0
IsRead tag bytes (Err stop) = Stopped (fields tag) bytes stop

-- if an envelope is read, it is within its ranges and the bytes are its code, to the last byte;
-- else why it was not read
abbrev pub IsReadWhole : List ℕ → Result (ℕ × Message) Stop → Type 0
IsReadWhole bytes (Ok e) = IsEnvelope e × (bytes ≡ code_of e)
IsReadWhole bytes (Err stop) = Stopped (λ (_ : Unit {0}). envelope ended) bytes stop
