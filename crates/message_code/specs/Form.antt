-- The form of codes, field by field, and the first position at which bytes do not follow it.
use Rattle.std.specs.Prelude.{ℕ, zero, suc, ◌+◌, Bool, ◌&&◌, List, [], ◌∷◌, length, take, drop, Option, Some, None, ◌==◌, nat_le, nat_lt, if◌then◌else◌}
use Rattle.std.specs.Int.{Width, w8, w16, w32, w64, byte_len, from_be_bytes}
use Rattle.dcop_base.specs.Limits.{amount_limit, variable_limit, size_limit, joined_limit}

-- what bytes may hold: nothing more; or a number of a given width, at least `least` and below
-- `limit`, and then a form that may depend on that number
pub data Form : Type 0 where
  ended : Form
  number : Width → ℕ → ℕ → (ℕ → Form) → Form

-- whether the first field of the bytes is whole and within its range
abbrev pub stands : Width → ℕ → ℕ → List ℕ → Bool
stands w least limit bytes = nat_le (byte_len w) (length bytes) && (nat_le least (from_be_bytes w (take (byte_len w) bytes)) && nat_lt (from_be_bytes w (take (byte_len w) bytes)) limit)

-- the position of the first field that is cut short or outside its range, or of the first byte that
-- is left over; none if there is neither. Positions count from `place`
abbrev pub first_fault : Form → ℕ → List ℕ → Option ℕ
first_fault ended place [] = None
first_fault ended place (b ∷ bytes) = Some place
first_fault (number w least limit next) place bytes =
    if stands w least limit bytes then first_fault (next (from_be_bytes w (take (byte_len w) bytes))) (place + byte_len w) (drop (byte_len w) bytes) else Some place

-- n numbers of one width, each below a limit
abbrev pub numbers : Width → ℕ → ℕ → Form → Form
numbers w limit zero next = next
numbers w limit (suc k) next = number w 0 limit (λ n. numbers w limit k next)

-- a variable, at least `least`, and its value
abbrev pub pair : ℕ → (ℕ → Form) → Form
pair least next = number w32 least variable_limit (λ v. number w16 0 size_limit (λ a. next v))

-- n pairs whose variables ascend, the first at least `least`
abbrev pub pairs : ℕ → ℕ → Form → Form
pairs zero least next = next
pairs (suc k) least next = pair least (λ v. pairs k (v + 1) next)

-- a list of at most variable_limit variables
abbrev pub variable_list : Form → Form
variable_list next = number w32 0 (variable_limit + 1) (λ k. numbers w32 variable_limit k next)

-- a list of at most joined_limit amounts
abbrev pub cell_list : Form → Form
cell_list next = number w32 0 (joined_limit + 1) (λ k. numbers w64 (amount_limit + 1) k next)

-- a context, of at most variable_limit pairs
abbrev pub context : Form → Form
context next = number w32 0 (variable_limit + 1) (λ k. pairs k 0 next)

-- a value
abbrev pub value : Form → Form
value next = number w16 0 size_limit (λ a. next)

-- an amount
abbrev pub amount : Form → Form
amount next = number w64 0 (amount_limit + 1) (λ c. next)

-- an amount, unless the flag is 0
abbrev pub flagged : ℕ → Form → Form
flagged zero next = next
flagged (suc f) next = amount next

-- a flag, 0 or 1, and then an amount if it is 1
abbrev pub bound : Form → Form
bound next = number w8 0 2 (λ flag. flagged flag next)

-- the fields of the message with this tag, 1 to 8
abbrev pub fields : ℕ → Form → Form
fields tag next =
    if tag == 1 then variable_list next
    else (if tag == 2 then variable_list next
    else (if tag == 3 then variable_list (cell_list next)
    else (if tag == 4 then context next
    else (if tag == 5 then value next
    else (if tag == 6 then context (amount (bound next))
    else (if tag == 7 then amount (context next)
    else context next))))))

-- an envelope: its stamp, its tag, and the fields of its message
abbrev pub envelope : Form → Form
envelope next = amount (number w8 1 9 (λ tag. fields tag next))

-- the position, from 0, of the first field that is cut short or outside its range, or of the first
-- byte after an envelope; none if the bytes are whole fields within their ranges and nothing more
abbrev pub bad_place : List ℕ → Option ℕ
bad_place bytes = first_fault (envelope ended) 0 bytes
