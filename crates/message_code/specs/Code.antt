-- The code of an envelope: its bytes between two nodes. All numbers are big-endian.
use Rattle.std.specs.Prelude.{ℕ, List, [], ◌∷◌, ◌++◌, length, Option, Some, None}
use Rattle.std.specs.List.{flat_map}
use Rattle.std.specs.Int.{w16, w32, w64, to_be_bytes}
use Rattle.adopt_context.specs.Context.{Context}
use Rattle.protocol_steps.specs.declared.message.Message.{Message}
use Rattle.protocol_steps.specs.declared.message.Message.TheVariants.{Token, Done, Util, ValueAll, Value, Cost, Threshold, Terminate}

-- the code of a variable: four bytes
abbrev pub variable_code : ℕ → List ℕ
variable_code v = to_be_bytes w32 v

-- the code of a value: two bytes
abbrev pub value_code : ℕ → List ℕ
value_code a = to_be_bytes w16 a

-- the code of an amount: eight bytes
abbrev pub amount_code : ℕ → List ℕ
amount_code c = to_be_bytes w64 c

-- the code of a list: the number of its items in four bytes, and then the code of each item
abbrev pub list_code : {X : Type 0} → (X → List ℕ) → List X → List ℕ
list_code code xs = to_be_bytes w32 (length xs) ++ flat_map code xs

-- the code of a pair: the variable and then its value
abbrev pub pair_code : ℕ × ℕ → List ℕ
pair_code p = variable_code p.0 ++ value_code p.1

-- the code of a context: the list of its pairs
abbrev pub context_code : Context → List ℕ
context_code c = list_code pair_code c

-- the code of an upper bound: the byte 0 if there is none, else the byte 1 and the amount
abbrev pub bound_code : Option ℕ → List ℕ
bound_code None = 0 ∷ []
bound_code (Some u) = 1 ∷ amount_code u

-- the tag of each kind of message
abbrev pub tag_of : Message → ℕ
tag_of (Token path) = 1
tag_of (Done visited) = 2
tag_of (Util scope cells) = 3
tag_of (ValueAll values) = 4
tag_of (Value value) = 5
tag_of (Cost context lower upper) = 6
tag_of (Threshold amount context) = 7
tag_of (Terminate context) = 8

-- the codes of a message's fields, in order
abbrev pub fields_code : Message → List ℕ
fields_code (Token path) = list_code variable_code path
fields_code (Done visited) = list_code variable_code visited
fields_code (Util scope cells) = list_code variable_code scope ++ list_code amount_code cells
fields_code (ValueAll values) = context_code values
fields_code (Value value) = value_code value
fields_code (Cost context lower upper) = context_code context ++ (amount_code lower ++ bound_code upper)
fields_code (Threshold amount context) = amount_code amount ++ context_code context
fields_code (Terminate context) = context_code context

-- the code of an envelope: its stamp, one byte with the tag of its message, and the fields
abbrev pub code_of : ℕ × Message → List ℕ
code_of e = amount_code e.0 ++ (tag_of e.1 ∷ fields_code e.1)
