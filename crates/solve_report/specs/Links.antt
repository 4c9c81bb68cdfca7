-- The words of the refusals of links between nodes.
use Rattle.std.specs.Prelude.{ℕ, ◌/◌, ◌%◌, false, List, [], ◌∷◌, codes, Option, Some, None}
use Rattle.std.specs.List.{flat_map}
use Rattle.std.specs.Fmt.{decimal, digit_glyph}

-- a byte as two hexadecimal digits, in lower case
abbrev pub two_digits : ℕ → List ℕ
two_digits byte = digit_glyph false (byte / 16) ∷ digit_glyph false (byte % 16) ∷ []

-- the word for bytes: two digits for each, or `-` if there are none
abbrev pub hex_word : Option (List ℕ) → List ℕ
hex_word None = codes "-"
hex_word (Some bytes) = flat_map two_digits bytes

-- the word for a byte, or `-` if there is none
abbrev pub byte_word : Option ℕ → List ℕ
byte_word None = codes "-"
byte_word (Some byte) = two_digits byte

-- `refused link`
abbrev pub link_refusal : List (List ℕ)
link_refusal = codes "refused" ∷ codes "link" ∷ []

-- `refused differs from NAME to NAME at K sent HEX taken HEX`
abbrev pub differs_refusal : List ℕ → List ℕ → ℕ → Option (List ℕ) → Option (List ℕ) → List (List ℕ)
differs_refusal from to at sent taken =
    codes "refused" ∷ codes "differs" ∷ codes "from" ∷ from ∷ codes "to" ∷ to ∷ codes "at" ∷ decimal at
    ∷ codes "sent" ∷ hex_word sent ∷ codes "taken" ∷ hex_word taken ∷ []

-- `refused bytes round R from G to H place P sent X taken Y`
abbrev pub bytes_refusal : ℕ → ℕ → ℕ → ℕ → Option ℕ → Option ℕ → List (List ℕ)
bytes_refusal round from_node to_node place sent taken =
    codes "refused" ∷ codes "bytes" ∷ codes "round" ∷ decimal round ∷ codes "from" ∷ decimal from_node ∷ codes "to" ∷ decimal to_node
    ∷ codes "place" ∷ decimal place ∷ codes "sent" ∷ byte_word sent ∷ codes "taken" ∷ byte_word taken ∷ []
