-- Names: the words that may name a variable or a value.
use Rattle.std.specs.Prelude.{ℕ, Bool, false, ◌&&◌, ◌||◌, List, [], ◌∷◌, length, ◌==◌, nat_le}
use Rattle.std.specs.Char.{is_ascii_alphabetic, is_ascii_alphanumeric}
use Rattle.std.specs.List.{list_all}
use Rattle.dcop_base.specs.Limits.{name_limit}
use Rattle.problem_text.specs.Bytes.{underscore, hyphen, full_stop}

-- a byte that may begin a name: an ASCII letter or `_`
abbrev pub is_name_start : ℕ → Bool
is_name_start byte = is_ascii_alphabetic byte || byte == underscore

-- a byte of a name: an ASCII letter or digit, `_`, `-` or `.`
abbrev pub is_name_byte : ℕ → Bool
is_name_byte byte = is_ascii_alphanumeric byte || byte == underscore || byte == hyphen || byte == full_stop

-- whether a word is a name: 1 to name_limit bytes of a name, whose first byte may begin one
abbrev pub is_name : List ℕ → Bool
is_name [] = false
is_name (byte ∷ bytes) = is_name_start byte && list_all is_name_byte bytes && nat_le (length (byte ∷ bytes)) name_limit
