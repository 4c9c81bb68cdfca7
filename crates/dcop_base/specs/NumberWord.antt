-- Numbers in texts: words of decimal digits.
use Rattle.std.specs.Prelude.{ℕ, ◌+◌, ◌*◌, ◌-◌, ◌==◌, ◌||◌, not, nat_lt, List, length, fold, Option, Some, None, if◌then◌else◌}
use Rattle.std.specs.List.{list_all}
use Rattle.std.specs.Char.{is_ascii_digit}
use Rattle.dcop_base.specs.Limits.{digit_limit}

-- the number that these ASCII digits spell in base ten
abbrev pub value_of : List ℕ → ℕ
value_of digits = fold (λ value digit. value * 10 + (digit - 48)) 0 digits

-- the number that a word spells, if the word is 1 to 19 ASCII digits
abbrev pub number_of : List ℕ → Option ℕ
number_of word =
    if length word == 0 || nat_lt digit_limit (length word) || not (list_all is_ascii_digit word)
    then None
    else Some (value_of word)
