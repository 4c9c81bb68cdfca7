use Rattle.std.proofs.Common.{◌≡◌, ◌<◌, ◌≤◌, ◌^◌, true, take}
use Rattle.std.specs.List.{list_all}
use Rattle.std.specs.Char.{is_ascii_digit}
use Rattle.dcop_base.specs.NumberWord.{value_of}
use Rattle.problem_text.proofs.short_numbers.short_at.Given as goal

-- the value of the digits so far, which is below ten to their number
abbrev pub invariant-loop-count : goal.invariant-loop-count
invariant-loop-count l =
    (l.value ≡ value_of (take l.count l.text))
    × (l.value < 10 ^ l.count)
    × (list_all is_ascii_digit (take l.count l.text) ≡ true)
    × (l.count ≤ 9)
