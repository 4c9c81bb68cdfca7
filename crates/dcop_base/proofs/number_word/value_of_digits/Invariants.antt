use Rattle.std.proofs.Common.{◌≡◌, ◌<◌, ◌^◌, take}
use Rattle.dcop_base.specs.NumberWord.{value_of}
use Rattle.dcop_base.proofs.number_word.value_of_digits.Given as goal

-- the value of the digits so far, which is below ten to their number
abbrev pub invariant-loop-digit : goal.invariant-loop-digit
invariant-loop-digit l =
    (l.value ≡ value_of (take l.digit-index l.digits)) × (l.value < 10 ^ l.digit-index)
