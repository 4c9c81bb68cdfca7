use Rattle.std.proofs.Common.{◌≡◌, take}
use Rattle.delivery_core.proofs.exchange.copy_letters.Given as goal

abbrev pub invariant-loop-letter : goal.invariant-loop-letter
invariant-loop-letter l = l.copies.items ≡ take l.letter-index l.letters
