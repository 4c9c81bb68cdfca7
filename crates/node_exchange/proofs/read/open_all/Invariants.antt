use Rattle.std.proofs.Common.{◌≡◌, List, map, length}
use Rattle.std.specs.List.{All}
use Rattle.node_exchange.specs.declared.payload.Addressed.{Addressed}
use Rattle.node_exchange.specs.Letters.{letter_code, IsLetter}
use Rattle.node_exchange.specs.Reads.{AreOpened}
use Rattle.node_exchange.proofs.read.open_all.Given as goal

abbrev pub invariant-loop-payload : goal.invariant-loop-payload
invariant-loop-payload l = (ls : List Addressed) → All IsLetter ls → l.initial.reader.ready ≡ map letter_code ls → AreOpened ls l.letters.items l.reader.ready

abbrev pub decreases-loop-payload : goal.decreases-loop-payload
decreases-loop-payload l = length l.reader.ready
