use Rattle.std.proofs.Common.{◌≡◌, take}
use Rattle.std.specs.List.{All}
use Rattle.node_exchange.specs.Letters.{IsLetter}
use Rattle.node_exchange.specs.Passings.{letters_of, frames_of}
use Rattle.node_exchange.proofs.write.write_letters.Given as goal

abbrev pub invariant-loop-passing : goal.invariant-loop-passing
invariant-loop-passing l = record {
  frames : l.bytes.items ≡ frames_of l.from_node l.to_node (take l.passing-index l.passings);
  letters : All IsLetter (letters_of l.from_node l.to_node (take l.passing-index l.passings));
}
