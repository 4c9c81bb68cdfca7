use Rattle.std.proofs.Common.{◌≡◌, ◌++◌, take, drop}
use Rattle.letter_queues.specs.Letters.{taken_in, waiting_in}
use Rattle.letter_queues.proofs.link.Link.take_off.Given as goal

abbrev pub invariant-loop : goal.invariant-loop
invariant-loop l = record {
  batch : l.batch.items ≡ l.initial.batch.items ++ take l.counter l.fn.self.waiting;
  rest : waiting_in l.self-inside.letters ≡ drop l.counter l.fn.self.waiting;
  from : l.self-inside.from ≡ l.fn.self.from;
  taken : taken_in l.self-inside.letters ≡ l.fn.self.taken;
}
