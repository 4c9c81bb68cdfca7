use Rattle.message_code.proofs.ContextLaws.{HasPairs}
use Rattle.message_code.proofs.context.so_many_pairs.Given as goal

abbrev pub invariant-loop : goal.invariant-loop
invariant-loop l = HasPairs l.bytes l.context l.counter l.least l.rest
