use Rattle.std.proofs.Common.{◌≡◌, drop}
use Rattle.protocol_steps.specs.Run.{ascends_from}
use Rattle.letter_queues.proofs.form.is_ascending.Given as goal

abbrev pub invariant-loop-take : goal.invariant-loop-take
invariant-loop-take l = ascends_from 0 l.takes ≡ ascends_from l.least (drop l.take-index l.takes)
