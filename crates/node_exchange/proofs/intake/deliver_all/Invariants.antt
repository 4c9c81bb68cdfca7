use Rattle.std.proofs.Common.{◌≡◌, true}
use Rattle.std.specs.List.{All}
use Rattle.worker_laws.specs.Cells.{EachAre}
use Rattle.node_exchange.specs.Passings.{SamePassing, HasReceived, IsOnLink}
use Rattle.node_exchange.proofs.intake.deliver_all.Given as goal

abbrev pub invariant-loop-letter : goal.invariant-loop-letter
invariant-loop-letter l = record {
  same : EachAre SamePassing l.initial.passings l.passings;
  received : All (IsOnLink l.from_node l.to_node l.initial.passings) l.yielded → (l.whole ≡ true) × EachAre (HasReceived l.from_node l.to_node l.yielded) l.initial.passings l.passings;
}
