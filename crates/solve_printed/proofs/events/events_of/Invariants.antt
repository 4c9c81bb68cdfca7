use Rattle.std.proofs.Common.{◌≡◌, take}
use Rattle.run_log.specs.Logs.{events_of}
use Rattle.solve_printed.proofs.events.events_of.Given as goal

abbrev pub invariant-loop-event : goal.invariant-loop-event
invariant-loop-event l = l.events.items ≡ events_of (take l.event-index l.log)
