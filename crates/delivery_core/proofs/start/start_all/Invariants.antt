use Rattle.delivery_core.specs.Starts.{Starts}
use Rattle.delivery_core.specs.Takes.{KeepCalm}
use Rattle.delivery_core.proofs.start.start_all.Given as goal

abbrev pub invariant-loop-me : goal.invariant-loop-me
invariant-loop-me l = Starts 0 l.initial.seats l.me l.seats × KeepCalm l.initial.arrivals l.initial.seats l.arrivals l.seats
