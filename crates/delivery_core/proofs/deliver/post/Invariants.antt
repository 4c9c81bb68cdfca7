use Rattle.std.proofs.Common.{◌≡◌}
use Rattle.delivery_core.specs.SeatEvents.{deliver_all}
use Rattle.delivery_core.specs.Takes.{KeepCalm}
use Rattle.delivery_core.proofs.deliver.post.Given as goal

abbrev pub invariant-loop-parcel : goal.invariant-loop-parcel
invariant-loop-parcel l = (l.seats ≡ deliver_all l.from l.initial.seats l.yielded) × KeepCalm l.initial.arrivals l.initial.seats l.arrivals l.seats
