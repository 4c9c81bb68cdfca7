use Rattle.std.proofs.Common.{◌≡◌, map}
use Rattle.protocol_steps.specs.View.{table_of, place_of}
use Rattle.delivery_core.proofs.outcome.made_by.Given as goal

abbrev pub invariant-loop-seat : goal.invariant-loop-seat
invariant-loop-seat l = (l.tables ≡ map (λ x. table_of x.view) l.yielded) × (l.places ≡ map (λ x. place_of x.view) l.yielded)
