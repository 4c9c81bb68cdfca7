use Rattle.dcop_base.specs.Problem.{Dcop}
use Rattle.std.specs.String.{string_bytes}
use Rattle.protocol_steps.specs.Network.{Network}
use Rattle.delivery_core.specs.Shown.{IsCore}
use Rattle.trace_text.specs.Told.{Played}
use Rattle.trace_text.proofs.tracing.write_events.Given as goal

abbrev pub invariant-loop-at : goal.invariant-loop-at
invariant-loop-at l =
    (p : Dcop) (net : Network) → IsCore p net l.fn.core → Played p net l.names l.from l.log l.at l.core (string_bytes l.fn.text) (string_bytes l.text)
