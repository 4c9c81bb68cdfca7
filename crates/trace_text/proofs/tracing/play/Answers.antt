use Rattle.std.proofs.Common.{Option}
use Rattle.protocol_steps.specs.declared.event.EventFault.{EventFault}
use Rattle.trace_text.proofs.PlayLaws.{plays_as, if-ok}
use Rattle.trace_text.proofs.tracing.play.Goals as goal

pub returns : goal.returns
returns c =
    if-ok c.happen.result _ _
    (λ (found : Option EventFault) h. plays_as c.args.core.now c.happen.new.self c.in_ok-plain.plain c.args.event.now found c.in_ok-plain.ensures h)
    c.happen.ensures
