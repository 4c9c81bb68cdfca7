use Rattle.std.proofs.Common.{ap, subst}
use Rattle.protocol_steps.specs.Network.{Network, start_state}
use Rattle.trace_text.specs.Trace.{Traces}
use Rattle.trace_top.proofs.answering.trace_in.Goals as goal

pub returns : goal.returns
returns c =
    subst (λ (net : Network). Traces c.args.names.now c.args.from net c.args.log.now c.write_trace.result) (ap start_state c.in_ok-start.ensures.agents) c.write_trace.ensures
