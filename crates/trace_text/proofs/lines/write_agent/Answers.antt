use Rattle.std.proofs.Common.{arith}
use Rattle.std.proofs.lemmas.Grind.{common_steps}
use Rattle.std.specs.String.{string_bytes}
use Rattle.delivery_core.specs.State.{view_at}
use Rattle.trace_text.proofs.LineLaws.{agent-written}
use Rattle.trace_text.proofs.lines.write_agent.Goals as goal

pub returns : goal.returns
returns c =
    agent-written (string_bytes c.args.text.now) (string_bytes c.push_str-3.new.self) c.args.names.now (view_at c.args.core.now c.args.me) c.value.result c.standing.result c.ended.result c.value.ensures c.standing.ensures c.ended.ensures
    (grind (arith, common_steps))
