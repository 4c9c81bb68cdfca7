use Rattle.std.proofs.Common.{arith}
use Rattle.std.proofs.lemmas.Grind.{common_steps}
use Rattle.std.specs.String.{string_bytes}
use Rattle.trace_text.proofs.WordLaws.{on-ok}
use Rattle.trace_text.proofs.LineLaws.{start-written}
use Rattle.trace_text.proofs.lines.write_start.Goals as goal

pub returns : goal.returns
returns c =
    on-ok c.write_sent.result _ _
    (start-written (string_bytes c.args.text.now) (string_bytes c.write.new.self) (string_bytes c.write_agent.new.text) (string_bytes c.write_sent.new.text) c.args.names.now c.args.core.now c.args.me c.args.sent.now
    (grind (arith, common_steps))
    c.in_ok-write_agent.ensures)
    c.write_sent.ensures
