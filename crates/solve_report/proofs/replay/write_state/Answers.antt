use Rattle.std.proofs.Common.{arith}
use Rattle.std.proofs.lemmas.Grind.{common_steps}
use Rattle.std.specs.String.{string_bytes}
use Rattle.solve_report.proofs.ReplayLaws.{state-written}
use Rattle.solve_report.proofs.replay.write_state.Goals as goal

pub returns : goal.returns
returns c =
    state-written (string_bytes c.args.text.now) (string_bytes c.push_str.new.self) c.args.name.now c.args.value c.args.standing c.args.ended
    (grind (arith, common_steps))
