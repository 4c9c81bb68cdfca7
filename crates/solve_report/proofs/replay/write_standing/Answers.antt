use Rattle.std.proofs.Common.{arith}
use Rattle.std.proofs.lemmas.Grind.{common_steps}
use Rattle.std.specs.String.{string_bytes}
use Rattle.solve_report.proofs.ReplayLaws.{standing-written}
use Rattle.solve_report.proofs.replay.write_standing.Goals as goal

pub returns : goal.returns
returns c =
    standing-written (string_bytes c.args.text.now) (string_bytes c.write-2.new.self) c.args.value c.args.standing c.args.ended
    (grind (arith, common_steps))
