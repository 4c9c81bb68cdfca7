use Rattle.std.proofs.Common.{arith}
use Rattle.std.proofs.lemmas.Grind.{common_steps}
use Rattle.std.specs.String.{string_bytes}
use Rattle.certificate_text.proofs.ReportLaws.{turn-written}
use Rattle.certificate_text.proofs.writer.write_turn_values.Goals as goal

pub returns : goal.returns
returns c =
    turn-written (string_bytes c.args.text.now) (string_bytes c.push_str-2.new.self) c.args.values.now
    (grind (arith, common_steps))
