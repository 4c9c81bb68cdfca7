use Rattle.std.proofs.Common.{arith}
use Rattle.std.proofs.lemmas.Grind.{common_steps}
use Rattle.std.specs.String.{string_bytes}
use Rattle.certificate_text.proofs.ReportLaws.{cut-written}
use Rattle.certificate_text.proofs.writer.write_cut_names.Goals as goal

pub returns : goal.returns
returns c =
    cut-written (string_bytes c.args.text.now) (string_bytes c.push_str-2.new.self) c.args.names.now c.args.cut.now
    (grind (arith, common_steps))
