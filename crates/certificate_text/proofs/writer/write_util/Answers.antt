use Rattle.std.proofs.Common.{arith, []}
use Rattle.std.proofs.lemmas.Grind.{common_steps}
use Rattle.std.proofs.lemmas.Option.{get_or_from_slice_get}
use Rattle.std.specs.String.{string_bytes}
use Rattle.certificate_text.proofs.ReportLaws.{util-written}
use Rattle.certificate_text.proofs.writer.write_util.Goals as goal

pub returns : goal.returns
returns c =
    let name = get_or_from_slice_get c.args.names.now c.args.util.now.var c.name-name.result.now [] c.name-name.ensures in
    util-written (string_bytes c.args.text.now) (string_bytes c.push_str-2.new.self) c.args.names.now c.args.util.now
    (grind (arith, common_steps, name))
