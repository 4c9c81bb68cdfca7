use Rattle.std.proofs.Common.{arith}
use Rattle.std.proofs.lemmas.Grind.{common_steps}
use Rattle.std.specs.String.{string_bytes}
use Rattle.problem_text.proofs.LineLaws.{table-written}
use Rattle.problem_text.proofs.canonical.write_table.Goals as goal

pub returns : goal.returns
returns c =
    table-written (string_bytes c.args.text.now) (string_bytes c.push_str-3.new.self) c.args.names.now c.args.table.now
    (rw (← c.table.view_is) (grind (arith, common_steps)))
