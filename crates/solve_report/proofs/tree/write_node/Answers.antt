use Rattle.std.proofs.Common.{arith, []}
use Rattle.std.proofs.lemmas.Grind.{common_steps}
use Rattle.std.proofs.lemmas.Option.{get_or_from_slice_get}
use Rattle.std.specs.String.{string_bytes}
use Rattle.solve_report.proofs.TreeLaws.{node-written}
use Rattle.solve_report.proofs.tree.write_node.Goals as goal

pub returns : goal.returns
returns c =
    let name = get_or_from_slice_get c.args.names.now c.args.node.now.var c.name-name.result.now [] c.name-name.ensures in
    node-written (string_bytes c.args.text.now) (string_bytes c.push_str.new.self) c.args.names.now c.args.node.now
    (grind (arith, common_steps, name))
