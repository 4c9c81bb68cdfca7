use Rattle.std.proofs.Common.{ap}
use Rattle.problem_text.specs.File.{TextFile, IsFile}
use Rattle.solve_methods.proofs.TreeLaws.{found-answers, found-named}
use Rattle.solve_methods.proofs.tree.tree_answer.Goals as goal

pub returns-clause-belongs : goal.returns-clause-belongs
returns-clause-belongs c =
    found-answers c.args.file c.args.found c.in_ok-nodes.nodes c.requires c.in_ok-nodes.ensures c.file.inside.names (ap (λ (f : TextFile). f.names) c.file.view_is)

pub returns-clause-told : goal.returns-clause-told
returns-clause-told c =
    let whole : IsFile c.args.file = rw (← c.file.view_is) c.file.invariant in
    found-named c.args.file c.args.found c.in_ok-nodes.nodes c.requires c.in_ok-nodes.ensures whole c.file.inside.names (ap (λ (f : TextFile). f.names) c.file.view_is)
