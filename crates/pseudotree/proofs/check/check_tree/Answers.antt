use Rattle.std.proofs.Common.{◌≡◌, ◌∙◌, sym, ap}
use Rattle.pseudotree.specs.Fault.{parents_of, IsFirstFault}
use Rattle.pseudotree.specs.Climb.{IsSplitFault}
use Rattle.pseudotree.proofs.CheckLaws.{known_from, tree_from, short_from, parents_are, split_fault, err_then}
use Rattle.std.proofs.lemmas.Result.{IfOk-weaker}
use Rattle.pseudotree.proofs.check.check_tree.Goals as goal

pub tree_of-requires-clause-tree : goal.tree_of-requires-clause-tree
tree_of-requires-clause-tree c =
    tree_from c.args.parents.now (known_from c.args.problem.now c.args.parents.now c.requires) c.in_ok-paths.paths.items c.in_ok-paths.ensures.paths
    (sym c.root_count-count.ensures ∙ c.if-count-ne1.false)

pub tree_of-requires-clause-short : goal.tree_of-requires-clause-short
tree_of-requires-clause-short c =
    short_from c.args.parents.now (known_from c.args.problem.now c.args.parents.now c.requires) c.in_ok-paths.paths.items c.in_ok-paths.ensures.paths

pub returns-clause-parents : goal.returns-clause-parents
returns-clause-parents c =
    IfOk-weaker c.tree_of.result (λ tree. tree.paths ≡ c.in_ok-paths.paths.items) (λ tree. c.args.parents.now ≡ parents_of tree.paths)
    (λ tree same.
    parents_are c.args.parents.now (known_from c.args.problem.now c.args.parents.now c.requires) c.in_ok-paths.paths.items c.in_ok-paths.ensures.paths
    ∙ ap parents_of (sym same))
    c.tree_of.ensures.paths

pub returns-clause-fault : goal.returns-clause-fault
returns-clause-fault c =
    err_then c.tree_of.result (IsSplitFault c.args.problem.now c.in_ok-paths.paths.items) (IsFirstFault c.args.problem.now c.args.parents.now) c.tree_of.ensures.fault
    (split_fault c.args.problem.now c.args.parents.now c.in_ok-paths.paths.items (tree_from c.args.parents.now (known_from c.args.problem.now c.args.parents.now c.requires) c.in_ok-paths.paths.items c.in_ok-paths.ensures.paths
    (sym c.root_count-count.ensures ∙ c.if-count-ne1.false))
    (parents_are c.args.parents.now (known_from c.args.problem.now c.args.parents.now c.requires) c.in_ok-paths.paths.items c.in_ok-paths.ensures.paths))
