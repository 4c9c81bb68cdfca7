use Rattle.std.proofs.Common.{sym, subst}
use Rattle.dcop_base.specs.Whole.{IsProblem}
use Rattle.pseudotree.specs.Pseudotree.{IsLinked}
use Rattle.solve_cut.proofs.CutLaws.{given-by, sizes-few}
use Rattle.solve_cut.proofs.cutting.cut_on.Goals as goal

pub run_cut-requires-clause-tree : goal.run_cut-requires-clause-tree
run_cut-requires-clause-tree g c κs within =
    let p = c.args.problem.now in
    let whole : IsProblem p = c.problem_is_whole.ensures in record {
      pseudotree = c.requires.tree;
      linked = subst (IsLinked p) (sym c.requires.paths) (c.depth_first_trees_are_linked.ensures p whole).1;
    }

pub run_cut-requires-clause-limit : goal.run_cut-requires-clause-limit
run_cut-requires-clause-limit g c κs within = sizes-few c.args.problem.now c.args.limit c.problem_is_whole.ensures c.requires.least

pub returns : goal.returns
returns g c = given-by c.args.problem.now c.args.tree.now.paths c.args.limit c.args.keeps c.run_cut.result c.requires.paths c.run_cut.ensures.end c.run_cut.ensures.refused
