use Rattle.std.proofs.Common.{◌≡◌, ◌<◌, length, sym, ◌∙◌, arith}
use Rattle.certificate_check.specs.Differences.{cells_difference}
use Rattle.certificate_check.proofs.FirstLaws.{found_given, none_given, none_all}
use Rattle.certificate_check.proofs.cells.cells_difference.Goals as goal

pub returns-then-is_some : goal.returns-then-is_some
returns-then-is_some c =
    let lt : c.loop-index.index < length c.args.problem.now.sizes = omega (arith, c.variable_count-index-end.ensures.count) in
    found_given (cells_difference c.args.problem.now c.args.tree.now.paths c.args.utils.now) c.loop-index.index (length c.args.problem.now.sizes) c.in_ok-differs.differs
    c.loop-index.invariant lt c.in_ok-differs.ensures (sym c.is_some.ensures ∙ c.if-is_some.true)

pub loop-index-preserved : goal.loop-index-preserved
loop-index-preserved c =
    none_given (cells_difference c.args.problem.now c.args.tree.now.paths c.args.utils.now) c.loop-index.index c.in_ok-differs.differs
    c.loop-index.invariant c.in_ok-differs.ensures (sym c.is_some.ensures ∙ c.if-is_some.false)

pub returns : goal.returns
returns c =
    let same : c.loop-index.index ≡ length c.args.problem.now.sizes = omega (arith, c.variable_count-index-end.ensures.count) in
    none_all (cells_difference c.args.problem.now c.args.tree.now.paths c.args.utils.now) c.loop-index.index (length c.args.problem.now.sizes) c.loop-index.invariant same
