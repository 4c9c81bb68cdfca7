use Rattle.std.proofs.Common.{ℕ, ◌<◌, length, get_or, sym, subst}
use Rattle.pseudotree.specs.Owner.{deepest}
use Rattle.edit_session.proofs.MarkLaws.{deepest_next, deeper_known}
use Rattle.edit_session.proofs.mark.owner_of.Goals as goal

pub deeper-owner-requires-clause-other : goal.deeper-owner-requires-clause-other
deeper-owner-requires-clause-other c =
    subst (λ (x : ℕ). x < length c.args.tree.now.paths) (sym c.var-item.is) (c.requires.known c.loop-var.var-index c.var-item.result c.loop-var-test.true)

pub loop-var-preserved : goal.loop-var-preserved
loop-var-preserved c =
    let paths = c.args.tree.now.paths in
    let here = subst (λ (x : ℕ). x < length paths) (sym c.var-item.is) (c.requires.known c.loop-var.var-index c.var-item.result c.loop-var-test.true) in (
      deeper_known paths (length paths) c.loop-var.owner c.var-item.result c.deeper-owner.result c.loop-var.invariant.0 here c.deeper-owner.ensures,
      deepest_next paths c.args.scope.now c.loop-var.var-index c.loop-var.owner c.var-item.result c.deeper-owner.result (deepest paths (get_or c.args.scope.now 0 0) c.args.scope.now) c.loop-var-test.true c.var-item.is c.deeper-owner.ensures c.loop-var.invariant.1,
    )
