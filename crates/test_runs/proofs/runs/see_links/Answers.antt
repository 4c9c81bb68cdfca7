use Rattle.std.proofs.Common.{ℕ, length, List, ap, arith}
use Rattle.dcop_base.specs.Problem.{Dcop}
use Rattle.pseudotree.proofs.CheckLaws.{within_tree}
use Rattle.test_runs.proofs.runs.see_links.Goals as goal

pub returns : goal.returns
returns g c v u is =
    let below = within_tree c.args.tree.now.paths v u is in
    let sized = c.requires.pseudotree.sized in
    let whole = ap (λ (xs : List ℕ). length xs) c.as_slice-index-end.ensures in
    let seen = ap (λ (p : Dcop). length p.sizes) c.problem.view_is in
    let done = c.loop-index-test.false in
    c.loop-index.invariant v u (omega (arith, below, sized, whole, seen, done)) is
