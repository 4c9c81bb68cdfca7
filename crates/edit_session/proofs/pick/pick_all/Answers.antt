use Rattle.std.proofs.Common.{◌≡◌, ℕ, ◌<◌, List, [], length, get_or, replicate, set, ap, ap₂, subst, ◌∙◌, arith}
use Rattle.std.proofs.lemmas.List.{get_or_default}
use Rattle.dcop_base.specs.Problem.{Dcop}
use Rattle.edit_session.proofs.LoopLaws.{order_known, picked_start, picked_more, picked_all, within_count}
use Rattle.protocol_steps.specs.Dpop.{best_value}
use Rattle.edit_session.specs.Held.{agent_with}
use Rattle.edit_session.proofs.pick.pick_all.Goals as goal

pub loop-var-init : goal.loop-var-init
loop-var-init c =
    picked_start c.args.problem.now c.args.tree.now.paths c.problem_is_whole.ensures c.requires.ground.tree_is.pseudotree c.args.kept.now c.requires.held c.picks_read_separators.ensures c.as_slice-order.result.now (c.as_slice-order.ensures ∙ c.preorder.ensures) c.in_ok-values.values.items
    (c.in_ok-values.ensures.items_if_clones_equal (λ y h. h) ∙ ap (λ (ss : List ℕ). replicate (length ss) 0) (c.as_slice.ensures ∙ ap (λ (q : Dcop). q.sizes) c.problem.view_is))

pub picked-requires-clause-known : goal.picked-requires-clause-known
picked-requires-clause-known c =
    let order = c.as_slice-order.result.now in
    let k = c.loop-var.var-index in
    let known = order_known c.args.problem.now c.args.tree.now.paths c.problem_is_whole.ensures c.requires.ground.tree_is.pseudotree [] order (c.as_slice-order.ensures ∙ c.preorder.ensures) [] 0 k c.loop-var-test.true in
    let at : c.var-item.result ≡ get_or order k 0 = c.var-item.is ∙ get_or_default order k c.var-item.result 0 c.loop-var-test.true in
    omega (arith, known, at)

pub index_mut-requires : goal.index_mut-requires
index_mut-requires c =
    let order = c.as_slice-order.result.now in
    let k = c.loop-var.var-index in
    let known = order_known c.args.problem.now c.args.tree.now.paths c.problem_is_whole.ensures c.requires.ground.tree_is.pseudotree [] order (c.as_slice-order.ensures ∙ c.preorder.ensures) [] 0 k c.loop-var-test.true in
    let at : c.var-item.result ≡ get_or order k 0 = c.var-item.is ∙ get_or_default order k c.var-item.result 0 c.loop-var-test.true in
    let view = c.var.view_is in
    let count : length c.loop-var.values.items ≡ length c.args.problem.now.sizes = within_count c.args.problem.now.sizes c.loop-var.values.items c.loop-var.invariant.assignment in
    let len = c.as_slice-in-loop-var.ensures.len in
    let value = ap length c.as_slice-in-loop-var.ensures.value in
    omega (arith, known, at, view, count, len, value)

pub loop-var-preserved : goal.loop-var-preserved
loop-var-preserved c =
    let p = c.args.problem.now in
    let paths = c.args.tree.now.paths in
    let kept = c.args.kept.now in
    let order = c.as_slice-order.result.now in
    let k = c.loop-var.var-index in
    let values = c.loop-var.values.items in
    let known = order_known p paths c.problem_is_whole.ensures c.requires.ground.tree_is.pseudotree [] order (c.as_slice-order.ensures ∙ c.preorder.ensures) [] 0 k c.loop-var-test.true in
    let at : c.var-item.result ≡ get_or order k 0 = c.var-item.is ∙ get_or_default order k c.var-item.result 0 c.loop-var-test.true in
    let d = c.in_ok-values-2.field-0 in
    let seen : c.as_slice-in-loop-var.result.now ≡ values = c.as_slice-in-loop-var.ensures.value in
    let best = c.in_ok-values-2.ensures.best ∙ ap₂ (λ (v : ℕ) (xs : List ℕ). best_value (agent_with p paths kept v) (λ u. get_or xs u 0)) (c.var.view_is ∙ at) seen in
    let below = subst (λ (v : ℕ). d < get_or p.sizes v 0) (c.var.view_is ∙ at) c.in_ok-values-2.ensures.below in
    picked_more p paths c.problem_is_whole.ensures c.requires.ground.tree_is.pseudotree kept c.requires.held c.picks_read_separators.ensures order (c.as_slice-order.ensures ∙ c.preorder.ensures) values (set values c.var.inside.0 d) k d c.loop-var.invariant c.loop-var-test.true known
    best below (ap (λ (v : ℕ). set values v d) (c.var.view_is ∙ at))

pub returns : goal.returns
returns c =
    let p = c.args.problem.now in
    let paths = c.args.tree.now.paths in
    let kept = c.args.kept.now in
    let order = c.as_slice-order.result.now in
    let values = c.loop-var.values.items in
    let problem = c.problem_is_whole.ensures in
    let pseudo = c.requires.ground.tree_is.pseudotree in
    let test = c.loop-var-test.false in
    c.lowest_picks_are_first.ensures p paths kept values problem pseudo c.requires.held (within_count p.sizes values c.loop-var.invariant.assignment)
    (picked_all p paths problem pseudo kept c.requires.held c.picks_read_separators.ensures order (c.as_slice-order.ensures ∙ c.preorder.ensures) values c.loop-var.var-index (omega (arith, test)) c.loop-var.invariant)
