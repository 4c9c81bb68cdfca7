use Rattle.std.proofs.Common.{◌≡◌, ℕ, ◌+◌, ◌-◌, ◌<◌, ◌≤◌, List, [], ◌∷◌, length, get_or, sym, ap, subst, ◌∙◌, arith}
use Rattle.std.proofs.lemmas.List.{get_or_default}
use Rattle.edit_session.specs.Held.{AreHeldFrom}
use Rattle.edit_session.specs.MadeLaws.{AreChildrenHeld}
use Rattle.edit_session.specs.Loops.{cells_among}
use Rattle.edit_session.proofs.LoopLaws.{HasRemade, both_stay, remade_children, remade_others, remade_more, remade_within, remade_all, order_known}
use Rattle.edit_session.proofs.remaking.remake_touched.Goals as goal

pub renew-requires-clause-inside : goal.renew-requires-clause-inside
renew-requires-clause-inside g c =
    let order = c.as_slice-order.result.now in
    let is_order = c.as_slice-order.ensures ∙ c.preorder.ensures in
    let k : ℕ = c.loop-index.index - 1 in
    let test = c.loop-index-test.true in
    let auto = c.loop-index.auto.index in
    let inside : k < length order = omega (arith, test, auto) in
    let known = order_known c.args.problem.now c.args.tree.now.paths c.problem_is_whole.ensures c.requires.ground.tree_is.pseudotree c.args.touched.now order is_order c.args.kept.now.items c.args.steps.now k inside in
    let at : c.index-order-index.result ≡ get_or order k 0 = c.index-order-index.is ∙ get_or_default order k c.index-order-index.result 0 inside in
    omega (arith, known, at)

pub renew-requires-clause-children : goal.renew-requires-clause-children
renew-requires-clause-children g c =
    let p = c.args.problem.now in
    let paths = c.args.tree.now.paths in
    let order = c.as_slice-order.result.now in
    let is_order = c.as_slice-order.ensures ∙ c.preorder.ensures in
    let k : ℕ = c.loop-index.index - 1 in
    let test = c.loop-index-test.true in
    let auto = c.loop-index.auto.index in
    let inside : k < length order = omega (arith, test, auto) in
    let next : c.loop-index.index ≡ k + 1 = omega (arith, test, auto) in
    let at : c.index-order-index.result ≡ get_or order k 0 = c.index-order-index.is ∙ get_or_default order k c.index-order-index.result 0 inside in
    let is = subst (λ (j : ℕ). HasRemade p paths c.args.touched.now order c.args.kept.now.items c.loop-index.kept.items c.args.steps.now c.loop-index.steps j) next c.loop-index.invariant in
    subst (AreChildrenHeld p paths c.loop-index.kept.items) (sym at)
    (remade_children p paths c.problem_is_whole.ensures c.requires.ground.tree_is.pseudotree c.args.touched.now order is_order c.args.kept.now.items c.args.steps.now c.loop-index.kept.items c.loop-index.steps k is inside)

pub renew-requires-clause-others : goal.renew-requires-clause-others
renew-requires-clause-others g c =
    let order = c.as_slice-order.result.now in
    let is_order = c.as_slice-order.ensures ∙ c.preorder.ensures in
    remade_others c.args.problem.now c.args.tree.now.paths c.problem_is_whole.ensures c.requires.ground.tree_is.pseudotree c.args.touched.now order is_order c.args.kept.now.items c.args.steps.now c.loop-index.kept.items c.loop-index.steps c.loop-index.index c.loop-index.invariant c.requires.others

pub loop-index-preserved : goal.loop-index-preserved
loop-index-preserved g c =
    let p = c.args.problem.now in
    let paths = c.args.tree.now.paths in
    let order = c.as_slice-order.result.now in
    let is_order = c.as_slice-order.ensures ∙ c.preorder.ensures in
    let k : ℕ = c.loop-index.index - 1 in
    let test = c.loop-index-test.true in
    let auto = c.loop-index.auto.index in
    let inside : k < length order = omega (arith, test, auto) in
    let next : c.loop-index.index ≡ k + 1 = omega (arith, test, auto) in
    let at : c.index-order-index.result ≡ get_or order k 0 = c.index-order-index.is ∙ get_or_default order k c.index-order-index.result 0 inside in
    let is = subst (λ (j : ℕ). HasRemade p paths c.args.touched.now order c.args.kept.now.items c.loop-index.kept.items c.args.steps.now c.loop-index.steps j) next c.loop-index.invariant in
    remade_more p paths c.problem_is_whole.ensures c.requires.ground.tree_is.pseudotree c.args.touched.now order is_order c.args.kept.now.items c.args.steps.now c.loop-index.kept.items c.renew.new.kept.items c.loop-index.steps c.renew.new.steps k is inside c.in_ok-renew.ensures.stay
    (subst (AreHeldFrom p paths c.renew.new.kept.items) at c.in_ok-renew.ensures.held)
    (c.in_ok-renew.ensures.counted ∙ ap (λ (v : ℕ). c.loop-index.steps + cells_among p paths c.args.touched.now (v ∷ [])) at)

pub returns-in_err-renew-clause-stay : goal.returns-in_err-renew-clause-stay
returns-in_err-renew-clause-stay g c =
    both_stay c.args.problem.now c.args.tree.now.paths c.args.kept.now.items c.loop-index.kept.items c.renew.new.kept.items c.loop-index.invariant.stay c.renew.ensures.stay

pub returns-in_err-renew-clause-within : goal.returns-in_err-renew-clause-within
returns-in_err-renew-clause-within g c =
    let p = c.args.problem.now in
    let paths = c.args.tree.now.paths in
    let order = c.as_slice-order.result.now in
    let is_order = c.as_slice-order.ensures ∙ c.preorder.ensures in
    let k : ℕ = c.loop-index.index - 1 in
    let test = c.loop-index-test.true in
    let auto = c.loop-index.auto.index in
    let inside : k < length order = omega (arith, test, auto) in
    let next : c.loop-index.index ≡ k + 1 = omega (arith, test, auto) in
    let at : c.index-order-index.result ≡ get_or order k 0 = c.index-order-index.is ∙ get_or_default order k c.index-order-index.result 0 inside in
    let is = subst (λ (j : ℕ). HasRemade p paths c.args.touched.now order c.args.kept.now.items c.loop-index.kept.items c.args.steps.now c.loop-index.steps j) next c.loop-index.invariant in
    subst (λ (vs : List ℕ). c.renew.new.steps ≤ c.args.steps.now + cells_among p paths c.args.touched.now vs) is_order
    (remade_within p paths c.problem_is_whole.ensures c.requires.ground.tree_is.pseudotree c.args.touched.now order is_order c.args.kept.now.items c.args.steps.now c.loop-index.kept.items c.loop-index.steps c.renew.new.steps k is inside
    (subst (λ (v : ℕ). c.renew.new.steps ≤ c.loop-index.steps + cells_among p paths c.args.touched.now (v ∷ [])) at c.renew.ensures.within))

pub returns-clause-held : goal.returns-clause-held
returns-clause-held g c =
    let p = c.args.problem.now in
    let paths = c.args.tree.now.paths in
    let order = c.as_slice-order.result.now in
    let is_order = c.as_slice-order.ensures ∙ c.preorder.ensures in
    let test = c.loop-index-test.false in
    let zero_is : c.loop-index.index ≡ 0 = omega (arith, test) in
    remade_all p paths c.problem_is_whole.ensures c.requires.ground.tree_is.pseudotree c.args.touched.now order is_order c.args.kept.now.items c.args.steps.now c.loop-index.kept.items c.loop-index.steps
    (subst (λ (j : ℕ). HasRemade p paths c.args.touched.now order c.args.kept.now.items c.loop-index.kept.items c.args.steps.now c.loop-index.steps j) zero_is c.loop-index.invariant)
