use Rattle.std.proofs.Common.{ℕ, ◌<◌, List, None, map, length, get_or, sym, ap, subst, ◌∙◌, arith, All}
use Rattle.std.proofs.lemmas.List.{get_or_default}
use Rattle.dcop_base.specs.Table.{CostTable}
use Rattle.pseudotree.specs.Pseudotree.{separator_at}
use Rattle.pseudotree.proofs.PlaceLaws.{separator_below}
use Rattle.dpop_agent.specs.Joint.{IsJoint}
use Rattle.edit_session.specs.Held.{agent_with}
use Rattle.edit_session.proofs.LoopLaws.{within_count}
use Rattle.edit_session.proofs.PickLaws.{is_pick, kept_is_held, none_kept}
use Rattle.edit_session.proofs.pick.picked.Goals as goal

pub unreachable-requires : goal.unreachable-requires
unreachable-requires c =
    let kept = c.args.kept.now in
    let e = c.index-kept-var.result in
    let counted = c.requires.ground.counted in
    let known = c.requires.known in
    let at = get_or_default kept c.args.var None e (omega (arith, counted, known)) ∙ ap (λ (u : ℕ). get_or kept u e) (sym c.var.view_is) ∙ sym c.index-kept-var.is ∙ c.in_default.is in
    none_kept c.args.problem.now c.args.tree.now.paths kept c.args.var c.requires.held known at

pub values_of-requires : goal.values_of-requires
values_of-requires c =
    let p = c.args.problem.now in
    let tree = c.args.tree.now in
    let count = c.requires.ground.tree_is.pseudotree.sized in
    let known = c.requires.known in
    let inside : c.args.var < length tree.paths = omega (arith, count, known) in
    subst (λ (vs : List ℕ). All (λ v. v < length c.args.values.now) vs) (sym (c.as_slice.ensures ∙ c.separator.ensures))
    (subst (λ (n : ℕ). All (λ v. v < n) (separator_at tree c.args.var)) (count ∙ sym (within_count p.sizes c.args.values.now c.requires.assignment)) (separator_below p tree c.requires.ground.tree_is c.args.var inside))

pub pick-requires-clause-stands : goal.pick-requires-clause-stands
pick-requires-clause-stands c =
    let p = c.args.problem.now in
    let kept = c.args.kept.now in
    let e = c.index-kept-var.result in
    let counted = c.requires.ground.counted in
    let known = c.requires.known in
    let at = get_or_default kept c.args.var None e (omega (arith, counted, known)) ∙ ap (λ (u : ℕ). get_or kept u e) (sym c.var.view_is) ∙ sym c.index-kept-var.is ∙ c.in-Some.is in
    let joint = kept_is_held p c.args.tree.now.paths kept c.args.var c.in-Some.made c.requires.held known counted at in
    let others = c.as_slice-2.ensures.value ∙ c.in_ok-others.ensures ∙ ap (λ (vs : List ℕ). map (λ (v : ℕ). get_or c.args.values.now v 0) vs) (c.as_slice.ensures ∙ c.separator.ensures) in
    (is_pick p c.args.tree.now kept c.args.var c.joined.result.now c.args.values.now c.as_slice-2.result.now c.problem_is_whole.ensures c.requires.ground c.children_may_be_joined.ensures c.picks_read_separators.ensures c.requires.held known c.requires.assignment
    (subst (λ (t : CostTable). IsJoint (agent_with p c.args.tree.now.paths kept c.args.var) t) (sym c.joined.ensures) joint) others).names

pub pick-requires-clause-within : goal.pick-requires-clause-within
pick-requires-clause-within c =
    let p = c.args.problem.now in
    let kept = c.args.kept.now in
    let e = c.index-kept-var.result in
    let counted = c.requires.ground.counted in
    let known = c.requires.known in
    let at = get_or_default kept c.args.var None e (omega (arith, counted, known)) ∙ ap (λ (u : ℕ). get_or kept u e) (sym c.var.view_is) ∙ sym c.index-kept-var.is ∙ c.in-Some.is in
    let joint = kept_is_held p c.args.tree.now.paths kept c.args.var c.in-Some.made c.requires.held known counted at in
    let others = c.as_slice-2.ensures.value ∙ c.in_ok-others.ensures ∙ ap (λ (vs : List ℕ). map (λ (v : ℕ). get_or c.args.values.now v 0) vs) (c.as_slice.ensures ∙ c.separator.ensures) in
    (is_pick p c.args.tree.now kept c.args.var c.joined.result.now c.args.values.now c.as_slice-2.result.now c.problem_is_whole.ensures c.requires.ground c.children_may_be_joined.ensures c.picks_read_separators.ensures c.requires.held known c.requires.assignment
    (subst (λ (t : CostTable). IsJoint (agent_with p c.args.tree.now.paths kept c.args.var) t) (sym c.joined.ensures) joint) others).within

pub returns-clause-best : goal.returns-clause-best
returns-clause-best c =
    let p = c.args.problem.now in
    let kept = c.args.kept.now in
    let e = c.index-kept-var.result in
    let counted = c.requires.ground.counted in
    let known = c.requires.known in
    let at = get_or_default kept c.args.var None e (omega (arith, counted, known)) ∙ ap (λ (u : ℕ). get_or kept u e) (sym c.var.view_is) ∙ sym c.index-kept-var.is ∙ c.in-Some.is in
    let joint = kept_is_held p c.args.tree.now.paths kept c.args.var c.in-Some.made c.requires.held known counted at in
    let others = c.as_slice-2.ensures.value ∙ c.in_ok-others.ensures ∙ ap (λ (vs : List ℕ). map (λ (v : ℕ). get_or c.args.values.now v 0) vs) (c.as_slice.ensures ∙ c.separator.ensures) in
    (is_pick p c.args.tree.now kept c.args.var c.joined.result.now c.args.values.now c.as_slice-2.result.now c.problem_is_whole.ensures c.requires.ground c.children_may_be_joined.ensures c.picks_read_separators.ensures c.requires.held known c.requires.assignment
    (subst (λ (t : CostTable). IsJoint (agent_with p c.args.tree.now.paths kept c.args.var) t) (sym c.joined.ensures) joint) others).best c.pick.result c.pick.ensures

pub returns-clause-below : goal.returns-clause-below
returns-clause-below c =
    let p = c.args.problem.now in
    let kept = c.args.kept.now in
    let e = c.index-kept-var.result in
    let counted = c.requires.ground.counted in
    let known = c.requires.known in
    let at = get_or_default kept c.args.var None e (omega (arith, counted, known)) ∙ ap (λ (u : ℕ). get_or kept u e) (sym c.var.view_is) ∙ sym c.index-kept-var.is ∙ c.in-Some.is in
    let joint = kept_is_held p c.args.tree.now.paths kept c.args.var c.in-Some.made c.requires.held known counted at in
    let others = c.as_slice-2.ensures.value ∙ c.in_ok-others.ensures ∙ ap (λ (vs : List ℕ). map (λ (v : ℕ). get_or c.args.values.now v 0) vs) (c.as_slice.ensures ∙ c.separator.ensures) in
    (is_pick p c.args.tree.now kept c.args.var c.joined.result.now c.args.values.now c.as_slice-2.result.now c.problem_is_whole.ensures c.requires.ground c.children_may_be_joined.ensures c.picks_read_separators.ensures c.requires.held known c.requires.assignment
    (subst (λ (t : CostTable). IsJoint (agent_with p c.args.tree.now.paths kept c.args.var) t) (sym c.joined.ensures) joint) others).below c.pick.result c.pick.ensures
