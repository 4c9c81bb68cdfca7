use Rattle.std.proofs.Common.{ℕ, List, Option, Some, set, sym, ap, subst}
use Rattle.dpop_agent.specs.declared.made.Made.{Made}
use Rattle.edit_session.specs.Held.{AreHeldFrom}
use Rattle.edit_session.proofs.LoopLaws.{one_stays}
use Rattle.edit_session.proofs.remaking.renew.Goals as goal

pub returns-in_ok-made-clause-held : goal.returns-in_ok-made-clause-held
returns-in_ok-made-clause-held g c =
    let p = c.args.problem.now in
    let paths = c.args.tree.now.paths in
    let kept = c.args.kept.now.items in
    let ground = c.requires.ground in
    let keeps = c.one_more_is_held.ensures p paths kept c.args.var c.in_ok-made.made ground.tree_is.pseudotree ground.counted c.requires.inside c.requires.children c.in_ok-made.ensures.made in
    subst (λ (ks : List (Option Made)). AreHeldFrom p paths ks c.args.var) (sym (ap (λ (j : ℕ). set kept j (Some c.in_ok-made.made)) c.var-then-touched-var.view_is)) keeps.here

pub returns-in_ok-made-clause-stay : goal.returns-in_ok-made-clause-stay
returns-in_ok-made-clause-stay g c =
    let p = c.args.problem.now in
    let paths = c.args.tree.now.paths in
    let kept = c.args.kept.now.items in
    let ground = c.requires.ground in
    let keeps = c.one_more_is_held.ensures p paths kept c.args.var c.in_ok-made.made ground.tree_is.pseudotree ground.counted c.requires.inside c.requires.children c.in_ok-made.ensures.made in
    one_stays p paths kept (set kept c.var-then-touched-var.inside.0 (Some c.in_ok-made.made)) c.args.var c.in_ok-made.made keeps (ap (λ (j : ℕ). set kept j (Some c.in_ok-made.made)) c.var-then-touched-var.view_is)
